-- A frame that was found is held.
use Prim.Native.Nat.{ℕ, ◌+◌, ◌-◌, ◌*◌, ◌<◌}
use mathlib.Core.Bool.{Bool, true, false}
use mathlib.Core.Option.{none, some}
use Rattle.std.specs.Prelude.{Some, None}
use mathlib.Core.Path.{◌≡◌, refl, sym, ap, ◌∙◌}
use native.Mathlib.Omega.{arith}
use Rattle.definition.specs.Board.{Board}
use Rattle.definition.specs.Basics.{everywhere, bit}
use Rattle.definition.specs.Frame.{Found, Levels, allocate, changed, do_allocate, set_allocated, with_allocated}
use Rattle.definition.specs.World.{allocated_in, level_of, marks_of}
use Rattle.definition.specs.declared.Record.{Record}
use Rattle.definition.specs.declared.Row.{Row}
use Rattle.record.specs.Records.{with_marks}
use Rattle.record.proofs.Decoding.{marks_with_lem}
use Rattle.region.specs.Rep.{Answers, Inside, Rep, Search, Whole, from_of, hold_at}
use Rattle.region.proofs.Laws.{then, page_in_lem, none_in, marked_as}
use Rattle.region.proofs.Tiling.{Ready, rep_kept, fine_do}

pub granted_none : (a : Found) → a.page ≡ none → set_allocated a ≡ a
granted_none a e = rw e refl

pub granted_page : (a : Found) (p : ℕ) → a.page ≡ some p → set_allocated a ≡ record { levels = hold_at a.levels p; page = some p }
granted_page a p e = rw e refl

module _ (board : Board) where
  -- what it takes to hold the page that a search found, and what then is answered
  pub record Grants (f : ℕ → Record) (first : ℕ) (row : Row) (g : ℕ → Record) (m : ℕ) (r : Search) (p : ℕ) (a : Found) : Type 0 where
    pub inside : p < m
    pub free : allocated_in (g p).marks ≡ false
    pub answers : Answers board f first row (with_marks g p ((g p).marks + 2)) m r a

module _ {board : Board} where
  module _
      {f g : ℕ → Record} {n m first : ℕ} {row : Row} {r : Search} {s : Levels} {l : ℕ} (t o : Bool) (R : Rep board f n first row s) (T : Whole board s none (from_of board row) first row.pages)
      (h : l < 3) (A : Answers board f first row g m r (do_allocate everywhere (3 - l) l s t o))
    where
      abbrev a : Found
      a = do_allocate everywhere (3 - l) l s t o

      pub not_granted : r.page ≡ None → Answers board f first row g m r (allocate everywhere l s t o)
      unfolding allocate
      not_granted e = rw (granted_none a (sym A.found ∙ none_in r e)) A

      module _ {p : ℕ} (e : r.page ≡ Some p) where
        paged : a.page ≡ some p
        paged = sym A.found ∙ page_in_lem r e

        y : Ready board a.levels first row.pages l p false
        y = (fine_do (3 - l) l t o (record { kept = rep_kept R; whole = T }) (omega arith)).ready p paged

        inside : Inside board first r.row.pages p
        inside = rw A.became.pages y.inside

        marks : (g p).marks ≡ 1 + 2 * 0 + 4 * bit y.frame.zeroed + 8 * bit y.frame.kernel
        marks = A.became.rep.marks p inside ∙ ap marks_of y.here ∙ rw y.held_so refl

        answered : Answers board f first row (with_marks g p ((g p).marks + 2)) m r (allocate everywhere l s t o)
        unfolding allocate
        answered =
            rw (granted_page a p paged)
            (record {
              became =
                  then A.became
                  (rw y.here
                  (marked_as (changed (with_allocated true) (some y.frame)) A.became.rep inside y.out (omega (arith, marks))
                  (A.became.rep.level p inside ∙ ap level_of y.here)
                  (let z = A.became.rep.loose p inside y.out in record { earlier = z.earlier; later = z.later })));
              found = page_in_lem r e;
            })

        pub grants : Grants board f first row g m r p (allocate everywhere l s t o)
        grants =
            record {
              inside = omega (arith, inside.high, A.became.rep.fits);
              free = rw marks (marks_with_lem false y.frame.zeroed y.frame.kernel).1;
              answers = answered;
            }
