-- A new region: its records are cleared and its lists are empty.
use Prim.Native.Nat.{ℕ, zero, suc, ◌+◌, ◌-◌, ◌/◌, ◌≤◌, ◌<◌, ◌^◌}
use mathlib.Core.List.{[]}
use mathlib.Core.Path.{◌≡◌, refl, ◌∙◌}
use native.Mathlib.Omega.{arith}
use lib.ListN.{get_or, replicate}
use Rattle.address.specs.declared.PhysAddr.{PhysAddr}
use Rattle.definition.specs.declared.Record.{Record}
use Rattle.definition.specs.declared.Row.{Row}
use Rattle.definition.specs.Board.{Board}
use Rattle.definition.specs.Allocator.{table_pages}
use Rattle.definition.specs.Frame.{Levels}
use Rattle.definition.specs.World.{no_links, walk, pages_of, frame_of}
use Rattle.record.specs.Records.{cleared}
use Rattle.record.proofs.Records.{cleared_in, cleared_out}
use Rattle.list.specs.Linked.All.{all_none}
use Rattle.list.proofs.Laws.{linked_empty}
use Rattle.region.specs.Rep.{managed, from_of, state_of, SoundRow, Becomes, Blank, empty_row}

-- the managed pages, and the page frame number of the first, as the code computes them of the tables t
module _ (board : Board) {t : ℕ} (start : PhysAddr) (pages : ℕ) (e : t ≡ table_pages board pages) where
  pub count_is : pages - t ≡ managed board pages
  unfolding managed
  count_is = rw e refl

  pub begins_at : (s : ℕ) → s ≡ start.0 / board.page → s + t ≡ from_of board (empty_row start pages)
  unfolding from_of
  begins_at s h = rw (e, h) refl

  pub ends_low : (s : ℕ) → s < 2 ^ 52 → pages ≤ 2 ^ 32 → table_pages board pages ≤ pages → s + t + (pages - t) < 2 ^ 64
  ends_low s h k l = omega (arith, e)

no_list : (k : ℕ) → get_or (replicate 6 no_links) k no_links ≡ no_links
no_list zero = refl
no_list (suc zero) = refl
no_list (suc (suc zero)) = refl
no_list (suc (suc (suc zero))) = refl
no_list (suc (suc (suc (suc zero)))) = refl
no_list (suc (suc (suc (suc (suc zero))))) = refl
no_list (suc (suc (suc (suc (suc (suc k)))))) = refl

module _
    (board : Board) (f : ℕ → Record) (n first : ℕ) (start : PhysAddr) (pages : ℕ) (small : first + managed board pages < 2 ^ 32)
    (fits : first + managed board pages ≤ n)
  where
    abbrev g : ℕ → Record
    g = cleared f first (managed board pages)

    abbrev row : Row
    row = empty_row start pages

    none_free : (k : ℕ) → (state_of g row).free k ≡ []
    unfolding state_of pages_of walk
    none_free k = rw (no_list k) refl

    pub blank : Blank board (state_of g row) first pages
    unfolding state_of frame_of
    blank q i = rw (cleared_in f first (managed board pages) q i.low i.high) refl

    pub blank_sound : SoundRow board g n first row
    unfolding state_of frame_of
    blank_sound =
        record {
          small = small;
          fits = fits;
          six = refl;
          lists = λ k h. rw (none_free k, no_list k) (linked_empty g n);
          beyond = λ k h. none_free k;
          listed = λ k. rw (none_free k) all_none;
          framed = λ q. refl;
          marks = λ q i. rw (cleared_in f first (managed board pages) q i.low i.high) refl;
          level = λ q i. rw (cleared_in f first (managed board pages) q i.low i.high) refl;
          loose = λ q i o. rw (cleared_in f first (managed board pages) q i.low i.high) (record { earlier = refl; later = refl });
        }

    pub begun : {h : ℕ → Record} {m : ℕ} {r : Row} {s : Levels} → Becomes board g first row h m r s → Becomes board f first row h m r s
    begun B =
        record {
          rep = B.rep;
          start = B.start;
          pages = B.pages;
          outside = λ q o. B.outside q o ∙ cleared_out f first (managed board pages) q (λ a b. o (record { low = a; high = b }));
        }
