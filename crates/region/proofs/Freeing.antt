-- A held frame goes back on its list.
use Prim.Native.Nat.{ℕ, ◌+◌, ◌/◌, ◌%◌, ◌<◌, ◌^◌}
use mathlib.Core.Bool.{Bool, true, false}
use mathlib.Core.List.{[], ◌∷◌}
use mathlib.Core.Option.{Option, none, some}
use mathlib.Core.Path.{◌≡◌, refl, sym, ap, ◌∙◌}
use native.Mathlib.Decide.{dec_lt}
use native.Mathlib.Omega.{arith}
use lib.Dec.{eqb}
use Rattle.definition.specs.Board.{Board}
use Rattle.definition.specs.Basics.{upd}
use Rattle.definition.specs.Frame.{Frame, Levels, free, freed, is_allocated, is_zeroed, slot}
use Rattle.definition.specs.World.{level_of, marks_of, pages_of, slot_of}
use Rattle.definition.specs.declared.Links.{Links}
use Rattle.definition.specs.declared.Record.{Record}
use Rattle.definition.specs.declared.Row.{Row}
use Rattle.list.proofs.Laws.{all_map}
use Rattle.list.specs.Linked.{Out, Pushed, Sound}
use Rattle.list.specs.Linked.All.{all_none}
use Rattle.words.specs.Words.{list_in, with_list}
use Rattle.region.specs.Rep.{Becomes, Held, Rep, SoundRow, Whole, WholeRow, free_record, list_up, state_of}
use Rattle.region.proofs.Laws.{taken_out, out_asks, out_next}
use Rattle.region.proofs.Splitting.{zeroed_mark}

abbrev is_kernel : Option Frame → Bool
is_kernel none = false
is_kernel (some a) = a.kernel

kernel_of : (x : Option Frame) → eqb (marks_of x / 8 % 2) 1 ≡ is_kernel x
kernel_of none = refl
kernel_of (some a) = bits a.allocated a.zeroed a.kernel
  where
    bits : (x y z : Bool) → eqb (marks_of (some (record { level = 0; allocated = x; zeroed = y; kernel = z })) / 8 % 2) 1 ≡ z
    bits true true true = refl
    bits true true false = refl
    bits true false true = refl
    bits true false false = refl
    bits false true true = refl
    bits false true false = refl
    bits false false true = refl
    bits false false false = refl

held_slot : (x : Option Frame) → is_allocated x ≡ true → slot_of x ≡ 6
held_slot none h = refl
held_slot (some a) h = rw h refl

held_free : (s : Levels) (p : ℕ) (x : Option Frame) → is_allocated x ≡ true → list_up s p (level_of x) (is_zeroed x) (is_kernel x) ≡ freed s p x
held_free s p none h = let z : ◌≡◌ {A = ℕ} 0 1 = cc in absurd (omega arith)
held_free s p (some a) h = refl

module _ {board : Board} where
  module _ {f : ℕ → Record} {n first : ℕ} {row : Row} {s : Levels} {p : ℕ} (R : Rep board f n first row s) (H : Held board s first row.pages p) where
    pub held_page : p < n
    held_page = omega (arith, H.inside.high, R.fits)

    pub held_out : (k : ℕ) → Out p (s.free k)
    held_out k = go (dec_lt k 6)
      where
        go : Dec (k < 6) → Out p (s.free k)
        go (yes d) = all_map (λ q a e. absurd (omega (arith, sym a.slotted ∙ ap (λ (x : ℕ). slot_of (s.frames x)) (sym e) ∙ held_slot (s.frames p) H.held))) (R.listed k)
        go (no d) = rw (R.beyond k (omega arith)) all_none

    pub held_level : {loose : Option ℕ} {from : ℕ} → Whole board s loose from first row.pages → (f p).level < 3
    held_level {loose} {from} Wh = rw (R.level p H.inside) (go (s.frames p) refl)
      where
        go : (x : Option Frame) → s.frames p ≡ x → level_of x < 3
        go none e = omega arith
        go (some a) e = (Wh.tile p a H.inside e).level

    pub free_is : list_up s p (f p).level (eqb ((f p).marks / 4 % 2) 1) (eqb ((f p).marks / 8 % 2) 1) ≡ free s p
    unfolding free
    free_is = rw (zeroed_mark p H.inside R, R.marks p H.inside, kernel_of (s.frames p), R.level p H.inside) (held_free s p (s.frames p) H.held)

-- ---- the list j, the one of the frame's record v, is out of the row, and the frame is admitted to it

module _ {board : Board} where
  module _
      {f : ℕ → Record} {n first : ℕ} {row : Row} {p j : ℕ} {v : Record} {z k : Bool} {old : Links}
      (R : SoundRow board f n first row) (Wh : WholeRow board f first row) (H : Held board (state_of f row) first row.pages p)
      (e : v ≡ f p) (zeroed : z ≡ eqb (v.marks / 4 % 2) 1) (kernel : k ≡ eqb (v.marks / 8 % 2) 1)
      (number : (j ≡ slot v.level z) × (j < 6)) (taken : old ≡ list_in row j)
    where
      a_list : slot v.level z < 6
      a_list = rw number.0 at number.1

      out : Becomes board f first row f n (with_list row (slot v.level z) old) (state_of f row)
      out = rw (taken, number.0) (taken_out (slot v.level z) R)

      pub free_asks : Sound f n old × (((v.level < 3) × (p < n)) × (Out p (pages_of f old) × ((p + 1 < 2 ^ 32) × (old.count + 1 < 2 ^ 32))))
      free_asks = out_asks v.level z k out a_list H.inside (held_out R H) (rw e (held_level R H Wh))

      pub free_next_lem
          : {g : ℕ → Record} {r : Links} {t : Row} → Pushed (upd f p (free_record v.level z k)) old (p ∷ []) g n r → t ≡ with_list row j r
          → Becomes board f first row g n t (free (state_of f row) p)
      free_next_lem T put =
          let same : list_up (state_of f row) p v.level z k ≡ free (state_of f row) p = rw (zeroed, kernel, e) (free_is R H) in
          rw (put, number.0, ← same) (out_next v.level z k out a_list H.inside (held_out R H) T)
