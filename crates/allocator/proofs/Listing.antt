-- A row's lists are those of the region that it stands for, by other numbers: a list's count is 0 exactly where the region's list is empty. So a row lists a frame
-- of a level or above exactly if its region does.
use Prim.Native.Nat.{ℕ, zero, suc, ◌+◌, ◌-◌, ◌*◌, ◌<◌}
use mathlib.Core.Bool.{Bool, not, false, ◌||◌}
use mathlib.Core.List.{List, [], ◌∷◌, map}
use mathlib.Core.Path.{◌≡◌, refl, sym, ap, ◌∙◌}
use native.Mathlib.Omega.{arith}
use borrow.Author.Tests.{eq-eqb, ne_eqb}
use lib.Dec.{eqb}
use lib.ListN.{get_or, length}
use Rattle.definition.specs.Board.{Board}
use Rattle.definition.specs.declared.Record.{Record}
use Rattle.definition.specs.declared.Links.{Links}
use Rattle.definition.specs.declared.Row.{Row}
use Rattle.definition.specs.Basics.{any, range, everywhere}
use Rattle.definition.specs.Frame.{Frames, levels, slot}
use Rattle.definition.specs.Allocator.{AllocationRegion}
use Rattle.definition.specs.World.{no_links}
use Rattle.region.specs.Rep.{from_of, state_of}
use Rattle.world.specs.Stands.{StandsRow, shift}
use Rattle.allocator.specs.Spots.{lists_some}

-- the list k holds a frame: of a row's lists, and of a region
abbrev pub counted_at : List Links → ℕ → Bool
counted_at lists k = not (eqb (get_or lists k no_links).count 0)

abbrev filled_at : AllocationRegion → ℕ → Bool
filled_at r k = any everywhere (r.free k)

-- the region lists a frame of the level or above
abbrev pub lists_in : ℕ → AllocationRegion → Bool
lists_in level r = any (filled_at r) (range (slot level false) (slot levels false - slot level false))

any_same : {s t : ℕ → Bool} (a n : ℕ) → ((k : ℕ) → k < a + n → s k ≡ t k) → any s (range a n) ≡ any t (range a n)
unfolding any range
any_same a zero h = refl
any_same {s} {t} a (suc n) h =
    ap (λ (b : Bool). b || any s (range (a + 1) n)) (h a (omega arith))
    ∙ ap (λ (b : Bool). t a || b) (any_same (a + 1) n (λ k m. h k (omega arith)))

empty_map : (g : ℕ → ℕ) (xs : List ℕ) → any everywhere (map g xs) ≡ not (eqb (length xs) 0)
unfolding any
empty_map g [] = sym (ap not (eq-eqb 0 0 refl))
empty_map g (x ∷ xs) = sym (ap not (ne_eqb (length (x ∷ xs)) 0 (λ e. omega arith)))

module _ {board : Board} where
  module _ {f : ℕ → Record} {n base : ℕ} {row : Row} {fs : Frames} {r : AllocationRegion} (S : StandsRow board f n base row fs r) where
    filled_counted : (k : ℕ) → k < 6 → filled_at r k ≡ counted_at row.lists k
    filled_counted k h =
        ap
        (any everywhere) (S.same.free k)
        ∙ empty_map (shift (from_of board row) base) ((state_of f row).free k)
        ∙ ap (λ (m : ℕ). not (eqb m 0)) (sym (S.sound.lists k h).counted)

    pub lists_same : (level : ℕ) → level < 3 → lists_in level r ≡ lists_some row level
    lists_same level h = any_same (level * 2) (6 - level * 2) (λ k m. filled_counted k (omega arith))
