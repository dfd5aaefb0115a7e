-- Fuel that `organize` does not need: once no page is left its steps change nothing. A region's fuel is its managed pages, and to compute
-- `organize` is to go through all of it, though large frames lay a large region out in few steps. `spare_fuel`: those steps are enough.
use Prim.Native.Nat.{ℕ, zero, suc, ◌+◌, ◌-◌}
use mathlib.Core.Bool.{false, cond}
use mathlib.Core.Path.{◌≡◌, refl, ap}
use lib.Dec.{eqb}
use Rattle.definition.specs.Frame.{Levels, levels, size, highest, admit_one, organize}

-- so many more
unfoldable pub more : ℕ → ℕ → ℕ
more zero n = n
more (suc k) n = suc (more k n)

-- the pages that are left after so many steps
unfoldable pub left_after : (steps number left : ℕ) → ℕ
left_after zero number left = left
left_after (suc k) number left =
    let l = highest (levels - 1) number left in
    left_after k (number + size l) (left - size l)

pub none_left : (fuel : ℕ) (s : Levels) (p number left : ℕ) → left ≡ 0 → organize fuel s p number left ≡ s
unfolding organize
none_left zero s p number left e = refl
none_left (suc fuel) s p number left e =
    let l = highest (levels - 1) number left in
    ap (λ n. cond (eqb n 0) s (organize fuel (admit_one s p l false) (p + size l) (number + size l) (left - size l))) e

pub spare_fuel : (steps spare : ℕ) (s : Levels) (p number left : ℕ) →
    left_after steps number left ≡ 0 → organize (more steps spare) s p number left ≡ organize steps s p number left
unfolding organize more left_after
spare_fuel zero spare s p number left e = none_left spare s p number left e
spare_fuel (suc k) spare s p number left e =
    let l = highest (levels - 1) number left in
    ap (cond (eqb left 0) s) (spare_fuel k spare (admit_one s p l false) (p + size l) (number + size l) (left - size l) e)
