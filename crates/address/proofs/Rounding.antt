-- Laws of a number x rounded up to a multiple of a, at any a but 0: it is the least multiple that is no less than x.
use Prim.Native.Nat.{ℕ, suc, ◌+◌, ◌-◌, ◌*◌, ◌/◌, ◌%◌, ◌≤◌, ◌<◌}
use mathlib.Core.Path.{◌≡◌}
use native.Mathlib.Nat.{le_of_suc-le-suc, suc-mul, mul-le-mul_right, mul-mod_left, mod-lt, div-add-mod', div-lt_iff_lt-mul}
use native.Mathlib.Omega.{arith}

module _ (x a : ℕ) (positive : 0 < a) where
  pub up_multiple : (x + (a - 1)) / a * a % a ≡ 0
  up_multiple = mul-mod_left ((x + (a - 1)) / a) a

  pub up_no_less : x ≤ (x + (a - 1)) / a * a
  up_no_less = omega (arith, div-add-mod' (x + (a - 1)) a, mod-lt (x + (a - 1)) positive)

  pub up_near : (x + (a - 1)) / a * a < x + a
  up_near = omega (arith, div-add-mod' (x + (a - 1)) a)

  pub up_least : (k : ℕ) → x ≤ k * a → (x + (a - 1)) / a * a ≤ k * a
  up_least k h =
      let below : x + (a - 1) < suc k * a = rw suc-mul (omega arith) in
      mul-le-mul_right a (le_of_suc-le-suc ((div-lt_iff_lt-mul positive).1 below))

  -- what is aligned stays
  pub up_same : x % a ≡ 0 → (x + (a - 1)) / a * a ≡ x
  up_same e =
      let whole : x / a * a ≡ x = omega (arith, div-add-mod' x a) in
      omega (arith, up_no_less, up_least (x / a) (omega arith))
