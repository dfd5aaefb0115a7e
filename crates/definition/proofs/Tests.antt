-- Laws of tests: two that imply one another are one, and what a test of a whole range says of each number in it.
use Prim.Native.Nat.{ℕ, zero, suc, ◌+◌, ◌≤◌, ◌<◌}
use mathlib.Core.Bool.{Bool, true, false, ◌&&◌, ◌||◌, false≢true}
use mathlib.Core.List.{List, ◌∷◌}
use mathlib.Core.Logic.{⊎_elim}
use mathlib.Core.Path.{◌≡◌, refl, sym, subst}
use native.Mathlib.Nat.{eq-or-lt_of_le}
use native.Mathlib.Omega.{arith}
use Rattle.definition.specs.Basics.{any, all, range}

pub same_test : {a b : Bool} → (a ≡ true → b ≡ true) → (b ≡ true → a ≡ true) → a ≡ b
same_test {a = true} {b = true} f g = refl
same_test {a = true} {b = false} f g = sym (f refl)
same_test {a = false} {b = true} f g = g refl
same_test {a = false} {b = false} f g = refl

pub and_left : (a b : Bool) → a && b ≡ true → a ≡ true
and_left true b e = refl
and_left false b e = e

pub and_right : (a b : Bool) → a && b ≡ true → b ≡ true
and_right true b e = e
and_right false b e = absurd (false≢true e)

pub and-true : {a b : Bool} → a ≡ true → b ≡ true → a && b ≡ true
and-true {a = true} e f = f
and-true {a = false} e f = e

pub or_left : (a b : Bool) → (a || b) ≡ false → a ≡ false
or_left true b e = e
or_left false b e = refl

pub or_right : (a b : Bool) → (a || b) ≡ false → b ≡ false
or_right true b e = absurd (false≢true (sym e))
or_right false b e = e

pub any_head : {A : Type 0} (test : A → Bool) (x : A) (xs : List A) → any test (x ∷ xs) ≡ false → test x ≡ false
unfolding any
any_head test x xs e = or_left (test x) (any test xs) e

module _ (test : ℕ → Bool) where
  pub range_in : (a n : ℕ) → all test (range a n) ≡ true → (q : ℕ) → a ≤ q → q < a + n → test q ≡ true
  unfolding all range
  range_in a zero e q l h = absurd (omega arith)
  range_in a (suc n) e q l h =
      ⊎_elim
      (λ (k : a ≡ q). subst (λ (x : ℕ). test x ≡ true) k (and_left _ _ e))
      (λ k. range_in (a + 1) n (and_right (test a) _ e) q (omega arith) (omega arith))
      (eq-or-lt_of_le l)

  pub in_range : (a n : ℕ) → ((q : ℕ) → a ≤ q → q < a + n → test q ≡ true) → all test (range a n) ≡ true
  unfolding all range
  in_range a zero h = refl
  in_range a (suc n) h = and-true (h a (omega arith) (omega arith)) (in_range (a + 1) n (λ q l k. h q (omega arith) (omega arith)))

  -- the last of a range
  pub range_last : (a n : ℕ) → all test (range a (n + 1)) ≡ all test (range a n) && test (a + n)
  range_last a n =
      same_test
      (λ e. and-true
      (in_range a n (λ q l h. range_in a (n + 1) e q l (omega arith)))
      (range_in a (n + 1) e (a + n) (omega arith) (omega arith)))
      (λ e. in_range a (n + 1) (λ q l h.
      ⊎_elim
      (λ (k : q ≡ a + n). subst (λ (x : ℕ). test x ≡ true) (sym k) (and_right (all test (range a n)) _ e))
      (λ k. range_in a n (and_left _ _ e) q l k)
      (eq-or-lt_of_le (omega arith))))
