-- Laws of a test or a sum over what is left of a list, as a loop over the list keeps it: xs is left, and an equation says that x is its
-- first and ys the rest. A name ends in `on` where the first leaves it to the rest, and in `off` where it settles the test.
use Prim.Native.Nat.{ℕ, zero, suc, ◌+◌, ◌≤◌, ◌<◌}
use mathlib.Core.Bool.{Bool, true, false, ◌&&◌, ◌||◌}
use mathlib.Core.List.{List, [], ◌∷◌}
use mathlib.Core.Path.{◌≡◌, refl, sym, ap, ◌∙◌}
use native.Mathlib.Numerals.{add-one}
use lib.ListN.{length, get_or, drop, drop_of_length-le}
use lib.Seq.{drop-cons}
use Rattle.definition.specs.Basics.{any, all, sum}
use Rattle.definition.proofs.Tests.{and_left, and_right}

pub drop_at : {A : Type 0} (xs : List A) (i : ℕ) (d : A) → i < length xs → drop i xs ≡ get_or xs i d ∷ drop (i + 1) xs
drop_at xs i d h = rw add-one (drop-cons xs i d h)

pub drop_past : {A : Type 0} (xs : List A) (i : ℕ) → length xs ≤ i → drop i xs ≡ []
drop_past xs i h = drop_of_length-le xs h

-- ---- a chain of tests: what its first decides

pub and_on : {a : Bool} (b : Bool) → a ≡ true → (a && b) ≡ b
and_on b e = ap (λ (t : Bool). t && b) e

pub and_off : {a : Bool} (b : Bool) → a ≡ false → (a && b) ≡ false
and_off b e = ap (λ (t : Bool). t && b) e

-- a chain of tests in code: its value where the first is passed, and where it is not
pub and_then : {v a t : Bool} → a ≡ true → v ≡ t → v ≡ (a && t)
and_then {t} e h = h ∙ sym (and_on t e)

pub and_else : {v a : Bool} (t : Bool) → a ≡ false → v ≡ a → v ≡ (a && t)
and_else t e h = h ∙ e ∙ sym (and_off t e)

pub or_on : {a : Bool} (b : Bool) → a ≡ false → (a || b) ≡ b
or_on b e = ap (λ (t : Bool). t || b) e

pub or_off : {a : Bool} (b : Bool) → a ≡ true → (a || b) ≡ true
or_off b e = ap (λ (t : Bool). t || b) e

-- ---- a test of each

module _ {A : Type 0} (test : A → Bool) {xs ys : List A} {x : A} (e : xs ≡ x ∷ ys) where
  pub all_on : test x ≡ true → all test xs ≡ all test ys
  unfolding all
  all_on h = ap (all test) e ∙ and_on _ h

  pub any_on : test x ≡ false → any test xs ≡ any test ys
  unfolding any
  any_on h = ap (any test) e ∙ or_on _ h

  pub any_off : test x ≡ true → any test xs ≡ true
  unfolding any
  any_off h = ap (any test) e ∙ or_off _ h

  pub all_first : all test xs ≡ true → test x ≡ true
  unfolding all
  all_first h = and_left (test x) (all test ys) (rw e at h)

pub all_drop : {A : Type 0} (test : A → Bool) (xs : List A) (i : ℕ) → all test xs ≡ true → all test (drop i xs) ≡ true
unfolding all
all_drop test xs zero h = h
all_drop test [] (suc i) h = refl
all_drop test (x ∷ xs) (suc i) h = all_drop test xs i (and_right (test x) (all test xs) h)

pub sum_on : {A : Type 0} (weight : A → ℕ) {xs ys : List A} {x : A} → xs ≡ x ∷ ys → sum weight xs ≡ weight x + sum weight ys
unfolding sum
sum_on weight e = ap (sum weight) e
