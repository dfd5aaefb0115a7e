-- How the books of a store come to be in order: where the held frames are those of a list, and the counter has the pages of that list, no choice of
-- held pages has more. Take from it that the fact `HeldBooked` says no more than demand 3's sums do.
use Prim.Native.Nat.{ℕ, ◌+◌, ◌≤◌}
use mathlib.Core.Bool.{Bool, true, false, cond}
use mathlib.Core.List.{List, [], ◌∷◌}
use mathlib.Core.Path.{◌≡◌, refl, ap, ap₂, ◌∙◌}
use native.Mathlib.Omega.{arith}
use lib.Dec.{eqb}
use borrow.Author.Tests.{eqb-true}
use Rattle.definition.proofs.Tests.{or_left, or_right}
use Rattle.definition.specs.Basics.{any, sum, member}
use Rattle.definition.specs.Frame.{Frames}
use Rattle.definition.specs.Rust.{all_once}
use Rattle.likeness.specs.Likeness.{pages_held}
use Rattle.likeness.proofs.Lists.{absent, once_tail}

-- ---- sums

sum_most : (f g : ℕ → ℕ) → ((p : ℕ) → f p ≤ g p) → (ps : List ℕ) → sum f ps ≤ sum g ps
unfolding sum
sum_most f g h [] = omega arith
sum_most f g h (p ∷ ps) = omega (arith, h p, sum_most f g h ps)

sum_add : (f g : ℕ → ℕ) (ps : List ℕ) → sum (λ p. f p + g p) ps ≡ sum f ps + sum g ps
unfolding sum
sum_add f g [] = refl
sum_add f g (p ∷ ps) = omega (arith, sum_add f g ps)

-- n at one number, and nothing elsewhere
abbrev only : (a n p : ℕ) → ℕ
only a n p = cond (eqb a p) n 0

only_absent : (a n : ℕ) (ps : List ℕ) → member a ps ≡ false → sum (only a n) ps ≡ 0
unfolding sum member any
only_absent a n [] h = refl
only_absent a n (p ∷ ps) h =
    ap₂ (λ (t : Bool) (m : ℕ). cond t n 0 + m) (or_left (eqb a p) _ h) (only_absent a n ps (or_right (eqb a p) _ h))

only_once : (a n : ℕ) (ps : List ℕ) → all_once ps ≡ true → sum (only a n) ps ≤ n
unfolding sum
only_once a n [] h = omega arith
only_once a n (p ∷ ps) h = go (eqb a p) refl (only_once a n ps (once_tail p ps h))
  where
    go : (t : Bool) → eqb a p ≡ t → sum (only a n) ps ≤ n → cond t n 0 + sum (only a n) ps ≤ n
    go true e k = omega (arith, only_absent a n ps (ap (λ (q : ℕ). member q ps) (eqb-true a p e) ∙ absent p ps h))
    go false e k = omega arith

-- ---- what stands at pages that are named once weighs no more than all there is

module _ {A : Type 0} (page weight : A → ℕ) where
  -- what of the list stands at the page p
  abbrev pub standing : List A → ℕ → ℕ
  standing xs p = sum (λ x. only (page x) (weight x) p) xs

  named_once : (xs : List A) (ps : List ℕ) → all_once ps ≡ true → sum (standing xs) ps ≤ sum weight xs
  unfolding sum
  named_once [] ps h = nothing ps
    where
      nothing : (qs : List ℕ) → sum (λ p. 0) qs ≤ 0
      nothing [] = omega arith
      nothing (q ∷ qs) = omega (arith, nothing qs)
  named_once (x ∷ xs) ps h =
      omega (arith, sum_add (only (page x) (weight x)) (standing xs) ps, only_once (page x) (weight x) ps h, named_once xs ps h)

  pub booked_of : (xs : List A) (fs : Frames) (kernel : Bool) → ((p : ℕ) → pages_held kernel (fs p) ≤ standing xs p)
      → (ps : List ℕ) → all_once ps ≡ true → sum (λ p. pages_held kernel (fs p)) ps ≤ sum weight xs
  booked_of xs fs kernel h ps once = omega (arith, sum_most (λ p. pages_held kernel (fs p)) (standing xs) h ps, named_once xs ps once)
