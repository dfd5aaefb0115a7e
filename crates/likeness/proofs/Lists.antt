-- Laws of the lists that the definitions test, sum and pop. What is taken from here: what a test of a whole list says of its last element and of the
-- rest, and that numbers that stand in a list once still do without one of them, which then adds nothing to a sum.
use Prim.Native.Nat.{ℕ, ◌+◌}
use mathlib.Core.Bool.{Bool, true, false, not, cond, ◌||◌}
use mathlib.Core.List.{List, [], ◌∷◌, ◌++◌}
use mathlib.Core.Option.{Option, none, some}
use mathlib.Core.Path.{◌≡◌, refl, sym, ap, ap₂, ◌∙◌}
use native.Mathlib.Omega.{arith}
use lib.Dec.{eqb}
use borrow.Author.Tests.{eqb-true, eqb-false, ne_eqb, not-true}
use Rattle.definition.proofs.Tests.{and_left, and_right, and-true, or_left, or_right}
use Rattle.definition.specs.Basics.{any, all, sum, member, Popped, or_this, pop_last, pop_back}
use Rattle.definition.specs.Rust.{all_once}

pub any_none : {A : Type 0} (test : A → Bool) → ((x : A) → test x ≡ false) → (xs : List A) → any test xs ≡ false
unfolding any
any_none test h [] = refl
any_none test h (x ∷ xs) = ap₂ ◌||◌ (h x) (any_none test h xs)

-- ---- the last of a list

abbrev joined : Option Popped → List ℕ
joined none = []
joined (some e) = e.rest ++ (e.last ∷ [])

behind_joined : (x : ℕ) (xs : List ℕ) (o : Option Popped) → xs ≡ joined o → (x ∷ xs) ≡ joined (or_this true x xs o)
behind_joined x xs none h = ap (λ (ys : List ℕ). x ∷ ys) h ∙ ap (λ (ys : List ℕ). ys ++ (x ∷ [])) (sym h)
behind_joined x xs (some e) h = ap (λ (ys : List ℕ). x ∷ ys) h

pop_joined : (xs : List ℕ) → xs ≡ joined (pop_back xs)
unfolding pop_last
pop_joined [] = refl
pop_joined (x ∷ xs) = behind_joined x xs (pop_back xs) (pop_joined xs)

pub popped_back : (xs : List ℕ) (e : Popped) → pop_back xs ≡ some e → xs ≡ e.rest ++ (e.last ∷ [])
popped_back xs e h = pop_joined xs ∙ ap joined h

behind_back : (x y : ℕ) (xs ys : List ℕ) (o : Option Popped) → o ≡ some (record { rest = xs; last = y })
    → or_this true x ys o ≡ some (record { rest = x ∷ xs; last = y })
behind_back x y xs ys o h = ap (or_this true x ys) h

pub pop_back_lem : (xs : List ℕ) (x : ℕ) → pop_back (xs ++ (x ∷ [])) ≡ some (record { rest = xs; last = x })
unfolding pop_last
pop_back_lem [] x = refl
pop_back_lem (y ∷ xs) x = behind_back y x xs (xs ++ (x ∷ [])) (pop_back (xs ++ (x ∷ []))) (pop_back_lem xs x)

module _ {A : Type 0} (test : A → Bool) where
  pub all_rest : (xs : List A) (x : A) → all test (xs ++ (x ∷ [])) ≡ true → all test xs ≡ true
  unfolding all
  all_rest [] x h = refl
  all_rest (y ∷ xs) x h = and-true (and_left (test y) _ h) (all_rest xs x (and_right (test y) _ h))

  pub all_last : (xs : List A) (x : A) → all test (xs ++ (x ∷ [])) ≡ true → test x ≡ true
  unfolding all
  all_last [] x h = and_left (test x) true h
  all_last (y ∷ xs) x h = all_last xs x (and_right (test y) _ h)

  any_rest : (xs : List A) (x : A) → any test (xs ++ (x ∷ [])) ≡ false → any test xs ≡ false
  unfolding any
  any_rest [] x h = refl
  any_rest (y ∷ xs) x h = ap₂ ◌||◌ (or_left (test y) _ h) (any_rest xs x (or_right (test y) _ h))

  any_last : (xs : List A) (x : A) → any test (xs ++ (x ∷ [])) ≡ false → test x ≡ false
  unfolding any
  any_last [] x h = or_left (test x) false h
  any_last (y ∷ xs) x h = any_last xs x (or_right (test y) _ h)

-- ---- numbers that stand in a list once

pub absent : (x : ℕ) (xs : List ℕ) → all_once (x ∷ xs) ≡ true → member x xs ≡ false
unfolding all_once
absent x xs h = not-true (member x xs) (and_left (not (member x xs)) (all_once xs) h)

pub once_tail : (x : ℕ) (xs : List ℕ) → all_once (x ∷ xs) ≡ true → all_once xs ≡ true
unfolding all_once
once_tail x xs h = and_right (not (member x xs)) (all_once xs) h

pub once_more : (x : ℕ) (xs : List ℕ) → member x xs ≡ false → all_once xs ≡ true → all_once (x ∷ xs) ≡ true
unfolding all_once
once_more x xs m h = and-true (ap not m) h

pub once_rest : (xs : List ℕ) (x : ℕ) → all_once (xs ++ (x ∷ [])) ≡ true → all_once xs ≡ true
unfolding member
once_rest [] x h = unfold all_once in refl
once_rest (y ∷ xs) x h =
    once_more y xs (any_rest (eqb y) xs x (absent y (xs ++ (x ∷ [])) h)) (once_rest xs x (once_tail y (xs ++ (x ∷ [])) h))

-- the last differs from each before it
pub once_last : (xs : List ℕ) (x : ℕ) → all_once (xs ++ (x ∷ [])) ≡ true → all (λ y. not (eqb y x)) xs ≡ true
unfolding all member
once_last [] x h = refl
once_last (y ∷ xs) x h =
    and-true (ap not (any_last (eqb y) xs x (absent y (xs ++ (x ∷ [])) h))) (once_last xs x (once_tail y (xs ++ (x ∷ [])) h))

-- ---- a list without one number

unfoldable pub without : ℕ → List ℕ → List ℕ
without p [] = []
without p (x ∷ xs) = cond (eqb x p) (without p xs) (x ∷ without p xs)

without_absent : (p q : ℕ) (xs : List ℕ) → member q xs ≡ false → member q (without p xs) ≡ false
unfolding without member any
without_absent p q [] h = refl
without_absent p q (x ∷ xs) h = go (eqb x p) (without_absent p q xs (or_right (eqb q x) _ h))
  where
    go : (t : Bool) → member q (without p xs) ≡ false → member q (cond t (without p xs) (x ∷ without p xs)) ≡ false
    go true k = k
    go false k = ap₂ ◌||◌ (or_left (eqb q x) _ h) k

pub without_it : (p : ℕ) (xs : List ℕ) → member p (without p xs) ≡ false
unfolding without member any
without_it p [] = refl
without_it p (x ∷ xs) = go (eqb x p) refl (without_it p xs)
  where
    go : (t : Bool) → eqb x p ≡ t → member p (without p xs) ≡ false → member p (cond t (without p xs) (x ∷ without p xs)) ≡ false
    go true e k = k
    go false e k = ap₂ ◌||◌ (ne_eqb p x (λ h. eqb-false x p e (sym h))) k

pub once_without : (p : ℕ) (xs : List ℕ) → all_once xs ≡ true → all_once (without p xs) ≡ true
unfolding without
once_without p [] h = h
once_without p (x ∷ xs) h = go (eqb x p) (once_without p xs (once_tail x xs h))
  where
    go : (t : Bool) → all_once (without p xs) ≡ true → all_once (cond t (without p xs) (x ∷ without p xs)) ≡ true
    go true k = k
    go false k = once_more x (without p xs) (without_absent p x xs (absent x xs h)) k

-- a weight that is as before but for 0 at p sums up the others
pub sum_without : (p : ℕ) (before after : ℕ → ℕ) → after p ≡ 0 → ((q : ℕ) → (q ≡ p → ⊥) → after q ≡ before q)
    → (xs : List ℕ) → sum after xs ≡ sum before (without p xs)
unfolding without sum
sum_without p before after z h [] = refl
sum_without p before after z h (x ∷ xs) = go (eqb x p) refl (sum_without p before after z h xs)
  where
    go : (t : Bool) → eqb x p ≡ t → sum after xs ≡ sum before (without p xs)
        → after x + sum after xs ≡ sum before (cond t (without p xs) (x ∷ without p xs))
    go true e k = let zx : after x ≡ 0 = ap after (eqb-true x p e) ∙ z in omega arith
    go false e k = ap₂ ◌+◌ (h x (eqb-false x p e)) k
