-- A list has no more pages than there are records, so that its count never overflows.
use Prim.Native.Nat.{ℕ, zero, suc, ◌<◌, ◌≤◌}
use mathlib.Core.List.{List, [], ◌∷◌, ◌++◌}
use mathlib.Core.Logic.{◌≢◌}
use mathlib.Core.Path.{◌≡◌, subst}
use native.Mathlib.Omega.{arith}
use native.Mathlib.Decide.{ℕ_discrete}
use borrow.Author.Tests.{eq-eqb, ne_eqb}
use lib.ListN.{length, length-append}
use Rattle.definition.specs.declared.Record.{Record}
use Rattle.definition.specs.declared.Links.{Links}
use Rattle.list.specs.Linked.{All, Out, Distinct, Linked, without}
use Rattle.list.specs.Linked.All.{all_none, all_more}
use Rattle.list.specs.Linked.Distinct.{distinct_none, distinct_more}
use Rattle.list.proofs.Laws.{all_append, distinct_snoc}
use Rattle.list.proofs.Removal.{without_out}

-- what holds of each element but m holds of each that is left
all_without : {P Q : ℕ → Type 0} (m : ℕ) {xs : List ℕ} → ((x : ℕ) → x ≢ m → P x → Q x) → All P xs → All Q (without m xs)
unfolding without
all_without m h all_none = all_none
all_without {P} {Q} m h (all_more {x = x} {xs = xs} a rest) = go (ℕ_discrete x m) (all_without m h rest)
  where
    go : Dec (x ≡ m) → All Q (without m xs) → All Q (without m (x ∷ xs))
    go (yes e) r = rw (eq-eqb x m e) r
    go (no n) r = rw (ne_eqb x m n) (all_more (h x n a) r)

distinct_without : (m : ℕ) {xs : List ℕ} → Distinct xs → Distinct (without m xs)
unfolding without
distinct_without m distinct_none = distinct_none
distinct_without m (distinct_more {x = x} {xs = xs} o d) = go (ℕ_discrete x m) (distinct_without m d)
  where
    go : Dec (x ≡ m) → Distinct (without m xs) → Distinct (without m (x ∷ xs))
    go (yes e) r = rw (eq-eqb x m e) r
    go (no n) r = rw (ne_eqb x m n) (distinct_more (all_without m (λ y k q. q) o) r)

length_without : (m : ℕ) {xs : List ℕ} → Distinct xs → length xs ≤ suc (length (without m xs))
unfolding without
length_without m distinct_none = omega arith
length_without m (distinct_more {x = x} {xs = xs} o d) = go (ℕ_discrete x m) (length_without m d)
  where
    go : Dec (x ≡ m) → length xs ≤ suc (length (without m xs)) → suc (length xs) ≤ suc (length (without m (x ∷ xs)))
    go (yes e) r =
        let u : Out m xs = subst (λ (y : ℕ). Out y xs) e o in
        rw (eq-eqb x m e, without_out u) (omega arith)
    go (no n) r = rw (ne_eqb x m n) (omega arith)

pub holes : (n : ℕ) (xs : List ℕ) → Distinct xs → All (λ (x : ℕ). x < n) xs → length xs ≤ n
holes zero xs d all_none = omega arith
holes zero xs d (all_more a rest) = omega arith
holes (suc m) xs d a =
    let r = holes m (without m xs) (distinct_without m d) (all_without m (λ x k h. omega arith) a) in
    omega (arith, length_without m d)

-- a list of pages below m that lacks one of those has fewer
pub push_fits
    : {f : ℕ → Record} {n m : ℕ} {l : Links} {xs : List ℕ} {p : ℕ}
    → Linked f n l xs → All (λ (x : ℕ). x < m) xs → p < m → Out p xs → l.count < m
push_fits {m = m} {xs = xs} {p = p} k a i o =
    omega (arith, k.counted, length-append xs (p ∷ []), holes m (xs ++ (p ∷ [])) (distinct_snoc k.distinct o) (all_append a (all_more i all_none)))
