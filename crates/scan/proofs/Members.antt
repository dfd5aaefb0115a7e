-- What a test or a sum over a list says of its members, the members that a test keeps, and a test that is refused because it can't hold.
use Rattle.std.proofs.Common.{◌≡◌, ℕ, ◌+◌, Bool, true, false, cond, ◌&&◌, ◌||◌, eqb, List, [], ◌∷◌, length, sym, refl, ap, ◌∙◌, inl, inr, arith, eq-eqb, ne_eqb}
use mathlib.Core.Bool.{false≢true}
use native.Mathlib.Decide.{ℕ_discrete}
use Rattle.definition.specs.Basics.{any, all, sum, member}
use Rattle.definition.proofs.Tests.{same_test, and_left, and_right, and-true}
use Rattle.scan.proofs.Pigeon.{Mem, Distinct}

pub refuse : {t : Bool} → (t ≡ true → ⊥) → false ≡ t
refuse h = same_test (λ e. absurd (false≢true e)) (λ e. absurd (h e))

pub or_else : (a b : Bool) → (a ≡ false → b ≡ true) → a || b ≡ true
or_else true b h = refl
or_else false b h = h refl

pub or_right : (a b : Bool) → a || b ≡ true → a ≡ false → b ≡ true
or_right true b e f = absurd (false≢true (sym f))
or_right false b e f = e

module _ (test : ℕ → Bool) where
  pub all_in : (xs : List ℕ) → all test xs ≡ true → (x : ℕ) → Mem x xs → test x ≡ true
  unfolding all
  all_in [] e x m = absurd m
  all_in (y ∷ ys) e x (inl k) = ap test k ∙ and_left _ _ e
  all_in (y ∷ ys) e x (inr m) = all_in ys (and_right (test y) _ e) x m

  pub in_all : (xs : List ℕ) → ((x : ℕ) → Mem x xs → test x ≡ true) → all test xs ≡ true
  unfolding all
  in_all [] h = refl
  in_all (y ∷ ys) h = and-true (h y (inl refl)) (in_all ys (λ x m. h x (inr m)))

pub and_pairs : (a b c d : Bool) → ((a && b) && (c && d)) ≡ ((a && c) && (b && d))
and_pairs true true c d = refl
and_pairs true false true d = refl
and_pairs true false false d = refl
and_pairs false b c d = refl

pub all_both : {A : Type 0} (a b : A → Bool) (xs : List A) → all (λ x. a x && b x) xs ≡ (all a xs && all b xs)
unfolding all
all_both a b [] = refl
all_both a b (x ∷ xs) = ap (λ (t : Bool). (a x && b x) && t) (all_both a b xs) ∙ and_pairs (a x) (b x) (all a xs) (all b xs)

pub sum_same : (v w : ℕ → ℕ) (xs : List ℕ) → ((x : ℕ) → Mem x xs → v x ≡ w x) → sum v xs ≡ sum w xs
unfolding sum
sum_same v w [] h = refl
sum_same v w (x ∷ xs) h = omega (arith, h x (inl refl), sum_same v w xs (λ y m. h y (inr m)))

-- ---- membership as a test

pub mem_member : (x : ℕ) (xs : List ℕ) → Mem x xs → member x xs ≡ true
unfolding member any
mem_member x [] m = absurd m
mem_member x (y ∷ ys) (inl e) = rw (eq-eqb x y e)
mem_member x (y ∷ ys) (inr m) = or_else (eqb x y) _ (λ e. mem_member x ys m)

pub member_mem : (x : ℕ) (xs : List ℕ) → member x xs ≡ true → Mem x xs
unfolding member any
member_mem x [] e = absurd (false≢true e)
member_mem x (y ∷ ys) e = go (ℕ_discrete x y) (λ k. member_mem x ys k)
  where
    go : Dec (x ≡ y) → (member x ys ≡ true → Mem x ys) → Mem x (y ∷ ys)
    go (yes k) more = inl k
    go (no n) more = inr (more (or_right (eqb x y) _ e (ne_eqb x y n)))

-- ---- the members that a test keeps

abbrev keep_if : Bool → ℕ → List ℕ → List ℕ
keep_if true h hs = h ∷ hs
keep_if false h hs = hs

module _ (test : ℕ → Bool) where
  abbrev pub keep : List ℕ → List ℕ
  keep [] = []
  keep (h ∷ hs) = keep_if (test h) h (keep hs)

  pub sum_keep : (hs : List ℕ) → sum (λ h. cond (test h) 1 0) hs ≡ length (keep hs)
  unfolding sum
  sum_keep [] = refl
  sum_keep (h ∷ hs) = go (test h) (sum_keep hs)
    where
      go : (t : Bool) → sum (λ h. cond (test h) 1 0) hs ≡ length (keep hs) → cond t 1 0 + sum (λ h. cond (test h) 1 0) hs ≡ length (keep_if t h (keep hs))
      go true e = omega arith
      go false e = omega arith

  pub kept : (x : ℕ) (hs : List ℕ) → Mem x (keep hs) → Mem x hs × (test x ≡ true)
  kept x [] m = absurd m
  kept x (h ∷ hs) m = go (test h) refl m (λ n. kept x hs n)
    where
      go : (t : Bool) → test h ≡ t → Mem x (keep_if t h (keep hs)) → (Mem x (keep hs) → Mem x hs × (test x ≡ true)) → Mem x (h ∷ hs) × (test x ≡ true)
      go true e (inl k) more = (inl k, ap test k ∙ e)
      go true e (inr n) more = let r = more n in (inr r.0, r.1)
      go false e n more = let r = more n in (inr r.0, r.1)

  pub keeps : (x : ℕ) (hs : List ℕ) → test x ≡ true → Mem x hs → Mem x (keep hs)
  keeps x [] e m = m
  keeps x (h ∷ hs) e m = go (test h) refl m (λ n. keeps x hs e n)
    where
      go : (t : Bool) → test h ≡ t → Mem x (h ∷ hs) → (Mem x hs → Mem x (keep hs)) → Mem x (keep_if t h (keep hs))
      go true k (inl q) more = inl q
      go true k (inr n) more = inr (more n)
      go false k (inl q) more = absurd (false≢true (sym k ∙ sym (ap test q) ∙ e))
      go false k (inr n) more = more n

  pub keep_distinct : (hs : List ℕ) → Distinct hs → Distinct (keep hs)
  keep_distinct [] d = tt
  keep_distinct (h ∷ hs) d = go (test h) (keep_distinct hs d.1)
    where
      go : (t : Bool) → Distinct (keep hs) → Distinct (keep_if t h (keep hs))
      go true r = (λ m. d.0 (kept h hs m).0, r)
      go false r = r
