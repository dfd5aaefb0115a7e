-- Membership and distinctness of lists of numbers, the pigeonhole, and: a walk with consistent back links meets no node twice.
use Rattle.std.proofs.Common.{◌≡◌, ℕ, suc, ◌+◌, ◌≤◌, ◌⊎◌, List, [], ◌∷◌, length, sym, refl, ap, ◌∙◌, subst, inl, inr, ⊎_elim, arith}

abbrev pub Mem : ℕ → List ℕ → Type 0
Mem x [] = ⊥
Mem x (y ∷ ys) = (x ≡ y) ⊎ Mem x ys

abbrev pub Distinct : List ℕ → Type 0
Distinct [] = Unit {0}
Distinct (x ∷ xs) = (Mem x xs → ⊥) × Distinct xs

-- ys without the member that m names
without : (x : ℕ) (ys : List ℕ) → Mem x ys → List ℕ
without x [] m = []
without x (y ∷ ys) (inl e) = ys
without x (y ∷ ys) (inr m) = y ∷ without x ys m

length_without : (x : ℕ) (ys : List ℕ) (m : Mem x ys) → length ys ≡ suc (length (without x ys m))
unfolding without
length_without x [] m = absurd m
length_without x (y ∷ ys) (inl e) = refl
length_without x (y ∷ ys) (inr m) = ap suc (length_without x ys m)

-- another member is left
stays : (x z : ℕ) (ys : List ℕ) (m : Mem x ys) → Mem z ys → (z ≡ x → ⊥) → Mem z (without x ys m)
unfolding without
stays x z [] m k ne = absurd m
stays x z (y ∷ ys) (inl e) (inl f) ne = absurd (ne (f ∙ sym e))
stays x z (y ∷ ys) (inl e) (inr k) ne = k
stays x z (y ∷ ys) (inr m) (inl f) ne = inl f
stays x z (y ∷ ys) (inr m) (inr k) ne = inr (stays x z ys m k ne)

-- a member is the one or is left
parts : (x z : ℕ) (ys : List ℕ) (m : Mem x ys) → Mem z ys → (z ≡ x) ⊎ Mem z (without x ys m)
unfolding without
parts x z [] m k = absurd m
parts x z (y ∷ ys) (inl e) (inl f) = inl (f ∙ sym e)
parts x z (y ∷ ys) (inl e) (inr k) = inr k
parts x z (y ∷ ys) (inr m) (inl f) = inr (inl f)
parts x z (y ∷ ys) (inr m) (inr k) = ⊎_elim (λ e. inl e) (λ k'. inr (inr k')) (parts x z ys m k)

mem_cast : (x y : ℕ) (xs : List ℕ) → x ≡ y → Mem x xs → Mem y xs
mem_cast x y xs e m = subst (λ (k : ℕ). Mem k xs) e m

-- distinct xs, all among ys, and as many: every one of ys is among xs
pub pigeon : (xs ys : List ℕ) → Distinct xs → ((x : ℕ) → Mem x xs → Mem x ys) → length ys ≤ length xs → (y : ℕ) → Mem y ys → Mem y xs
pigeon [] [] d sub le y k = k
pigeon [] (z ∷ ys) d sub le y k = omega arith
pigeon (x ∷ xs) ys d sub le y k =
    let m : Mem x ys = sub x (inl refl) in
    let rest : (w : ℕ) → Mem w xs → Mem w (without x ys m) =
    λ w k'. stays x w ys m (sub w (inr k')) (λ e. d.0 (mem_cast w x xs e k')) in
    ⊎_elim
    (λ e. inl e)
    (λ k'. inr (pigeon xs (without x ys m) d.1 rest (omega (arith, length_without x ys m)) y k'))
    (parts x y ys m k)

-- distinct xs, all among ys: no more than ys
pub fewer : (xs ys : List ℕ) → Distinct xs → ((x : ℕ) → Mem x xs → Mem x ys) → length xs ≤ length ys
fewer [] ys d sub = omega arith
fewer (x ∷ xs) ys d sub =
    let m : Mem x ys = sub x (inl refl) in
    let rest : (w : ℕ) → Mem w xs → Mem w (without x ys m) =
    λ w k'. stays x w ys m (sub w (inr k')) (λ e. d.0 (mem_cast w x xs e k')) in
    omega (arith, length_without x ys m, fewer xs (without x ys m) d.1 rest)

-- the number of the head of a walk read backwards: 0 for none, else the node plus 1
abbrev pub head_number : List ℕ → ℕ
head_number [] = 0
head_number (x ∷ xs) = x + 1

module _ (earlier : ℕ → ℕ) where
  -- the nodes met so far, the last first; each one's earlier is the one met before it
  abbrev pub BackLinked : List ℕ → Type 0
  BackLinked [] = Unit {0}
  BackLinked (x ∷ xs) = (earlier x ≡ head_number xs) × BackLinked xs

  before : (x h z : ℕ) (zs : List ℕ) → BackLinked (z ∷ zs) → Mem x (z ∷ zs) → earlier x ≡ h + 1 → Mem h zs
  before x h z [] b (inl e) q = omega (arith, ap earlier e)
  before x h z [] b (inr m) q = absurd m
  before x h z (w ∷ ws) b (inl e) q = inl (omega (arith, ap earlier e))
  before x h z (w ∷ ws) b (inr m) q = inr (before x h w ws b.1 m q)

  fresh : (x : ℕ) (s : List ℕ) → Distinct s → BackLinked (x ∷ s) → Mem x s → ⊥
  fresh x [] d b m = m
  fresh x (h ∷ t) d b m = d.0 (before x h h t b.1 m b.0)

  pub distinct : (s : List ℕ) → BackLinked s → Distinct s
  distinct [] b = tt
  distinct (x ∷ s) b = let d : Distinct s = distinct s b.1 in (fresh x s d b, d)
