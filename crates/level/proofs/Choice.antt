-- Laws of the level that a place takes and of the level that a layout gets, each proved over the level, and over any board where bytes are meant.
use Prim.Native.Nat.{ℕ, zero, suc, ◌+◌, ◌-◌, ◌%◌, ◌≤◌, ◌<◌, zero-le}
use mathlib.Core.Bool.{Bool, true, false, not, cond, false≢true, and-eq-true_iff, ◌&&◌, ◌||◌}
use mathlib.Core.List.{List, ◌∷◌}
use mathlib.Core.Logic.{⊎_elim}
use mathlib.Core.Option.{some}
use Rattle.std.specs.Prelude.{Ok, Err}
use mathlib.Core.Path.{◌≡◌, refl, sym, ap, ap₂, ◌∙◌}
use native.Mathlib.Decide.{dec_le}
use native.Mathlib.Nat.{le_refl, le_step, le_trans, le_antisymm, le-suc_iff, le_of_suc-le-suc, eq-or-lt_of_le, mod-one}
use native.Mathlib.Omega.{arith}
use lib.Dec.{eqb, leb, ltb, lit<}
use borrow.Author.Tests.{eq-eqb, eqb-true, le-leb, leb-true, leb-false, lt-ltb, le-ltb, not-false}
use Rattle.definition.specs.Board.{Board}
use Rattle.definition.specs.Frame.{size, levels, highest}
use Rattle.definition.specs.Calls.{Layout, bad_layout, bytes_of_level, no_level, level_from, find_level}
use Rattle.definition.specs.Refusal.{Test, ◌when◌, first_met}
use Rattle.definition.specs.declared.Refusal.{Refusal}
use Rattle.definition.specs.declared.Refusal.TheVariants.{BadLayout, NoLevel}
use Rattle.level.specs.Level.{rank, level_at, serves, takes, found_level, Finds}
use Rattle.level.specs.declared.Level.{Level}
use Rattle.level.proofs.Ranks.{rank_of_level}
use Rattle.level.proofs.Sizes.{bytes_rise}

both : {p q : Bool} → p ≡ true → q ≡ true → (p && q) ≡ true
both e f = rw (e, f)

-- what holds of both, under the test that picks it, holds of what is picked
picked : (P : ℕ → Type 0) (t : Bool) {x y : ℕ} → (t ≡ true → P x) → (t ≡ false → P y) → P (cond t x y)
picked P true f g = f refl
picked P false f g = g refl

-- ---- frame.rs 313: the highest level up to l that a place takes

module _ (number left : ℕ) where
  taken : (pages : ℕ) → number % pages ≡ 0 → pages ≤ left → takes pages number left ≡ true
  taken pages e h = both (eq-eqb (number % pages) 0 e) (le-leb pages left h)

  takes_aligned : (pages : ℕ) → takes pages number left ≡ true → number % pages ≡ 0
  takes_aligned pages t = eqb-true (number % pages) 0 ((and-eq-true_iff (eqb (number % pages) 0) (leb pages left)).0 t).0

  takes_room : (pages : ℕ) → takes pages number left ≡ true → pages ≤ left
  takes_room pages t = leb-true pages left ((and-eq-true_iff (eqb (number % pages) 0) (leb pages left)).0 t).1

  pub highest_within : (l : ℕ) → highest l number left ≤ l
  unfolding highest
  highest_within zero = zero-le
  highest_within (suc l) =
      picked (λ (k : ℕ). k ≤ suc l) (takes (size (suc l)) number left) (λ t. le_refl (suc l)) (λ t. le_step (highest_within l))

  pub highest_aligned : (l : ℕ) → number % size (highest l number left) ≡ 0
  unfolding highest
  highest_aligned zero = mod-one number
  highest_aligned (suc l) =
      picked (λ (k : ℕ). number % size k ≡ 0) (takes (size (suc l)) number left) (takes_aligned (size (suc l))) (λ t. highest_aligned l)

  pub highest_room : 0 < left → (l : ℕ) → size (highest l number left) ≤ left
  unfolding highest
  highest_room h zero = h
  highest_room h (suc l) =
      picked (λ (k : ℕ). size k ≤ left) (takes (size (suc l)) number left) (takes_room (size (suc l))) (λ t. highest_room h l)

  pub highest_best : (l m : ℕ) → m ≤ l → number % size m ≡ 0 → size m ≤ left → m ≤ highest l number left
  unfolding highest
  highest_best zero m h e r = h
  highest_best (suc l) m h e r =
      picked (λ (k : ℕ). m ≤ k) (takes (size (suc l)) number left) (λ t. h) (λ t.
      ⊎_elim (λ w. highest_best l m w e r) (λ q. absurd (false≢true (sym t ∙ taken (size (suc l)) (rw q at e) (rw q at r)))) (le-suc_iff.0 h))

-- ---- frame.rs 176: the first level that serves a layout

module _ (s a : ℕ) where
  served : (n : ℕ) → s ≤ n → a ≤ n → serves n s a ≡ true
  served n h k = both (le-leb s n h) (le-leb a n k)

  serves_size : (n : ℕ) → serves n s a ≡ true → s ≤ n
  serves_size n t = leb-true s n ((and-eq-true_iff (leb s n) (leb a n)).0 t).0

  serves_align : (n : ℕ) → serves n s a ≡ true → a ≤ n
  serves_align n t = leb-true a n ((and-eq-true_iff (leb s n) (leb a n)).0 t).1

  serves_more : (m n : ℕ) → m ≤ n → serves m s a ≡ true → serves n s a ≡ true
  serves_more m n h t = served n (le_trans (serves_size m t) h) (le_trans (serves_align m t) h)

  over : (n : ℕ) → ltb n s || ltb n a ≡ not (serves n s a)
  over n = ap₂ ◌||◌ (ltb_not n s) (ltb_not n a) ∙ neither (leb s n) (leb a n)
    where
      ltb_not : (m n : ℕ) → ltb m n ≡ not (leb n m)
      ltb_not m n = go (leb n m) refl
        where
          go : (t : Bool) → leb n m ≡ t → ltb m n ≡ not t
          go true e = le-ltb m n (leb-true n m e)
          go false e = lt-ltb m n (leb-false n m e)

      neither : (p q : Bool) → not p || not q ≡ not (p && q)
      neither true q = refl
      neither false q = refl

refusal : (t u : Bool) (l : Level) (r : Refusal) (later : List Test) → cond t (Err BadLayout) (cond u (Err NoLevel) (Ok l)) ≡ Err r
    → first_met ((BadLayout when t) ∷ (NoLevel when u) ∷ later) ≡ some r
unfolding first_met
refusal true u l r later e = cc
refusal false true l r later e = cc
refusal false false l r later e = let z : ◌≡◌ {A = ℕ} 0 1 = cc in absurd (omega arith)

module _ (b : Board) (y : Layout) where
  abbrev enough : ℕ → Bool
  enough l = serves (bytes_of_level b l) y.size y.align

  from_serves : (left l m : ℕ) → l ≤ m → m < l + left → enough m ≡ true → (enough (level_from b left l y) ≡ true) × (level_from b left l y ≤ m)
  unfolding level_from
  from_serves zero l m h u e = absurd (omega arith)
  from_serves (suc left) l m h u e =
      picked (λ (k : ℕ). (enough k ≡ true) × (k ≤ m)) (enough l) (λ t. (t, h)) (λ t.
      ⊎_elim (λ q. absurd (false≢true (sym t ∙ rw q e))) (λ w. from_serves left (l + 1) m (omega arith) (omega arith) e) (eq-or-lt_of_le h))

  pub found_first : (m : ℕ) → m < levels → y.size ≤ bytes_of_level b m → y.align ≤ bytes_of_level b m → find_level b y ≤ m
  found_first m h s a = (from_serves levels 0 m zero-le h (served y.size y.align (bytes_of_level b m) s a)).1

  -- where refusal 8 is not met
  module _ (within : no_level b y ≡ false) where
    found : (enough (find_level b y) ≡ true) × (find_level b y ≤ levels - 1)
    found =
        from_serves levels 0 (levels - 1) zero-le (lit< tt)
        (not-false (enough (levels - 1)) (sym (over y.size y.align (bytes_of_level b (levels - 1))) ∙ within))

    pub found_below : find_level b y < levels
    found_below = omega (arith, found.1)

    pub found_size : y.size ≤ bytes_of_level b (find_level b y)
    found_size = serves_size y.size y.align (bytes_of_level b (find_level b y)) found.0

    pub found_align : y.align ≤ bytes_of_level b (find_level b y)
    found_align = serves_align y.size y.align (bytes_of_level b (find_level b y)) found.0

  -- what the code finds: no level serves; or one serves and none below it
  module _ (fine : bad_layout y ≡ false) where
    pub found_none : serves (bytes_of_level b (levels - 1)) y.size y.align ≡ false → found_level b y ≡ Err NoLevel
    found_none e =
        let none : no_level b y ≡ true = over y.size y.align (bytes_of_level b (levels - 1)) ∙ ap not e in
        rw (fine, none)

    pub found_at : (l : ℕ) → l < levels → serves (bytes_of_level b l) y.size y.align ≡ true
        → ((m : ℕ) → m < l → serves (bytes_of_level b m) y.size y.align ≡ false) → found_level b y ≡ Ok (level_at l)
    found_at l h e below =
        let most = serves_more y.size y.align (bytes_of_level b l) (bytes_of_level b (levels - 1)) (bytes_rise b (le_of_suc-le-suc h)) e in
        let within : no_level b y ≡ false = over y.size y.align (bytes_of_level b (levels - 1)) ∙ ap not most in
        let same : find_level b y ≡ l = le_antisymm (from_serves levels 0 l zero-le h e).1 (least within (dec_le l (find_level b y))) in
        rw (fine, within, same)
      where
        least : no_level b y ≡ false → Dec (l ≤ find_level b y) → l ≤ find_level b y
        least w' (yes w) = w
        least w' (no w) = absurd (false≢true (sym (below (find_level b y) (omega arith)) ∙ (found w').0))

  -- what an answer says to whom it is given, of the sheet's lines 7 and 8 and of the level
  pub finds : (l : Level) → found_level b y ≡ Ok l → Finds b y l
  finds l e = go (bad_layout y) refl (no_level b y) refl
    where
      go : (t : Bool) → bad_layout y ≡ t → (u : Bool) → no_level b y ≡ u → Finds b y l
      go true p u q =
          let f : found_level b y ≡ Err BadLayout = rw p in
          let z : ◌≡◌ {A = ℕ} 0 1 = cc in
          absurd (omega arith)
      go false p true q =
          let f : found_level b y ≡ Err NoLevel = rw (p, q) in
          let z : ◌≡◌ {A = ℕ} 0 1 = cc in
          absurd (omega arith)
      go false p false q =
          let f : found_level b y ≡ Ok (level_at (find_level b y)) = rw (p, q) in
          let same : l ≡ level_at (find_level b y) = cc in
          record { fine = p; within = q; number = ap rank same ∙ rank_of_level (find_level b y) (found_below q) }

  pub refuses : (r : Refusal) → found_level b y ≡ Err r → (later : List Test)
      → first_met ((BadLayout when bad_layout y) ∷ (NoLevel when no_level b y) ∷ later) ≡ some r
  refuses r e later = refusal (bad_layout y) (no_level b y) (level_at (find_level b y)) r later e

  pub passes : {l : Level} → Finds b y l → (later : List Test)
      → first_met ((BadLayout when bad_layout y) ∷ (NoLevel when no_level b y) ∷ later) ≡ first_met later
  unfolding first_met
  passes f later = ap₂ (λ (t u : Bool). first_met ((BadLayout when t) ∷ (NoLevel when u) ∷ later)) f.fine f.within
