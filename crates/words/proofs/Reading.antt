-- What is read of words that were written: halves, lists and rows; and that equal words read equal.
use Prim.Native.Nat.{ℕ, zero, suc, ◌+◌, ◌*◌, ◌≤◌, ◌<◌}
use mathlib.Core.List.{List, [], ◌∷◌}
use mathlib.Core.Path.{◌≡◌, refl, sym, ap, ap₂, ◌∙◌}
use borrow.Author.Tests.{lt-ltb, le-ltb}
use native.Mathlib.Nat.{add_assoc, add-zero, zero-add}
use native.Mathlib.Omega.{arith}
use lib.ListN.{length, get_or, take, drop}
use lib.Seq.{drop-cons, get_or-drop, take_all}
use Rattle.definition.specs.declared.Links.{Links}
use Rattle.definition.specs.declared.Row.{Row}
use Rattle.definition.specs.World.{no_links, no_row}
use Rattle.words.specs.Words.{
  NarrowRow,
  joined,
  low_half,
  high_half,
  word_in,
  first_in,
  second_in,
  row_in,
  used_in,
  row_here,
  rows_from,
  pair_words,
  list_in,
  row_words,
}

-- ---- halves

halves : (w : ℕ) → joined (low_half w) (high_half w) ≡ w
halves w = omega arith

low : (a b : ℕ) → a < 4294967296 → low_half (joined a b) ≡ a
low a b h = omega arith

high : (a b : ℕ) → a < 4294967296 → high_half (joined a b) ≡ b
high a b h = omega arith

-- ---- a list, element by element

abbrev pub run : {A : Type 0} → A → List A → ℕ → ℕ → List A
run d l at zero = []
run d l at (suc n) = get_or l at d ∷ run d l (suc at) n

pub run_taken : {A : Type 0} (d : A) (l : List A) (at n : ℕ) → at + n ≤ length l → run d l at n ≡ take n (drop at l)
run_taken {A} d l at zero h = refl
run_taken {A} d l at (suc n) h = rw (drop-cons l at d (omega arith)) (ap (λ (xs : List A). get_or l at d ∷ xs) (run_taken d l (suc at) n (omega arith)))

pub run_at : {A : Type 0} (d : A) (l : List A) (at n k : ℕ) → k < n → get_or (run d l at n) k d ≡ get_or l (at + k) d
run_at d l at zero k h = absurd (omega arith)
run_at d l at (suc n) zero h = rw (add-zero at) refl
run_at d l at (suc n) (suc k) h =
    let e : at + suc k ≡ suc at + k = omega arith in
    rw e (run_at d l (suc at) n k (omega arith))

-- ---- a row

-- read, and its words again
pub pair_again : (ws : List ℕ) (at : ℕ) → pair_words (first_in ws at) (second_in ws at) ≡ word_in ws at ∷ word_in ws (at + 1) ∷ word_in ws (at + 2) ∷ []
pair_again ws at = simp halves

row_again : (ws : List ℕ) (at : ℕ)
    → row_words (row_in ws at)
    ≡ word_in ws at
    ∷ word_in ws (at + 1)
    ∷ word_in ws (at + 2)
    ∷ word_in ws (at + 2 + 1)
    ∷ word_in ws (at + 2 + 2)
    ∷ word_in ws (at + 5)
    ∷ word_in ws (at + 5 + 1)
    ∷ word_in ws (at + 5 + 2)
    ∷ word_in ws (at + 8)
    ∷ word_in ws (at + 8 + 1)
    ∷ word_in ws (at + 8 + 2)
    ∷ []
unfolding row_in row_words
row_again ws at = simp halves

-- two lists whose numbers fit where they stand in a low half
pub pair_read : (a b : Links) → a.front < 4294967296 → a.count < 4294967296 → b.front < 4294967296
    → (first_in (pair_words a b) 0 ≡ a) × (second_in (pair_words a b) 0 ≡ b)
pair_read a b f n g =
    rw (
      low a.front a.back f,
      high a.front a.back f,
      low b.front b.back g,
      high b.front b.back g,
      low a.count b.count n,
      high a.count b.count n,
    ) (refl, refl)

pub row_read : (row : Row) → NarrowRow row → row_in (row_words row) 0 ≡ row
unfolding row_in row_words
row_read row n =
    let l : ℕ → Links = list_in row in
    let s : run no_links row.lists 0 6 ≡ row.lists = run_taken no_links row.lists 0 6 (omega (arith, n.six)) ∙ take_all 6 row.lists (omega (arith, n.six)) in
    let r : (k : ℕ) → k < 5 → (first_in (pair_words (l k) (l (suc k))) 0 ≡ l k) × (second_in (pair_words (l k) (l (suc k))) 0 ≡ l (suc k)) =
    λ k h. pair_read (l k) (l (suc k)) (n.narrow k (omega arith)).front (n.narrow k (omega arith)).count (n.narrow (suc k) (omega arith)).front
    in
    rw ((r 0 (omega arith)).0, (r 0 (omega arith)).1, (r 2 (omega arith)).0, (r 2 (omega arith)).1, (r 4 (omega arith)).0, (r 4 (omega arith)).1, s) refl

-- three equal words
pub pair_same
    : (ws vs : List ℕ) (at bt : ℕ) → ((k : ℕ) → k < 3 → word_in ws (at + k) ≡ word_in vs (bt + k))
    → (first_in ws at ≡ first_in vs bt) × (second_in ws at ≡ second_in vs bt)
pair_same ws vs at bt h =
    let z : word_in ws at ≡ word_in vs bt = rw (add-zero at, add-zero bt) at (h 0 (omega arith)) in
    rw (z, h 1 (omega arith), h 2 (omega arith)) (refl, refl)

-- eleven equal words
pub row_same : (ws vs : List ℕ) (at bt : ℕ) → ((k : ℕ) → k < 11 → word_in ws (at + k) ≡ word_in vs (bt + k)) → row_in ws at ≡ row_in vs bt
unfolding row_in
row_same ws vs at bt h =
    let z : word_in ws at ≡ word_in vs bt = rw (add-zero at, add-zero bt) at (h 0 (omega arith)) in
    let g : (j : ℕ) → j < 9 → (first_in ws (at + j) ≡ first_in vs (bt + j)) × (second_in ws (at + j) ≡ second_in vs (bt + j)) =
    λ j l. pair_same ws vs (at + j) (bt + j) (λ k m. rw (add_assoc at j k, add_assoc bt j k) (h (j + k) (omega arith)))
    in
    let a = g 2 (omega arith) in
    let b = g 5 (omega arith) in
    let c = g 8 (omega arith) in
    cc (h 1 (omega arith))

-- the words of a row that was read
pub word_again : (ws : List ℕ) (at k : ℕ) → k < 11 → word_in (row_words (row_in ws at)) k ≡ word_in ws (at + k)
word_again ws at k h =
    let behind : List ℕ = drop at ws in
    let m : row_in ws at ≡ row_in behind 0 = row_same ws behind at 0 (λ j l. rw (zero-add j) (sym (get_or-drop at ws j 0))) in
    ap (λ (row : Row). word_in (row_words row) k) m
    ∙ ap (λ (xs : List ℕ). get_or xs k 0) (row_again behind 0)
    ∙ run_at 0 behind 0 11 k h
    ∙ rw (zero-add k) (get_or-drop at ws k 0)

-- ---- the rows

module _ (ws : List ℕ) (i : ℕ) where
  pub row_used : i < used_in ws → row_here ws i ≡ row_in ws (1 + 11 * i)
  row_used h = rw (lt-ltb i (used_in ws) h) refl

  pub row_unused : used_in ws ≤ i → row_here ws i ≡ no_row
  row_unused h = rw (le-ltb i (used_in ws) h) refl

pub here_same : (ws vs : List ℕ) (i : ℕ) → word_in ws 0 ≡ word_in vs 0 → row_in ws (1 + 11 * i) ≡ row_in vs (1 + 11 * i) → row_here ws i ≡ row_here vs i
here_same ws vs i z e = rw (z, e) refl

pub rows_same : (ws vs : List ℕ) (i n : ℕ) → i + n ≤ 8 → ((k : ℕ) → k < 89 → word_in ws k ≡ word_in vs k) → rows_from ws i n ≡ rows_from vs i n
unfolding rows_from
rows_same ws vs i zero h e = refl
rows_same ws vs i (suc n) h e =
    ap₂ (λ (r : Row) (rs : List Row). r ∷ rs)
    (here_same ws vs i (e 0 (omega arith)) (row_same ws vs (1 + 11 * i) (1 + 11 * i) (λ k l. e (1 + 11 * i + k) (omega arith))))
    (rows_same ws vs (i + 1) n (omega arith) e)
