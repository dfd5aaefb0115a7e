-- A row by its number: where its words and those of its lists stand, which rows are in use, what a row is of which two lists were written, and rows whose words
-- stand there.
use Prim.Native.Nat.{ℕ, zero, suc, ◌+◌, ◌-◌, ◌*◌, ◌/◌, ◌%◌, ◌≤◌, ◌<◌}
use mathlib.Core.List.{List, [], ◌∷◌}
use mathlib.Core.Path.{◌≡◌, refl, sym, ap, ◌∙◌}
use native.Mathlib.Nat.{zero-add}
use borrow.Author.Tests.{eq-eqb, ne_eqb}
use lib.Dec.{eqb}
use mathlib.Core.Bool.{cond}
use native.Mathlib.Decide.{ℕ_discrete, dec_lt}
use native.Mathlib.Omega.{arith}
use lib.ListN.{length, get_or, drop, replicate, get_or-replicate}
use lib.Seq.{ext_get_or, get_or-drop}
use Rattle.definition.specs.declared.Links.{Links}
use Rattle.definition.specs.declared.Row.{Row}
use Rattle.definition.specs.World.{no_row}
use Rattle.words.specs.Words.{InUse, Narrow, word_in, first_in, second_in, list_in, with_list, row_in, row_here, rows_from, rows_in, row_of, row_words, used_in}
use Rattle.words.proofs.Reading.{row_read, row_same, row_used, row_unused}

pub length_rows : (ws : List ℕ) (i n : ℕ) → length (rows_from ws i n) ≡ n
unfolding rows_from
length_rows ws i zero = refl
length_rows ws i (suc n) = ap suc (length_rows ws (i + 1) n)

row_from : (ws : List ℕ) (d : Row) (i n k : ℕ) → k < n → get_or (rows_from ws i n) k d ≡ row_here ws (i + k)
unfolding rows_from
row_from ws d i zero k h = absurd (omega arith)
row_from ws d i (suc n) zero h = let e : i + 0 ≡ i = omega arith in rw e refl
row_from ws d i (suc n) (suc k) h =
    let e : i + 1 + k ≡ i + suc k = omega arith in
    rw (← e) (row_from ws d (i + 1) n k (omega arith))

pub row_numbered : (ws : List ℕ) (d : Row) (i : ℕ) → i < 8 → get_or (rows_in ws) i d ≡ row_here ws i
row_numbered ws d i h = row_from ws d 0 8 i h ∙ rw (zero-add i) refl

pub row_place : (ws : List ℕ) (i : ℕ) → i < 8 → i < used_in ws → row_of (rows_in ws) i ≡ row_in ws (1 + 11 * i)
row_place ws i h u = row_numbered ws (row_of [] 0) i h ∙ row_used ws i u

pub row_none : (ws : List ℕ) (i : ℕ) → i < 8 → used_in ws ≤ i → row_of (rows_in ws) i ≡ no_row
row_none ws i h u = row_numbered ws (row_of [] 0) i h ∙ row_unused ws i u

-- a row with pages is one of those in use
pub in_use : (ws : List ℕ) (i : ℕ) → i < 8 → ((row_of (rows_in ws) i).pages ≡ 0 → ⊥) → i < used_in ws
in_use ws i h n = go (dec_lt i (used_in ws))
  where
    go : Dec (i < used_in ws) → i < used_in ws
    go (yes u) = u
    go (no u) = absurd (n (ap (λ (row : Row). row.pages) (row_none ws i h (omega arith))))

-- ---- the two lists of a level

-- where their three words begin
abbrev pub place : ℕ → ℕ → ℕ
place i level = 3 + 11 * i + 3 * level

-- a row, part by part
row_parts : (ws : List ℕ) (i : ℕ)
    → row_in ws (1 + 11 * i)
    ≡ record {
      start = record { 0 = word_in ws (1 + 11 * i) };
      pages = word_in ws (2 + 11 * i);
      lists =
          first_in ws (place i 0)
          ∷ second_in ws (place i 0)
          ∷ first_in ws (place i 1)
          ∷ second_in ws (place i 1)
          ∷ first_in ws (place i 2)
          ∷ second_in ws (place i 2)
          ∷ [];
    }
unfolding row_in
row_parts ws i =
    let p : 1 + 11 * i + 1 ≡ 2 + 11 * i = omega arith in
    let a : 1 + 11 * i + 2 ≡ place i 0 = omega arith in
    let b : 1 + 11 * i + 5 ≡ place i 1 = omega arith in
    let c : 1 + 11 * i + 8 ≡ place i 2 = omega arith in
    rw (p, a, b, c) refl

pub list_place : (ws : List ℕ) (i level : ℕ) → InUse ws i → level < 3
    → (list_in (row_of (rows_in ws) i) (2 * level) ≡ first_in ws (place i level))
    × (list_in (row_of (rows_in ws) i) (2 * level + 1) ≡ second_in ws (place i level))
list_place ws i level u l = rw (row_place ws i u.1 u.2) (go level l)
  where
    go : (j : ℕ) → j < 3 → (list_in (row_in ws (1 + 11 * i)) (2 * j) ≡ first_in ws (place i j)) × (list_in (row_in ws (1 + 11 * i)) (2 * j + 1) ≡ second_in ws (place i j))
    go zero h = rw (row_parts ws i) (refl, refl)
    go (suc zero) h = rw (row_parts ws i) (refl, refl)
    go (suc (suc zero)) h = rw (row_parts ws i) (refl, refl)
    go (suc (suc (suc j))) h = absurd (omega arith)

-- an even number is that of a first list, an odd one of a second
pub list_numbered : (ws : List ℕ) (i k : ℕ) → InUse ws i → k < 6
    → cond (eqb (k % 2) 1) (second_in ws (place i (k / 2))) (first_in ws (place i (k / 2))) ≡ list_in (row_of (rows_in ws) i) k
list_numbered ws i k u l = go (ℕ_discrete (k % 2) 1)
  where
    go : Dec (k % 2 ≡ 1)
        → cond (eqb (k % 2) 1) (second_in ws (place i (k / 2))) (first_in ws (place i (k / 2))) ≡ list_in (row_of (rows_in ws) i) k
    go (yes e) =
        let m : 2 * (k / 2) + 1 ≡ k = omega arith in
        rw (eq-eqb (k % 2) 1 e) (sym (rw m at (list_place ws i (k / 2) u (omega arith)).1))
    go (no d) =
        let m : 2 * (k / 2) ≡ k = omega arith in
        rw (ne_eqb (k % 2) 1 d) (sym (rw m at (list_place ws i (k / 2) u (omega arith)).0))

-- a row of which nothing but these two has changed
module _ (ws vs : List ℕ) (i : ℕ) (a b : Links) where
  pub row_changed
      : (level : ℕ) → level < 3 → word_in vs (1 + 11 * i) ≡ word_in ws (1 + 11 * i) → word_in vs (2 + 11 * i) ≡ word_in ws (2 + 11 * i)
      → (first_in vs (place i level) ≡ a) × (second_in vs (place i level) ≡ b)
      → ((j : ℕ) → (j ≡ level → ⊥) → (first_in vs (place i j) ≡ first_in ws (place i j)) × (second_in vs (place i j) ≡ second_in ws (place i j)))
      → row_in vs (1 + 11 * i) ≡ with_list (with_list (row_in ws (1 + 11 * i)) (2 * level) a) (2 * level + 1) b
  row_changed zero h s p e t =
      let x = t 1 (λ d. omega arith) in
      let y = t 2 (λ d. omega arith) in
      rw (row_parts vs i, row_parts ws i) (cc)
  row_changed (suc zero) h s p e t =
      let x = t 0 (λ d. omega arith) in
      let y = t 2 (λ d. omega arith) in
      rw (row_parts vs i, row_parts ws i) (cc)
  row_changed (suc (suc zero)) h s p e t =
      let x = t 0 (λ d. omega arith) in
      let y = t 1 (λ d. omega arith) in
      rw (row_parts vs i, row_parts ws i) (cc)
  row_changed (suc (suc (suc level))) h s p e t = absurd (omega arith)

-- ---- all rows

-- rows whose words stand there as far as they are in use, and that are unused ones behind
pub rows_stand : (ws : List ℕ) (rows : List Row) → Narrow rows → drop (used_in ws) rows ≡ replicate (8 - used_in ws) no_row
    → ((i k : ℕ) → i < 8 → i < used_in ws → k < 11 → word_in ws (1 + 11 * i + k) ≡ word_in (row_words (get_or rows i no_row)) k)
    → rows_in ws ≡ rows
rows_stand ws rows n e w =
    ext_get_or no_row (rows_in ws) rows (length_rows ws 0 8 ∙ sym n.eight)
    (λ i h. let l : i < 8 = omega (arith, length_rows ws 0 8) in row_numbered ws no_row i l ∙ go i l (dec_lt i (used_in ws)))
  where
    go : (i : ℕ) → i < 8 → Dec (i < used_in ws) → row_here ws i ≡ get_or rows i no_row
    go i l (yes u) =
        let row : Row = get_or rows i no_row in
        row_used ws i u
        ∙ row_same ws (row_words row) (1 + 11 * i) 0 (λ k m. rw (zero-add k) (w i k l u m))
        ∙ row_read row (n.narrow i l)
    go i l (no u) =
        let used : ℕ = used_in ws in
        let j : ℕ = i - used in
        let s : used + j ≡ i = omega arith in
        row_unused ws i (omega arith)
        ∙ sym (get_or-replicate (8 - used) j no_row no_row (omega arith))
        ∙ ap (λ (rs : List Row). get_or rs j no_row) (sym e)
        ∙ (rw s at (get_or-drop used rows j no_row))
