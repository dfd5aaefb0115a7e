-- The words of several rows: how many they are, each of them, one row more, and all that `put_kept` writes.
use Prim.Native.Nat.{ℕ, zero, suc, ◌+◌, ◌*◌, ◌≤◌, ◌<◌}
use mathlib.Core.List.{List, [], ◌∷◌, ◌++◌, append_assoc, append-nil}
use mathlib.Core.Path.{◌≡◌, refl, sym, ap, ◌∙◌}
use native.Mathlib.Numerals.{add-one}
use native.Mathlib.Omega.{arith}
use lib.ListN.{length, get_or, take, set, length-append, get_or-append}
use lib.Seq.{length-take-le, take-suc, get_or-append-add}
use Rattle.definition.specs.declared.Pass.{Pass}
use Rattle.definition.specs.declared.Row.{Row}
use Rattle.record.specs.Records.{with_bytes}
use Rattle.record.proofs.Bytes.{with_length, with_then}
use Rattle.words.specs.Words.{Long, version, word_in, row_words, rows_words, joined, kept_of}
use Rattle.words.proofs.Stores.{stores}

length_row_words : (row : Row) → length (row_words row) ≡ 11
unfolding row_words
length_row_words row = refl

pub length_rows_words : (rows : List Row) → length (rows_words rows) ≡ 11 * length rows
unfolding rows_words
length_rows_words [] = refl
length_rows_words (row ∷ rows) =
    length-append (row_words row) (rows_words rows) ∙ omega (arith, length_row_words row, length_rows_words rows)

-- a word of a row
pub row_word : (rows : List Row) (i k : ℕ) (d : Row) → i < length rows → k < 11 → word_in (rows_words rows) (11 * i + k) ≡ word_in (row_words (get_or rows i d)) k
unfolding rows_words
row_word [] i k d h l = absurd (omega arith)
row_word (row ∷ rows) zero k d h l =
    let e : 11 * 0 + k ≡ k = omega arith in
    rw e (get_or-append (row_words row) (rows_words rows) 0 k (omega (arith, length_row_words row)))
row_word (row ∷ rows) (suc i) k d h l =
    let e : 11 * suc i + k ≡ length (row_words row) + (11 * i + k) = omega (arith, length_row_words row) in
    rw e (get_or-append-add (row_words row) (rows_words rows) (11 * i + k) 0 ∙ row_word rows i k d (omega arith) l)

rows_snoc : (rows : List Row) (row : Row) → rows_words (rows ++ (row ∷ [])) ≡ rows_words rows ++ row_words row
unfolding rows_words
rows_snoc [] row = append-nil (row_words row)
rows_snoc (first ∷ rows) row = rw (rows_snoc rows row) (sym (append_assoc (row_words first) (rows_words rows) (row_words row)))

-- a turn of `put_kept`
pub row_more : (ws : List ℕ) (rows : List Row) (i : ℕ) (d : Row) → i < length rows → 12 + 11 * i ≤ length ws
    → with_bytes (with_bytes ws 1 (rows_words (take i rows))) (1 + 11 * i) (row_words (get_or rows i d)) ≡ with_bytes ws 1 (rows_words (take (i + 1) rows))
row_more ws rows i d h k =
    let n : length (rows_words (take i rows)) ≡ 11 * i = length_rows_words (take i rows) ∙ ap (λ (m : ℕ). 11 * m) (length-take-le i rows (omega arith)) in
    (rw n at (with_then ws 1 (rows_words (take i rows)) (omega arith) (row_words (get_or rows i d))))
    ∙ rw (add-one, take-suc rows i d, rows_snoc (take i rows) (get_or rows i d)) refl

pub kept_stores : (ws : List ℕ) (used : ℕ) (rows : List Row) (queued : ℕ) (pass : Pass) → length rows ≡ 8 → Long ws
    → set (set (set (with_bytes (set ws 0 (joined version used)) 1 (rows_words rows)) 89 queued) 90 pass.rounds) 91 pass.freed
    ≡ with_bytes ws 0 (kept_of used rows queued pass)
unfolding kept_of
kept_stores ws used rows queued pass e h =
    let first : List ℕ = joined version used ∷ [] in
    let xs : List ℕ = joined version used ∷ rows_words rows in
    let ys : List ℕ = queued ∷ pass.rounds ∷ pass.freed ∷ [] in
    let n : length (rows_words rows) ≡ 88 = length_rows_words rows ∙ omega arith in
    let l : length (with_bytes ws 0 xs) ≡ length ws = with_length ws 0 xs (omega arith) in
    let m : 0 + length xs ≡ 89 = omega arith in
    rw (stores first ws 0 (omega arith), with_then ws 0 first (omega arith) (rows_words rows))
    (stores ys (with_bytes ws 0 xs) 89 (omega arith) ∙ (rw m at (with_then ws 0 xs (omega arith) ys)))
