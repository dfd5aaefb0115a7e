-- Laws of the words: how many there are; that what stays through each of two changes stays through both; that what was read and is written again leaves them
-- as they were; and that what was written is read.
use Prim.Native.Nat.{ℕ, suc, ◌+◌, ◌-◌, ◌*◌, ◌/◌, ◌%◌, ◌≤◌, ◌<◌}
use mathlib.Core.List.{List, [], ◌∷◌, ◌++◌, append_assoc}
use mathlib.Core.Path.{◌≡◌, refl, sym, ap, ◌∙◌}
use mathlib.Core.Bool.{true}
use borrow.Author.Tests.{le-leb}
use native.Mathlib.Decide.{ℕ_discrete, dec_lt}
use native.Mathlib.Omega.{arith}
use lib.ListN.{length, get_or, set, take, drop, replicate, length-append, length-take, length-drop, take-append-drop, get_or-append}
use lib.Seq.{ext_get_or, set-get_or, set-set, get_or-append-add, get_or-take, get_or-drop, length-take-le, take-add}
use Rattle.definition.specs.Board.{Fit, standard}
use Rattle.definition.proofs.Boards.{standard_fit}
use Rattle.definition.specs.declared.Counters.{Counters}
use Rattle.definition.specs.declared.Pass.{Pass}
use Rattle.definition.specs.declared.Row.{Row}
use Rattle.definition.specs.World.{no_row}
use Rattle.record.specs.Records.{with_bytes}
use Rattle.record.proofs.Bytes.{with_length, with_in, with_out}
use Rattle.words.specs.Words.{
  Long,
  version,
  state_words,
  counters_at,
  Beside,
  board_in,
  InUse,
  RowBeside,
  RowsBeside,
  Narrow,
  word_in,
  row_of,
  rows_in,
  used_in,
  queued_in,
  pass_in,
  counters_in,
  is_kept,
  joined,
  row_words,
  rows_words,
  kept_of,
  kept_in,
  counter_words,
}
use Rattle.words.proofs.Reading.{run, run_taken, run_at, word_again, row_used, rows_same}
use Rattle.words.proofs.Rows.{length_rows_words, row_word}
use Rattle.words.proofs.Places.{length_rows, row_numbered, rows_stand}

-- ---- lengths

pub length_kept : (used : ℕ) (rows : List Row) (queued : ℕ) (pass : Pass) → length rows ≡ 8 → length (kept_of used rows queued pass) ≡ counters_at
unfolding kept_of
length_kept used rows queued pass e =
    ap suc (length-append (rows_words rows) (queued ∷ pass.rounds ∷ pass.freed ∷ [])) ∙ omega (arith, length_rows_words rows)

pub length_counters : (c : Counters) → length (counter_words c) ≡ 9
unfolding counter_words
length_counters c = refl

-- ---- what stays, of changes one after another

-- the board of any words is the standard one: for what is said of one board by name
pub board_is : (ws : List ℕ) → board_in ws ≡ standard
unfolding board_in
board_is ws = refl

-- the board of the words is fit, and stays with all that is beside what a call changes
pub fit_in : (ws : List ℕ) → Fit (board_in ws)
unfolding board_in
fit_in ws = standard_fit

pub board_beside : {ws vs : List ℕ} → Beside ws vs → board_in vs ≡ board_in ws
unfolding board_in
board_beside b = refl

pub beside_same : {ws : List ℕ} → Beside ws ws
beside_same = record { version = refl; unused = λ k a b. refl; behind = refl }

pub beside_then : {ws vs us : List ℕ} → Beside ws vs → Beside vs us → Beside ws us
beside_then b d =
    record {
      version = d.version ∙ b.version;
      unused = λ k h l. d.unused k (rw b.version h) l ∙ b.unused k h l;
      behind = d.behind ∙ b.behind;
    }

pub rows_beside_same : {ws : List ℕ} → RowsBeside ws ws
rows_beside_same = record { beside = beside_same; queued = refl; pass = refl }

pub rows_beside_then : {ws vs us : List ℕ} → RowsBeside ws vs → RowsBeside vs us → RowsBeside ws us
rows_beside_then b d =
    record {
      beside = beside_then b.beside d.beside;
      queued = d.queued ∙ b.queued;
      pass = d.pass ∙ b.pass;
    }

pub row_beside_same : {ws : List ℕ} {i : ℕ} → RowBeside ws i ws
row_beside_same {ws} {i} = record { rows = sym (set-get_or (rows_in ws) i (row_of [] 0)); rest = rows_beside_same }

pub row_beside_then : {ws vs us : List ℕ} {i : ℕ} → RowBeside ws i vs → RowBeside vs i us → RowBeside ws i us
row_beside_then {ws} {vs} {us} {i} b d =
    record {
      rows = d.rows ∙ ap (λ (rows : List Row). set rows i (row_of (rows_in us) i)) b.rows ∙ set-set (rows_in ws) i (row_of (rows_in vs) i) (row_of (rows_in us) i);
      rest = rows_beside_then b.rest d.rest;
    }

-- a row in use stays in use
pub in_use_then : {ws vs : List ℕ} {i : ℕ} → length vs ≡ length ws → RowsBeside ws vs → InUse ws i → InUse vs i
in_use_then e b u = rw (e, b.beside.version) u

-- ---- all written, as a boot does, and read
module _ (ws : List ℕ) (used : ℕ) (rows : List Row) (queued : ℕ) (pass : Pass) (h : Long ws) where
  abbrev behind : List ℕ
  behind = queued ∷ pass.rounds ∷ pass.freed ∷ drop counters_at ws

  split : length rows ≡ 8 → with_bytes ws 0 (kept_of used rows queued pass) ≡ joined version used ∷ (rows_words rows ++ behind)
  unfolding with_bytes kept_of
  split e = rw (length_kept used rows queued pass e, append_assoc (rows_words rows) (queued ∷ pass.rounds ∷ pass.freed ∷ []) (drop counters_at ws)) refl

  -- the three words behind the rows
  tail : length rows ≡ 8 → (k : ℕ) → word_in (with_bytes ws 0 (kept_of used rows queued pass)) (89 + k) ≡ word_in behind k
  tail e k =
      let n : length (joined version used ∷ rows_words rows) ≡ 89 = ap suc (length_rows_words rows) ∙ omega arith in
      rw (split e) (rw n at (get_or-append-add (joined version used ∷ rows_words rows) behind k 0))

  first : length rows ≡ 8 → word_in (with_bytes ws 0 (kept_of used rows queued pass)) 0 ≡ joined version used
  first e = rw (split e) refl

  pub used_written : length rows ≡ 8 → used_in (with_bytes ws 0 (kept_of used rows queued pass)) ≡ used
  used_written e = rw (first e) (omega arith)

  pub rows_written : used ≤ 8 → Narrow rows → drop used rows ≡ replicate (8 - used) no_row → rows_in (with_bytes ws 0 (kept_of used rows queued pass)) ≡ rows
  rows_written u n e =
      rows_stand (with_bytes ws 0 (kept_of used rows queued pass)) rows n (rw (used_written n.eight) e)
      (λ i k l m j.
      let s : 1 + 11 * i + k ≡ 1 + (11 * i + k) = omega arith in
      rw (s, split n.eight)
      (get_or-append-add (joined version used ∷ []) (rows_words rows ++ behind) (11 * i + k) 0
      ∙ get_or-append (rows_words rows) behind 0 (11 * i + k) (omega (arith, length_rows_words rows, n.eight))
      ∙ row_word rows i k no_row (omega (arith, n.eight)) j))

  pub queued_written : length rows ≡ 8 → queued_in (with_bytes ws 0 (kept_of used rows queued pass)) ≡ queued
  queued_written e = tail e 0

  pub pass_written : length rows ≡ 8 → pass_in (with_bytes ws 0 (kept_of used rows queued pass)) ≡ pass
  pass_written e = rw (tail e 1, tail e 2) refl

  pub kept_written : length rows ≡ 8 → used ≤ 8 → is_kept (with_bytes ws 0 (kept_of used rows queued pass)) ≡ true
  kept_written e most =
      let n : length (kept_of used rows queued pass) ≡ counters_at = length_kept used rows queued pass e in
      let o : joined version used % 4294967296 ≡ version = omega arith in
      let u : joined version used / 4294967296 ≡ used = omega arith in
      rw (with_length ws 0 (kept_of used rows queued pass) (omega arith), le-leb state_words (length ws) h, first e, o, u, le-leb used 8 most) refl

-- ---- written over the rows in use: word by word
module _ (ws : List ℕ) (rows : List Row) (queued : ℕ) (pass : Pass) (h : Long ws) (e : length rows ≡ 8) where
  abbrev front : List ℕ
  front = rows_words (take (used_in ws) rows)

  abbrev three : List ℕ
  three = queued ∷ pass.rounds ∷ pass.freed ∷ []

  -- as many rows as are in use, of the eight
  taken : (n : ℕ) → n < 8 → n < used_in ws → n < length (take (used_in ws) rows)
  taken n l u = rw length-take (omega arith)

  long : (length front ≤ 88) × (length front ≤ 11 * used_in ws)
  long =
      let t : length (take (used_in ws) rows) ≤ 8 = rw length-take (omega arith) in
      let u : length (take (used_in ws) rows) ≤ used_in ws = rw length-take (omega arith) in
      (omega (arith, length_rows_words (take (used_in ws) rows)), omega (arith, length_rows_words (take (used_in ws) rows)))

  middle : length (with_bytes ws 1 front) ≡ length ws
  middle = with_length ws 1 front (omega (arith, long.0))

  all_words : length (kept_in ws rows queued pass) ≡ length ws
  unfolding kept_in
  all_words = with_length (with_bytes ws 1 front) 89 three (omega (arith, middle)) ∙ middle

  word_behind : (k : ℕ) → k < 3 → word_in (kept_in ws rows queued pass) (89 + k) ≡ word_in three k
  unfolding kept_in
  word_behind k l = with_in (with_bytes ws 1 front) 89 three (omega (arith, middle)) k l

  word_row : (i k : ℕ) → i < 8 → i < used_in ws → k < 11 → word_in (kept_in ws rows queued pass) (1 + 11 * i + k) ≡ word_in (row_words (get_or rows i no_row)) k
  unfolding kept_in
  word_row i k l u m =
      let s : 1 + 11 * i + k ≡ 1 + (11 * i + k) = omega arith in
      let t : i < length (take (used_in ws) rows) = taken i l u in
      with_out (with_bytes ws 1 front) 89 three (omega (arith, middle)) (1 + 11 * i + k) (λ a b. omega arith)
      ∙ rw s (with_in ws 1 front (omega (arith, long.0)) (11 * i + k) (omega (arith, length_rows_words (take (used_in ws) rows))))
      ∙ row_word (take (used_in ws) rows) i k no_row t m
      ∙ ap (λ (row : Row). word_in (row_words row) k) (get_or-take (used_in ws) rows i no_row u)

  word_else : (k : ℕ) → (89 ≤ k → k < counters_at → ⊥) → (1 ≤ k → k < 89 → k < 1 + 11 * used_in ws → ⊥) → word_in (kept_in ws rows queued pass) k ≡ word_in ws k
  unfolding kept_in
  word_else k m o =
      with_out (with_bytes ws 1 front) 89 three (omega (arith, middle)) k (λ a b. m a b)
      ∙ with_out ws 1 front (omega (arith, long.0)) k (λ a b. o a (omega (arith, long.0)) (omega (arith, long.1)))

-- ---- and read
module _ (ws : List ℕ) (rows : List Row) (queued : ℕ) (pass : Pass) (h : Long ws) (n : Narrow rows) where
  pub length_in : length (kept_in ws rows queued pass) ≡ length ws
  length_in = all_words ws rows queued pass h n.eight

  pub first_in_lem : word_in (kept_in ws rows queued pass) 0 ≡ word_in ws 0
  first_in_lem = word_else ws rows queued pass h n.eight 0 (λ a b. omega arith) (λ a b c. omega arith)

  pub rows_in_lem : drop (used_in ws) rows ≡ replicate (8 - used_in ws) no_row → rows_in (kept_in ws rows queued pass) ≡ rows
  rows_in_lem e =
      rows_stand (kept_in ws rows queued pass) rows n (rw first_in_lem e)
      (λ i k l u m. word_row ws rows queued pass h n.eight i k l (rw (← first_in_lem) u) m)

  pub queued_in_lem : queued_in (kept_in ws rows queued pass) ≡ queued
  queued_in_lem = word_behind ws rows queued pass h n.eight 0 (omega arith)

  pub pass_in_lem : pass_in (kept_in ws rows queued pass) ≡ pass
  pass_in_lem =
      let w : (k : ℕ) → k < 3 → word_in (kept_in ws rows queued pass) (89 + k) ≡ word_in (queued ∷ pass.rounds ∷ pass.freed ∷ []) k =
      word_behind ws rows queued pass h n.eight
      in
      rw (w 1 (omega arith), w 2 (omega arith)) refl

-- ---- read and written again

module _ (ws vs : List ℕ) (h : Long ws) (b : Beside ws vs) where
  abbrev kept : List ℕ
  kept = kept_in ws (rows_in vs) (queued_in vs) (pass_in vs)

  eight : length (rows_in vs) ≡ 8
  eight = length_rows vs 0 8

  -- a word that is not written is one that stays
  stays : (k : ℕ) → (89 ≤ k → k < counters_at → ⊥) → (1 ≤ k → k < 89 → k < 1 + 11 * used_in ws → ⊥) → word_in vs k ≡ word_in ws k → word_in kept k ≡ word_in vs k
  stays k m o e = word_else ws (rows_in vs) (queued_in vs) (pass_in vs) h eight k m o ∙ sym e

  in_row : (i k : ℕ) → i < 8 → i < used_in ws → k < 11 → word_in kept (1 + 11 * i + k) ≡ word_in vs (1 + 11 * i + k)
  in_row i k j u m =
      word_row ws (rows_in vs) (queued_in vs) (pass_in vs) h eight i k j u m
      ∙ ap (λ (row : Row). word_in (row_words row) k) (row_numbered vs no_row i j ∙ row_used vs i (rw b.version u))
      ∙ word_again vs (1 + 11 * i) k m

  word : (k : ℕ) → Dec (k < counters_at) → Dec (k < 89) → Dec (k < 1 + 11 * used_in ws) → Dec (k ≡ 0) → word_in kept k ≡ word_in vs k
  word k (no m) d u z =
      let e : counters_at + (k - counters_at) ≡ k = omega arith in
      let s : word_in vs (counters_at + (k - counters_at)) ≡ word_in ws (counters_at + (k - counters_at)) =
      sym (get_or-drop counters_at vs (k - counters_at) 0) ∙ ap (λ (xs : List ℕ). get_or xs (k - counters_at) 0) b.behind ∙ get_or-drop counters_at ws (k - counters_at) 0
      in
      stays k (λ x y. omega arith) (λ x y t. omega arith) (rw e at s)
  word k (yes m) (no d) u z =
      let e : 89 + (k - 89) ≡ k = omega arith in
      rw e at (word_behind ws (rows_in vs) (queued_in vs) (pass_in vs) h eight (k - 89) (omega arith) ∙ run_at 0 vs 89 3 (k - 89) (omega arith))
  word k (yes m) (yes d) (no u) z = stays k (λ x y. omega arith) (λ x y t. omega arith) (b.unused k (omega arith) d)
  word k (yes m) (yes d) (yes u) (yes z) = stays k (λ x y. omega arith) (λ x y t. omega arith) (rw z b.version)
  word k (yes m) (yes d) (yes u) (no z) =
      let e : 1 + 11 * ((k - 1) / 11) + (k - 1) % 11 ≡ k = omega arith in
      rw e at (in_row ((k - 1) / 11) ((k - 1) % 11) (omega arith) (omega arith) (omega arith))

-- what is kept of the words vs, written over words that they stand beside
pub kept_from : (ws vs : List ℕ) → Long ws → length vs ≡ length ws → Beside ws vs → kept_in ws (rows_in vs) (queued_in vs) (pass_in vs) ≡ vs
kept_from ws vs h l b =
    ext_get_or 0 (kept_in ws (rows_in vs) (queued_in vs) (pass_in vs)) vs
    (all_words ws (rows_in vs) (queued_in vs) (pass_in vs) h (length_rows vs 0 8) ∙ sym l)
    (λ k m. word ws vs h b k (dec_lt k counters_at) (dec_lt k 89) (dec_lt k (1 + 11 * used_in ws)) (ℕ_discrete k 0))

pub kept_again : (ws : List ℕ) → Long ws → kept_in ws (rows_in ws) (queued_in ws) (pass_in ws) ≡ ws
kept_again ws h = kept_from ws ws h refl beside_same

-- ---- the counters

again : (ws : List ℕ) (at n : ℕ) → at + n ≤ length ws → with_bytes ws at (run 0 ws at n) ≡ ws
unfolding with_bytes
again ws at n h =
    let l : length (take n (drop at ws)) ≡ n = length-take-le n (drop at ws) (rw length-drop (omega arith)) in
    rw (run_taken 0 ws at n h, l, ← take-add at n ws) (take-append-drop (at + n) ws)

pub counters_again : (ws : List ℕ) → Long ws → with_bytes ws counters_at (counter_words (counters_in ws)) ≡ ws
unfolding counters_in counter_words
counters_again ws h = again ws counters_at 9 (omega arith)

module _ (ws : List ℕ) (c : Counters) (h : Long ws) where
  pub counters_written : counters_in (with_bytes ws counters_at (counter_words c)) ≡ c
  unfolding counters_in counter_words
  counters_written =
      let w : (k : ℕ) → k < 9 → word_in (with_bytes ws counters_at (counter_words c)) (counters_at + k) ≡ get_or (counter_words c) k 0 = with_in ws counters_at (counter_words c) (omega arith) in
      rw (
        w 0 (omega arith),
        w 1 (omega arith),
        w 2 (omega arith),
        w 3 (omega arith),
        w 4 (omega arith),
        w 5 (omega arith),
        w 6 (omega arith),
        w 7 (omega arith),
        w 8 (omega arith),
      ) refl

  -- all else stays
  same : (k : ℕ) → k < counters_at → word_in (with_bytes ws counters_at (counter_words c)) k ≡ word_in ws k
  same k l = with_out ws counters_at (counter_words c) (omega (arith, length_counters c)) k (λ a b. omega arith)

  pub first_kept : word_in (with_bytes ws counters_at (counter_words c)) 0 ≡ word_in ws 0
  first_kept = same 0 (omega arith)

  pub rows_kept : rows_in (with_bytes ws counters_at (counter_words c)) ≡ rows_in ws
  rows_kept = rows_same (with_bytes ws counters_at (counter_words c)) ws 0 8 (omega arith) (λ k l. same k (omega arith))

  pub queued_kept : queued_in (with_bytes ws counters_at (counter_words c)) ≡ queued_in ws
  queued_kept = same 89 (omega arith)

  pub pass_kept : pass_in (with_bytes ws counters_at (counter_words c)) ≡ pass_in ws
  pass_kept = rw (same 90 (omega arith), same 91 (omega arith)) refl

  pub is_kept_kept : is_kept (with_bytes ws counters_at (counter_words c)) ≡ is_kept ws
  is_kept_kept = rw (first_kept, with_length ws counters_at (counter_words c) (omega (arith, length_counters c))) refl
