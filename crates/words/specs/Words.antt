-- The state of a store as 512 words of 64 bits, in which a kernel lends it: version 2 of this layout.
--   0            the version, in the low half, and how many rows are in use, in the high half
--   1 to 88      the eight rows, eleven words each: the start, the pages, and the six lists as eighteen 32-bit numbers, two to a word, the first in the low half:
--                of each level the dirty list's front and back, the zeroed list's, and the two counts
--   89           how many places of the queue are taken
--   90 and 91    the pass: its rounds and what it freed
--   92 to 100    the nine counters
--   101 to 511   reserved: they have no meaning yet
-- No call reads or writes the reserved words and those that stand behind the state, nor, where the counters are lent as a record of their own, the words 92 to 100. Of
-- the rows that are not in use a boot writes the words, and no later call reads or writes them.
use Rattle.std.specs.Prelude.{ℕ, zero, suc, ◌+◌, ◌*◌, ◌/◌, ◌%◌, ◌≤◌, ◌<◌, Bool, cond, ◌&&◌, List, [], ◌∷◌, ◌++◌, ◌≡◌, eqb, leb, ltb, get_or, length, take, drop, set}
use Rattle.definition.specs.declared.Links.{Links}
use Rattle.definition.specs.declared.Row.{Row}
use Rattle.definition.specs.declared.Counters.{Counters}
use Rattle.definition.specs.declared.Pass.{Pass}
use Rattle.definition.specs.Board.{Board, standard}
use Rattle.definition.specs.Boot.{most_rows}
use Rattle.definition.specs.World.{no_links, no_row}
use Rattle.record.specs.Records.{with_bytes}

abbrev pub word_in : List ℕ → ℕ → ℕ
word_in ws i = get_or ws i 0

abbrev pub is_zero : ℕ → Bool
is_zero w = eqb w 0

-- ---- the layout

abbrev pub version : ℕ
version = 2

-- how many words there are
abbrev pub state_words : ℕ
state_words = 512

-- how many of them a row has, and where the first of the row i stands
abbrev pub row_words_each : ℕ
row_words_each = 11

abbrev pub row_at : ℕ → ℕ
row_at i = 1 + row_words_each * i

abbrev pub queued_at : ℕ
queued_at = 89

abbrev pub pass_at : ℕ
pass_at = 90

abbrev pub counters_at : ℕ
counters_at = 92

-- there are words enough for a state
abbrev pub Long : List ℕ → Type 0
Long ws = state_words ≤ length ws

-- the board that the words are of: every state is of the standard one, and no word holds its numbers
unfoldable pub board_in : List ℕ → Board
board_in ws = standard

-- ---- read

abbrev pub low_half : ℕ → ℕ
low_half w = w % 4294967296

abbrev pub high_half : ℕ → ℕ
high_half w = w / 4294967296

-- two lists stand in three words: the ends of the one, those of the other, and both counts
abbrev pub first_in : List ℕ → ℕ → Links
first_in ws at =
    record { front = low_half (word_in ws at); back = high_half (word_in ws at); count = low_half (word_in ws (at + 2)) }

abbrev pub second_in : List ℕ → ℕ → Links
second_in ws at =
    record { front = low_half (word_in ws (at + 1)); back = high_half (word_in ws (at + 1)); count = high_half (word_in ws (at + 2)) }

unfoldable pub row_in : List ℕ → ℕ → Row
row_in ws at =
    record {
      start = record { 0 = word_in ws at };
      pages = word_in ws (at + 1);
      lists =
          first_in ws (at + 2)
          ∷ second_in ws (at + 2)
          ∷ first_in ws (at + 5)
          ∷ second_in ws (at + 5)
          ∷ first_in ws (at + 8)
          ∷ second_in ws (at + 8)
          ∷ [];
    }

-- how many rows are in use: the high half of the first word
abbrev pub used_in : List ℕ → ℕ
used_in ws = high_half (word_in ws 0)

-- there are words enough for a state, and its row i is in use
abbrev pub InUse : List ℕ → ℕ → Type 0
InUse ws i = Long ws × (i < most_rows) × (i < used_in ws)

-- the row i: behind those in use it is an unused one, whatever its words are
abbrev pub row_here : List ℕ → ℕ → Row
row_here ws i = cond (ltb i (used_in ws)) (row_in ws (row_at i)) no_row

-- so many rows, the first of which is the i-th
unfoldable pub rows_from : List ℕ → ℕ → ℕ → List Row
rows_from ws i zero = []
rows_from ws i (suc n) = row_here ws i ∷ rows_from ws (i + 1) n

abbrev pub rows_in : List ℕ → List Row
rows_in ws = rows_from ws 0 most_rows

-- a place of a list of rows
abbrev pub row_of : List Row → ℕ → Row
row_of rows i = get_or rows i (record { start = record { 0 = 0 }; pages = 0; lists = [] })

abbrev pub queued_in : List ℕ → ℕ
queued_in ws = word_in ws queued_at

abbrev pub pass_in : List ℕ → Pass
pass_in ws = record { rounds = word_in ws pass_at; freed = word_in ws (pass_at + 1) }

unfoldable pub counters_in : List ℕ → Counters
counters_in ws =
    record {
      kernel_used = word_in ws counters_at;
      page_data = word_in ws (counters_at + 1);
      idle = word_in ws (counters_at + 2);
      total = word_in ws (counters_at + 3);
      allocated = word_in ws (counters_at + 4);
      freed = word_in ws (counters_at + 5);
      reclaimed = word_in ws (counters_at + 6);
      waiting = word_in ws (counters_at + 7);
      pager_outstanding = word_in ws (counters_at + 8);
    }

-- enough words, of this version, and no more rows in use than there are
abbrev pub is_kept : List ℕ → Bool
is_kept ws = leb state_words (length ws) && (eqb (low_half (word_in ws 0)) version && leb (used_in ws) most_rows)

-- ---- written

abbrev pub joined : ℕ → ℕ → ℕ
joined low high = low + 4294967296 * high

abbrev pub pair_words : Links → Links → List ℕ
pair_words a b = joined a.front a.back ∷ joined b.front b.back ∷ joined a.count b.count ∷ []

abbrev pub list_in : Row → ℕ → Links
list_in row k = get_or row.lists k no_links

-- a row with another list k
abbrev pub with_list : Row → ℕ → Links → Row
with_list row k l = record { start = row.start; pages = row.pages; lists = set row.lists k l }

unfoldable pub row_words : Row → List ℕ
row_words row =
    row.start.0
    ∷ row.pages
    ∷ (pair_words (list_in row 0) (list_in row 1) ++ (pair_words (list_in row 2) (list_in row 3) ++ pair_words (list_in row 4) (list_in row 5)))

unfoldable pub rows_words : List Row → List ℕ
rows_words [] = []
rows_words (row ∷ rows) = row_words row ++ rows_words rows

-- all that is kept beside the counters, where so many rows are in use
unfoldable pub kept_of : ℕ → List Row → ℕ → Pass → List ℕ
kept_of used rows queued pass = joined version used ∷ (rows_words rows ++ (queued ∷ pass.rounds ∷ pass.freed ∷ []))

-- the same over words of which so many rows are in use already: the first word stays, and so do the words of the unused rows
unfoldable pub kept_in : List ℕ → List Row → ℕ → Pass → List ℕ
kept_in ws rows queued pass =
    with_bytes (with_bytes ws 1 (rows_words (take (used_in ws) rows))) queued_at (queued ∷ pass.rounds ∷ pass.freed ∷ [])

unfoldable pub counter_words : Counters → List ℕ
counter_words c =
    c.kernel_used
    ∷ c.page_data
    ∷ c.idle
    ∷ c.total
    ∷ c.allocated
    ∷ c.freed
    ∷ c.reclaimed
    ∷ c.waiting
    ∷ c.pager_outstanding
    ∷ []

-- ---- what stays

-- of the words ws the rows in use, the queue's count and the pass may have changed; the first word, those of the unused rows and all from the counters on have not
pub record Beside (ws vs : List ℕ) : Type 0 where
  pub version : word_in vs 0 ≡ word_in ws 0
  pub unused : (k : ℕ) → row_at (used_in ws) ≤ k → k < queued_at → word_in vs k ≡ word_in ws k
  pub behind : drop counters_at vs ≡ drop counters_at ws

-- nothing has changed but rows
pub record RowsBeside (ws vs : List ℕ) : Type 0 where
  pub beside : Beside ws vs
  pub queued : queued_in vs ≡ queued_in ws
  pub pass : pass_in vs ≡ pass_in ws

-- nothing but the row i
pub record RowBeside (ws : List ℕ) (i : ℕ) (vs : List ℕ) : Type 0 where
  pub rows : rows_in vs ≡ set (rows_in ws) i (row_of (rows_in vs) i)
  pub rest : RowsBeside ws vs

-- nothing but the queue's count, which is n
pub record QueuedBeside (ws : List ℕ) (n : ℕ) (vs : List ℕ) : Type 0 where
  pub beside : Beside ws vs
  pub rows : rows_in vs ≡ rows_in ws
  pub queued : queued_in vs ≡ n
  pub pass : pass_in vs ≡ pass_in ws

-- nothing but the pass, which is p
pub record PassBeside (ws : List ℕ) (p : Pass) (vs : List ℕ) : Type 0 where
  pub beside : Beside ws vs
  pub rows : rows_in vs ≡ rows_in ws
  pub queued : queued_in vs ≡ queued_in ws
  pub pass : pass_in vs ≡ p

-- ---- what the words can hold

-- numbers below 2^32
pub record NarrowLinks (l : Links) : Type 0 where
  pub front : l.front < 4294967296
  pub back : l.back < 4294967296
  pub count : l.count < 4294967296

-- six lists of such numbers
pub record NarrowRow (row : Row) : Type 0 where
  pub six : length row.lists ≡ 6
  pub narrow : (k : ℕ) → k < 6 → NarrowLinks (list_in row k)

-- eight such rows
pub record Narrow (rows : List Row) : Type 0 where
  pub eight : length rows ≡ most_rows
  pub narrow : (i : ℕ) → i < most_rows → NarrowRow (get_or rows i no_row)
