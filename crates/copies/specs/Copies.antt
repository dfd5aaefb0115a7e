-- What the parts of a read and of a copy promise: `FindsIn` where the bytes that are read stand in the lent memory, `WritesBy` and
-- `MovesTo` what the workers of a copy leave of the loans, for every store that they hold.
use Rattle.std.specs.Prelude.{ℕ, ◌+◌, ◌*◌, ◌≤◌, ◌<◌, ◌^◌, cond, List, [], Option, Some, None, Result, Ok, Err, ◌≡◌, ltb, length, take, drop}
use Rattle.definition.specs.declared.Record.{Record}
use Rattle.definition.specs.declared.Row.{Row}
use Rattle.definition.specs.declared.Counters.{Counters}
use Rattle.definition.specs.declared.Refusal.{Refusal}
use Rattle.definition.specs.declared.Refusal.TheVariants.{Outside, PastTheEnd}
use Rattle.definition.specs.Board.{Board}
use Rattle.definition.specs.Frame.{size}
use Rattle.definition.specs.Allocator.{end}
use Rattle.definition.specs.Store.{Store}
use Rattle.definition.specs.Contents.{bytes_at, copy_contents_from_physaddr}
use Rattle.definition.specs.Calls.{Answer as AnswerOf, Refused, Done, Text, Bytes, Read, step}
use Rattle.definition.specs.World.{World, bare_region, encode, record_at}
use Rattle.words.specs.Words.{board_in, rows_in}
use Rattle.world.specs.Stands.{row_at}
use Rattle.allocator.specs.declared.Seen.{Seen}
use Rattle.allocator.specs.declared.Spot.{Spot}
use Rattle.allocator.specs.Spots.{number_in}
use Rattle.exam.specs.declared.lending.Contents.{Contents}
use Rattle.exam.specs.Promise.{Answer, HeldSeen, reply}
use Rattle.exam.specs.Making.{Reads, RoomIn, Whole, world}

-- ---- a read

-- the bytes that were read, none where the call was refused
abbrev pub bytes_of : AnswerOf → List ℕ
bytes_of (Refused r) = []
bytes_of (Done a n) = []
bytes_of (Text t) = []
bytes_of (Bytes t) = t

-- the answer of a read by where its bytes stand
abbrev pub read_by : Result ℕ Refusal → (len : ℕ) → Answer
read_by (Ok at) len = Ok (reply 0 len)
read_by (Err r) len = Err r

-- where the bytes of a read stand in every memory that has room for the managed pages
pub record FindsIn (ws rs : List ℕ) (a off len : ℕ) (x : Result ℕ Refusal) : Type 0 where
  pub makes : Reads (Read a off len) ws rs (read_by x len)
  pub inside : (at : ℕ) → x ≡ Ok at → (m : List ℕ) → RoomIn ws m → at + len ≤ length m
  pub bytes
      : (at : ℕ) → x ≡ Ok at → (k : Counters) (m q : List ℕ) (s : Store) → Whole (board_in ws) (world k ws rs m q) s
      → take len (drop at m) ≡ bytes_of (step (board_in ws) s (Read a off len)).answer

-- ---- a copy

module _ (board : Board) where
  -- a range of a held frame that was seen, in a loan of so many bytes
  pub record Spans (f : ℕ → Record) (rows : List Row) (memory : ℕ) (r : Seen) (off len : ℕ) : Type 0 where
    pub held : HeldSeen board f rows r
    pub range : off + len ≤ board.page * size r.level
    pub ends : board.page * r.spot.page + (off + len) ≤ memory

  -- the address behind the last managed page of the region where a page was seen
  abbrev pub end_seen : List Row → Seen → ℕ
  end_seen rows r = board.page * end board (bare_region board (row_at rows r.spot.index))

  -- the address a is of the region of a row in use
  pub record Inward (rows : List Row) (r : Seen) (a : ℕ) : Type 0 where
    pub index : r.spot.index < 8
    pub before : a < end_seen rows r
    pub bounded : end_seen rows r ≤ 2 ^ 40

  abbrev pub Placed : List Row → Option Seen → ℕ → Type 0
  Placed rows o a = (r : Seen) → o ≡ Some r → Inward rows r a

  -- 11 and 14 of a place that need only be managed, by what was seen at the address a
  abbrev pub place_seen : List Row → Option Seen → (a len : ℕ) → Result Seen Refusal
  place_seen rows None a len = Err Outside
  place_seen rows (Some r) a len = cond (ltb (end_seen rows r) (a + len)) (Err PastTheEnd) (Ok r)

  -- from the world w on, v is left, which holds the store t
  pub record Written (t : Store) (w v : World) : Type 0 where
    pub whole : Whole board v t
    pub world : encode board t w ≡ v

-- ---- the same of the contents that are lent

abbrev pub SpansIn : Contents → Seen → (off len : ℕ) → Type 0
SpansIn a r off len = Spans (board_in a.words.now) (record_at a.records.now) (rows_in a.words.now) (length a.memory.now) r off len

-- what was lent became that of what `op` makes of every store that it holds, whatever the counters and the queue
abbrev pub WritesBy : (Store → Store) → (a b : Contents) → Type 0
WritesBy op a b =
    (k : Counters) (q : List ℕ) (s : Store) → let w = world k a.words.now a.records.now a.memory.now q in Whole (board_in a.words.now) w s
    → Written (board_in a.words.now) (op s) w (world k a.words.now b.records.now b.memory.now q)

-- the same of a copy into the frame of a spot, from any address whose bytes are those of the loan from `from` on
abbrev pub MovesTo : Spot → (off from len : ℕ) → (a b : Contents) → Type 0
MovesTo spot off from len a b =
    (k : Counters) (q : List ℕ) (s : Store) → let w = world k a.words.now a.records.now a.memory.now q in Whole (board_in a.words.now) w s
    → (x : ℕ) → bytes_at s.memory x len ≡ take len (drop from a.memory.now)
    → Written (board_in a.words.now) (copy_contents_from_physaddr (board_in a.words.now) s (number_in a.words.now spot) off x len) w
    (world k a.words.now b.records.now b.memory.now q)
