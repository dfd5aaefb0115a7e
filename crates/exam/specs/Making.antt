-- What a call promises where the torn test was made before it: `Makes`. Of every store that the world holds, what the call leaves holds the store of definition's
-- `step`, and the answer is the step's, so that calls follow one another. A call is lent what it reads and writes; what it is not lent is bound by its promise,
-- and stays.
use Rattle.std.specs.Prelude.{ℕ, ◌+◌, ◌*◌, ◌≤◌, ◌<◌, ◌^◌, true, false, cond, List, Result, Ok, Err, ⊤, ◌≡◌, get_or, length}
use Rattle.definition.specs.declared.Counters.{Counters}
use Rattle.definition.specs.Board.{Board}
use Rattle.definition.specs.Boot.{managed_pages, overlap}
use Rattle.definition.specs.Calls.{Call, Outcome, step}
use Rattle.definition.specs.Store.{Store}
use Rattle.definition.specs.Torn.{regions_of, sound}
use Rattle.definition.specs.World.{World, encode, record_at}
use Rattle.record.specs.Records.{pages_in}
use Rattle.words.specs.Words.{board_in, Long, pass_in, queued_in, rows_in}
use Rattle.world.specs.Stands.{Stands}
use Rattle.world.specs.Tables.{Sane}
use Rattle.allocator.specs.Spots.{SaneIn}
use Rattle.allocator.specs.declared.Seen.{Seen}
use Rattle.definition.specs.declared.Refusal.{Refusal}
use Rattle.definition.specs.declared.Refusal.TheVariants.{Torn}
use Rattle.exam.specs.Promise.{Answer, Looks, state_with, told, world_of}

-- the world that the counters and the loans hold
abbrev pub world : Counters → (words records memory queue : List ℕ) → World
world k ws rs m q = world_of (state_with k ws) rs m q

-- ---- what a call asks for: the torn test gives all of it

-- words enough, and a sane table in them and the records
abbrev pub TableIn : (words records : List ℕ) → Type 0
TableIn ws rs = Long ws × SaneIn rs ws

-- every managed page has its bytes in the memory
abbrev pub RoomIn : (words memory : List ℕ) → Type 0
RoomIn ws m = (board_in ws).page * managed_pages (board_in ws) (regions_of (board_in ws) (rows_in ws)) ≤ length m

-- what was found of a range of a frame that must be held
abbrev pub LooksIn : (words records : List ℕ) → (a off len : ℕ) → Result Seen Refusal → Type 0
LooksIn ws rs a off len x = Looks (board_in ws) (record_at rs) (pages_in rs) (rows_in ws) a off len x

-- the counts of pages are far from the end of their 64 bits
pub record Few (k : Counters) : Type 0 where
  pub idle : k.idle < 2 ^ 57
  pub kernel : k.kernel_used < 2 ^ 57
  pub page : k.page_data < 2 ^ 57

-- the queue has room for what is in it, and the pass has not gone past its end
pub record PassIn (ws q : List ℕ) : Type 0 where
  pub queued : queued_in ws ≤ length q
  pub rounds : (pass_in ws).rounds ≤ (board_in ws).max_rounds + 1
  pub freed : (pass_in ws).freed ≤ (board_in ws).per_round * (pass_in ws).rounds

-- all of it
pub record Ready (k : Counters) (ws rs m q : List ℕ) : Type 0 where
  pub table : TableIn ws rs
  pub room : RoomIn ws m
  pub few : Few k
  pub pass : PassIn ws q

-- ---- the torn test

-- all that is lent is sound: what a call asks for, and that the records are bytes
pub record Passes (k : Counters) (ws rs m q : List ℕ) : Type 0 where
  pub is_sound : sound (board_in ws) (world k ws rs m q) ≡ true
  pub ready : Ready k ws rs m q
  pub bytes : (i : ℕ) → get_or rs i 0 < 256

-- what the test comes to
pub record Tests (k : Counters) (ws rs m q : List ℕ) (x : Result ⊤ Refusal) : Type 0 where
  pub result : x ≡ cond (sound (board_in ws) (world k ws rs m q)) (Ok tt) (Err Torn)
  pub torn : (r : Refusal) → x ≡ Err r → (r ≡ Torn) × (sound (board_in ws) (world k ws rs m q) ≡ false)
  pub passed : (u : ⊤) → x ≡ Ok u → Passes k ws rs m q

-- ---- what it promises

module _ (board : Board) where
  -- the table of the world w is sane, and w holds the store s, every byte of it
  pub record Whole (w : World) (s : Store) : Type 0 where
    pub sane : Sane board (record_at w.records) (pages_in w.records) w.rows
    pub apart : overlap board (regions_of board w.rows) ≡ false
    pub stands : Stands board w s
    pub bytes : (i : ℕ) → get_or w.records i 0 < 256

  -- from the world w on, v is left and y answered, which are those of o
  pub record Made (o : Outcome) (w v : World) (y : Answer) : Type 0 where
    pub whole : Whole v o.store
    pub world : encode board o.store w ≡ v
    pub answer : told o.answer ≡ y

  -- the call c on w, whatever store this holds
  abbrev pub Makes : Call → (w v : World) → Answer → Type 0
  Makes c w v y = (s : Store) → Whole w s → Made (step board s c) w v y

-- ---- by what a call is lent

-- the words and the records, to read
abbrev pub Reads : Call → (words records : List ℕ) → Answer → Type 0
Reads c ws rs y = (k : Counters) (m q : List ℕ) → Makes (board_in ws) c (world k ws rs m q) (world k ws rs m q) y

-- the words to read, the records to write
abbrev pub Marks : Call → (words records records' : List ℕ) → Answer → Type 0
Marks c ws rs rs' y = (k : Counters) (m q : List ℕ) → Makes (board_in ws) c (world k ws rs m q) (world k ws rs' m q) y

-- the words to read, the records and the memory to write
abbrev pub Writes : Call → (words records memory records' memory' : List ℕ) → Answer → Type 0
Writes c ws rs m rs' m' y = (k : Counters) (q : List ℕ) → Makes (board_in ws) c (world k ws rs m q) (world k ws rs' m' q) y

-- the counters, the words and the records, to write
abbrev pub Turns : Call → Counters → (words records : List ℕ) → Counters → (words' records' : List ℕ) → Answer → Type 0
Turns c k ws rs k' ws' rs' y = (m q : List ℕ) → Makes (board_in ws) c (world k ws rs m q) (world k' ws' rs' m q) y

-- those and the memory, to write
abbrev pub Grants : Call → Counters → (words records memory : List ℕ) → Counters → (words' records' memory' : List ℕ) → Answer → Type 0
Grants c k ws rs m k' ws' rs' m' y = (q : List ℕ) → Makes (board_in ws) c (world k ws rs m q) (world k' ws' rs' m' q) y

-- the words and the queue to write, the records to read
abbrev pub Queues : Call → (words records queue words' queue' : List ℕ) → Answer → Type 0
Queues c ws rs q ws' q' y = (k : Counters) (m : List ℕ) → Makes (board_in ws) c (world k ws rs m q) (world k ws' rs m q') y

-- the counters, the words and the records to write, the queue to read
abbrev pub Rounds : Call → Counters → (words records queue : List ℕ) → Counters → (words' records' : List ℕ) → Answer → Type 0
Rounds c k ws rs q k' ws' rs' y = (m : List ℕ) → Makes (board_in ws) c (world k ws rs m q) (world k' ws' rs' m q) y

-- the counters, to write
abbrev pub Counts : Call → Counters → Counters → Answer → Type 0
Counts c k k' y = (ws rs m q : List ℕ) → Makes (board_in ws) c (world k ws rs m q) (world k' ws rs m q) y

-- the counters and the words, to read
abbrev pub Weighs : Call → Counters → (words : List ℕ) → Answer → Type 0
Weighs c k ws y = (rs m q : List ℕ) → Makes (board_in ws) c (world k ws rs m q) (world k ws rs m q) y
