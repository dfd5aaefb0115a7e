-- What a call promises: `Leaves w c v y`, that what it leaves is v and what it answers is y, as definition's `call` says of the world w that it was given. The
-- rest names what the parts of a call promise each other.
use Rattle.std.specs.Prelude.{ℕ, ◌+◌, ◌*◌, ◌/◌, ◌%◌, ◌≤◌, ◌<◌, not, cond, ◌&&◌, List, Result, Ok, Err, ⊤, Some, None, ◌≡◌, eqb, ltb, length}
use Rattle.std.specs.Prelude.{Option as MayBe}
use Rattle.std.proofs.Math.Option.{Option, none, some}
use Rattle.definition.specs.declared.Record.{Record}
use Rattle.definition.specs.declared.Row.{Row}
use Rattle.definition.specs.declared.Counters.{Counters}
use Rattle.definition.specs.declared.Pass.{Pass}
use Rattle.definition.specs.Board.{Board}
use Rattle.definition.specs.Frame.{size}
use Rattle.definition.specs.Allocator.{PhysicalFrameAllocator}
use Rattle.definition.specs.declared.Refusal.{Refusal}
use Rattle.definition.specs.declared.Refusal.TheVariants.{Outside, NoFrameStart, NotHeld, PastTheEnd}
use Rattle.definition.specs.Refusal.{earlier_of}
use Rattle.definition.specs.Store.{Store}
use Rattle.world.specs.Refusals.{frame_refusal, range_of}
use Rattle.definition.specs.Calls.{Call, Answer as AnswerOf, Refused, Done, Text, Bytes}
use Rattle.definition.specs.World.{World}
use Rattle.definition.specs.Torn.{call}
use Rattle.words.specs.Words.{rows_in, queued_in, pass_in}
use Rattle.world.specs.Tables.{Table}
use Rattle.allocator.specs.declared.Seen.{Seen}
use Rattle.allocator.specs.Spots.{HeldAt, InRows, SeesPage}
use Rattle.exam.specs.declared.Reply.{Reply}

-- ---- the world that a call is given

-- what the caller keeps between calls, beside the loans
pub record State : Type 0 where
  pub rows : List Row
  pub counters : Counters
  pub queued : ℕ
  pub pass : Pass

-- the state of the counters that it gives and the words that it lends
abbrev pub state_with : Counters → List ℕ → State
state_with counters words = record { rows = rows_in words; counters = counters; queued = queued_in words; pass = pass_in words }

abbrev pub world_of : State → (records memory queue : List ℕ) → World
world_of s records memory queue =
    record {
      rows = s.rows;
      counters = s.counters;
      queued = s.queued;
      pass = s.pass;
      records = records;
      memory = memory;
      queue = queue;
    }

-- ---- what it leaves and answers

abbrev pub Answer : Type 0
Answer = Result Reply Refusal

abbrev pub reply : (address bytes : ℕ) → Reply
reply a n = record { address = a; bytes = n }

-- an answer as the code gives it: a refusal, or an address and bytes as 01's script prints them
abbrev pub told : AnswerOf → Answer
told (Refused r) = Err r
told (Done a n) = Ok (reply a n)
told (Text t) = Ok (reply 0 (length t))
told (Bytes t) = Ok (reply 0 (length t))

-- a result without its value
abbrev pub unit_of : {A : Type 0} → Result A Refusal → Result ⊤ Refusal
unit_of (Ok x) = Ok tt
unit_of (Err r) = Err r

-- the refusal of a result, where it is one
abbrev pub refusal_in : {A : Type 0} → Result A Refusal → Option Refusal
refusal_in (Ok x) = none
refusal_in (Err r) = some r

-- ---- the tests of a call

-- the frame of a record has one of the three levels
abbrev pub LevelKnown : Seen → Type 0
LevelKnown r = r.marks % 2 ≡ 1 → r.level < 3

abbrev pub Leveled : MayBe Seen → Type 0
Leveled o = (r : Seen) → o ≡ Some r → LevelKnown r

-- both of two that were found, or of two refusals that which is tried first
abbrev pub both_held : (x y : Result Seen Refusal) → Result (Seen × Seen) Refusal
both_held (Ok r) (Ok t) = Ok (r, t)
both_held (Ok r) (Err e) = Err e
both_held (Err e) (Ok t) = Err e
both_held (Err e) (Err g) = Err (earlier_of e g)

module _ (board : Board) where
  pub record Leaves (w : World) (c : Call) (v : World) (y : Answer) : Type 0 where
    pub world : (call board w c).world ≡ v
    pub answer : told (call board w c).answer ≡ y

  -- the bytes of the frame that starts at a page, 0 where none does
  abbrev pub bytes_if : Seen → ℕ
  bytes_if r = cond (eqb (r.marks % 2) 1) (board.page * size r.level) 0

  -- 11 to 14 of a frame that must be held, with a range of it, by what was seen at the address a
  abbrev pub held_as : MayBe Seen → (a off len : ℕ) → Result Seen Refusal
  held_as None a off len = Err Outside
  held_as (Some r) a off len =
      cond (not (eqb (a % board.page) 0 && eqb (r.marks % 2) 1)) (Err NoFrameStart)
      (cond (not (eqb (r.marks / 2 % 2) 1)) (Err NotHeld) (cond (ltb (bytes_if r) (off + len)) (Err PastTheEnd) (Ok r)))

  -- a held frame was seen, and its record is the one that was read
  pub record HeldSeen (f : ℕ → Record) (rows : List Row) (r : Seen) : Type 0 where
    pub inside : InRows board rows r.spot
    pub held : HeldAt board f rows r.spot
    pub leveled : r.level < 3
    pub marks : r.marks ≡ (f r.spot.page).marks
    pub level : r.level ≡ (f r.spot.page).level

  -- a held frame starts at the address a, and has the range
  pub record Found (f : ℕ → Record) (n : ℕ) (rows : List Row) (a off len : ℕ) (r : Seen) : Type 0 where
    pub held : HeldSeen f rows r
    pub edge : a % board.page ≡ 0
    pub range : off + len ≤ board.page * size r.level
    pub sees : (x : PhysicalFrameAllocator) → Table board f n rows x → SeesPage board f rows (a / board.page) x r

  -- what a look at a range comes to, on every store that the table stands for: the refusal of the sheet's lines for a frame, or the frame
  pub record Looks (f : ℕ → Record) (n : ℕ) (rows : List Row) (a off len : ℕ) (x : Result Seen Refusal) : Type 0 where
    pub refusal : (s : Store) → Table board f n rows s.allocator → frame_refusal board s (range_of a off len) ≡ refusal_in x
    pub found : (r : Seen) → x ≡ Ok r → Found f n rows a off len r
