-- What the parts of a grant promise each other: which refusal a layout meets (`Wants`), and what a grant makes of the rows, the records,
-- the memory and the counters (`Gives`), for every store that they stand for (`Lends`).
use Rattle.std.specs.Prelude.{ℕ, ◌+◌, ◌*◌, ◌/◌, ◌%◌, ◌≤◌, ◌<◌, ◌^◌, Bool, true, false, not, cond, ◌&&◌}
use Rattle.std.specs.Prelude.{List, ◌≡◌, eqb, length, take, drop, replicate}
use Rattle.std.specs.Prelude.{Result, Ok, Some, None}
use Rattle.std.specs.Prelude.{Option as MayBe}
use Rattle.std.proofs.Math.Option.{Option, none, some}
use Rattle.definition.specs.declared.Counters.{Counters}
use Rattle.definition.specs.declared.Record.{Record}
use Rattle.definition.specs.declared.Refusal.{Refusal}
use Rattle.definition.specs.declared.Row.{Row}
use Rattle.definition.specs.Board.{Board}
use Rattle.definition.specs.Boot.{managed_pages, overlap}
use Rattle.definition.specs.Frame.{size}
use Rattle.definition.specs.Store.{Store}
use Rattle.definition.specs.Tracker.{Granted as GrantedOf}
use Rattle.definition.specs.Calls.{Alloc, Call, Layout, Take, find_level}
use Rattle.definition.specs.World.{memory_bytes, record_at}
use Rattle.level.specs.declared.Level.{Level}
use Rattle.level.specs.Level.{rank}
use Rattle.record.specs.Records.{pages_in, with_bytes}
use Rattle.words.specs.Words.{board_in, rows_in}
use Rattle.region.specs.Rep.{Inside}
use Rattle.world.specs.Refusals.{refusal_of}
use Rattle.world.specs.Stands.{row_at}
use Rattle.world.specs.Tables.{Table, Turned}
use Rattle.allocator.specs.declared.Spot.{Spot}
use Rattle.allocator.specs.Spots.{number_at}
use Rattle.exam.specs.declared.Reply.{Reply}
use Rattle.exam.specs.Promise.{State, refusal_in, reply, state_with}
use Rattle.grants.specs.declared.Granted.{Granted as GrantedFrame}

-- a grant whose frame is split, or not
abbrev pub asking : (split : Bool) → Layout → Call
asking true y = Take y
asking false y = Alloc y

-- the frame of a record is zeroed where that was asked and it isn't marked so
abbrev pub zeroes : Bool → Record → Bool
zeroes zeroed r = zeroed && not (eqb (r.marks / 4 % 2) 1)

-- ---- what a grant leaves

-- the state, and the frame that was found
pub record Granted : Type 0 where
  pub state : State
  pub frame : MayBe GrantedFrame

module _ (board : Board) where
  -- the refusal that a layout meets on every store that the table stands for, and where it meets none the level that it gets
  pub record Wants (f : ℕ → Record) (n : ℕ) (rows : List Row) (y : Layout) (x : Result Level Refusal) : Type 0 where
    pub refusal : (s : Store) → Table board f n rows s.allocator → refusal_of board s (Alloc y) ≡ refusal_in x
    pub found : (l : Level) → x ≡ Ok l → rank l ≡ find_level board y

  -- the state, the records and the memory's bytes stand for the store s, but for its queue and its pass
  pub record Lends (f : ℕ → Record) (n : ℕ) (st : State) (bytes : List ℕ) (s : Store) : Type 0 where
    pub table : Table board f n st.rows s.allocator
    pub apart : overlap board s.allocator.regions ≡ false
    pub fits : board.page * managed_pages board s.allocator.regions ≤ length bytes
    pub memory : memory_bytes board s.memory s.allocator.regions ≡ take (board.page * managed_pages board s.allocator.regions) bytes
    pub counters : s.counters ≡ st.counters

  abbrev pub zeroed_bytes : Bool → Record → ℕ → List ℕ → List ℕ
  zeroed_bytes zeroed r q bytes = cond (zeroes zeroed r) (with_bytes bytes (board.page * q) (replicate (board.page * size r.level) 0)) bytes

  -- the addresses of a row's pages fit
  pub record Near (rows : List Row) (s : Spot) : Type 0 where
    pub index : s.index < 8
    pub inside : Inside board s.base (row_at rows s.index).pages s.page
    pub bounded : board.page * ((row_at rows s.index).start.0 / board.page + (row_at rows s.index).pages) ≤ 2 ^ 40

  -- the answer to a grant
  abbrev pub handed : MayBe GrantedFrame → (level : ℕ) → Reply
  handed (Some t) level = reply t.address (board.page * size level)
  handed None level = reply 0 0

  -- the page frame number of the frame that was found
  abbrev pub page_of : List Row → MayBe GrantedFrame → Option ℕ
  page_of rows (Some t) = some (number_at board rows t.spot)
  page_of rows None = none

  -- of the store s, by what the definition's grant makes of it
  pub record Gives
      (f : ℕ → Record) (st : State) (bytes : List ℕ) (s : Store) (x : GrantedOf) (g : ℕ → Record) (n : ℕ) (bytes2 : List ℕ) (r : Granted)
      : Type 0 where
    pub turned : Turned board f st.rows g n r.state.rows x.store.allocator
    pub memory
        : memory_bytes board x.store.memory s.allocator.regions ≡ take (board.page * managed_pages board s.allocator.regions) bytes2
    pub as_long : length bytes2 ≡ length bytes
    pub beyond
        : drop (board.page * managed_pages board s.allocator.regions) bytes2
        ≡ drop (board.page * managed_pages board s.allocator.regions) bytes
    pub counters : x.store.counters ≡ r.state.counters
    pub page : x.page ≡ page_of r.state.rows r.frame

  abbrev pub GivesBy : (Store → GrantedOf) → (ℕ → Record) → State → List ℕ → (ℕ → Record) → ℕ → List ℕ → Granted → Type 0
  GivesBy op f st bytes g n bytes2 r = (s : Store) → Lends f n st bytes s → Gives f st bytes s (op s) g n bytes2 r

  -- what a grant leaves of the state and finds, whatever the store
  pub record Finds (st : State) (r : Granted) : Type 0 where
    pub queued : r.state.queued ≡ st.queued
    pub pass : r.state.pass ≡ st.pass
    pub address : (t : GrantedFrame) → r.frame ≡ Some t → t.address ≡ board.page * number_at board r.state.rows t.spot

-- ---- the same of the lent words and records

abbrev pub WantsIn : (words records : List ℕ) → Layout → Result Level Refusal → Type 0
WantsIn words records y x = Wants (board_in words) (record_at records) (pages_in records) (rows_in words) y x

abbrev pub granted_in : MayBe GrantedFrame → Counters → (words : List ℕ) → Granted
granted_in o k words = record { state = state_with k words; frame = o }
