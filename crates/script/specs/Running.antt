-- What the run of a script keeps between lines, and what it promises: `Stands`, that this is definition's `RunningOn`; `Turns`, of one
-- line; `Ran`, of a whole script: the bytes that it writes and all that it leaves in the loans. `Sure` is what a line asks for: from an
-- accepted boot on, the loans are sound.
use Rattle.std.specs.Prelude.{ℕ, ◌+◌, ◌≤◌, ◌<◌, Bool, true, false, List, [], ◌∷◌, ◌++◌, Ok, Err, ◌≡◌, get_or, length, take, drop, replicate}
use Rattle.definition.specs.declared.MemoryRegion.{MemoryRegion}
use Rattle.definition.specs.Board.{Board, standard}
use Rattle.definition.specs.Boot.{counters_at_boot}
use Rattle.definition.specs.Refusal.{number_of}
use Rattle.definition.specs.Script.{
  Command,
  RunningOn,
  TurnOn,
  bad_on,
  command_on,
  line_on,
  kind_of,
  line_of,
  output_of,
  read_line,
  room,
  world_after,
}
use Rattle.definition.specs.Torn.{sound}
use Rattle.definition.specs.World.{World, no_row}
use Rattle.exam.specs.Promise.{Answer, State, world_of}
use Rattle.text.specs.Writing.{Wrote}

-- the bytes are the name, of at most 6
pub record Names (name r : List ℕ) : Type 0 where
  pub bytes : r ≡ name
  pub short : length r ≤ 6

abbrev pub Bytes : List ℕ → Type 0
Bytes xs = (i : ℕ) → get_or xs i 0 < 256

-- the loans, whole
pub record Loans : Type 0 where
  pub records : List ℕ
  pub memory : List ℕ
  pub queue : List ℕ

abbrev pub world_by : State → Loans → World
world_by s l = world_of s l.records l.memory l.queue

-- ---- what is kept

-- what a run is between lines: the first eight entries of the map and how many were read, whether a boot was accepted, the store's state,
-- the loans, and the answer with the place behind its text
pub record Running : Type 0 where
  pub map : List MemoryRegion
  pub count : ℕ
  pub booted : Bool
  pub state : State
  pub loans : Loans
  pub answer : List ℕ
  pub at : ℕ

-- the line of an answer under a name: a refusal has its number and two zeros
abbrev pub line_by : List ℕ → Answer → List ℕ
line_by name (Ok y) = line_of name 0 y.address y.bytes
line_by name (Err r) = line_of name (number_of r) 0 0

-- what is kept is the run's; of the map the first eight entries and their number
pub record Stands (r : Running) (x : RunningOn) : Type 0 where
  pub world : x.world ≡ world_by r.state r.loans
  pub booted : x.booted ≡ r.booted
  pub long : length x.map ≡ r.count
  pub front : take 8 x.map ≡ take r.count r.map

-- before a boot
abbrev pub unbooted : State
unbooted = record { rows = replicate 8 no_row; counters = counters_at_boot 0; queued = 0; pass = record { rounds = 0; freed = 0 } }

-- before the first line
pub record Fresh (r : Running) : Type 0 where
  pub count : r.count ≡ 0
  pub booted : r.booted ≡ false
  pub state : r.state ≡ unbooted

-- ---- one line

-- a line that turns out as t: what is kept after it, and its text behind the place
pub record Turned (t : TurnOn) (r r' : Running) : Type 0 where
  pub stands : Stands r' t.running
  pub wrote : Wrote r.answer r.at t.text r'.answer r'.at

-- a text of at most 512 bytes, and at most one entry more
abbrev pub Bounded : Running → Running → Type 0
Bounded r r' = (r'.at ≤ r.at + 512) × (r'.count ≤ r.count + 1)

-- `bad,17,0,0`
abbrev pub Bad : Running → Running → Type 0
Bad r r' = (x : RunningOn) → Stands r x → Turned (bad_on x) r r'

-- the entry of a map that a line's numbers are
abbrev pub entry_of : (ℕ → ℕ) → MemoryRegion
entry_of n = record { start = record { 0 = n 0 }; length = n 1; kind = kind_of (n 2) }

-- the first eight of any map that begins as this one, with the entry behind it
abbrev pub Enters : List MemoryRegion → ℕ → MemoryRegion → List MemoryRegion → Type 0
Enters map n m map' =
    (xs : List MemoryRegion) → length xs ≡ n → take 8 xs ≡ take n map → take 8 (xs ++ (m ∷ [])) ≡ take (n + 1) map'

-- ---- the script

-- the board that a script boots: the Rust's
abbrev pub program_board : Board
program_board = standard

module _ (board : Board) where
  -- a command under its name
  abbrev pub Does : Command → List ℕ → Running → Running → Type 0
  Does c name r r' = (x : RunningOn) → Stands r x → Turned (command_on board x name c x.booted) r r'

  -- from an accepted boot on, what is kept and the loans pass the torn sheet
  abbrev pub Sure : Running → Type 0
  Sure r = r.booted ≡ true → sound board (world_by r.state r.loans) ≡ true

  abbrev pub Turns : Running → (line : List ℕ) → Running → Type 0
  Turns r line r' = (x : RunningOn) → Stands r x → Turned (line_on board x (read_line line)) r r'

  -- what a script prints, and the world that it leaves
  abbrev pub printed : Loans → List ℕ → List ℕ
  printed l script = output_of board (world_by unbooted l) script

  abbrev pub left_by : Loans → List ℕ → World
  left_by l script = world_after board (world_by unbooted l) script

  -- with room enough
  pub record RanAll (script : List ℕ) (r r' : Running) : Type 0 where
    pub written : r'.at ≡ length (printed r.loans script)
    pub text : r'.answer ≡ printed r.loans script ++ drop r'.at r.answer
    pub records : r'.loans.records ≡ (left_by r.loans script).records
    pub memory : r'.loans.memory ≡ (left_by r.loans script).memory
    pub queue : r'.loans.queue ≡ (left_by r.loans script).queue

  -- the answers stand at the front of the slice, whose rest is as it was, and the loans are as the calls leave them; a slice under 512
  -- bytes for each line plus 512 is left as it is, and so are the loans
  pub record Ran (script : List ℕ) (l : Loans) (out : List ℕ) (l' : Loans) (out' : List ℕ) (r : ℕ) : Type 0 where
    pub written : room script ≤ length out → r ≡ length (printed l script)
    pub text : room script ≤ length out → out' ≡ printed l script ++ drop r out
    pub records : room script ≤ length out → l'.records ≡ (left_by l script).records
    pub memory : room script ≤ length out → l'.memory ≡ (left_by l script).memory
    pub queue : room script ≤ length out → l'.queue ≡ (left_by l script).queue
    pub too_short : length out < room script → (r ≡ 0) × (l' ≡ l) × (out' ≡ out)
