-- Demands 2 and 3 over worlds, the bytes that a boot and a list of calls are given and leave, where each call gets the world as the last left it. A reader should
-- hold the fields of `Demand3`, `Answered` and `Demand2` against the demands' sentences; `boot_call` and `call` are what the exported functions promise to do.
use Rattle.std.specs.Prelude.{Bool, true, false, ◌&&◌, List, [], ◌∷◌, ◌↔◌, ◌≡◌, length}
use Rattle.std.proofs.Math.Option.{none, some}
use Rattle.definition.specs.declared.MemoryRegion.{MemoryRegion}
use Rattle.definition.specs.declared.Refusal.{Refusal}
use Rattle.definition.specs.declared.Refusal.TheVariants.{Torn}
use Rattle.definition.specs.Board.{Board}
use Rattle.definition.specs.Boot.{kept_regions, boot_sheet, boot}
use Rattle.definition.specs.Book.{Book, empty_book, note_answer}
use Rattle.definition.specs.Calls.{Layout, Call, Answer, Refused, names, bad_layout, no_level, find_level, sheet, run}
use Rattle.definition.specs.Refusal.{first_met}
use Rattle.definition.specs.Rust as Rust
use Rattle.definition.specs.Rust.{common_ground}
use Rattle.definition.specs.Store.{Store}
use Rattle.definition.specs.Torn.{sound, call, boot_call}
use Rattle.definition.specs.World.{World, memory_of, decode}
use Rattle.bookkeeping.specs.Claim.{Bookkeeping, Asks, Wanting, NoneFrom, Picked, after_calls}
use Rattle.theorems.specs.Stands.{Stands}

-- ---- a list of calls on a world

unfoldable pub world_after : Board → World → List Call → World
world_after b w [] = w
world_after b w (c ∷ cs) = world_after b (call b w c).world cs

unfoldable pub answers_of : Board → World → List Call → List Answer
answers_of b w [] = []
answers_of b w (c ∷ cs) = (call b w c).answer ∷ answers_of b (call b w c).world cs

-- the book that an onlooker keeps of calls and their answers
unfoldable pub book_after : Board → Book → List Call → List Answer → Book
book_after b k [] ys = k
book_after b k (c ∷ cs) [] = k
book_after b k (c ∷ cs) (y ∷ ys) = book_after b (note_answer b k c y) cs ys

-- ---- the same from the state of one boot

abbrev pub Accepted : Answer → Type 0
Accepted y = (r : Refusal) → y ≡ Refused r → ⊥

abbrev pub after_all : Board → List MemoryRegion → World → List Call → World
after_all b map w calls = world_after b (boot_call b map w).world calls

abbrev pub answers_all : Board → List MemoryRegion → World → List Call → List Answer
answers_all b map w calls = answers_of b (boot_call b map w).world calls

abbrev pub book_all : Board → List MemoryRegion → World → List Call → Book
book_all b map w calls = book_after b (empty_book (kept_regions b map)) calls (answers_all b map w calls)

-- ---- demand 3

-- a boot, accepted or not
pub record BootAnswered (b : Board) (map : List MemoryRegion) (w : World) : Type 0 where
  -- "Boot [is] refused exactly as 01's sheet says"
  pub refused_as_sheet
      : (r : Refusal) → ((boot_call b map w).answer ≡ Refused r) ↔ (first_met (boot_sheet b map (length w.records) (length w.memory)) ≡ some r)
  -- and a refused one changes nothing
  pub untouched : (r : Refusal) → (boot_call b map w).answer ≡ Refused r → (boot_call b map w).world ≡ w

-- a call on the world w; `decode b w` is the store just before it
pub record Answered (b : Board) (w : World) (c : Call) : Type 0 where
  -- no call finds the records torn
  pub not_torn : (call b w c).answer ≡ Refused Torn → ⊥
  -- "each call [is] refused exactly as 01's sheet says"
  pub refused_as_sheet : (r : Refusal) → ((call b w c).answer ≡ Refused r) ↔ (first_met (sheet b (decode b w) (names c)) ≡ some r)
  -- and a refused one changes nothing, not a byte
  pub untouched : (r : Refusal) → (call b w c).answer ≡ Refused r → (call b w c).world ≡ w
  -- "want of memory .. exactly when no earlier refusal meets it and no listed frame of the asked level or above exists just before it"
  pub want_exactly
      : (y : Layout) → Asks c y
      → Wanting (call b w c).answer ↔ ((bad_layout y ≡ false) × (no_level b y ≡ false) × NoneFrom (find_level b y) (decode b w))
  -- "a grant gives the frame that 01 picks"
  pub picked : (y : Layout) → Asks c y → first_met (sheet b (decode b w) (names c)) ≡ none → Picked b (decode b w) y (call b w c).answer

-- each call of the list is answered so, on the world as the last left it
pub data Along (b : Board) : World → List Call → Type 0 where
  along_none : {w : World} → Along b w []
  along_more : {w : World} {c : Call} {cs : List Call} → Answered b w c → Along b (call b w c).world cs → Along b w (c ∷ cs)

-- "For every list of calls .. from the state of one accepted boot, where each gets the state as the last left it and nobody else writes the loans"
pub record Demand3 (b : Board) (map : List MemoryRegion) (w : World) (calls : List Call) : Type 0 where
  -- "each managed page of the map": the book's regions, of which `Bookkeeping` speaks, are those that boot keeps of the map
  pub regions : (book_all b map w calls).regions ≡ kept_regions b map
  -- "after it": the listed and held frames, the counters, the zeroed lists and the queue, read out of the bytes
  pub afterwards : Bookkeeping b (decode b (after_all b map w calls)) (book_all b map w calls)
  -- the bytes pass the torn sheet, so that no further call is refused 6
  pub whole : sound b (after_all b map w calls) ≡ true
  pub along : Along b (boot_call b map w).world calls

-- ---- demand 2

-- each call is on common ground in the store that the world stands for
unfoldable pub ground_all : Board → World → List Call → Bool
ground_all b w [] = true
ground_all b w (c ∷ cs) = common_ground b (decode b w) c && ground_all b (call b w c).world cs

-- the store that a boot makes of a map and the bytes that are lent
abbrev pub boot_store : Board → List MemoryRegion → World → Store
boot_store b map w = boot b map (memory_of b w.memory (kept_regions b map)) (length w.queue)

pub record Demand2 (b : Board) (map : List MemoryRegion) (w : World) (calls : List Call) : Type 0 where
  -- the world stands for the store that boot makes
  pub boots : decode b (boot_call b map w).world ≡ boot_store b map w
  -- "every address, size, mark, counter and list order equals the Rust's": its run gives these answers and the store that the world stands for
  pub alike
      : Rust.run b (decode b (boot_call b map w).world) calls
      ≡ some (record { store = decode b (after_all b map w calls); answers = answers_all b map w calls })

-- ---- what both rest on: the run on worlds is the run on stores

abbrev pub store_all : Board → List MemoryRegion → World → List Call → Store
store_all b map w calls = (after_calls b map (memory_of b w.memory (kept_regions b map)) (length w.queue) calls).store

pub record Tied (b : Board) (map : List MemoryRegion) (w : World) (calls : List Call) : Type 0 where
  -- the world that the calls leave is the store that they lead to, in bytes
  pub stands : Stands b w (after_all b map w calls) (store_all b map w calls)
  -- and the answers are the store's
  pub answers : answers_all b map w calls ≡ (run b (boot_store b map w) calls).answers
