-- Demand 3 as one claim over a list of calls (`Claim`): what holds of the store and the book after it (`Bookkeeping`), and of each call in it (`Answered`). A
-- reader should hold the fields of these records against the demand's sentences; everything else here names their parts.
use Rattle.std.specs.Prelude.{ℕ, ◌+◌, ◌*◌, ◌/◌, ◌%◌, ◌≤◌, ◌<◌, true, false, List, [], ◌∷◌, ◌++◌, ◌⊎◌, ◌↔◌, ◌≡◌}
use Rattle.std.proofs.Math.Option.{none, some}
use Rattle.definition.specs.declared.MemoryRegion.{MemoryRegion}
use Rattle.definition.specs.declared.Refusal.{Refusal}
use Rattle.definition.specs.declared.Refusal.TheVariants.{NoFrame, MustWait}
use Rattle.definition.specs.Board.{Board}
use Rattle.definition.specs.Basics.{sum, bit}
use Rattle.definition.specs.Frame.{levels}
use Rattle.definition.specs.Allocator.{is_managed, do_alloc}
use Rattle.definition.specs.Boot.{managed_pages, kept_regions, boot}
use Rattle.definition.specs.Refusal.{first_met}
use Rattle.definition.specs.Store.{Memory, Store}
use Rattle.definition.specs.Calls.{Layout, Call, Alloc, Take, Answer, Refused, Done, names, bad_layout, no_level, bytes_of_level, find_level, mine, sheet, step}
use Rattle.definition.specs.Book.{Book, empty_book, note_answer}
use Rattle.bookkeeping.specs.Blocks.{Block, All, listed, holding, pages_of, pages_with_kernel, pages_without, covers, tables}

-- ---- "for every list of calls .. from the state of one accepted boot, where each gets the state as the last left it"

pub record State : Type 0 where
  pub store : Store
  pub book : Book

-- the store takes the step, and the book notes the answer
unfoldable pub next : Board → State → Call → State
next b x c = record { store = (step b x.store c).store; book = note_answer b x.book c (step b x.store c).answer }

unfoldable pub after : Board → State → List Call → State
after b x [] = x
after b x (c ∷ cs) = after b (next b x c) cs

-- the store of a boot, and the book that holds nothing, of the regions that the map keeps
abbrev pub booted : Board → List MemoryRegion → Memory → ℕ → State
booted b map memory room = record { store = boot b map memory room; book = empty_book (kept_regions b map) }

abbrev pub after_calls : Board → List MemoryRegion → Memory → ℕ → List Call → State
after_calls b map memory room calls = after b (booted b map memory room) calls

-- ---- after it

-- the listed and the held frames
abbrev pub frames : Store → Book → List Block
frames s k = listed s.allocator.regions ++ holding k.held

-- no page is in both
abbrev pub Apart : Block → Block → Type 0
Apart x y = (q : ℕ) → covers q x + covers q y ≤ 1

pub data Disjoint : List Block → Type 0 where
  disjoint_none : Disjoint []
  disjoint_more : {x : Block} {xs : List Block} → All (Apart x) xs → Disjoint xs → Disjoint (x ∷ xs)

-- a frame of one of the levels, which starts at a multiple of its size
abbrev pub Aligned : Block → Type 0
Aligned x = (x.level < levels) × (x.page % pages_of x ≡ 0)

abbrev pub bytes_of : Board → Block → ℕ
bytes_of b x = b.page * pages_of x

-- each byte on a page of the frame is zero
abbrev pub Zero : Board → Memory → Block → Type 0
Zero b memory x = (a : ℕ) → covers (a / b.page) x ≡ 1 → memory a ≡ 0

pub record Bookkeeping (b : Board) (s : Store) (k : Book) : Type 0 where
  -- "the listed and held frames are disjoint"
  pub disjoint : Disjoint (frames s k)
  -- "aligned to their size"
  pub aligned : All Aligned (frames s k)
  -- "cover each managed page of the map", the regions that the book has: exactly one of them has it; and none has any other page
  pub covered : (q : ℕ) → sum (covers q) (frames s k) ≡ bit (is_managed b k.regions q)
  -- "and add up to its managed bytes"
  pub adds : sum (bytes_of b) (frames s k) ≡ b.page * managed_pages b k.regions
  -- "Idle pages are then listed plus table pages"
  pub idle : s.counters.idle ≡ sum pages_of (listed s.allocator.regions) + sum (tables b) k.regions
  -- "kernel and page counts are the held pages granted with KERNEL and without"
  pub kernel_pages : s.counters.kernel_used ≡ sum pages_with_kernel (holding k.held)
  pub page_data : s.counters.page_data ≡ sum pages_without (holding k.held)
  -- "Every frame on a zeroed list is then zero in each byte"
  pub zeroed : All (λ x. x.mark ≡ true → Zero b s.memory x) (listed s.allocator.regions)
  -- the book's queue is the store's
  pub queue : s.queue ≡ k.queue

-- ---- each call in the list, on the store just before it

-- a grant
abbrev pub Asks : Call → Layout → Type 0
Asks c y = (c ≡ Alloc y) ⊎ (c ≡ Take y)

-- "reports want of memory (9 or 10)"
abbrev pub Wanting : Answer → Type 0
Wanting y = (y ≡ Refused NoFrame) ⊎ (y ≡ Refused MustWait)

-- "no listed frame of the asked level or above", of those that the grant may take
abbrev pub NoneFrom : ℕ → Store → Type 0
NoneFrom l s = All (λ x. mine s x.page ≡ true → x.level < l) (listed s.allocator.regions)

-- "a grant gives the frame that 01 picks": the page is the one that the search finds
pub record Picked (b : Board) (s : Store) (y : Layout) (answer : Answer) : Type 0 where
  pub page : ℕ
  pub found : (do_alloc (mine s) (find_level b y) y.flags.zeroed s.allocator).page ≡ some page
  pub given : answer ≡ Done (b.page * page) (bytes_of_level b (find_level b y))

pub record Answered (b : Board) (s : Store) (c : Call) : Type 0 where
  -- "each call [is] refused exactly as 01's sheet says"
  pub refused_as_sheet : (r : Refusal) → ((step b s c).answer ≡ Refused r) ↔ (first_met (sheet b s (names c)) ≡ some r)
  -- and a refused one changes nothing
  pub untouched : (r : Refusal) → (step b s c).answer ≡ Refused r → (step b s c).store ≡ s
  -- "exactly when no earlier refusal meets it and no listed frame of the asked level or above exists just before it"
  pub want_exactly : (y : Layout) → Asks c y → Wanting (step b s c).answer ↔ ((bad_layout y ≡ false) × (no_level b y ≡ false) × NoneFrom (find_level b y) s)
  pub picked : (y : Layout) → Asks c y → first_met (sheet b s (names c)) ≡ none → Picked b s y (step b s c).answer

-- ---- the claim

-- each call of the list is answered so
pub data Along (b : Board) : State → List Call → Type 0 where
  along_none : {x : State} → Along b x []
  along_more : {x : State} {c : Call} {cs : List Call} → Answered b x.store c → Along b (next b x c) cs → Along b x (c ∷ cs)

-- of a boot with a map, bytes that the memory has and room in the queue, and a list of calls
pub record Claim (b : Board) (map : List MemoryRegion) (bytes : Memory) (room : ℕ) (calls : List Call) : Type 0 where
  -- "each managed page of the map": the book's regions, of which `Bookkeeping` speaks, are those that boot keeps of the map
  pub regions : (after_calls b map bytes room calls).book.regions ≡ kept_regions b map
  pub afterwards : Bookkeeping b (after_calls b map bytes room calls).store (after_calls b map bytes room calls).book
  pub along : Along b (booted b map bytes room) calls
