-- What a store is after every list of calls, in the words of 01's torn sheet (`Good`), and what the boot's sheet lets pass (`Accepted`). A proof that no call
-- finds the records torn takes each sentence of that sheet from a field here.
use Rattle.std.specs.Prelude.{ℕ, zero, suc, ◌+◌, ◌*◌, ◌/◌, ◌%◌, ◌≤◌, ◌<◌, Bool, true, false, cond, ◌&&◌, List, [], ◌∷◌, ◌≡◌, leb, eqb, length}
use Rattle.std.proofs.Math.Option.{Option, none, some}
use Rattle.definition.specs.declared.MemoryRegion.{MemoryRegion}
use Rattle.definition.specs.Board.{Board}
use Rattle.definition.specs.Basics.{sum, bit, range, member}
use Rattle.definition.specs.Frame.{Frame, Frames, size, levels, slot}
use Rattle.definition.specs.Allocator.{AllocationRegion, first, managed, end, contains, total, is_managed}
use Rattle.definition.specs.Boot.{managed_pages, kept_regions, most_rows, highest_address, most_pages, record_size, overlap}
use Rattle.definition.specs.Store.{Store}
use Rattle.definition.specs.Contents.{size_of}
use Rattle.definition.specs.Book.{Held, Book}
use Rattle.bookkeeping.specs.Blocks.{All, SixLists, emptied, tables}

-- ---- "the rows' starts and pages are such as boot makes"

-- a region that boot keeps: more than one page, more than its tables take, and an end by 2^40
pub record AsBoot (b : Board) (r : AllocationRegion) : Type 0 where
  pub more : 1 < r.pages
  pub tables : tables b r < r.pages
  pub near : b.page * end b r ≤ highest_address

-- regions that a store may have
pub record Placed (b : Board) (rs : List AllocationRegion) : Type 0 where
  pub few : length rs ≤ most_rows
  pub as_boot : All (AsBoot b) rs
  pub apart : overlap b rs ≡ false
  pub pages : total rs ≤ most_pages

-- what the boot's sheet lets pass, with loans of so many bytes
pub record Accepted (b : Board) (map : List MemoryRegion) (records memory : ℕ) : Type 0 where
  pub placed : Placed b (kept_regions b map)
  pub records_long : record_size * managed_pages b (kept_regions b map) ≤ records
  pub memory_long : b.page * managed_pages b (kept_regions b map) ≤ memory

-- ---- "stepping by frame size from each region's first managed page meets .. aligned heads of level 0 to 2 .., ending at its end, zeros inside"

-- the first pages of the frames that stepping meets
unfoldable pub heads_from : Frames → (fuel at past : ℕ) → List ℕ
heads_from fs zero at past = []
heads_from fs (suc fuel) at past = cond (leb past at) [] (at ∷ heads_from fs fuel (at + size_of (fs at)) past)

abbrev pub heads : Board → Frames → AllocationRegion → List ℕ
heads b fs r = heads_from fs (managed b r) (first b r) (end b r)

-- a head: a frame of the region, whose other pages start none
pub record IsHead (b : Board) (fs : Frames) (r : AllocationRegion) (h : ℕ) : Type 0 where
  pub frame : Frame
  pub here : fs h ≡ some frame
  pub level : frame.level < levels
  pub aligned : h % size frame.level ≡ 0
  pub ends : h + size frame.level ≤ end b r
  pub inside : (q : ℕ) → h < q → q < h + size frame.level → fs q ≡ none

-- ---- "each list walks .. over unheld frames of its region, level and mark; every unheld head is on a list"

-- how often a page is on a list
unfoldable pub times : ℕ → List ℕ → ℕ
times p [] = 0
times p (q ∷ qs) = bit (eqb p q) + times p qs

-- an unheld frame of the region, of a level and a mark
pub record IsFree (b : Board) (fs : Frames) (r : AllocationRegion) (l : ℕ) (z : Bool) (p : ℕ) : Type 0 where
  pub inside : contains b r p ≡ true
  pub frame : Frame
  pub here : fs p ≡ some frame
  pub unheld : frame.allocated ≡ false
  pub level : frame.level ≡ l
  pub zeroed : frame.zeroed ≡ z

-- a list has unheld frames alone, each once, and every one of the region, the level and the mark
pub record Lists (b : Board) (fs : Frames) (r : AllocationRegion) : Type 0 where
  pub each : (l : ℕ) (z : Bool) → l < levels → All (IsFree b fs r l z) (r.free (slot l z))
  pub once : (l : ℕ) (z : Bool) → l < levels → (p : ℕ) → times p (r.free (slot l z)) ≤ 1
  pub every : (p : ℕ) (f : Frame) → contains b r p ≡ true → fs p ≡ some f → f.allocated ≡ false → member p (r.free (slot f.level f.zeroed)) ≡ true

-- ---- the held frames are the book's

-- two marks are alike
abbrev pub same : Bool → Bool → Bool
same true t = t
same false true = false
same false false = true

-- 1 if there is a held frame of the level l, granted with KERNEL or without as `kernel` says, else 0
abbrev pub held_as : ℕ → Bool → Option Frame → ℕ
held_as l kernel none = 0
held_as l kernel (some f) = bit (f.allocated && (eqb f.level l && same f.kernel kernel))

-- how often the book has such a frame at the page p
unfoldable pub in_book : ℕ → ℕ → Bool → List Held → ℕ
in_book p l kernel [] = 0
in_book p l kernel (h ∷ hs) = bit (eqb p h.page && (eqb h.level l && same h.kernel kernel)) + in_book p l kernel hs

-- ---- "idle, total, kernel and page counts equal those of the rows and records, .. with held and KERNEL read off the heads' marks"

-- the pages on a region's six lists, whose level is half the list's number
abbrev pub listed_pages : AllocationRegion → ℕ
listed_pages r = sum (λ k. size (k / 2) * length (r.free k)) (range 0 (slot levels false))

-- the pages of a frame that is held, with KERNEL or without as asked
abbrev pub held_pages : Bool → Option Frame → ℕ
held_pages kernel none = 0
held_pages kernel (some f) = cond (f.allocated && same f.kernel kernel) (size f.level) 0

abbrev pub head_pages : Board → Frames → Bool → AllocationRegion → ℕ
head_pages b fs kernel r = sum (λ h. held_pages kernel (fs h)) (heads b fs r)

pub record Good (b : Board) (s : Store) (k : Book) : Type 0 where
  -- the regions start where the book has them, and have the pages that it gives them
  pub regions : emptied s.allocator.regions ≡ k.regions
  pub placed : Placed b s.allocator.regions
  -- their frames tile them up to their ends, and there are no others
  pub tiled : All (λ r. All (IsHead b s.allocator.frames r) (heads b s.allocator.frames r)) s.allocator.regions
  pub ended : All (λ r. sum (λ h. size_of (s.allocator.frames h)) (heads b s.allocator.frames r) ≡ managed b r) s.allocator.regions
  pub bare : (q : ℕ) → is_managed b s.allocator.regions q ≡ false → s.allocator.frames q ≡ none
  -- each of the six lists of a region holds its unheld frames of a level and a mark, each once
  pub lists : All (Lists b s.allocator.frames) s.allocator.regions
  pub six : All SixLists s.allocator.regions
  -- the book has the held frames, each once, and nothing else
  pub booked : (p l : ℕ) (kernel : Bool) → in_book p l kernel k.held ≡ held_as l kernel (s.allocator.frames p)
  -- the counters
  pub idle : s.counters.idle ≡ sum (λ r. listed_pages r + tables b r) s.allocator.regions
  pub totals : s.counters.total ≡ total s.allocator.regions
  pub kernel : s.counters.kernel_used ≡ sum (head_pages b s.allocator.frames true) s.allocator.regions
  pub page : s.counters.page_data ≡ sum (head_pages b s.allocator.frames false) s.allocator.regions
  pub waiting : s.counters.waiting ≡ 0
  -- the queue is the book's and has its place, and the pass is within its bounds
  pub queue : s.queue ≡ k.queue
  pub room : length s.queue ≤ s.kept.room
  pub rounds : s.pass.rounds ≤ b.max_rounds + 1
  pub freed : s.pass.freed ≤ b.per_round * s.pass.rounds
