-- The allocator over all regions, after frame.rs: which entries of the boot map are kept, how their pages are laid out, the two passes of a
-- grant, and the lookup of a page.
use Rattle.std.specs.Prelude.{ℕ, ◌+◌, ◌-◌, ◌*◌, ◌/◌, Bool, true, false, cond, ◌&&◌, List, [], ◌∷◌, leb, ltb}
use Rattle.std.proofs.Math.Option.{Option, none, some}
use Rattle.definition.specs.declared.MemoryRegion.{MemoryRegion}
use Rattle.definition.specs.declared.MemoryRegionKind.{MemoryRegionKind}
use Rattle.definition.specs.declared.MemoryRegionKind.TheVariants.{UsableRam, Reserved, BootloaderReserved}
use Rattle.definition.specs.Board.{Board}
use Rattle.definition.specs.Basics.{any, sum, range}
use Rattle.definition.specs.Frame.{Frames, Levels, Found, levels, slot, allocate, free, organize}

-- 76, AllocationRegion: its first page, its pages with its tables, and its six lists
pub record AllocationRegion : Type 0 where
  pub start : ℕ
  pub pages : ℕ
  pub free : ℕ → List ℕ

-- 349, PhysicalFrameAllocator
pub record PhysicalFrameAllocator : Type 0 where
  pub frames : Frames
  pub regions : List AllocationRegion

-- ---- 277, AllocationRegion::new

-- 285, array_pages: what the tables of so many pages take
abbrev pub table_pages : Board → ℕ → ℕ
table_pages b pages = (b.record_bytes * pages + (b.page - 1)) / b.page

-- 278, the start rounded up, in pages
abbrev pub start_page : Board → MemoryRegion → ℕ
start_page b m = (m.start.0 + (b.page - 1)) / b.page

-- 280, nr_pages: the whole pages left, none where the entry is shorter than the rounding gap
abbrev pub nr_pages : Board → MemoryRegion → ℕ
nr_pages b m = (m.length - (start_page b m * b.page - m.start.0)) / b.page

abbrev pub is_usable : MemoryRegionKind → Bool
is_usable UsableRam = true
is_usable Reserved = false
is_usable BootloaderReserved = false

-- 281 and 286: entries with 1 page or less, or whose tables reach their pages, are skipped; 570, and those of another kind
abbrev pub is_kept : Board → MemoryRegion → Bool
is_kept b m = is_usable m.kind && (ltb 1 (nr_pages b m) && ltb (table_pages b (nr_pages b m)) (nr_pages b m))

-- the first managed page, which follows the tables, and the managed pages
abbrev pub first : Board → AllocationRegion → ℕ
first b r = r.start + table_pages b r.pages

abbrev pub managed : Board → AllocationRegion → ℕ
managed b r = r.pages - table_pages b r.pages

abbrev pub end : Board → AllocationRegion → ℕ
end b r = r.start + r.pages

abbrev pub empty_region : Board → MemoryRegion → AllocationRegion
empty_region b m = record { start = start_page b m; pages = nr_pages b m; free = λ k. [] }

-- a region's frames and lists as the allocator of one region sees them, and put back
abbrev pub levels_of : Frames → AllocationRegion → Levels
levels_of fs r = record { frames = fs; free = r.free }

abbrev pub with_free : AllocationRegion → (ℕ → List ℕ) → AllocationRegion
with_free r free = record { start = r.start; pages = r.pages; free = free }

abbrev pub laid_out : AllocationRegion → List AllocationRegion → Levels → PhysicalFrameAllocator
laid_out r rs s = record { frames = s.frames; regions = with_free r s.free ∷ rs }

abbrev pub admit_region : Board → AllocationRegion → PhysicalFrameAllocator → PhysicalFrameAllocator
admit_region b r a =
    laid_out r a.regions (organize (managed b r) (levels_of a.frames r) (first b r) (first b r) (managed b r))

-- ---- 562, PhysicalFrameAllocator

-- 563, new: the kept entries in map order
unfoldable pub new_allocator : Board → List MemoryRegion → PhysicalFrameAllocator
new_allocator b [] = record { frames = λ p. none; regions = [] }
new_allocator b (m ∷ ms) =
    cond (is_kept b m) (admit_region b (empty_region b m) (new_allocator b ms)) (new_allocator b ms)

-- 580, total
abbrev pub total : List AllocationRegion → ℕ
total rs = sum (λ r. r.pages) rs

-- what a pass over the regions leaves, and the page that it found
pub record Allocated : Type 0 where
  pub allocator : PhysicalFrameAllocator
  pub page : Option ℕ

abbrev pub or_next_region : AllocationRegion → List AllocationRegion → Found → Allocated → Allocated
or_next_region r rs a next =
    elim a.page [
      | some p ↦ record { allocator = laid_out r rs a.levels; page = some p }
      | none ↦ record { allocator = record { frames = next.allocator.frames; regions = r ∷ next.allocator.regions }; page = next.page }
    ]

-- 596 and 602: the first region, in order, that has a frame
unfoldable pub pass : (ℕ → Bool) → ℕ → (try_zero only_zero : Bool) → Frames → List AllocationRegion → Allocated
pass among l try_zero only_zero fs [] = record { allocator = record { frames = fs; regions = [] }; page = none }
pass among l try_zero only_zero fs (r ∷ rs) =
    or_next_region r rs (allocate among l (levels_of fs r) try_zero only_zero) (pass among l try_zero only_zero fs rs)

abbrev pub or_second_pass : Allocated → Allocated → Allocated
or_second_pass a second = elim a.page [ some p ↦ a | none ↦ second ]

-- 594, __do_alloc: zeroed only where that was asked, else dirty only; then either kind
unfoldable pub do_alloc : (ℕ → Bool) → ℕ → Bool → PhysicalFrameAllocator → Allocated
do_alloc among l needsZero a =
    or_second_pass (pass among l false needsZero a.frames a.regions) (pass among l true false a.frames a.regions)

-- 691, FrameIndexer::contains
abbrev pub contains : Board → AllocationRegion → ℕ → Bool
contains b r p = leb (first b r) p && ltb p (end b r)

abbrev pub behind_region : AllocationRegion → PhysicalFrameAllocator → PhysicalFrameAllocator
behind_region r a = record { frames = a.frames; regions = r ∷ a.regions }

-- 611, free, in the region that has the page
unfoldable pub free_in : Board → ℕ → Frames → List AllocationRegion → PhysicalFrameAllocator
free_in b p fs [] = record { frames = fs; regions = [] }
free_in b p fs (r ∷ rs) =
    cond (contains b r p) (laid_out r rs (free (levels_of fs r) p)) (behind_region r (free_in b p fs rs))

-- 742, get_frame: whether some region manages the page
unfoldable pub is_managed : Board → List AllocationRegion → ℕ → Bool
is_managed b rs p = any (λ r. contains b r p) rs

-- whether some list holds a frame of the level or above that a search may take
unfoldable pub is_listed : (ℕ → Bool) → ℕ → List AllocationRegion → Bool
is_listed among l rs = any (λ r. any (λ k. any among (r.free k)) (range (slot l false) (slot levels false - slot l false))) rs
