-- The boot: refusals 1 to 5, and the store that an accepted map makes, after frame.rs's init.
use Rattle.std.specs.Prelude.{ℕ, ◌+◌, ◌*◌, ◌^◌, Bool, false, cond, ◌&&◌, ◌||◌, List, [], ◌∷◌, ltb, length}
use Rattle.definition.specs.declared.MemoryRegion.{MemoryRegion}
use Rattle.definition.specs.declared.Counters.{Counters}
use Rattle.definition.specs.declared.Refusal.TheVariants.{LongMap, FarAddress, Overlap, TooManyPages, ShortLoan}
use Rattle.definition.specs.Board.{Board}
use Rattle.definition.specs.Basics.{any, sum}
use Rattle.definition.specs.Refusal.{Test, ◌when◌}
use Rattle.definition.specs.Allocator.{AllocationRegion, PhysicalFrameAllocator, is_usable, is_kept, empty_region, managed, end, total, new_allocator}
use Rattle.definition.specs.Store.{Memory, Store}

-- the regions that a map keeps, in map order, before their frames are laid out
unfoldable pub kept_regions : Board → List MemoryRegion → List AllocationRegion
kept_regions b [] = []
kept_regions b (m ∷ ms) = cond (is_kept b m) (empty_region b m ∷ kept_regions b ms) (kept_regions b ms)

abbrev pub managed_pages : Board → List AllocationRegion → ℕ
managed_pages b rs = sum (managed b) rs

-- 01: at most 8 rows, addresses to 2^40, 1,048,576 pages, records of 16 bytes
abbrev pub most_rows : ℕ
most_rows = 8

abbrev pub highest_address : ℕ
highest_address = 2 ^ 40

abbrev pub most_pages : ℕ
most_pages = 1048576

abbrev pub record_size : ℕ
record_size = 16

abbrev pub ends_far : MemoryRegion → Bool
ends_far m = is_usable m.kind && ltb highest_address (m.start.0 + m.length)

-- two regions share a page; their tables count
abbrev pub shares : Board → AllocationRegion → AllocationRegion → Bool
shares b r t = ltb r.start (end b t) && ltb t.start (end b r)

unfoldable pub overlap : Board → List AllocationRegion → Bool
overlap b [] = false
overlap b (r ∷ rs) = any (shares b r) rs || overlap b rs

-- the sheet of a boot with a map, and loans of so many bytes
abbrev pub boot_sheet : Board → List MemoryRegion → (records memory : ℕ) → List Test
boot_sheet b map records memory =
    (LongMap when ltb most_rows (length map))
    ∷ (FarAddress when any ends_far map)
    ∷ (Overlap when overlap b (kept_regions b map))
    ∷ (TooManyPages when ltb most_pages (total (kept_regions b map)))
    ∷ (ShortLoan when ltb records (record_size * managed_pages b (kept_regions b map)) || ltb memory (b.page * managed_pages b (kept_regions b map)))
    ∷ []

-- tracker.rs 469, init
abbrev pub counters_at_boot : ℕ → Counters
counters_at_boot pages =
    record {
      kernel_used = 0;
      page_data = 0;
      idle = pages;
      total = pages;
      allocated = 0;
      freed = 0;
      reclaimed = 0;
      waiting = 0;
      pager_outstanding = 0;
    }

abbrev pub boot_with : PhysicalFrameAllocator → Memory → ℕ → Store
boot_with a memory room =
    record {
      allocator = a;
      memory = memory;
      counters = counters_at_boot (total a.regions);
      queue = [];
      kept = record { room = room };
      pass = record { rounds = 0; freed = 0 };
    }

-- frame.rs 707, init: the memory's bytes stay, and all frames are dirty
unfoldable pub boot : Board → List MemoryRegion → Memory → ℕ → Store
boot b map memory room = boot_with (new_allocator b map) memory room
