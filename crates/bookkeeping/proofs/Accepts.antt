-- What the boot's sheet lets pass: regions that are placed, and loans that are long enough.
use Prim.Native.Nat.{ℕ, zero, suc, ◌+◌, ◌-◌, ◌*◌, ◌≤◌, ◌<◌}
use native.Mathlib.Omega.{arith}
use native.Mathlib.Nat.{div-mul-le_self, lt-div-mul-add}
use mathlib.Core.Bool.{Bool, true, false, cond, ◌&&◌, false≢true}
use mathlib.Core.List.{List, [], ◌∷◌}
use mathlib.Core.Option.{none}
use mathlib.Core.Path.{◌≡◌, refl}
use lib.Dec.{ltb}
use lib.ListN.{length}
use borrow.Author.Tests.{ltb-true, ltb-false}
use Rattle.definition.proofs.Boards.{page_positive}
use Rattle.definition.proofs.Passing.{Unmet, unmet}
use Rattle.definition.proofs.Passing.Unmet.{unmet_none, unmet_more}
use Rattle.definition.specs.declared.MemoryRegion.{MemoryRegion}
use Rattle.definition.specs.Board.{Board, Fit}
use Rattle.definition.specs.Basics.{sum, any}
use Rattle.definition.specs.Allocator.{AllocationRegion, table_pages, start_page, nr_pages, is_usable, is_kept, empty_region, total}
use Rattle.definition.specs.Boot.{managed_pages, kept_regions, most_rows, highest_address, most_pages, record_size, ends_far, boot_sheet}
use Rattle.definition.specs.Refusal.{first_met}
use Rattle.bookkeeping.specs.Blocks.{All, emptied, tables}
use Rattle.bookkeeping.specs.Blocks.All.{all_none, all_more}
use Rattle.bookkeeping.specs.Good.{AsBoot, Accepted}
use Rattle.bookkeeping.proofs.Invariant.{and-true, or-false}

-- ---- what the boot's sheet lets pass

at_least : (n P : ℕ) → 1 ≤ n → P ≤ n * P
at_least zero P h = absurd (omega arith)
at_least (suc n) P h = omega arith

-- a kept entry's pages end where the entry does, or before
entry_near : (b : Board) (m : MemoryRegion) → 0 < b.page → 1 ≤ nr_pages b m → b.page * (start_page b m + nr_pages b m) ≤ m.start.0 + m.length
entry_near b m pos h =
    omega (
      arith,
      div-mul-le_self (m.start.0 + (b.page - 1)) b.page,
      lt-div-mul-add {a = m.start.0 + (b.page - 1)} pos,
      div-mul-le_self (m.length - (start_page b m * b.page - m.start.0)) b.page,
      at_least (nr_pages b m) b.page h,
    )

module _ {b : Board} (fit : Fit b) where
  entry_boot : (m : MemoryRegion) → is_kept b m ≡ true → ends_far m ≡ false → AsBoot b (empty_region b m)
  entry_boot m e f =
      record {
        more = more;
        tables = ltb-true (table_pages b (nr_pages b m)) (nr_pages b m) y.1;
        near = omega (arith, entry_near b m (page_positive fit) (omega (arith, more)), far (is_usable m.kind) x.0 f);
      }
    where
      x : (is_usable m.kind ≡ true) × ((ltb 1 (nr_pages b m) && ltb (table_pages b (nr_pages b m)) (nr_pages b m)) ≡ true)
      x = and-true (is_usable m.kind) (ltb 1 (nr_pages b m) && ltb (table_pages b (nr_pages b m)) (nr_pages b m)) e

      y : (ltb 1 (nr_pages b m) ≡ true) × (ltb (table_pages b (nr_pages b m)) (nr_pages b m) ≡ true)
      y = and-true (ltb 1 (nr_pages b m)) (ltb (table_pages b (nr_pages b m)) (nr_pages b m)) x.1

      more : 1 < nr_pages b m
      more = ltb-true 1 (nr_pages b m) y.0

      far : (t : Bool) → t ≡ true → (t && ltb highest_address (m.start.0 + m.length)) ≡ false → m.start.0 + m.length ≤ highest_address
      far true i j = ltb-false highest_address (m.start.0 + m.length) j
      far false i j = absurd (false≢true i)

  map_boot : (map : List MemoryRegion) → any ends_far map ≡ false → All (AsBoot b) (kept_regions b map)
  unfolding kept_regions any
  map_boot [] e = all_none
  map_boot (m ∷ ms) e = let i = or-false (ends_far m) (any ends_far ms) e in go (is_kept b m) refl i.0 (map_boot ms i.1)
    where
      go
          : (t : Bool) → is_kept b m ≡ t → ends_far m ≡ false → All (AsBoot b) (kept_regions b ms)
          → All (AsBoot b) (cond t (empty_region b m ∷ kept_regions b ms) (kept_regions b ms))
      go true k f h = all_more (entry_boot m k f) h
      go false k f h = h

  fewer : (map : List MemoryRegion) → length (kept_regions b map) ≤ length map
  unfolding kept_regions
  fewer [] = omega arith
  fewer (m ∷ ms) = go (is_kept b m) (fewer ms)
    where
      go : (t : Bool) → length (kept_regions b ms) ≤ length ms → length (cond t (empty_region b m ∷ kept_regions b ms) (kept_regions b ms)) ≤ suc (length ms)
      go true h = omega arith
      go false h = omega arith

  pub accepted : (map : List MemoryRegion) (records memory : ℕ) → first_met (boot_sheet b map records memory) ≡ none → Accepted b map records memory
  accepted map records memory e = go (unmet (boot_sheet b map records memory) e)
    where
      go : Unmet (boot_sheet b map records memory) → Accepted b map records memory
      go (unmet_more long (unmet_more far (unmet_more shared (unmet_more many (unmet_more short unmet_none))))) =
          let l = or-false (ltb records (record_size * managed_pages b (kept_regions b map))) (ltb memory (b.page * managed_pages b (kept_regions b map))) short in
          record {
            placed = record {
              few = omega (arith, ltb-false most_rows (length map) long, fewer map);
              as_boot = map_boot map far;
              apart = shared;
              pages = ltb-false most_pages (total (kept_regions b map)) many;
            };
            records_long = ltb-false records (record_size * managed_pages b (kept_regions b map)) l.0;
            memory_long = ltb-false memory (b.page * managed_pages b (kept_regions b map)) l.1;
          }

-- a region's pages are its managed ones and its tables'
pub placed_sums : (b : Board) (rs : List AllocationRegion) → All (AsBoot b) rs → managed_pages b rs + sum (tables b) rs ≡ total rs
unfolding sum
placed_sums b [] all_none = refl
placed_sums b (r ∷ rs) (all_more x h) = omega (arith, x.tables, placed_sums b rs h)

-- and so they are of the regions without their lists
pub emptied_sums : (b : Board) (rs : List AllocationRegion) → All (AsBoot b) rs → managed_pages b (emptied rs) + sum (tables b) (emptied rs) ≡ total rs
unfolding sum emptied
emptied_sums b [] all_none = refl
emptied_sums b (r ∷ rs) (all_more x h) = omega (arith, x.tables, emptied_sums b rs h)
