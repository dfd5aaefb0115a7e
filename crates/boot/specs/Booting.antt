-- What a boot is given and what it promises: the map, of which a caller hands over the first eight entries and their number; the rows of
-- the entries that are kept; the refusals; the layout; and `BootsAll`, that what it leaves and answers is definition's `boot_call` of the
-- map.
use Rattle.std.specs.Prelude.{ℕ, ◌-◌, ◌*◌, ◌≤◌, ◌<◌, true, false, cond, List, [], ◌∷◌, ◌++◌, ⊤, ◌≡◌, ltb, length, take, drop, replicate}
use Rattle.std.specs.Prelude.{Option, Some, None, Result, Ok, Err}
use Rattle.std.proofs.Math.Option.{none}
use Rattle.definition.specs.declared.MemoryRegion.{MemoryRegion}
use Rattle.definition.specs.declared.Record.{Record}
use Rattle.definition.specs.declared.Row.{Row}
use Rattle.definition.specs.declared.Refusal.{Refusal}
use Rattle.definition.specs.declared.Refusal.TheVariants.{Overlap, TooManyPages, ShortLoan}
use Rattle.definition.specs.Board.{Board}
use Rattle.definition.specs.Basics.{all, any}
use Rattle.definition.specs.Allocator.{PhysicalFrameAllocator, admit_region, is_kept, nr_pages, start_page, total}
use Rattle.definition.specs.Boot.{boot_sheet, counters_at_boot, ends_far, managed_pages, most_pages, overlap}
use Rattle.definition.specs.Refusal.{first_met}
use Rattle.definition.specs.World.{World, bare_region, no_row, used_rows}
use Rattle.definition.specs.Torn.{bare_regions, boot_call, is_no_row, loans_long, regions_of, row_as_boot}
use Rattle.record.specs.Records.{with_bytes}
use Rattle.region.specs.Rep.{empty_row}
use Rattle.words.specs.Words.{NarrowRow, kept_of, pass_in, queued_in, rows_in}
use Rattle.world.specs.Stands.{StandRows, row_at}
use Rattle.exam.specs.declared.Reply.{Reply}
use Rattle.exam.specs.Promise.{Answer, State, refusal_in, told}
use Rattle.boot.specs.declared.Kept.{Kept}

-- ---- the map

-- ms has `count` entries, and the first eight of them are the array's
pub record Mapped (map : List MemoryRegion) (count : ℕ) (ms : List MemoryRegion) : Type 0 where
  pub long : length ms ≡ count
  pub front : take 8 ms ≡ take count map

-- ---- the rows that it keeps

-- rows, with unused ones to eight
unfoldable pub eight : List Row → List Row
eight xs = xs ++ replicate (8 - length xs) no_row

module _ (board : Board) where
  -- the row of an entry that is kept, before its frames are laid out
  abbrev pub kept_row : MemoryRegion → Row
  kept_row m = empty_row (record { 0 = start_page board m * board.page }) (nr_pages board m)

  -- `None` for an entry that is not kept
  abbrev pub row_of : MemoryRegion → Option Row
  row_of m = cond (is_kept board m) (Some (kept_row m)) None

  unfoldable pub kept_rows : List MemoryRegion → List Row
  kept_rows [] = []
  kept_rows (m ∷ ms) = cond (is_kept board m) (kept_row m ∷ kept_rows ms) (kept_rows ms)

  pub record Keeps (ms : List MemoryRegion) (r : Kept) : Type 0 where
    pub rows : r.rows ≡ eight (kept_rows ms)
    pub used : r.used ≡ length (kept_rows ms)

-- ---- the refusals

module _ (board : Board) where
  -- rows such as a map keeps
  pub record RowsKept (rows : List Row) (used : ℕ) : Type 0 where
    pub many : used ≡ length (used_rows rows)
    pub booted : all (row_as_boot board) (used_rows rows) ≡ true
    pub unused : all is_no_row (drop used rows) ≡ true

  unfoldable pub rows_admitted : List Row → (records memory : ℕ) → Result ⊤ Refusal
  rows_admitted rows records memory =
      cond (overlap board (regions_of board rows)) (Err Overlap)
      (cond (ltb most_pages (total (regions_of board rows))) (Err TooManyPages)
      (cond (loans_long board rows records memory) (Ok tt) (Err ShortLoan)))

  -- the rows that are kept of a map of at most eight entries, none of them far
  pub record KeptOf (map : List MemoryRegion) (count : ℕ) (k : Kept) : Type 0 where
    pub few : count ≤ 8
    pub near : any ends_far (take count map) ≡ false
    pub keeps : Keeps board (take count map) k
    pub room : k.used ≤ 8

  -- the sheet's refusal, whatever stands past the eighth entry, or the rows that are kept
  pub record Admits (map : List MemoryRegion) (count records memory : ℕ) (x : Result Kept Refusal) : Type 0 where
    pub refusal : (ms : List MemoryRegion) → Mapped map count ms → refusal_in x ≡ first_met (boot_sheet board ms records memory)
    pub kept : (k : Kept) → x ≡ Ok k → KeptOf map count k

-- ---- the layout

module _ (board : Board) where
  -- the allocator over the regions of so many rows, all free: each region's frames are laid out after those of the rows behind it
  unfoldable pub lay_rows : List Row → PhysicalFrameAllocator
  lay_rows [] = record { frames = λ p. none; regions = [] }
  lay_rows (row ∷ rows) = admit_region board (bare_region board row) (lay_rows rows)

  -- rows in use that are not refused, with records of n pages
  pub record Ready (rows : List Row) (n : ℕ) : Type 0 where
    pub booted : all (row_as_boot board) rows ≡ true
    pub apart : overlap board (bare_regions board rows) ≡ false
    pub most : total (bare_regions board rows) ≤ most_pages
    pub fits : managed_pages board (bare_regions board rows) ≤ n

  -- the records f became g, and the rows in use became r, which stand for the regions laid out; no record past the managed pages changed
  pub record Lays (f : ℕ → Record) (rows : List Row) (g : ℕ → Record) (n : ℕ) (r : List Row) : Type 0 where
    pub long : length r ≡ length rows
    pub pages : (j : ℕ) → j < length rows → (row_at r j).pages ≡ (row_at rows j).pages
    pub narrow : (j : ℕ) → j < length rows → NarrowRow (row_at r j)
    pub stands : StandRows board g n (lay_rows rows).frames 0 r (lay_rows rows).regions
    pub outside : (q : ℕ) → managed_pages board (bare_regions board rows) ≤ q → g q ≡ f q

-- ---- what a boot leaves and answers

-- the state of a store that has just booted
abbrev pub state_at_boot : List Row → ℕ → State
state_at_boot rows pages = record { rows = rows; counters = counters_at_boot pages; queued = 0; pass = record { rounds = 0; freed = 0 } }

module _ (board : Board) where
  pub record Boots (ms : List MemoryRegion) (w v : World) (y : Answer) : Type 0 where
    pub world : (boot_call board ms w).world ≡ v
    pub answer : told (boot_call board ms w).answer ≡ y

  -- whatever stands past the eighth entry of the map
  abbrev pub BootsAll : List MemoryRegion → ℕ → World → World → Answer → Type 0
  BootsAll map count w v y = (ms : List MemoryRegion) → length ms ≡ count → take 8 ms ≡ take count map → Boots ms w v y

-- and of the words: a boot that is refused leaves them as they are; else they are written whole, from the version to the pass
pub record BootsOver (ws vs : List ℕ) (y : Answer) : Type 0 where
  pub refused : (r : Refusal) → y ≡ Err r → vs ≡ ws
  pub written : (x : Reply) → y ≡ Ok x → vs ≡ with_bytes ws 0 (kept_of (length (used_rows (rows_in vs))) (rows_in vs) (queued_in vs)
      (pass_in vs))
