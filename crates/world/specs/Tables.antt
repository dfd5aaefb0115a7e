-- The table of a store: its rows and its records, which stand for the allocator of definition's Allocator. `Sane` is what the audit
-- establishes, `Table` names the allocator, `Turned` says what a call leaves: another table, over the same regions, and every record past
-- the managed pages as it was.
use Rattle.std.specs.Prelude.{ℕ, ◌-◌, ◌≤◌, ◌<◌, List, ◌≡◌, length, drop, replicate}
use Rattle.definition.specs.declared.Record.{Record}
use Rattle.definition.specs.declared.Row.{Row}
use Rattle.definition.specs.Board.{Board}
use Rattle.definition.specs.Allocator.{PhysicalFrameAllocator}
use Rattle.definition.specs.Boot.{managed_pages, most_rows, most_pages}
use Rattle.definition.specs.World.{no_row, used_rows}
use Rattle.definition.specs.Torn.{regions_of}
use Rattle.region.specs.Rep.{Inside, from_of}
use Rattle.world.specs.Stands.{shift, StandRows, GoodRows, Disjoint, base_at, row_at}

module _ (board : Board) where
  pub record Sane (f : ℕ → Record) (n : ℕ) (rows : List Row) : Type 0 where
    pub eight : length rows ≡ most_rows
    pub unused : drop (length (used_rows rows)) rows ≡ replicate (most_rows - length (used_rows rows)) no_row
    pub good : GoodRows board f n 0 (used_rows rows)
    pub apart : Disjoint board (used_rows rows)
    pub most : managed_pages board (regions_of board rows) ≤ most_pages

  pub record Table (f : ℕ → Record) (n : ℕ) (rows : List Row) (a : PhysicalFrameAllocator) : Type 0 where
    pub sane : Sane f n rows
    pub stands : StandRows board f n a.frames 0 (used_rows rows) a.regions

  pub record Turned (f : ℕ → Record) (rows : List Row) (g : ℕ → Record) (n : ℕ) (rows2 : List Row) (a2 : PhysicalFrameAllocator)
      : Type 0 where
    pub table : Table g n rows2 a2
    pub spans : regions_of board rows2 ≡ regions_of board rows
    pub outside : (q : ℕ) → managed_pages board (regions_of board rows) ≤ q → g q ≡ f q

  -- the page q of the row i, which has the page frame number p
  pub record Spotted (rows : List Row) (i base q p : ℕ) : Type 0 where
    pub used : i < length (used_rows rows)
    pub based : base ≡ base_at board 0 (used_rows rows) i
    pub inside : Inside board base (row_at rows i).pages q
    pub number : p ≡ shift (from_of board (row_at rows i)) base q
