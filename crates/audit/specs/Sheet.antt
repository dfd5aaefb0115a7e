-- What the audit is given, as a world of the definition, and what the survey of its rows answers.
use Rattle.std.specs.Prelude.{ℕ, ◌+◌, ◌-◌, ◌*◌, ◌≤◌, Bool, true, false, ◌&&◌, List, [], ◌≡◌, leb, eqb, get_or, length, drop}
use Rattle.std.specs.Prelude.{Option, is_some, IfSome}
use Rattle.definition.specs.declared.Row.{Row}
use Rattle.definition.specs.declared.Counters.{Counters}
use Rattle.definition.specs.declared.Pass.{Pass}
use Rattle.definition.specs.Board.{Board}
use Rattle.definition.specs.Basics.{all}
use Rattle.definition.specs.Allocator.{managed, total}
use Rattle.definition.specs.Boot.{managed_pages}
use Rattle.definition.specs.World.{World, bare_region, used_rows}
use Rattle.definition.specs.Torn.{
  Placed,
  Records,
  is_no_row,
  regions_of,
  row_as_boot,
  placed,
  tiled,
  held_alone,
  lists_walk,
  unheld_listed,
  listed_pages,
  held_pages,
  idle_pages,
  sound,
}
use Rattle.scan.specs.Sheet.{held_row, whole_row, placed_at}
use Rattle.audit.specs.declared.Surveyed.{Surveyed}

-- a place of an array of rows
abbrev pub row_at : List Row → ℕ → Row
row_at rows i = get_or rows i (record { start = record { 0 = 0 }; pages = 0; lists = [] })

abbrev pub world_of : List Row → Counters → ℕ → Pass → (records memory queue : List ℕ) → World
world_of rows counters queued pass records memory queue =
    record {
      rows = rows;
      counters = counters;
      queued = queued;
      pass = pass;
      records = records;
      memory = memory;
      queue = queue;
    }

-- ---- what a survey of the rows finds

-- the numbers stay small: a row ends by 2^40, and a region holds no more than it manages
pub record Few (s : Surveyed) : Type 0 where
  pub totals : s.total ≤ 268435456 * s.used
  pub manages : s.managed ≤ s.total
  pub holds : s.page + s.kernel ≤ s.managed

-- the counters are those of what was found
abbrev pub counts_as : Counters → Surveyed → Bool
counts_as c s =
    eqb c.idle (s.total - s.page - s.kernel)
    && (eqb c.total s.total && (eqb c.kernel_used s.kernel && eqb c.page_data s.page))

module _ (board : Board) where
  -- the four clauses of the sheet that speak of the regions' records
  unfoldable pub whole_regions : Records → List Placed → Bool
  whole_regions f xs = tiled board f xs && (held_alone board f xs && (lists_walk board f xs && unheld_listed board f xs))

  -- what the sheet asks of a row in use, whose first managed page has the number base, where there are records for n pages
  abbrev pub row_test : Records → (n base : ℕ) → Row → Bool
  row_test f n base row =
      row_as_boot board row && (leb (base + managed board (bare_region board row)) n && whole_row board f (placed_at base row))

  -- what such a row adds; all that its region manages is held or listed
  pub record Added (f : Records) (row : Row) (s r : Surveyed) : Type 0 where
    pub used : r.used ≡ s.used + 1
    pub total : r.total ≡ s.total + row.pages
    pub manages : r.managed ≡ s.managed + managed board (bare_region board row)
    pub page : r.page ≡ s.page + held_row board false f (placed_at s.managed row)
    pub kernel : r.kernel ≡ s.kernel + held_row board true f (placed_at s.managed row)
    pub pages : listed_pages (placed_at 0 row) + held_row board false f (placed_at s.managed row) + held_row board true f
        (placed_at s.managed row)
        ≡ managed board (bare_region board row)

  pub record Visited (f : Records) (n : ℕ) (row : Row) (s : Surveyed) (r : Option Surveyed) : Type 0 where
    pub exact : is_some r ≡ row_test f n s.managed row
    pub added : IfSome r (Added f row s)

  -- what the sheet asks of each row by itself
  abbrev pub survey_test : Records → ℕ → List Row → Bool
  survey_test f n rows =
      all is_no_row (drop (length (used_rows rows)) rows)
      && (all (row_as_boot board) (used_rows rows)
      && (leb (managed_pages board (regions_of board rows)) n && whole_regions f (placed board rows)))

  pub record Found (f : Records) (rows : List Row) (r : Surveyed) : Type 0 where
    pub few : Few r
    pub used : r.used ≡ length (used_rows rows)
    pub total : r.total ≡ total (regions_of board rows)
    pub manages : r.managed ≡ managed_pages board (regions_of board rows)
    pub page : r.page ≡ held_pages board f false (placed board rows)
    pub kernel : r.kernel ≡ held_pages board f true (placed board rows)
    pub idle : r.total - r.page - r.kernel ≡ idle_pages board (placed board rows)

  pub record Surveys (f : Records) (n : ℕ) (rows : List Row) (r : Option Surveyed) : Type 0 where
    pub exact : is_some r ≡ survey_test f n rows
    pub found : IfSome r (Found f rows)

  -- the answer is the sheet's, whatever the bytes of the memory and the places of the queue
  abbrev pub Exact : List Row → Counters → ℕ → Pass → List ℕ → (memory_len queue_len : ℕ) → Bool → Type 0
  Exact rows counters queued pass records memory_len queue_len r =
      (memory queue : List ℕ) → length memory ≡ memory_len → length queue ≡ queue_len → r
      ≡ sound board (world_of rows counters queued pass records memory queue)
