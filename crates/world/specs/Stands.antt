-- What a world stands for, region by region. A region's records and lists go by page number (`region`), a store's frames and lists by page
-- frame number (`definition`); `Shifted` says that two states are one but for that, and `Stands` that a whole world, every byte of it, is a
-- store's. `GoodRows` and `Disjoint` are what the torn sheet says of the rows in use.
use Rattle.std.specs.Prelude.{ℕ, zero, suc, ◌+◌, ◌-◌, ◌*◌, ◌/◌, ◌%◌, ◌≤◌, ◌<◌, List, [], ◌∷◌, map, ◌≡◌, get_or, length, take, drop}
use Rattle.std.specs.Prelude.{replicate}
use Rattle.std.proofs.Math.Option.{Option, none, some}
use Rattle.definition.specs.declared.Record.{Record}
use Rattle.definition.specs.declared.Row.{Row}
use Rattle.definition.specs.Board.{Board}
use Rattle.definition.specs.Frame.{Found, Frames, Levels}
use Rattle.definition.specs.Allocator.{AllocationRegion, levels_of, table_pages}
use Rattle.definition.specs.Boot.{managed_pages, most_rows, highest_address}
use Rattle.definition.specs.Store.{Store}
use Rattle.definition.specs.World.{World, record_at, memory_bytes, no_row, used_rows}
use Rattle.record.specs.Records.{pages_in}
use Rattle.list.specs.Linked.{All}
use Rattle.region.specs.Rep.{Inside, SoundRow, WholeRow, from_of, managed, state_of}

-- the page frame number of the page q, where the region's first managed page has the page number `base` and the page frame number `from`
abbrev pub shift : (from base q : ℕ) → ℕ
shift from base q = from + (q - base)

abbrev pub shifted : (from base : ℕ) → Option ℕ → Option ℕ
shifted from base none = none
shifted from base (some q) = some (shift from base q)

-- ---- what the torn sheet says of the rows in use

-- P of each row
pub data Each (P : Row → Type 0) : List Row → Type 0 where
  each_none : Each P []
  each_more : {row : Row} {rows : List Row} → P row → Each P rows → Each P (row ∷ rows)

-- a place of a list of rows, and of regions
abbrev pub row_at : List Row → ℕ → Row
row_at rows i = get_or rows i (record { start = record { 0 = 0 }; pages = 0; lists = [] })

abbrev pub region_at : List AllocationRegion → ℕ → AllocationRegion
region_at rs i = get_or rs i (record { start = 0; pages = 0; free = λ k. [] })

module _ (board : Board) where
  -- on the pages of a region, the state s by page numbers is the state t by page frame numbers
  pub record Shifted (from base pages : ℕ) (s t : Levels) : Type 0 where
    pub frames : (q : ℕ) → Inside board base pages q → t.frames (shift from base q) ≡ s.frames q
    pub free : (k : ℕ) → t.free k ≡ map (shift from base) (s.free k)
    pub inside : (k : ℕ) → All (λ (q : ℕ). Inside board base pages q) (s.free k)

  -- from t on, the states became s2 and t2, the same still, and no frame outside the region changed
  pub record Carried (from base pages : ℕ) (t s2 t2 : Levels) : Type 0 where
    pub same : Shifted from base pages s2 t2
    pub outside : (p : ℕ) → (Inside board from pages p → ⊥) → t2.frames p ≡ t.frames p

  -- two searches from t on came to the same
  pub record Alike (from base pages : ℕ) (t : Levels) (a b : Found) : Type 0 where
    pub carried : Carried from base pages t a.levels b.levels
    pub page : b.page ≡ shifted from base a.page
    pub inside : (p : ℕ) → a.page ≡ some p → Inside board base pages p

  -- the row, whose first managed page is the page `base`, and its records in f stand for the region r of a store with the frames fs
  pub record StandsRow (f : ℕ → Record) (n base : ℕ) (row : Row) (fs : Frames) (r : AllocationRegion) : Type 0 where
    pub sound : SoundRow board f n base row
    pub aligned : row.start.0 % board.page ≡ 0
    pub start : r.start ≡ row.start.0 / board.page
    pub pages : r.pages ≡ row.pages
    pub same : Shifted (from_of board row) base row.pages (state_of f row) (levels_of fs r)

  -- rows that follow one another from the page `base` stand for as many regions
  pub data StandRows (f : ℕ → Record) (n : ℕ) (fs : Frames) : ℕ → List Row → List AllocationRegion → Type 0 where
    stand_none : {base : ℕ} → StandRows f n fs base [] []
    stand_more
        : {base : ℕ} {row : Row} {rows : List Row} {r : AllocationRegion} {rs : List AllocationRegion}
        → StandsRow f n base row fs r → StandRows f n fs (base + managed board row.pages) rows rs
        → StandRows f n fs base (row ∷ rows) (r ∷ rs)

  -- the world w stands for the store s
  pub record Stands (w : World) (s : Store) : Type 0 where
    pub eight : length w.rows ≡ most_rows
    pub unused : drop (length (used_rows w.rows)) w.rows ≡ replicate (most_rows - length (used_rows w.rows)) no_row
    pub rows : StandRows (record_at w.records) (pages_in w.records) s.allocator.frames 0 (used_rows w.rows) s.allocator.regions
    pub counters : s.counters ≡ w.counters
    pub pass : s.pass ≡ w.pass
    pub queue : s.queue ≡ take w.queued w.queue
    pub queued : w.queued ≤ length w.queue
    pub room : s.kept.room ≡ length w.queue
    pub fits : board.page * managed_pages board s.allocator.regions ≤ length w.memory
    pub memory : memory_bytes board s.memory s.allocator.regions ≡ take (board.page * managed_pages board s.allocator.regions) w.memory

  -- the row, whose first managed page is the page `base`, is such as boot makes, and its region is sound and whole
  pub record Good (f : ℕ → Record) (n base : ℕ) (row : Row) : Type 0 where
    pub aligned : row.start.0 % board.page ≡ 0
    pub bounded : board.page * (row.start.0 / board.page + row.pages) ≤ highest_address
    pub tables : table_pages board row.pages < row.pages
    pub sound : SoundRow board f n base row
    pub whole : WholeRow board f base row

  -- so are rows that follow one another from the page `base`
  pub data GoodRows (f : ℕ → Record) (n : ℕ) : ℕ → List Row → Type 0 where
    good_none : {base : ℕ} → GoodRows f n base []
    good_more
        : {base : ℕ} {row : Row} {rows : List Row}
        → Good f n base row → GoodRows f n (base + managed board row.pages) rows → GoodRows f n base (row ∷ rows)

  -- the page number of the first managed page of the row i
  unfoldable pub base_at : ℕ → List Row → ℕ → ℕ
  base_at base [] i = base
  base_at base (row ∷ rows) zero = base
  base_at base (row ∷ rows) (suc i) = base_at (base + managed board row.pages) rows i

  -- no page frame number is of a managed page of both rows
  abbrev pub Parted : Row → Row → Type 0
  Parted r t = (p : ℕ) → Inside board (from_of board r) r.pages p → Inside board (from_of board t) t.pages p → ⊥

  -- nor of two of the rows: the first shares none with a later one
  pub data Disjoint : List Row → Type 0 where
    disjoint_none : Disjoint []
    disjoint_more : {row : Row} {rows : List Row} → Each (λ (t : Row). Parted row t) rows → Disjoint rows → Disjoint (row ∷ rows)
