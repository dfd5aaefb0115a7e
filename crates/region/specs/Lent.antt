-- A region by the loans that it holds: what Rep says of its records and its row, said of the struct.
use Rattle.std.specs.Prelude.{ℕ, ◌≡◌, length}
use Rattle.std.specs.Prelude as code
use Rattle.definition.specs.Board.{Board}
use Rattle.definition.specs.Frame.{Found, Levels}
use Rattle.words.specs.Words.{row_of, rows_in}
use Rattle.region.specs.declared.AllocationRegion.{AllocationRegion}
use Rattle.region.specs.Rep.{FindsAt, Held, LeavesAt, SoundAt, Splits, WholeAt, levels_at}

-- the region and its loans are the same ones: whoever lent them reads there what the region's calls left
pub record Same (a b : AllocationRegion) : Type 0 where
  pub records : b.records.ghost_name ≡ a.records.ghost_name
  pub words : b.words.ghost_name ≡ a.words.ghost_name
  pub first : b.first ≡ a.first
  pub index : b.index ≡ a.index
  pub long : length b.records.now ≡ length a.records.now
  pub wide : length b.words.now ≡ length a.words.now

-- what its records and its row stand for
abbrev pub levels_in : AllocationRegion → Levels
levels_in a = levels_at a.records.now a.words.now a.index

module _ (board : Board) (a : AllocationRegion) where
  abbrev pub SoundIn : Type 0
  SoundIn = SoundAt board a.records.now a.first a.words.now a.index

  abbrev pub WholeIn : Type 0
  WholeIn = WholeAt board a.records.now a.first a.words.now a.index

  abbrev pub HeldIn : (page : ℕ) → Type 0
  HeldIn page = Held board (levels_in a) a.first (row_of (rows_in a.words.now) a.index).pages page

  abbrev pub SplitsIn : (page l : ℕ) → Type 0
  SplitsIn page l = Splits board (levels_in a) a.first (row_of (rows_in a.words.now) a.index).pages page l

  -- it became b, which stands for s
  abbrev pub LeavesIn : AllocationRegion → Levels → Type 0
  LeavesIn b s = LeavesAt board a.records.now a.first a.words.now a.index b.records.now b.words.now s

  -- the same of a search, with what it found
  abbrev pub FindsIn : AllocationRegion → code.Option ℕ → Found → Type 0
  FindsIn b r x = FindsAt board a.records.now a.first a.words.now a.index b.records.now b.words.now r x

-- ---- where a function is given no board: it asks that there be one on which the region is such, and promises what it does of every such board

module _ (a : AllocationRegion) where
  abbrev pub SoundSome : Type 0
  SoundSome = (board : Board) × SoundIn board a

  abbrev pub WholeSome : Type 0
  WholeSome = (board : Board) × SoundIn board a × WholeIn board a

  abbrev pub SplitsSome : (page l : ℕ) → Type 0
  SplitsSome page l = (board : Board) × SoundIn board a × SplitsIn board a page l

  module _ (b : AllocationRegion) where
    abbrev pub FindsBy : code.Option ℕ → (Levels → Found) → Type 0
    FindsBy r op = (board : Board) → SoundIn board a → FindsIn board a b r (op (levels_in a))

    abbrev pub SeeksBy : code.Option ℕ → (Levels → Found) → Type 0
    SeeksBy r op = (board : Board) → SoundIn board a → WholeIn board a → FindsIn board a b r (op (levels_in a))

    abbrev pub SplitsBy : (page l : ℕ) → Levels → Type 0
    SplitsBy page l s = (board : Board) → SoundIn board a → SplitsIn board a page l → LeavesIn board a b s
