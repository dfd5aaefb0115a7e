-- Laws of a loop over the rows, or over the lists of one. Rows in use come first: the loop ends at the first row with no pages, or past the eighth. It asks of
-- each region in turn whether it passes a test, and what is left of the regions decides as the whole does (`Onward`).
use Prim.Native.Nat.{ℕ, zero, suc, ◌+◌, ◌-◌, ◌≤◌, ◌<◌}
use mathlib.Core.Bool.{Bool, true, false, cond, ◌||◌}
use mathlib.Core.List.{List, [], ◌∷◌}
use mathlib.Core.Path.{◌≡◌, refl, ap, ◌∙◌}
use native.Mathlib.Numerals.{add-one}
use native.Mathlib.Decide.{dec_le}
use native.Mathlib.Omega.{arith}
use borrow.Author.Tests.{eqb-true}
use lib.Dec.{eqb}
use lib.ListN.{length, get_or, drop, drop_of_length-le}
use lib.Seq.{drop-cons}
use Rattle.definition.specs.Board.{Board}
use Rattle.definition.specs.declared.Record.{Record}
use Rattle.definition.specs.declared.Row.{Row}
use Rattle.definition.specs.Basics.{any, range}
use Rattle.definition.specs.Frame.{Frames}
use Rattle.definition.specs.Allocator.{AllocationRegion, PhysicalFrameAllocator}
use Rattle.definition.specs.World.{used_rows}
use Rattle.region.specs.Rep.{managed}
use Rattle.world.specs.Stands.{Good, StandRows, StandsRow, base_at, region_at, row_at}
use Rattle.world.specs.Stands.StandRows.{stand_none, stand_more}
use Rattle.world.specs.Tables.{Sane, Table}
use Rattle.world.proofs.Sheets.{good_at}
use Rattle.world.proofs.Tables.{used_row}
use Rattle.allocator.proofs.Turning.{stands_at, used_most}

-- ---- what is left of a list: xs, of which x is the first and ys the rest

drop_at : {A : Type 0} (xs : List A) (i : ℕ) (d : A) → i < length xs → drop i xs ≡ get_or xs i d ∷ drop (i + 1) xs
drop_at xs i d h = rw add-one (drop-cons xs i d h)

module _ {A : Type 0} (test : A → Bool) {xs ys : List A} {x : A} (e : xs ≡ x ∷ ys) where
  pub any_on : test x ≡ false → any test xs ≡ any test ys
  unfolding any
  any_on h = ap (any test) e ∙ ap (λ (t : Bool). t || any test ys) h

  pub any_off : test x ≡ true → any test xs ≡ true
  unfolding any
  any_off h = ap (any test) e ∙ ap (λ (t : Bool). t || any test ys) h

-- the numbers from k up to m
pub range_at : (k m : ℕ) → k < m → range k (m - k) ≡ k ∷ range (k + 1) (m - (k + 1))
unfolding range
range_at k m h = let e : m - k ≡ suc (m - (k + 1)) = omega arith in rw e refl

pub range_past : (k m : ℕ) → m ≤ k → range k (m - k) ≡ []
unfolding range
range_past k m h = let e : m - k ≡ 0 = omega arith in rw e refl

-- ---- the rows in use

-- a row that has pages, behind rows in use, is in use
pub used_more : (rows : List Row) (i : ℕ) → i ≤ length (used_rows rows) → i < length rows → ((row_at rows i).pages ≡ 0 → ⊥) → i < length (used_rows rows)
unfolding used_rows
used_more [] i h l p = absurd (omega arith)
used_more (row ∷ rows) i h l p = go (eqb row.pages 0) refl i h l p (used_more rows)
  where
    go : (t : Bool) → eqb row.pages 0 ≡ t → (i : ℕ) → i ≤ length (cond t [] (row ∷ used_rows rows)) → i < length (row ∷ rows)
        → ((row_at (row ∷ rows) i).pages ≡ 0 → ⊥)
        → ((j : ℕ) → j ≤ length (used_rows rows) → j < length rows → ((row_at rows j).pages ≡ 0 → ⊥) → j < length (used_rows rows))
        → i < length (cond t [] (row ∷ used_rows rows))
    go true e zero h l p ih = absurd (p (eqb-true row.pages 0 e))
    go true e (suc j) h l p ih = absurd (omega arith)
    go false e zero h l p ih = omega arith
    go false e (suc j) h l p ih = omega (arith, ih j (omega arith) (omega arith) p)

module _ {board : Board} where
  module _ {f : ℕ → Record} {n : ℕ} {rows : List Row} (S : Sane board f n rows) (i : ℕ) where
    pub row_good : i < length (used_rows rows) → Good board f n (base_at board 0 (used_rows rows) i) (row_at rows i)
    row_good h = rw (← used_row rows i h) (good_at _ S.good i h)

    pub row_used : i ≤ length (used_rows rows) → i < 8 → ((row_at rows i).pages ≡ 0 → ⊥) → i < length (used_rows rows)
    row_used h l p = used_more rows i h (omega (arith, S.eight)) p

    -- a row with no pages is not in use: one in use has more pages than its tables take
    pub row_last : i ≤ length (used_rows rows) → (row_at rows i).pages ≡ 0 → length (used_rows rows) ≤ i
    row_last h p = go (dec_le (length (used_rows rows)) i)
      where
        go : Dec (length (used_rows rows) ≤ i) → length (used_rows rows) ≤ i
        go (yes k) = k
        go (no k) = let g = row_good (omega arith) in absurd (omega (arith, g.tables))

    pub row_eighth : 8 ≤ i → length (used_rows rows) ≤ i
    row_eighth h = omega (arith, S.eight, used_most rows)

module _ (board : Board) where
  pub base_first : (base : ℕ) (rows : List Row) → base_at board base rows 0 ≡ base
  unfolding base_at
  base_first base [] = refl
  base_first base (row ∷ rows) = refl

  base_next : (base : ℕ) (rows : List Row) (i : ℕ) → i < length rows → base_at board base rows (suc i) ≡ base_at board base rows i + managed board (row_at rows i).pages
  unfolding base_at
  base_next base [] i h = absurd (omega arith)
  base_next base (row ∷ rows) zero h = base_first (base + managed board row.pages) rows
  base_next base (row ∷ rows) (suc i) h = base_next (base + managed board row.pages) rows i (omega arith)

  -- the pages of the next row follow
  pub base_row : (rows : List Row) (i : ℕ) → i < length (used_rows rows) → base_at board 0 (used_rows rows) (i + 1) ≡ base_at board 0 (used_rows rows) i + managed board (row_at rows i).pages
  base_row rows i h = rw (add-one, ← used_row rows i h) (base_next 0 (used_rows rows) i h)

-- ---- the regions that they stand for

module _ {board : Board} where
  pub stand_length : {f : ℕ → Record} {n : ℕ} {fs : Frames} {base : ℕ} {rows : List Row} {rs : List AllocationRegion} → StandRows board f n fs base rows rs → length rs ≡ length rows
  stand_length stand_none = refl
  stand_length (stand_more S Ss) = ap suc (stand_length Ss)

  module _ {f : ℕ → Record} {n : ℕ} {rows : List Row} {a : PhysicalFrameAllocator} (T : Table board f n rows a) (i : ℕ) where
    pub region_stands : i < length (used_rows rows) → StandsRow board f n (base_at board 0 (used_rows rows) i) (row_at rows i) a.frames (region_at a.regions i)
    region_stands h = rw (used_row rows i h) at (stands_at T.stands i h)

    region_first : i < length (used_rows rows) → drop i a.regions ≡ region_at a.regions i ∷ drop (i + 1) a.regions
    region_first h = drop_at a.regions i _ (omega (arith, stand_length T.stands))

    region_none : length (used_rows rows) ≤ i → drop i a.regions ≡ []
    region_none h = drop_of_length-le a.regions {i = i} (omega (arith, stand_length T.stands))

-- ---- a test of the regions, one after another

module _ (board : Board) where
  -- the rows before i are in use, and some region passes the test exactly if one of those from i on does
  pub record Onward (f : ℕ → Record) (n : ℕ) (rows : List Row) (test : AllocationRegion → Bool) (i : ℕ) : Type 0 where
    pub used : i ≤ length (used_rows rows)
    pub left : (a : PhysicalFrameAllocator) → Table board f n rows a → any test a.regions ≡ any test (drop i a.regions)

module _ {board : Board} where
  pub onward_none : {f : ℕ → Record} {n : ℕ} {rows : List Row} {test : AllocationRegion → Bool} → Onward board f n rows test 0
  onward_none = record { used = omega arith; left = λ a T. refl }

  module _ {f : ℕ → Record} {n : ℕ} {rows : List Row} {test : AllocationRegion → Bool} {i : ℕ} (O : Onward board f n rows test i) where
    -- the region of the row i fails the test
    pub onward_row
        : i < length (used_rows rows) → ((a : PhysicalFrameAllocator) → Table board f n rows a → test (region_at a.regions i) ≡ false) → Onward board f n rows test (i + 1)
    onward_row h fails = record { used = omega arith; left = λ a T. O.left a T ∙ any_on test (region_first T i h) (fails a T) }

    module _ {a : PhysicalFrameAllocator} (T : Table board f n rows a) where
      -- it passes
      pub onward_found : i < length (used_rows rows) → test (region_at a.regions i) ≡ true → any test a.regions ≡ true
      onward_found h passes = O.left a T ∙ any_off test (region_first T i h) passes

      -- no region is left
      pub onward_end : length (used_rows rows) ≤ i → any test a.regions ≡ false
      unfolding any
      onward_end h = O.left a T ∙ ap (any test) (region_none T i h)
