-- The rows of a sound world: each row in use is such as boot makes, and its region is sound and whole (`sound_rows`); that frames tile the
-- region is in `WholeRow`. A reader takes from here that no page is on two lists (`lists_apart`) and no page frame in two regions
-- (`rows_apart`).
use Prim.Native.Nat.{ℕ, zero, suc, ◌+◌, ◌*◌, ◌/◌, ◌%◌, ◌≤◌, ◌<◌, ◌^◌}
use mathlib.Core.Bool.{Bool, true, false, not, cond, ◌||◌, false≢true}
use mathlib.Core.List.{List, [], ◌∷◌}
use mathlib.Core.Logic.{◌≢◌}
use mathlib.Core.Path.{◌≡◌, refl, sym, ◌∙◌, subst}
use native.Mathlib.Decide.{ℕ_discrete, dec_lt}
use native.Mathlib.Omega.{arith}
use borrow.Author.Tests.{eqb-true, leb-true, ltb-true, lt-ltb, not-true}
use lib.Dec.{eqb, ltb}
use lib.ListN.{get_or, length, drop}
use Rattle.definition.specs.declared.Record.{Record}
use Rattle.definition.specs.declared.Row.{Row}
use Rattle.definition.specs.Board.{Board, Fit}
use Rattle.definition.specs.Basics.{all, any, sum}
use Rattle.definition.specs.Frame.{Levels}
use Rattle.definition.specs.Allocator.{AllocationRegion, table_pages, total}
use Rattle.definition.specs.Boot.{highest_address, managed_pages, most_pages, most_rows, overlap, record_size, shares}
use Rattle.definition.specs.World.{World, bare_region, record_at, used_rows}
use Rattle.definition.specs.Torn.{Records, Sound, bare_regions, is_no_row, loans_long, placed, placed_from, records_of, regions_of}
use Rattle.definition.specs.Torn.{row_as_boot, rows_as_boot, six_lists}
use Rattle.definition.proofs.Tests.{and_left, and_right, and-true}
use Rattle.record.specs.Records.{pages_in}
use Rattle.list.specs.Linked.{Apart}
use Rattle.list.proofs.Laws.{all_map, apart_sym}
use Rattle.region.specs.Rep.{Rep, SoundRow, WholeRow, from_of, managed, state_of}
use Rattle.region.proofs.Laws.{apart}
use Rattle.scan.specs.Sheet.{placed_at, whole_row}
use Rattle.scan.proofs.Rows.{whole_rows}
use Rattle.world.specs.Stands.{Disjoint, Each, Good, GoodRows, Parted, base_at}
use Rattle.world.specs.Stands.Disjoint.{disjoint_none, disjoint_more}
use Rattle.world.specs.Stands.Each.{each_none, each_more}
use Rattle.world.specs.Stands.GoodRows.{good_none, good_more}
use Rattle.definition.proofs.Boards.{page_least}
use Rattle.definition.proofs.Bytes.{address_is, pages_bound}
use Rattle.world.proofs.Regions.{row_sheet, row_sound, row_whole}

-- ---- the clauses on the rows

module _ (board : Board) where
  -- what the clause on the rows says
  pub record AsBoot (rows : List Row) : Type 0 where
    pub eight : length rows ≡ most_rows
    pub six : all six_lists rows ≡ true
    pub unused : all is_no_row (drop (length (used_rows rows)) rows) ≡ true
    pub each : all (row_as_boot board) (used_rows rows) ≡ true
    pub apart : overlap board (regions_of board rows) ≡ false
    pub most : total (regions_of board rows) ≤ most_pages

module _ {board : Board} where
  pub as_boot_lem : (rows : List Row) → rows_as_boot board rows ≡ true → AsBoot board rows
  unfolding rows_as_boot
  as_boot_lem rows t =
      let a = and_right (eqb (length rows) most_rows) _ t in
      let b = and_right (all six_lists rows) _ a in
      let c = and_right (all is_no_row (drop (length (used_rows rows)) rows)) _ b in
      let d = and_right (all (row_as_boot board) (used_rows rows)) _ c in
      record {
        eight = eqb-true (length rows) most_rows (and_left _ _ t);
        six = and_left _ _ a;
        unused = and_left _ _ b;
        each = and_left _ _ c;
        apart = not-true (overlap board (regions_of board rows)) (and_left _ _ d);
        most = leb-true (total (regions_of board rows)) most_pages (and_right (not (overlap board (regions_of board rows))) _ d);
      }

-- what is true of all rows is of those in use
used_all : (test : Row → Bool) (rows : List Row) → all test rows ≡ true → all test (used_rows rows) ≡ true
unfolding all used_rows
used_all test [] t = refl
used_all test (row ∷ rows) t = go (eqb row.pages 0) (and_left _ _ t) (used_all test rows (and_right (test row) _ t))
  where
    go : (b : Bool) → test row ≡ true → all test (used_rows rows) ≡ true → all test (cond b [] (row ∷ used_rows rows)) ≡ true
    go true a r = refl
    go false a r = and-true a r

module _ (board : Board) where
  -- the tables' pages count in the total, so the limit on it holds for the managed pages
  pub managed_most : (rs : List AllocationRegion) → managed_pages board rs ≤ total rs
  unfolding sum
  managed_most [] = omega arith
  managed_most (r ∷ rs) = omega (arith, managed_most rs)

-- ---- the rows in use are good

-- 2^40 bytes are of at most 2^28 pages
pub good_few
    : {board : Board} → Fit board → {f : ℕ → Record} {n base : ℕ} {row : Row} → Good board f n base row
    → row.start.0 / board.page + row.pages ≤ 268435456
good_few {board} fit {row = row} G =
    omega (arith, pages_bound board.page (page_least fit) (row.start.0 / board.page + row.pages) {n = highest_address} G.bounded)

module _ {board : Board} where
  module _ (f : Records) (n : ℕ) where
    -- a page edge, more pages than the tables take, an end by 2^40
    good_row : {base : ℕ} {row : Row} → row_as_boot board row ≡ true → SoundRow board f n base row → WholeRow board f base row
        → Good board f n base row
    good_row {row = row} t sound whole =
        let a = and_right (eqb (row.start.0 % board.page) 0) _ t in
        let b = and_right (ltb 1 row.pages) _ a in
        let c = leb-true (row.start.0 + board.page * row.pages) highest_address
        (and_right (ltb (table_pages board row.pages) row.pages) _ b) in
        record {
          aligned = eqb-true (row.start.0 % board.page) 0 (and_left _ _ t);
          bounded = omega (arith, address_is board.page row.start.0);
          tables = ltb-true (table_pages board row.pages) row.pages (and_left _ _ b);
          sound = sound;
          whole = whole;
        }

    -- what is left of the managed pages, from `base` on, fits: so it does behind each row
    good_from : (base : ℕ) (rows : List Row) → all six_lists rows ≡ true → all (row_as_boot board) rows ≡ true
        → all (whole_row board f) (placed_from board base rows) ≡ true
        → base + managed_pages board (bare_regions board rows) < 2 ^ 32 → base + managed_pages board (bare_regions board rows) ≤ n
        → GoodRows board f n base rows
    unfolding all placed_from bare_regions sum managed
    good_from base [] six boot whole small fits = good_none
    good_from base (row ∷ rows) six boot whole small fits =
        let S = row_sheet (and_left _ _ whole) in
        good_more
        (good_row (and_left _ _ boot) (row_sound S (eqb-true (length row.lists) 6 (and_left _ _ six)) (omega arith) (omega arith))
        (row_whole S))
        (good_from (base + managed board row.pages) rows (and_right (six_lists row) _ six) (and_right (row_as_boot board row) _ boot)
        (and_right (whole_row board f (placed_at base row)) _ whole) (omega arith) (omega arith))

  pub sound_rows : (w : World) → Sound board w → GoodRows board (record_at w.records) (pages_in w.records) 0 (used_rows w.rows)
  unfolding loans_long
  sound_rows w s =
      let b = as_boot_lem w.rows s.rows in
      let most = managed_most board (regions_of board w.rows) in
      let fits = leb-true (record_size * managed_pages board (regions_of board w.rows)) (length w.records) (and_left _ _ s.loans) in
      good_from (records_of w) (pages_in w.records) 0 (used_rows w.rows) (used_all six_lists w.rows b.six) b.each
      (whole_rows board (records_of w) (placed board w.rows) ∙ and-true s.tiling (and-true s.alone (and-true s.lists s.listed)))
      (omega (arith, b.most)) (omega arith)

-- ---- one row of many

module _ (board : Board) where
  pub base_low : (base : ℕ) (rows : List Row) (i : ℕ) → base ≤ base_at board base rows i
  unfolding base_at
  base_low base [] i = omega arith
  base_low base (row ∷ rows) zero = omega arith
  base_low base (row ∷ rows) (suc i) = omega (arith, base_low (base + managed board row.pages) rows i)

-- the rows by their numbers, whatever row d stands where there is none
module _ (d : Row) where
  pub each_at : {P : Row → Type 0} {rows : List Row} → Each P rows → (i : ℕ) → i < length rows → P (get_or rows i d)
  each_at each_none i h = absurd (omega arith)
  each_at (each_more a rest) zero h = a
  each_at (each_more a rest) (suc i) h = each_at rest i (omega arith)

module _ {board : Board} where
  module _ (d : Row) where
    pub good_at : {f : ℕ → Record} {n base : ℕ} {rows : List Row} → GoodRows board f n base rows → (i : ℕ) → i < length rows
        → Good board f n (base_at board base rows i) (get_or rows i d)
    unfolding base_at
    good_at good_none i h = absurd (omega arith)
    good_at (good_more g rest) zero h = g
    good_at (good_more g rest) (suc i) h = good_at rest i (omega arith)

module _ (board : Board) where
  -- the pages of a row come before those of a later one
  module _ (d : Row) where
    pub base_rises : (base : ℕ) (rows : List Row) (i j : ℕ) → i < j → i < length rows
        → base_at board base rows i + managed board (get_or rows i d).pages ≤ base_at board base rows j
    unfolding base_at
    base_rises base [] i j h l = absurd (omega arith)
    base_rises base (row ∷ rows) i zero h l = absurd (omega arith)
    base_rises base (row ∷ rows) zero (suc j) h l = base_low board (base + managed board row.pages) rows j
    base_rises base (row ∷ rows) (suc i) (suc j) h l = base_rises (base + managed board row.pages) rows i j (omega arith) (omega arith)

-- ---- no page is on two lists

module _ {board : Board} where
  across : {f : ℕ → Record} {n a b : ℕ} {r t : Row} {s u : Levels} → Rep board f n a r s → Rep board f n b t u
      → a + managed board r.pages ≤ b
      → (k l : ℕ) → Apart (s.free k) (u.free l)
  across R Q h k l = all_map (λ x p. all_map (λ y q e. omega (arith, p.inside.high, q.inside.low)) (Q.listed l)) (R.listed k)

-- the list k of the row i
abbrev pub list_of : (ℕ → Record) → List Row → Row → ℕ → ℕ → List ℕ
list_of f rows d i k = (state_of f (get_or rows i d)).free k

module _ {board : Board} where
  -- two lists of one row, or of two rows, have no page in common
  pub lists_apart : {f : ℕ → Record} {n base : ℕ} {rows : List Row} → GoodRows board f n base rows → (d : Row) (i j k l : ℕ)
      → i < length rows → j < length rows → (i ≡ j → k ≢ l) → Apart (list_of f rows d i k) (list_of f rows d j l)
  lists_apart {f} {base = base} {rows = rows} g d i j k l a b m = go (ℕ_discrete i j) (dec_lt i j)
    where
      go : Dec (i ≡ j) → Dec (i < j) → Apart (list_of f rows d i k) (list_of f rows d j l)
      go (yes e) c = subst (λ (x : ℕ). Apart (list_of f rows d i k) (list_of f rows d x l)) e (apart (good_at d g i a).sound k l (m e))
      go (no e) (yes c) = across (good_at d g i a).sound (good_at d g j b).sound (base_rises board d base rows i j c a) k l
      go (no e) (no c) =
          apart_sym (list_of f rows d i k)
          (across (good_at d g j b).sound (good_at d g i a).sound (base_rises board d base rows j i (omega arith) b) l k)

-- ---- no page frame is of two rows

neither : (a b : Bool) → (a || b) ≡ false → (a ≡ false) × (b ≡ false)
neither true b e = absurd (false≢true (sym e))
neither false b e = (refl, e)

module _ {board : Board} where
  -- a common page would be shared
  parted : (r t : Row) → shares board (bare_region board r) (bare_region board t) ≡ false → Parted board r t
  unfolding from_of managed
  parted r t e p a b =
      let x = r.start.0 / board.page in
      let y = t.start.0 / board.page in
      let u : x < y + t.pages = omega (arith, a.low, b.high) in
      let v : y < x + r.pages = omega (arith, b.low, a.high) in
      false≢true (sym e ∙ and-true (lt-ltb x (y + t.pages) u) (lt-ltb y (x + r.pages) v))

  beside : (r : Row) (rows : List Row) → any (shares board (bare_region board r)) (bare_regions board rows) ≡ false
      → Each (λ (t : Row). Parted board r t) rows
  unfolding any bare_regions
  beside r [] e = each_none
  beside r (t ∷ ts) e =
      let n = neither (shares board (bare_region board r) (bare_region board t)) _ e in
      each_more (parted r t n.0) (beside r ts n.1)

  disjoint : (rows : List Row) → overlap board (bare_regions board rows) ≡ false → Disjoint board rows
  unfolding overlap bare_regions
  disjoint [] e = disjoint_none
  disjoint (row ∷ rows) e =
      let n = neither (any (shares board (bare_region board row)) (bare_regions board rows)) _ e in
      disjoint_more (beside row rows n.0) (disjoint rows n.1)

  pub rows_apart : (w : World) → Sound board w → Disjoint board (used_rows w.rows)
  rows_apart w s = disjoint (used_rows w.rows) (as_boot_lem w.rows s.rows).apart

  -- two of the rows by their numbers
  pub disjoint_at : {rows : List Row} → Disjoint board rows → (d : Row) (i j : ℕ) → i < j → j < length rows
      → Parted board (get_or rows i d) (get_or rows j d)
  disjoint_at disjoint_none d i j h l = absurd (omega arith)
  disjoint_at (disjoint_more a rest) d i zero h l = absurd (omega arith)
  disjoint_at (disjoint_more a rest) d zero (suc j) h l = each_at d a j (omega arith)
  disjoint_at (disjoint_more a rest) d (suc i) (suc j) h l = disjoint_at rest d i j (omega arith) (omega arith)
