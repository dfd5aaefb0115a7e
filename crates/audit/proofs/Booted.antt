-- What the test of a row as boot makes it says in numbers, of one row and of each in use. And when it holds, by the numbers that the code
-- compares: its end in pages, where the definition counts it in bytes.
use Prim.Native.Nat.{ℕ, ◌+◌, ◌*◌, ◌/◌, ◌%◌, ◌≤◌, ◌<◌}
use mathlib.Core.Bool.{Bool, true, false, cond, ◌&&◌}
use mathlib.Core.List.{List, [], ◌∷◌}
use mathlib.Core.Path.{◌≡◌, refl, ap, ◌∙◌}
use native.Mathlib.Omega.{arith}
use borrow.Author.Tests.{ne_eqb, eqb-true, ltb-true, leb-true, eq-eqb, lt-ltb, le-leb}
use lib.Dec.{ltb, eqb}
use lib.ListN.{length, get_or}
use Rattle.definition.specs.declared.Row.{Row}
use Rattle.definition.specs.Board.{Board, Fit}
use Rattle.definition.specs.Allocator.{table_pages, total}
use Rattle.definition.specs.Basics.{all, sum}
use Rattle.definition.specs.Boot.{highest_address}
use Rattle.definition.proofs.Bytes.{aligned_is, page_reached, pages_bound}
use Rattle.definition.proofs.Boards.{page_least}
use Rattle.definition.specs.World.{used_rows}
use Rattle.definition.specs.Torn.{bare_regions, row_as_boot}
use Rattle.definition.proofs.Tests.{and_left, and_right}
use Rattle.audit.specs.Sheet.{row_at}
use Rattle.audit.proofs.Onward.{drop_at, all_first, all_drop, and_on}
use Rattle.audit.proofs.Used.{used_at}

module _ (board : Board) where
  pub record Booted (row : Row) : Type 0 where
    pub aligned : row.start.0 % board.page ≡ 0
    pub more : 1 < row.pages
    pub tables : table_pages board row.pages < row.pages
    pub ends : row.start.0 + board.page * row.pages ≤ highest_address

module _ (board : Board) where
  pub booted : (row : Row) → row_as_boot board row ≡ true → Booted board row
  booted row e =
      let a = and_right (eqb (row.start.0 % board.page) 0) _ e in
      let b = and_right (ltb 1 row.pages) _ a in
      record {
        aligned = eqb-true _ _ (and_left _ _ e);
        more = ltb-true _ _ (and_left _ _ a);
        tables = ltb-true _ _ (and_left _ _ b);
        ends = leb-true _ _ (and_right (ltb (table_pages board row.pages) row.pages) _ b);
      }

-- the end, looked at in pages
pub ends_by : {board : Board} → Fit board → {row : Row} → Booted board row
    → row.start.0 / board.page + row.pages ≤ highest_address / board.page
ends_by {board} fit {row} b =
    let P = board.page in
    page_reached P (omega (arith, page_least fit)) (omega (arith, b.ends, aligned_is P row.start.0 b.aligned))

-- 2^40 bytes are of at most 2^28 pages
pub few_pages : {board : Board} → Fit board → {row : Row} → Booted board row → row.start.0 / board.page + row.pages ≤ 268435456
few_pages {board} fit {row} b =
    let P = board.page in
    let e = pages_bound P (page_least fit) (row.start.0 / P + row.pages) {n = highest_address}
    (omega (arith, b.ends, aligned_is P row.start.0 b.aligned)) in
    omega (arith, e)

module _ (board : Board) where
  -- where the rest holds, the test of the tables decides
  pub by_tables
      : (row : Row) → row.start.0 % board.page ≡ 0 → 1 < row.pages → board.page * (row.start.0 / board.page + row.pages) ≤ highest_address
      → row_as_boot board row ≡ ltb (table_pages board row.pages) row.pages
  by_tables row a m e =
      and_on _ (eq-eqb _ _ a)
      ∙ and_on _ (lt-ltb 1 row.pages m)
      ∙ last (ltb (table_pages board row.pages) row.pages) _
      (le-leb (row.start.0 + board.page * row.pages) highest_address (omega (arith, aligned_is board.page row.start.0 a)))
    where
      last : (t u : Bool) → u ≡ true → (t && u) ≡ t
      last true u h = h
      last false u h = refl

  -- each of the rows in use, where all are tested
  pub used_booted : (rows : List Row) (i : ℕ) → all (row_as_boot board) (used_rows rows) ≡ true → i < length (used_rows rows)
      → row_as_boot board (row_at rows i) ≡ true
  used_booted rows i e h = all_first (row_as_boot board) (used_at rows i h) (all_drop (row_as_boot board) (used_rows rows) i e)

module _ (board : Board) where
  -- each row of a list of such
  pub booted_in : (rows : List Row) (i : ℕ) (d : Row) → all (row_as_boot board) rows ≡ true → i < length rows
      → Booted board (get_or rows i d)
  booted_in rows i d e h =
      booted board (get_or rows i d) (all_first (row_as_boot board) (drop_at rows i d h) (all_drop (row_as_boot board) rows i e))

  pub few_total : Fit board → (rows : List Row) → all (row_as_boot board) rows ≡ true
      → total (bare_regions board rows) ≤ length rows * 268435456
  unfolding all sum bare_regions
  few_total fit [] e = omega arith
  few_total fit (row ∷ rows) e =
      omega (arith, few_pages fit (booted board row (and_left _ _ e)), few_total fit rows (and_right (row_as_boot board row) _ e))

  -- rows that are all such are all in use
  pub booted_used : (rows : List Row) → all (row_as_boot board) rows ≡ true → used_rows rows ≡ rows
  unfolding all used_rows
  booted_used [] e = refl
  booted_used (row ∷ rows) e =
      ap (λ (t : Bool). cond t [] (row ∷ used_rows rows)) (ne_eqb row.pages 0
      (λ z. omega (arith, (booted board row (and_left _ _ e)).more)))
      ∙ ap (λ (l : List Row). row ∷ l) (booted_used rows (and_right (row_as_boot board row) _ e))
