-- Sums over the rows in use, as a loop over them adds them up: of managed pages, of idle pages, and within a row of the pages on its lists. What a region
-- holds is bounded by the heads that it can have, so that no sum of held pages wraps.
use Prim.Native.Nat.{ℕ, zero, suc, ◌+◌, ◌-◌, ◌*◌, ◌/◌, ◌%◌, ◌≤◌, ◌<◌}
use mathlib.Core.Bool.{Bool, true, false, cond, ◌&&◌}
use mathlib.Core.List.{List, [], ◌∷◌}
use mathlib.Core.Path.{◌≡◌, refl, ap}
use native.Mathlib.Omega.{arith}
use borrow.Author.Tests.{ltb-true}
use lib.Dec.{leb, ltb, eqb}
use lib.ListN.{length, drop}
use Rattle.definition.specs.declared.Record.{Record}
use Rattle.definition.specs.declared.Row.{Row}
use Rattle.definition.specs.Board.{Board}
use Rattle.definition.specs.Basics.{sum, bit}
use Rattle.definition.specs.Frame.{size, levels}
use Rattle.definition.specs.Allocator.{table_pages, managed}
use Rattle.definition.specs.Boot.{managed_pages}
use Rattle.definition.specs.World.{bare_region, used_rows}
use Rattle.definition.specs.Torn.{
  Records,
  bare_regions,
  regions_of,
  placed,
  placed_from,
  is_held_record,
  pages_of_record,
  heads_from,
  listed_pages,
  held_as,
  idle_pages,
}
use Rattle.level.proofs.Sizes.{size_most}
use Rattle.scan.specs.Sheet.{placed_at, held_row}
use Rattle.audit.specs.Sheet.{row_at}
use Rattle.audit.proofs.Onward.{drop_past, sum_on}
use Rattle.audit.proofs.Used.{used_at}

-- ---- the rows in use

module _ (w : Row → ℕ) (rows : List Row) where
  -- what the rows from i on add up to
  unfoldable pub left_of : ℕ → ℕ
  left_of i = sum w (drop i (used_rows rows))

  pub left_more : (i : ℕ) → i < length (used_rows rows) → left_of i ≡ w (row_at rows i) + left_of (i + 1)
  unfolding left_of
  left_more i h = sum_on w (used_at rows i h)

  pub left_none : (i : ℕ) → length (used_rows rows) ≤ i → left_of i ≡ 0
  unfolding left_of sum
  left_none i h = ap (sum w) (drop_past (used_rows rows) i h)

module _ (board : Board) where
  abbrev pub managed_row : Row → ℕ
  managed_row row = managed board (bare_region board row)

  managed_rows : (rows : List Row) → managed_pages board (bare_regions board rows) ≡ sum managed_row rows
  unfolding sum bare_regions
  managed_rows [] = refl
  managed_rows (row ∷ rows) = ap (λ (n : ℕ). managed_row row + n) (managed_rows rows)

  pub managed_all : (rows : List Row) → managed_pages board (regions_of board rows) ≡ left_of managed_row rows 0
  unfolding left_of
  managed_all rows = managed_rows (used_rows rows)

  -- a row's lists and tables, wherever its pages are numbered from
  abbrev pub idle_row : Row → ℕ
  idle_row row = listed_pages (placed_at 0 row) + table_pages board row.pages

  idle_rows : (base : ℕ) (rows : List Row) → idle_pages board (placed_from board base rows) ≡ sum idle_row rows
  unfolding sum idle_pages placed_from
  idle_rows base [] = refl
  idle_rows base (row ∷ rows) = ap (λ (n : ℕ). idle_row row + n) (idle_rows (base + managed_row row) rows)

  pub idle_all : (rows : List Row) → idle_pages board (placed board rows) ≡ left_of idle_row rows 0
  unfolding left_of
  idle_all rows = idle_rows 0 (used_rows rows)

-- ---- the pages that a region holds

record_pages : (r : Record) → pages_of_record r ≤ 262144
record_pages r = go (ltb r.level levels) refl
  where
    go : (t : Bool) → ltb r.level levels ≡ t → cond t (size r.level) 1 ≤ 262144
    go true e = size_most (ltb-true r.level levels e)
    go false e = omega arith

held_record : (kernel : Bool) (r : Record) → held_as kernel r ≤ 262144
held_record kernel r = go (is_held_record r && eqb (r.marks / 8 % 2) (bit kernel))
  where
    go : (t : Bool) → cond t (pages_of_record r) 0 ≤ 262144
    go true = record_pages r
    go false = omega arith

module _ (w : ℕ → ℕ) (most : (h : ℕ) → w h ≤ 262144) (f : Records) where
  heads_sum : (n at past : ℕ) → sum w (heads_from f n at past) ≤ 262144 * n
  unfolding sum heads_from
  heads_sum zero at past = omega arith
  heads_sum (suc n) at past = go (leb past at) (heads_sum n (at + pages_of_record (f at)) past)
    where
      go : (t : Bool) → sum w (heads_from f n (at + pages_of_record (f at)) past) ≤ 262144 * n
          → sum w (cond t [] (at ∷ heads_from f n (at + pages_of_record (f at)) past)) ≤ 262144 * suc n
      go true h = omega arith
      go false h = omega (arith, most at)

module _ (board : Board) where
  pub held_most : (kernel : Bool) (f : Records) (base : ℕ) (row : Row) → held_row board kernel f (placed_at base row) ≤ 262144 * managed_row board row
  held_most kernel f base row =
      let e : base + managed_row board row - base ≡ managed_row board row = omega arith in
      rw e (heads_sum (λ h. held_as kernel (f h)) (λ h. held_record kernel (f h)) f (managed_row board row) base (base + managed_row board row))
