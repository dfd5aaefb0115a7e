-- Addresses of a region's pages, and back, and that what the code computes of them is a number of 64 bits.
use Prim.Native.Nat.{ℕ, ◌+◌, ◌-◌, ◌*◌, ◌/◌, ◌≤◌, ◌<◌, ◌^◌}
use mathlib.Core.Bool.{and-false}
use mathlib.Core.Option.{none, some}
use mathlib.Core.Path.{◌≡◌, refl}
use native.Mathlib.Nat.{div-le_self, mul-le-mul_right}
use native.Mathlib.Omega.{arith}
use borrow.Author.Tests.{le-leb, lt-leb, lt-ltb, le-ltb}
use lib.Dec.{leb}
use Rattle.definition.specs.declared.Row.{Row}
use Rattle.definition.specs.Board.{Board, Fit}
use Rattle.definition.specs.Allocator.{table_pages}
use Rattle.definition.proofs.Boards.{page_least, page_most}
use Rattle.definition.proofs.Bytes.{address_is, pages_bound, pages_order}
use Rattle.region.specs.Rep.{Inside, managed, from_of, lookup}

module _ (board : Board) where
  pub managed_is : (pages : ℕ) → managed board pages ≡ pages - table_pages board pages
  unfolding managed
  managed_is pages = refl

  pub from_is : (row : Row) → from_of board row ≡ row.start.0 / board.page + table_pages board row.pages
  unfolding from_of
  from_is row = refl

-- ---- on a fit board

module _ {board : Board} (fit : Fit board) where
  pub page_some : 0 < board.page
  page_some = omega (arith, page_least fit)

  -- the bytes of the tables of so many pages
  pub tables_room : (pages : ℕ) → pages ≤ 2 ^ 32 → board.record_bytes * pages ≤ 2 ^ 45
  tables_room pages h = omega (arith, mul-le-mul_right {m = board.record_bytes} {n = 8192} pages fit.record_most)

  pub tables_few : (pages : ℕ) → pages ≤ 2 ^ 32 → table_pages board pages ≤ 2 ^ 46
  tables_few pages h =
      omega (arith, div-le_self (board.record_bytes * pages + (board.page - 1)) board.page, tables_room pages h, page_most fit)

  -- the page frame number of an address
  pub number_few : (x : ℕ) → x < 2 ^ 64 → x / board.page < 2 ^ 52
  number_few x h = omega (arith, pages_bound board.page (page_least fit) (x / board.page) {n = x} (omega (arith, address_is board.page x)))

  -- a region that ends by 2 ^ 40 has few pages
  pub pages_few : (a pages : ℕ) → board.page * (a + pages) ≤ 2 ^ 40 → pages ≤ 2 ^ 28
  pages_few a pages h = omega (arith, pages_bound board.page (page_least fit) (a + pages) {n = 2 ^ 40} h)

-- ---- n, s and t are what the code computes of the page frame number, the region's first page and its tables

module _
    (board : Board) (row : Row) (first : ℕ) {number n s t : ℕ} (en : n ≡ number) (es : s ≡ row.start.0 / board.page)
    (et : t ≡ table_pages board row.pages)
  where
    abbrev from : ℕ
    from = row.start.0 / board.page + table_pages board row.pages

    abbrev past : ℕ
    past = row.start.0 / board.page + row.pages

    pub lookup_below : n < s + t → lookup board row first number ≡ none
    unfolding lookup
    lookup_below h = let k : number < from = rw (en, es, et) at h in rw (lt-leb from number k) refl

    pub lookup_past : s + row.pages ≤ n → lookup board row first number ≡ none
    unfolding lookup
    lookup_past h = let k : past ≤ number = rw (en, es) at h in rw (le-ltb number past k, and-false (leb from number)) refl

    pub lookup_in : s + t ≤ n → n < s + row.pages → lookup board row first number ≡ some (first + (n - (s + t)))
    unfolding lookup
    lookup_in h k =
        let a : from ≤ number = rw (en, es, et) at h in
        let b : number < past = rw (en, es) at k in
        rw (en, es, et, le-leb from number a, lt-ltb number past b) refl

    pub lookup_fits : s + t ≤ n → n < s + row.pages → first + (n - (s + t)) < first + managed board row.pages
    unfolding managed
    lookup_fits h k = omega (arith, et)

-- the page frame number of a page of the region, and its address, where the region ends by 2 ^ 40
module _
    {board : Board} (row : Row) {first page s t : ℕ} (es : s ≡ row.start.0 / board.page) (et : t ≡ table_pages board row.pages)
    (i : Inside board first row.pages page) (ends : board.page * (row.start.0 / board.page + row.pages) ≤ 2 ^ 40)
  where
    pub number_ends : s + t + (page - first) ≤ row.start.0 / board.page + row.pages
    number_ends = omega (arith, es, et, managed_is board row.pages, i.low, i.high)

    pub address_ends : board.page * (s + t + (page - first)) < 2 ^ 64
    address_ends = omega (arith, pages_order board.page number_ends, ends)
