-- The rows that `encode` writes: those in use are such as boot makes, one for each region, and the others are empty. A reader takes from here the rows' clause of
-- the torn sheet (`rows_sound`), and that the regions of the rows are the store's but for their lists (`rows_bare`).
use Prim.Native.Nat.{ℕ, zero, suc, ◌+◌, ◌-◌, ◌*◌, ◌%◌, ◌≤◌}
use mathlib.Core.Bool.{Bool, true, false, not, ◌&&◌}
use mathlib.Core.List.{List, [], ◌∷◌, ◌++◌}
use mathlib.Core.Path.{◌≡◌, refl, ap, ap₂, ◌∙◌}
use native.Mathlib.Omega.{arith}
use borrow.Author.Tests.{lt-ltb, le-leb, eq-eqb, ne_eqb}
use lib.ListN.{length, drop, replicate, length-append, length-replicate}
use lib.Seq.{drop_at}
use Rattle.definition.proofs.Boards.{page_positive}
use Rattle.definition.proofs.Bytes.{pages_aligned, pages_of_lem}
use Rattle.definition.specs.declared.Row.{Row}
use Rattle.definition.specs.Basics.{all, sum, range}
use Rattle.definition.specs.Board.{Board}
use Rattle.definition.specs.Boot.{most_rows, most_pages, highest_address, overlap}
use Rattle.definition.specs.Allocator.{AllocationRegion, table_pages, managed, total}
use Rattle.definition.specs.World.{no_row, used_rows, encode_row, encode_rows}
use Rattle.definition.specs.Torn.{is_no_row, bare_regions, regions_of, row_as_boot, six_lists, rows_as_boot}
use Rattle.definition.proofs.Tests.{and-true}
use Rattle.definition.specs.Board.{Fit}
use Rattle.world.proofs.Spans.{bared, overlap_spans}
use Rattle.bookkeeping.specs.Blocks.{All}
use Rattle.bookkeeping.specs.Blocks.All.{all_none, all_more}
use Rattle.bookkeeping.specs.Good.{AsBoot}

module _ (board : Board) where
  -- the rows of a world that was written
  abbrev pub rows_for : List AllocationRegion → List Row
  rows_for rs = encode_rows board 0 rs ++ replicate (most_rows - length rs) no_row

  as_many : (base : ℕ) (rs : List AllocationRegion) → length (encode_rows board base rs) ≡ length rs
  unfolding encode_rows
  as_many base [] = refl
  as_many base (r ∷ rs) = ap suc (as_many (base + managed board r) rs)

-- ---- rows in use come first

used_none : (n : ℕ) → used_rows (replicate n no_row) ≡ []
unfolding used_rows
used_none zero = refl
used_none (suc n) = refl

module _ {board : Board} where
  used_front : (base n : ℕ) {rs : List AllocationRegion} → All (AsBoot board) rs → used_rows (encode_rows board base rs ++ replicate n no_row) ≡ encode_rows board base rs
  unfolding used_rows encode_rows
  used_front base n all_none = used_none n
  used_front base n (all_more {x = r} a more) =
      rw (ne_eqb r.pages 0 (omega (arith, a.more)))
      (ap (λ (l : List Row). encode_row board base r ∷ l) (used_front (base + managed board r) n more))

  pub used_rows_lem : {rs : List AllocationRegion} → All (AsBoot board) rs → used_rows (rows_for board rs) ≡ encode_rows board 0 rs
  used_rows_lem {rs} a = used_front 0 (most_rows - length rs) a

-- ---- the regions of the rows

bare_same : {a b c d : ℕ} → a ≡ b → c ≡ d
    → ◌≡◌ {A = AllocationRegion} (record { start = a; pages = c; free = λ k. [] }) (record { start = b; pages = d; free = λ k. [] })
bare_same p q = cc

module _ (board : Board) (fit : Fit board) where
  pub rows_bare : (base : ℕ) (rs : List AllocationRegion) → bare_regions board (encode_rows board base rs) ≡ bared rs
  unfolding bare_regions encode_rows
  rows_bare base [] = refl
  rows_bare base (r ∷ rs) =
      ap₂ (λ (x : AllocationRegion) (y : List AllocationRegion). x ∷ y) (bare_same (pages_of_lem board.page (page_positive fit) r.start) refl) (rows_bare (base + managed board r) rs)

module _ {board : Board} (fit : Fit board) where
  pub regions_bare : {rs : List AllocationRegion} → All (AsBoot board) rs → regions_of board (rows_for board rs) ≡ bared rs
  regions_bare {rs} a = ap (bare_regions board) (used_rows_lem a) ∙ rows_bare board fit 0 rs

pub total_bare : (rs : List AllocationRegion) → total (bared rs) ≡ total rs
unfolding sum
total_bare [] = refl
total_bare (r ∷ rs) = rw (total_bare rs)

-- ---- the clause

module _ {A : Type 0} (test : A → Bool) where
  all_append : (xs ys : List A) → all test xs ≡ true → all test ys ≡ true → all test (xs ++ ys) ≡ true
  unfolding all
  all_append [] ys a b = b
  all_append (x ∷ xs) ys a b = go (test x) a (all_append xs ys)
    where
      go : (t : Bool) → t && all test xs ≡ true → (all test xs ≡ true → all test ys ≡ true → all test (xs ++ ys) ≡ true) → t && all test (xs ++ ys) ≡ true
      go true c more = more c b
      go false c more = c

  all_replicate : (n : ℕ) (v : A) → test v ≡ true → all test (replicate n v) ≡ true
  unfolding all
  all_replicate zero v e = refl
  all_replicate (suc n) v e = and-true e (all_replicate n v e)

module _ (board : Board) where
  six_rows : (base : ℕ) (rs : List AllocationRegion) → all six_lists (encode_rows board base rs) ≡ true
  unfolding all encode_rows range
  six_rows base [] = refl
  six_rows base (r ∷ rs) = six_rows (base + managed board r) rs

module _ {board : Board} where
  boot_rows : (base : ℕ) {rs : List AllocationRegion} → All (AsBoot board) rs → all (row_as_boot board) (encode_rows board base rs) ≡ true
  unfolding all encode_rows
  boot_rows base all_none = refl
  boot_rows base (all_more {x = r} a more) =
      and-true
      (and-true (eq-eqb (board.page * r.start % board.page) 0 (pages_aligned board.page r.start))
      (and-true (lt-ltb 1 r.pages a.more)
      (and-true (lt-ltb (table_pages board r.pages) r.pages a.tables) (le-leb (board.page * r.start + board.page * r.pages) highest_address (omega (arith, a.near))))))
      (boot_rows (base + managed board r) more)

no_row_lem : is_no_row no_row ≡ true
unfolding all
no_row_lem = refl

module _ {board : Board} (fit : Fit board) where
  pub rows_sound : {rs : List AllocationRegion} → All (AsBoot board) rs → length rs ≤ most_rows → overlap board rs ≡ false → total rs ≤ most_pages
      → rows_as_boot board (rows_for board rs) ≡ true
  unfolding rows_as_boot
  rows_sound {rs} a few apart most =
      let n = most_rows - length rs in
      let used = used_rows_lem a in
      let regions = regions_bare fit a in
      let behind : drop (length (encode_rows board 0 rs)) (rows_for board rs) ≡ replicate n no_row =
      drop_at (encode_rows board 0 rs) (replicate n no_row) (length (encode_rows board 0 rs)) refl in
      let lap : not (overlap board (bared rs)) ≡ true = rw ((overlap_spans board).same rs, apart) in
      let blank : all is_no_row (drop (length (used_rows (rows_for board rs))) (rows_for board rs)) ≡ true = rw (used, behind) (all_replicate is_no_row n no_row no_row_lem) in
      let boots : all (row_as_boot board) (used_rows (rows_for board rs)) ≡ true = rw used (boot_rows 0 a) in
      let separate : not (overlap board (regions_of board (rows_for board rs))) ≡ true = rw regions lap in
      let pages : total (regions_of board (rows_for board rs)) ≤ most_pages = rw regions (omega (arith, total_bare rs)) in
      let eight : length (rows_for board rs) ≡ 8 = simp (length-append, length-replicate) (omega (arith, as_many board 0 rs)) in
      and-true (eq-eqb (length (rows_for board rs)) 8 eight)
      (and-true (all_append six_lists (encode_rows board 0 rs) (replicate n no_row) (six_rows board 0 rs) (all_replicate six_lists n no_row refl))
      (and-true blank (and-true boots (and-true separate (le-leb (total (regions_of board (rows_for board rs))) most_pages pages)))))
