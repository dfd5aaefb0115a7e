-- Laws of one entry of a map: when it ends past 2^40, and when it is kept, by the numbers that the code compares. An entry that is kept is
-- a row such as boot makes.
use Prim.Native.Nat.{ℕ, ◌+◌, ◌-◌, ◌*◌, ◌/◌, ◌%◌, ◌^◌, ◌≤◌, ◌<◌}
use mathlib.Core.Bool.{true, false, ◌&&◌}
use mathlib.Core.List.{[]}
use mathlib.Core.Path.{◌≡◌, refl, sym, ap, ◌∙◌}
use native.Mathlib.Nat.{mul_comm}
use native.Mathlib.Omega.{arith}
use borrow.Author.Tests.{lt-ltb, ltb-false, ltb-true}
use lib.Dec.{ltb}
use Rattle.address.specs.declared.PhysAddr.{PhysAddr}
use Rattle.definition.specs.declared.MemoryRegion.{MemoryRegion}
use Rattle.definition.specs.Board.{Board, Fit}
use Rattle.definition.specs.Allocator.{AllocationRegion, empty_region, is_kept, is_usable, nr_pages, start_page, table_pages}
use Rattle.definition.specs.Boot.{ends_far, highest_address}
use Rattle.definition.specs.World.{bare_region}
use Rattle.definition.specs.Torn.{row_as_boot}
use Rattle.definition.proofs.Boards.{page_least}
use Rattle.definition.proofs.Bytes.{address_is, aligned_is, offset_small, pages_aligned, pages_bound, pages_of_lem, pages_order}
use Rattle.definition.proofs.Tests.{and_left, and_right}
use Rattle.region.specs.Rep.{empty_row}
use Rattle.audit.proofs.Booted.{by_tables}
use Rattle.audit.proofs.Onward.{and_on}
use Rattle.boot.specs.Booting.{kept_row}

pub row_at_lem : {start : PhysAddr} {pages s p : ℕ} → start.0 ≡ s → pages ≡ p → empty_row start pages ≡ empty_row (record { 0 = s }) p
row_at_lem {start} {pages} e h = rw (← e, ← h) refl

-- ---- its end

module _ (m : MemoryRegion) where
  pub far_usable : is_usable m.kind ≡ true → ends_far m ≡ ltb highest_address (m.start.0 + m.length)
  far_usable u = and_on _ u

  pub ends_near : ends_far m ≡ false → is_usable m.kind ≡ true → m.start.0 + m.length ≤ 2 ^ 40
  ends_near f u = ltb-false highest_address (m.start.0 + m.length) (sym (far_usable u) ∙ f)

-- ---- its pages: l bytes from s on, where a page has P

module _ (P : ℕ) (positive : 0 < P) (s l : ℕ) where
  -- the page edge that follows
  pub edge_after : s ≤ (s + (P - 1)) / P * P
  edge_after =
      let x = s + (P - 1) in
      omega (arith, address_is P x, offset_small P positive x, mul_comm (x / P) P)

  -- so many pages from the edge e on end where the bytes do, or before
  pub ends_within : (e n : ℕ) → s ≤ e → n ≡ (l - (e - s)) / P → 0 < n → e + P * n ≤ s + l
  ends_within e n h c k =
      let x = l - (e - s) in
      omega (arith, address_is P x, ap (λ (y : ℕ). P * y) c, pages_order P {a = 1} {b = n} (omega arith))

-- ---- its row

module _ (board : Board) (m : MemoryRegion) where
  -- what is kept
  module _ (k : is_kept board m ≡ true) where
    kept_usable : is_usable m.kind ≡ true
    kept_usable = and_left _ _ k

    kept_tests : ltb 1 (nr_pages board m) && ltb (table_pages board (nr_pages board m)) (nr_pages board m) ≡ true
    kept_tests = and_right (is_usable m.kind) _ k

    pub kept_pages : 1 < nr_pages board m
    kept_pages = ltb-true 1 (nr_pages board m) (and_left _ _ kept_tests)

    kept_tables : table_pages board (nr_pages board m) < nr_pages board m
    kept_tables = ltb-true (table_pages board (nr_pages board m)) (nr_pages board m) (and_right (ltb 1 (nr_pages board m)) _ kept_tests)

module _ {board : Board} (fit : Fit board) (m : MemoryRegion) where
  some_bytes : 0 < board.page
  some_bytes = omega (arith, page_least fit)

  -- its pages end where it does, or before, and are few
  pub pages_within
      : ends_far m ≡ false → is_usable m.kind ≡ true → 0 < nr_pages board m
      → start_page board m * board.page + board.page * nr_pages board m ≤ 2 ^ 40
  pages_within f u k =
      let e = start_page board m * board.page in
      omega (
        arith,
        ends_near m f u,
        ends_within board.page some_bytes m.start.0 m.length e (nr_pages board m)
            (edge_after board.page some_bytes m.start.0 m.length)
            refl
            k,
      )

  pub pages_few : ends_far m ≡ false → is_usable m.kind ≡ true → 0 < nr_pages board m → nr_pages board m ≤ 2 ^ 28
  pages_few f u k =
      let n = nr_pages board m in
      let b = pages_bound board.page (page_least fit) n {n = 2 ^ 40} (omega (arith, pages_within f u k)) in
      omega (arith, b)

  pub kept_booted : is_kept board m ≡ true → ends_far m ≡ false → row_as_boot board (kept_row board m) ≡ true
  kept_booted k f =
      let P = board.page in
      let s = start_page board m in
      let n = nr_pages board m in
      let aligned : s * P % P ≡ 0 = ap (λ (x : ℕ). x % P) (mul_comm s P) ∙ pages_aligned P s in
      by_tables board (kept_row board m) aligned (kept_pages board m k)
      (omega (arith, aligned_is P (s * P) aligned, pages_within f (kept_usable board m k) (omega (arith, kept_pages board m k))))
      ∙ lt-ltb (table_pages board n) n (kept_tables board m k)

  pub kept_region : bare_region board (kept_row board m) ≡ empty_region board m
  kept_region = go (start_page board m)
    where
      go : (s : ℕ)
          → ◌≡◌ {A = AllocationRegion} (record { start = s * board.page / board.page; pages = nr_pages board m; free = λ k. [] })
          (record { start = s; pages = nr_pages board m; free = λ k. [] })
      go s =
          let e : s * board.page / board.page ≡ s = ap (λ (x : ℕ). x / board.page) (mul_comm s board.page)
          ∙ pages_of_lem board.page some_bytes s in
          rw e refl
