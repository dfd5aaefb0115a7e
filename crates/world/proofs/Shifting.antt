-- From page frame numbers back to page numbers, in one region. Where a row stands for a region of a store, `encode_row` writes that very
-- row, and `record_of` the very record of each of its pages.
use Prim.Native.Nat.{ℕ, ◌+◌, ◌≤◌, ◌<◌}
use mathlib.Core.List.{List, map}
use mathlib.Core.Path.{◌≡◌, refl, sym, ap, ◌∙◌}
use native.Mathlib.Omega.{arith}
use Rattle.definition.specs.declared.Links.{Links}
use Rattle.definition.specs.declared.Record.{Record}
use Rattle.definition.specs.declared.Row.{Row}
use Rattle.definition.specs.Basics.{range}
use Rattle.definition.specs.Board.{Board}
use Rattle.definition.specs.Frame.{Frames}
use Rattle.definition.specs.Allocator.{AllocationRegion, first, managed as managedOf}
use Rattle.definition.specs.World.{links_of, slot_of, page_number, numbered, record_of, encode_row}
use Rattle.list.specs.Linked.{All}
use Rattle.list.specs.Linked.All.{all_none, all_more}
use Rattle.list.proofs.Laws.{all_map}
use Rattle.region.specs.Rep.{Inside, encode, from_of, lists_of, managed, state_of}
use Rattle.region.proofs.Exact.{encoded, listed_as}
use Rattle.world.specs.Stands.{shift, StandsRow}
use Rattle.definition.proofs.Bytes.{aligned_is, pages_same}

pub row_same : {a b c d : ℕ} {x y : List Links} → a ≡ b → c ≡ d → x ≡ y
    → ◌≡◌ {A = Row} (record { start = record { 0 = a }; pages = c; lists = x }) (record { start = record { 0 = b }; pages = d; lists = y })
row_same p q t = cc

map_back : (g h : ℕ → ℕ) {xs : List ℕ} → All (λ (q : ℕ). g (h q) ≡ q) xs → map g (map h xs) ≡ xs
map_back g h all_none = refl
map_back g h (all_more e rest) = cc (map_back g h rest)

module _ {board : Board} where
  module _ {f : ℕ → Record} {n base : ℕ} {row : Row} {fs : Frames} {r : AllocationRegion} (S : StandsRow board f n base row fs r) where
    first_same : first board r ≡ from_of board row
    unfolding from_of
    first_same = rw (S.start, S.pages)

    pub managed_same : managedOf board r ≡ managed board row.pages
    unfolding managed
    managed_same = rw S.pages

    number_back : (q : ℕ) → base ≤ q → page_number board base r (shift (from_of board row) base q) ≡ q
    number_back q h = rw first_same (omega arith)

    numbered_back : (k : ℕ) → numbered board base r k ≡ (state_of f row).free k
    numbered_back k =
        ap (map (page_number board base r)) (S.same.free k)
        ∙ map_back (page_number board base r) (shift (from_of board row) base) (all_map (λ q i. number_back q i.low) (S.same.inside k))

    lists_back : map (λ k. links_of (numbered board base r k)) (range 0 6) ≡ row.lists
    unfolding range lists_of
    lists_back = simp numbered_back (sym (listed_as S.sound))

    pub row_back : encode_row board base r ≡ row
    row_back = row_same (pages_same board.page S.start ∙ aligned_is board.page row.start.0 S.aligned) S.pages lists_back

    pub record_back : (i : ℕ) → i < managed board row.pages → record_of board base r fs (first board r + i) ≡ f (base + i)
    unfolding record_of encode
    record_back i h =
        let q = base + i in
        let e : first board r + i ≡ shift (from_of board row) base q = rw first_same (omega arith) in
        let k : Inside board base row.pages q = record { low = omega arith; high = omega arith } in
        ap (record_of board base r fs) e
        ∙ (rw (number_back q k.low, S.same.frames q k, numbered_back (slot_of ((state_of f row).frames q))))
        ∙ sym (encoded S.sound q k)
