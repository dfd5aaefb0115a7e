-- The lent memory by physical address, and its bytes region by region. `memory_back` says that reading the regions' bytes out of
-- `memory_of` gives the front of the loan again, `memory_part` says so of any memory whose pages have the bytes of the loan's.
use Prim.Native.Nat.{ℕ, ◌+◌, ◌*◌, ◌/◌, ◌%◌, ◌≤◌, ◌<◌}
use mathlib.Core.Bool.{false}
use mathlib.Core.List.{List, [], ◌∷◌}
use mathlib.Core.Path.{◌≡◌, sym, ap, ◌∙◌}
use native.Mathlib.Omega.{arith}
use lib.ListN.{length, get_or, take}
use Rattle.definition.specs.Basics.{sum}
use Rattle.definition.specs.Board.{Board}
use Rattle.definition.specs.Boot.{managed_pages, overlap}
use Rattle.definition.specs.Allocator.{AllocationRegion, first, managed}
use Rattle.definition.specs.Store.{Memory}
use Rattle.definition.specs.World.{memory_of, memory_bytes}
use Rattle.definition.proofs.Bytes.{address_is, offset_of, offset_small, page_below, page_of_lem, pages_none, some_byte}
use Rattle.world.proofs.Numbering.{EachPage, each_first, each_rest, overlap_rest}
use Rattle.world.proofs.Parts.{part, part_front, part_none, part_join, run_part}

module _ (board : Board) where
  -- the page p of the memory has the bytes of the page q of the loan
  abbrev pub Holds : List ℕ → Memory → ℕ → ℕ → Type 0
  Holds bs m p q = (i : ℕ) → i < board.page → m (board.page * p + i) ≡ get_or bs (board.page * q + i) 0

  pub memory_part
      : (bs : List ℕ) (m : Memory) (base : ℕ) (rs : List AllocationRegion) → board.page * (base + managed_pages board rs) ≤ length bs
      → overlap board rs ≡ false → EachPage board (Holds bs m) base rs
      → memory_bytes board m rs ≡ part bs (board.page * base) (board.page * managed_pages board rs)
  unfolding memory_bytes sum
  memory_part bs m base [] h e each = rw (pages_none board.page) (sym (part_none bs (board.page * base)))
  memory_part bs m base (r ∷ rs) h e each =
      part_join bs (board.page * base) (board.page * managed board r) (board.page * managed_pages board rs)
      (run_part bs m (board.page * first board r) (board.page * base) (board.page * managed board r) (omega arith) (λ i k.
      let is = address_is board.page i in
      let x : board.page * (first board r + i / board.page) + i % board.page ≡ board.page * first board r + i = omega (arith, is) in
      let y : board.page * (base + i / board.page) + i % board.page ≡ board.page * base + i = omega (arith, is) in
      rw (x, y) at (each_first board (Holds bs m) base r rs each (i / board.page) (page_below board.page k) (i % board.page)
      (offset_small board.page (some_byte board.page (managed board r) k) i))))
      (memory_part bs m (base + managed board r) rs (omega arith) (overlap_rest board r rs e)
      (each_rest board (Holds bs m) base r rs each e))
      (omega arith) (omega arith)

  -- from the first region on
  pub memory_front
      : (bs : List ℕ) (m : Memory) (rs : List AllocationRegion) → board.page * managed_pages board rs ≤ length bs → overlap board rs ≡ false
      → EachPage board (Holds bs m) 0 rs → memory_bytes board m rs ≡ take (board.page * managed_pages board rs) bs
  memory_front bs m rs h e each =
      memory_part bs m 0 rs (omega arith) e each
      ∙ ap (λ (at : ℕ). part bs at (board.page * managed_pages board rs)) (pages_none board.page)
      ∙ part_front bs (board.page * managed_pages board rs)

  module _ (bs : List ℕ) (rs : List AllocationRegion) where
    holds : EachPage board (Holds bs (memory_of board bs rs)) 0 rs
    holds p q h i k =
        let x : (board.page * p + i) / board.page ≡ p = page_of_lem board.page p i k in
        let y : (board.page * p + i) % board.page ≡ i = offset_of board.page p i k in
        rw (x, h, y)

    pub memory_back : board.page * managed_pages board rs ≤ length bs → overlap board rs ≡ false
        → memory_bytes board (memory_of board bs rs) rs ≡ take (board.page * managed_pages board rs) bs
    memory_back h e = memory_front bs (memory_of board bs rs) rs h e holds
