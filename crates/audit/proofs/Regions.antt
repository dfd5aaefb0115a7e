-- Of the rows in use: their managed pages, beside all of theirs and beside the records' loan.
use Prim.Native.Nat.{ℕ, ◌*◌, ◌/◌, ◌≤◌}
use mathlib.Core.Bool.{true}
use mathlib.Core.List.{List, [], ◌∷◌}
use mathlib.Core.Path.{◌≡◌}
use native.Mathlib.Omega.{arith}
use borrow.Author.Tests.{leb-true}
use Rattle.definition.specs.declared.Row.{Row}
use Rattle.definition.specs.Board.{Board}
use Rattle.definition.specs.Basics.{sum}
use Rattle.definition.specs.Allocator.{AllocationRegion, total}
use Rattle.definition.specs.Boot.{managed_pages}
use Rattle.definition.specs.Torn.{regions_of, loans_long}
use Rattle.definition.proofs.Tests.{and_left}

module _ (board : Board) where
  pub managed_total : (rs : List AllocationRegion) → managed_pages board rs ≤ total rs
  unfolding sum
  managed_total [] = omega arith
  managed_total (r ∷ rs) = omega (arith, managed_total rs)

  -- the records' loan has a record for each managed page
  pub loans_fit : (rows : List Row) (records memory : ℕ) → loans_long board rows records memory ≡ true
      → managed_pages board (regions_of board rows) ≤ records / 16
  unfolding loans_long
  loans_fit rows records memory t =
      let l = leb-true (16 * managed_pages board (regions_of board rows)) records (and_left _ _ t) in
      omega arith
