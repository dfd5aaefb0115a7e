-- `kept_rows` meets its contract. The loop's invariant: the rows are those of the entries passed, with unused ones behind them.
use Prim.Native.Nat.{ℕ}
use mathlib.Core.List.{List}
use mathlib.Core.Path.{◌≡◌}
use lib.ListN.{length, take}
use Rattle.definition.specs.Board.{Board}
use Rattle.definition.specs.declared.MemoryRegion.{MemoryRegion}
use Rattle.definition.specs.declared.Row.{Row}
use Rattle.boot.specs.Booting.{eight, kept_rows}
use Rattle.boot.proofs.kept_rows.Given as goal

pub record Inv (board : Board) (map : List MemoryRegion) (rows : List Row) (used i : ℕ) : Type 0 where
  pub kept : rows ≡ eight (kept_rows board (take i map))
  pub many : used ≡ length (kept_rows board (take i map))

abbrev pub invariant-loop-entry : goal.invariant-loop-entry
invariant-loop-entry l = Inv l.board l.map l.rows l.used l.entry-index
