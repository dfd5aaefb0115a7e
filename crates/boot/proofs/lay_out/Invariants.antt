-- `lay_out` meets its contract. The loop's invariant is `Laid`: the rows passed stand for their regions.
use Prim.Native.Nat.{ℕ}
use mathlib.Core.List.{List}
use mathlib.Core.Path.{◌≡◌}
use lib.ListN.{length}
use Rattle.definition.specs.declared.Row.{Row}
use Rattle.definition.specs.Board.{Board}
use Rattle.definition.specs.World.{record_at}
use Rattle.record.specs.Records.{pages_in}
use Rattle.boot.proofs.OneByOne.{Laid}
use Rattle.boot.proofs.lay_out.Given as goal

pub record Inv (board : Board) (records₀ : List ℕ) (ks : List Row) (records : List ℕ) (rows : List Row) (base i : ℕ) : Type 0 where
  pub long : length records ≡ length records₀
  pub laid : Laid board (record_at records₀) ks (record_at records) (pages_in records₀) rows base i

abbrev pub invariant-loop-row : goal.invariant-loop-row
invariant-loop-row l = Inv l.board l.fn.records l.fn.rows l.records l.rows l.base l.row-index
