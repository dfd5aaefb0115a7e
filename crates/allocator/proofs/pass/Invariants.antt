-- `pass` meets its contract. The loop's invariant is `Gone`: the regions passed had nothing, so that the records and the rows are as they
-- were.
use Prim.Native.Nat.{ℕ}
use mathlib.Core.Bool.{Bool}
use mathlib.Core.List.{List}
use mathlib.Core.Path.{◌≡◌}
use lib.ListN.{length}
use Rattle.definition.specs.World.{record_at}
use Rattle.level.specs.Level.{rank}
use Rattle.record.specs.Records.{pages_in}
use Rattle.words.specs.Words.{RowsBeside, board_in, rows_in}
use Rattle.allocator.proofs.Picking.{Gone}
use Rattle.allocator.proofs.pass.Given as goal

pub record Inv (words₀ records₀ : List ℕ) (level : ℕ) (try_zero only_zero : Bool) (words records : List ℕ) (base i : ℕ) : Type 0 where
  pub rows : rows_in words ≡ rows_in words₀
  pub rest : RowsBeside words₀ words
  pub wide : length words ≡ length words₀
  pub long : length records ≡ length records₀
  pub gone : Gone (board_in words₀) (record_at records₀) (pages_in records₀) (rows_in words₀) level try_zero only_zero
      (record_at records) (pages_in records) base i

abbrev pub invariant-loop-i : goal.invariant-loop-i
invariant-loop-i l = Inv l.initial.words l.initial.records (rank l.level) l.try_zero l.only_zero l.words l.records l.base l.i
