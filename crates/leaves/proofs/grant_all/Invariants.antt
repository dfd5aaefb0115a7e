-- Each grant leaves the region sound and whole, as the next one requires.
use Prim.Native.Nat.{ℕ}
use mathlib.Core.List.{List}
use Rattle.definition.specs.Board.{Board}
use Rattle.definition.specs.World.{record_at}
use Rattle.record.specs.Records.{pages_in}
use Rattle.words.specs.Words.{InUse, row_of, rows_in}
use Rattle.region.specs.Rep.{SoundRow, WholeRow}
use Rattle.leaves.proofs.grant_all.Given as goal

pub record Inv (board : Board) (records words : List ℕ) : Type 0 where
  pub used : InUse words 0
  pub sound : SoundRow board (record_at records) (pages_in records) 0 (row_of (rows_in words) 0)
  pub whole : WholeRow board (record_at records) 0 (row_of (rows_in words) 0)

abbrev pub invariant-loop-i : goal.invariant-loop-i
invariant-loop-i l = Inv l.board l.records l.words
