-- `see` meets its contract. The loop's invariant is `Looking`: some region manages the page exactly if one of those that are left does, and `base` is where
-- their pages start.
use Prim.Native.Nat.{◌/◌}
use Rattle.definition.specs.World.{record_at}
use Rattle.record.specs.Records.{pages_in}
use Rattle.words.specs.Words.{board_in, rows_in}
use Rattle.allocator.proofs.Seeing.{Looking}
use Rattle.allocator.proofs.Table.see.Given as goal

abbrev pub invariant-loop-i : goal.invariant-loop-i
invariant-loop-i l =
    let t = l.self in
    Looking (board_in t.words.now) (record_at t.records.now) (pages_in t.records.now) (rows_in t.words.now)
    (l.pa.0 / (board_in t.words.now).page) l.base l.i
