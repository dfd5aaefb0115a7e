-- The loop has stored the children before i.
use Rattle.std.proofs.Common.{◌≡◌, length}
use Rattle.definition.specs.World.{record_at}
use Rattle.region.proofs.Holding.{many_from}
use Rattle.region.proofs.split_and_keep.Given as goal

abbrev pub invariant-loop-i : goal.invariant-loop-i
invariant-loop-i l =
    record {
      same : length l.records ≡ length l.initial.records;
      stored : record_at l.records ≡ many_from l.i (record_at l.initial.records) l.page l.step l.child;
    }
