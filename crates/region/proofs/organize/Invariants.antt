-- The loop has laid out the pages below `at`.
use Rattle.std.proofs.Common.{◌≡◌, ◌-◌, ◌≤◌, length}
use Rattle.definition.specs.World.{record_at}
use Rattle.record.specs.Records.{pages_in}
use Rattle.region.proofs.Laying.{Laid}
use Rattle.region.proofs.organize.Given as goal

abbrev pub invariant-loop-at : goal.invariant-loop-at
invariant-loop-at l =
    record {
      some : l.at ≤ l.count;
      same : length l.records ≡ length l.initial.records;
      laid : Laid l.board (record_at l.initial.records) l.first l.initial.r l.from l.count (record_at l.records) (pages_in l.records) l.r l.at;
    }

abbrev pub decreases-loop-at : goal.decreases-loop-at
decreases-loop-at l = l.count - l.at
