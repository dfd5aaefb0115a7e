-- `scan` meets its contract. The loop's invariant is `Scanning`: what is left decides as the whole does.
use Rattle.std.proofs.Common.{◌-◌}
use Rattle.definition.specs.World.{record_at}
use Rattle.scan.proofs.Scanning.{Scanning}
use Rattle.scan.proofs.Region.scan.Given as goal

abbrev pub invariant-loop-at : goal.invariant-loop-at
invariant-loop-at l = Scanning (record_at l.self.records.now) l.self.from l.self.base l.self.past l.page l.kernel l.at

abbrev pub decreases-loop-at : goal.decreases-loop-at
decreases-loop-at l = l.self.past - l.at
