-- `past_free` meets its contract. The loop's invariant: up to `at` there are only unheld frames of one page.
use Rattle.std.proofs.Common.{◌-◌, ◌≤◌}
use Rattle.definition.specs.World.{record_at}
use Rattle.scan.specs.Sheet.{Free}
use Rattle.scan.proofs.Region.past_free.Given as goal

abbrev pub invariant-loop-at : goal.invariant-loop-at
invariant-loop-at l = (l.first ≤ l.at) × (l.at ≤ l.self.past) × Free (record_at l.self.records.now) l.first l.at

abbrev pub decreases-loop-at : goal.decreases-loop-at
decreases-loop-at l = l.self.past - l.at
