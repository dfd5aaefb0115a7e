-- `walk` meets its contract. The loop's invariant: what is left of the walk, between its two ends, decides as the whole does.
use Rattle.std.proofs.Common.{◌≡◌, ◌<◌}
use Rattle.definition.specs.World.{record_at}
use Rattle.scan.specs.Sheet.{walks_at}
use Rattle.scan.proofs.Ends.{between}
use Rattle.scan.proofs.Region.walk.Given as goal

abbrev pub invariant-loop-left : goal.invariant-loop-left
invariant-loop-left l =
    let f = record_at l.self.records.now in
    (l.at < 4294967296)
    × (l.last < 4294967296)
    × (walks_at f l.self.base l.self.past l.k l.fn.links.count 0 l.fn.links.front l.fn.links.back
    ≡ between f l.self.base l.self.past l.k l.left l.prev l.at l.next l.last)

abbrev pub decreases-loop-left : goal.decreases-loop-left
decreases-loop-left l = l.left
