-- The levels left fall at each search of a larger one.
use Rattle.std.proofs.Common.{◌+◌, ◌*◌, ◌-◌}
use Rattle.region.proofs.AllocationRegion.+levels.Given as goal

abbrev pub decreases-do_allocate : goal.decreases-do_allocate
decreases-do_allocate l = 2 * (3 - l.level) + 1

abbrev pub decreases-larger : goal.decreases-larger
decreases-larger l = 2 * (3 - l.level)
