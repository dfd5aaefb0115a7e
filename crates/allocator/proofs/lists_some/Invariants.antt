-- `lists_some` meets its contract. The loop's invariant: a list of the level or above holds a frame exactly if one of those that are left
-- does.
use Prim.Native.Nat.{◌-◌, ◌*◌}
use mathlib.Core.Path.{◌≡◌}
use Rattle.definition.specs.Basics.{any, range}
use Rattle.level.specs.Level.{rank}
use Rattle.allocator.proofs.Listing.{counted_at}
use Rattle.allocator.proofs.lists_some.Given as goal

abbrev pub invariant-loop-k : goal.invariant-loop-k
invariant-loop-k l =
    any (counted_at l.row.lists) (range (rank l.fn.level * 2) (6 - rank l.fn.level * 2))
    ≡ any (counted_at l.row.lists) (range l.k (6 - l.k))
