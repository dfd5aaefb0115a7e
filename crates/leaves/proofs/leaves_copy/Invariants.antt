-- Each turn copies within the bytes that the last left, which are as many.
use Prim.Native.Nat.{◌+◌, ◌≤◌}
use mathlib.Core.Path.{◌≡◌}
use lib.ListN.{length}
use Rattle.leaves.specs.Contents.{copied}
use Rattle.leaves.proofs.leaves_copy.Given as goal

abbrev pub invariant-loop : goal.invariant-loop
invariant-loop l = (l.to + l.len ≤ length l.initial.memory) × (l.from + l.len ≤ length l.initial.memory)
    × (l.memory ≡ copied l.to l.from l.len l.counter l.initial.memory)
