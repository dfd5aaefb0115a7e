-- Each turn fills the bytes that the last left, which are as many.
use Prim.Native.Nat.{◌+◌, ◌≤◌}
use mathlib.Core.Path.{◌≡◌}
use lib.ListN.{length}
use Rattle.leaves.specs.Contents.{filled}
use Rattle.leaves.proofs.leaves_fill.Given as goal

abbrev pub invariant-loop-i : goal.invariant-loop-i
invariant-loop-i l = (l.at + l.len ≤ length l.initial.memory) × (l.memory ≡ filled l.at l.len l.i l.initial.memory)
