-- The sum is below 2^34 for each record passed, so that it fits.
use Prim.Native.Nat.{◌*◌, ◌≤◌}
use Rattle.leaves.proofs.load_all.Given as goal

abbrev pub invariant-loop-i : goal.invariant-loop-i
invariant-loop-i l = l.sum ≤ l.i * 17179869184
