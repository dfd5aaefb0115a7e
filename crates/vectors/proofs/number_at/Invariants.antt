-- Each turn passes one digit, and what it says stays below 10^9.
use Rattle.std.proofs.Common.{◌<◌}
use Rattle.vectors.proofs.number_at.Given as goal

abbrev pub invariant-loop-i : goal.invariant-loop-i
invariant-loop-i l = l.v < 1000000000
