-- The loop's invariant: the places up to this turn's are read, and the others unused.
use Rattle.map.proofs.Gathering.{Filled}
use Rattle.map.proofs.gather.Given as goal

abbrev pub invariant-loop-i : goal.invariant-loop-i
invariant-loop-i g l = Filled (goal.F-post g l.entry) l.i l.map
