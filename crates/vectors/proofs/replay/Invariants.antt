-- All cases up to the place are counted, and each turn moves it on.
use Rattle.std.proofs.Common.{◌≡◌, ◌-◌, length}
use Rattle.vectors.specs.Framing.{Seen}
use Rattle.vectors.proofs.replay.Given as goal

abbrev pub invariant-loop-t : goal.invariant-loop-t
invariant-loop-t g l = Seen l.file l.t × (length l.answers ≡ length l.initial.answers)

abbrev pub decreases-loop-t : goal.decreases-loop-t
decreases-loop-t g l = length l.file - l.t.at
