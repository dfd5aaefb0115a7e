-- The words and the counters stay those of the grant, and the other loans keep their lengths.
use mathlib.Core.Path.{◌≡◌}
use lib.ListN.{length}
use Rattle.definition.specs.Calls.{Zero}
use Rattle.exam.specs.Promise.{state_with, world_of}
use Rattle.drivers.specs.Driving.{turn}
use Rattle.drivers.proofs.Turns.{Onward}
use Rattle.drivers.proofs.drivers_zero.Given as goal

abbrev pub invariant-loop-i : goal.invariant-loop-i
invariant-loop-i l =
    (length l.records ≡ length l.initial.records)
    × (length l.memory ≡ length l.initial.memory)
    × Onward (turn (Zero l.pa.0)) l.times (world_of (state_with l.counters l.words) l.initial.records l.initial.memory l.queue)
    (world_of (state_with l.counters l.words) l.records l.memory l.queue) l.i
