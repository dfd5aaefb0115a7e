-- Each turn is that of the world as the last left it, and the loans keep their lengths.
use Rattle.words.specs.Words.{state_words}
use mathlib.Core.Path.{◌≡◌}
use lib.ListN.{length}
use Rattle.exam.specs.Promise.{state_with, world_of}
use Rattle.drivers.specs.Driving.{grant_and_free}
use Rattle.drivers.proofs.Turns.{Onward}
use Rattle.drivers.proofs.drivers_grants.Given as goal

abbrev pub invariant-loop-i : goal.invariant-loop-i
invariant-loop-i l =
    (length l.words ≡ state_words)
    × (length l.records ≡ length l.initial.records)
    × (length l.memory ≡ length l.initial.memory)
    × Onward grant_and_free l.times
    (world_of (state_with l.initial.counters l.initial.words) l.initial.records l.initial.memory l.queue)
    (world_of (state_with l.counters l.words) l.records l.memory l.queue) l.i
