-- A lookup changes nothing, so that each turn is that of the same world.
use Rattle.definition.specs.Calls.{Find}
use Rattle.exam.specs.Lent.{world_lent}
use Rattle.drivers.specs.Driving.{turn}
use Rattle.drivers.proofs.Turns.{Onward}
use Rattle.drivers.proofs.find_all.Given as goal

abbrev pub invariant-loop-i : goal.invariant-loop-i
invariant-loop-i l =
    let w = world_lent l.loans in
    Onward (turn (Find l.address)) l.times w w l.i
