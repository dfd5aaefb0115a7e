-- Each turn is that of the world as the last left it, and the loans keep their lengths.
use native.Mathlib.Omega.{arith}
use Rattle.drivers.proofs.Turns.{ended, onward, stopped}
use Rattle.drivers.proofs.drivers_grants.Goals as goal

pub returns-then-is_err : goal.returns-then-is_err
returns-then-is_err c =
    let stop = stopped c.loop-i.invariant.3 c.loop-i-test.true c.granted_and_freed.ensures c.if-is_err.ensures.negation in
    rw c.booted-counters.ensures
    stop

pub loop-i-preserved : goal.loop-i-preserved
loop-i-preserved c =
    let next = onward c.loop-i.invariant.3 c.loop-i-test.true c.granted_and_freed.ensures c.if-is_err.ensures.negation in
    (omega arith, omega arith, omega arith, next)

pub returns : goal.returns
returns c =
    rw c.booted-counters.ensures
    (ended c.loop-i.invariant.3 c.loop-i-test.false c.loop-i.auto.i-end)
