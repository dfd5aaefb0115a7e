-- The words and the counters stay those of the grant, and the other loans keep their lengths.
use native.Mathlib.Omega.{arith}
use Rattle.words.specs.Words.{board_in}
use Rattle.drivers.proofs.Turns.{ended, leaves_turn, onward, stopped}
use Rattle.drivers.proofs.drivers_zero.Goals as goal

pub returns-then-is_err : goal.returns-then-is_err
unfolding board_in
returns-then-is_err c =
    let stop = stopped c.loop-i.invariant.2 c.loop-i-test.true (leaves_turn c.zero.ensures) c.if-is_err.ensures.negation in
    rw (c.booted-counters.ensures, c.granted-frame.ensures)
    (rw (c.new-pa.ensures, c.address_in.ensures) at stop)

pub loop-i-preserved : goal.loop-i-preserved
unfolding board_in
loop-i-preserved c =
    let next = onward c.loop-i.invariant.2 c.loop-i-test.true (leaves_turn c.zero.ensures) c.if-is_err.ensures.negation in
    (omega arith, omega arith, next)

pub returns : goal.returns
returns c =
    rw (c.booted-counters.ensures, c.granted-frame.ensures)
    (rw (c.new-pa.ensures, c.address_in.ensures) at (ended c.loop-i.invariant.2 c.loop-i-test.false c.loop-i.auto.i-end))
