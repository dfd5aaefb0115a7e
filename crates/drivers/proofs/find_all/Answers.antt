-- A lookup changes nothing, so that each turn is that of the same world.
use Rattle.words.specs.Words.{board_in}
use Rattle.drivers.proofs.Turns.{ended, leaves_turn, onward, stopped}
use Rattle.drivers.proofs.find_all.Goals as goal

pub returns-then-is_err : goal.returns-then-is_err
unfolding board_in
returns-then-is_err c =
    stopped c.loop-i.invariant c.loop-i-test.true (leaves_turn (rw c.new-pa.ensures at c.find.ensures)) c.if-is_err.ensures.negation

pub loop-i-preserved : goal.loop-i-preserved
unfolding board_in
loop-i-preserved c =
    onward c.loop-i.invariant c.loop-i-test.true (leaves_turn (rw c.new-pa.ensures at c.find.ensures)) c.if-is_err.ensures.negation

pub returns : goal.returns
returns c = ended c.loop-i.invariant c.loop-i-test.false c.loop-i.auto.i-end
