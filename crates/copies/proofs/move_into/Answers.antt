-- The bytes are moved, and the mark is cleared.
use Rattle.copies.proofs.Writing.{moved_into}
use Rattle.copies.proofs.move_into.Goals as goal

pub invariant_of-lent-clause-room : goal.invariant_of-lent-clause-room
invariant_of-lent-clause-room c = rw c.copy.auto.memory c.args.lent.now.room

pub returns-clause-moves : goal.returns-clause-moves
returns-clause-moves c k q s H a e =
    rw (c.copy.ensures, c.place-at.ensures) (moved_into H c.requires.spans_in c.mark.ensures.remarked c.args.from a e)
