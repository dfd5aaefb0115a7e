-- The bytes are zeroed; where the range is the whole frame, the mark is set too.
use Rattle.copies.proofs.Writing.{zero_part, zero_whole}
use Rattle.copies.proofs.zero_range.Goals as goal

pub invariant_of-lent-clause-room : goal.invariant_of-lent-clause-room
invariant_of-lent-clause-room c = rw c.fill.auto.memory c.args.lent.now.room

pub returns-then-is_whole-clause-writes : goal.returns-then-is_whole-clause-writes
returns-then-is_whole-clause-writes c k q s H =
    let whole = rw c.board_in.ensures.0 at c.is_whole.ensures in
    rw (c.fill.ensures, c.place-at.ensures) (zero_whole H c.requires c.mark.ensures.remarked whole c.if-is_whole.true)

pub returns-else-is_whole-clause-writes : goal.returns-else-is_whole-clause-writes
returns-else-is_whole-clause-writes c k q s H =
    let whole = rw c.board_in.ensures.0 at c.is_whole.ensures in
    rw (c.fill.ensures, c.place-at.ensures) (zero_part H c.requires whole c.if-is_whole.false)
