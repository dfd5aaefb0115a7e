-- Which way the copy takes is told by the marks of the two frames.
use Prim.Native.Nat.{◌+◌, ◌*◌}
use mathlib.Core.Path.{refl, sym, ◌∙◌}
use Rattle.words.specs.Words.{board_in}
use Rattle.allocator.specs.Spots.{number_in}
use Rattle.ranges.proofs.Held.{held_read}
use Rattle.copies.proofs.Copying.{both_zeroed, from_dirty, from_zeroed}
use Rattle.copies.proofs.Writing.{written_same}
use Rattle.copies.proofs.copy_contents_from.Goals as goal

pub returns-then-not-is_zeroed-clause-writes : goal.returns-then-not-is_zeroed-clause-writes
returns-then-not-is_zeroed-clause-writes c k q s H =
    let ws = c.args.lent.now.words.now in
    let r = c.requires in
    rw (from_dirty H r.to_in r.from_in (sym c.is_zeroed.ensures ∙ c.if-not-is_zeroed.true))
    (c.move_into.ensures.moves k q s H ((board_in ws).page * number_in ws c.args.from.spot + c.args.from_offset)
    (rw c.place-at.ensures (held_read H r.from_in.held refl c.args.from_offset c.args.len r.from_in.range)))

pub returns-then-not-is_zeroed-2-clause-writes : goal.returns-then-not-is_zeroed-2-clause-writes
returns-then-not-is_zeroed-2-clause-writes c k q s H =
    let r = c.requires in
    let from = sym c.is_zeroed.ensures ∙ c.if-not-is_zeroed.false in
    rw (from_zeroed H r.to_in r.from_in from (sym c.is_zeroed-else-not-is_zeroed.ensures ∙ c.if-not-is_zeroed-2.true))
    (c.zero_range.ensures.writes k q s H)

pub returns-else-not-is_zeroed-2-clause-writes : goal.returns-else-not-is_zeroed-2-clause-writes
returns-else-not-is_zeroed-2-clause-writes c k q s H =
    let r = c.requires in
    let from = sym c.is_zeroed.ensures ∙ c.if-not-is_zeroed.false in
    rw (both_zeroed H r.to_in r.from_in from (sym c.is_zeroed-else-not-is_zeroed.ensures ∙ c.if-not-is_zeroed-2.false))
    (written_same H)
