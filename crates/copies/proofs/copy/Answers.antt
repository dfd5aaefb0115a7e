-- The two frames that were looked at: of their refusals the one that is tried first, or what `copy_contents_from` leaves.
use mathlib.Core.Path.{sym, ◌∙◌}
use Rattle.std.proofs.lemmas.Result.{err_from_is_err_and}
use Rattle.exam.specs.Making.{world}
use Rattle.copies.proofs.Copying.{both_found, copy_made, copy_refused, spans_of}
use Rattle.copies.proofs.copy.Goals as goal

pub returns-in_err-to-clause-writes : goal.returns-in_err-to-clause-writes
returns-in_err-to-clause-writes c k q s H =
    let p = err_from_is_err_and c.from_residual.result c.from_residual.ensures.1 in
    let x = c.in_err-to in
    rw (p.1, p.2) (copy_refused H c.look-to.ensures c.look-from.ensures x.field-0.0 (sym c.both.ensures ∙ x.was))

pub copy_contents_from-requires : goal.copy_contents_from-requires
copy_contents_from-requires c =
    let lent = c.args.lent.now in
    let n = both_found c.look-to.result c.look-from.result (sym c.both.ensures ∙ c.in_ok-to.was) in
    record { to_in = spans_of lent (rw n.0 at c.look-to.ensures); from_in = spans_of lent (rw n.1 at c.look-from.ensures) }

pub returns-clause-writes : goal.returns-clause-writes
returns-clause-writes c k q s H =
    let y = c.copy_contents_from in
    rw c.raw.ensures
    (copy_made H c.look-to.ensures c.look-from.ensures (sym c.both.ensures ∙ c.in_ok-to.was)
    (world k c.args.lent.now.words.now y.new.lent.records.now y.new.lent.memory.now q)
    (y.ensures.writes k q s H))
