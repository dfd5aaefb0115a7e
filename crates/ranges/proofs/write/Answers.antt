-- The bytes of the range and the ZEROED mark of the frame that was looked at.
use lib.ListN.{length}
use mathlib.Core.Path.{refl}
use Rattle.std.proofs.lemmas.Result.{err_from_is_err_and}
use Rattle.world.proofs.Refusing.{one_frame}
use Rattle.definition.specs.Calls.{Write}
use Rattle.words.specs.Words.{board_in}
use Rattle.exam.proofs.Making.{looked_refused}
use Rattle.ranges.proofs.Marking.{write_made}
use Rattle.ranges.proofs.write.Goals as goal

pub returns-in_err-seen-clause-writes : goal.returns-in_err-seen-clause-writes
returns-in_err-seen-clause-writes c k q s H =
    let a = c.args in
    let p = err_from_is_err_and c.from_residual.result c.from_residual.ensures.1 in
    rw (p.1, p.2)
    (looked_refused H c.look.ensures (Write a.pa.0 a.offset a.bytes.now)
    (one_frame (board_in a.lent.now.words.now) s a.pa.0 a.offset (length a.bytes.now))
    c.in_err-seen.field-0.0 c.in_err-seen.was)

pub returns-clause-writes : goal.returns-clause-writes
returns-clause-writes c k q s H =
    rw (c.raw.ensures, c.write.ensures, c.place-to.ensures)
    (write_made H c.in_ok-seen.ensures c.mark.ensures.remarked c.args.bytes.now refl)
