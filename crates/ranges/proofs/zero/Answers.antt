-- Every byte of the frame and its ZEROED mark, of the frame that was looked at.
use Rattle.std.proofs.lemmas.Result.{err_from_is_err_and}
use Rattle.world.proofs.Refusing.{one_frame}
use Rattle.definition.specs.Calls.{Zero}
use Rattle.words.specs.Words.{board_in}
use Rattle.exam.proofs.Making.{looked_refused}
use Rattle.ranges.proofs.Marking.{zero_made}
use Rattle.ranges.proofs.zero.Goals as goal

pub returns-in_err-frame-clause-writes : goal.returns-in_err-frame-clause-writes
returns-in_err-frame-clause-writes c k q s H =
    let a = c.args in
    let p = err_from_is_err_and c.from_residual.result c.from_residual.ensures.1 in
    rw (p.1, p.2)
    (looked_refused H c.look.ensures (Zero a.pa.0) (one_frame (board_in a.lent.now.words.now) s a.pa.0 0 0)
    c.in_err-frame.field-0.0 c.in_err-frame.was)

pub returns-clause-writes : goal.returns-clause-writes
returns-clause-writes c k q s H =
    rw (c.raw.ensures, c.fill.ensures, c.place-at.ensures, c.frame_bytes-bytes.ensures, c.board_in.ensures.0)
    (zero_made H c.in_ok-frame.ensures c.mark.ensures.remarked)
