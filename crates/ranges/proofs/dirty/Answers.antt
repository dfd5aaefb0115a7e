-- The ZEROED mark of the frame that was looked at.
use Rattle.std.proofs.lemmas.Result.{err_from_is_err_and}
use Rattle.world.proofs.Refusing.{one_frame}
use Rattle.definition.specs.Calls.{Dirty}
use Rattle.words.specs.Words.{board_in}
use Rattle.exam.proofs.Making.{looked_refused}
use Rattle.ranges.proofs.Marking.{dirty_made}
use Rattle.ranges.proofs.dirty.Goals as goal

pub returns-in_err-frame : goal.returns-in_err-frame
returns-in_err-frame c k m q s H =
    let a = c.args in
    let p = err_from_is_err_and c.from_residual.result c.from_residual.ensures.1 in
    rw (p.1, p.2)
    (looked_refused H c.look.ensures (Dirty a.pa.0) (one_frame (board_in a.words.now) s a.pa.0 0 0)
    c.in_err-frame.field-0.0 c.in_err-frame.was)

pub returns : goal.returns
returns c k m q s H =
    rw (c.raw.ensures, c.frame_bytes-bytes.ensures, c.board_in.ensures.0)
    (dirty_made H c.in_ok-frame.ensures c.mark.ensures.remarked)
