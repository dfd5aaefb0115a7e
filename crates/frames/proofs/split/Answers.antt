-- Split, by what `look` found: the refusal of the frame, or the table that `split_frame` leaves.
use Rattle.std.proofs.lemmas.Result.{err_from_is_err_and}
use Rattle.exam.proofs.Making.{bytes_small}
use Rattle.frames.proofs.Promised.{split_made, split_refused}
use Rattle.frames.proofs.split.Goals as goal

pub returns-in_err-held : goal.returns-in_err-held
returns-in_err-held c k m q s H =
    let p = err_from_is_err_and c.from_residual.result c.from_residual.ensures.1 in
    rw (p.1, p.2) (split_refused H c.in_err-held.ensures)

pub returns : goal.returns
returns c k m q s H =
    let y = c.split_frame in
    rw (c.frame_bytes.ensures, c.raw.ensures, c.board_in.ensures.0)
    (split_made H c.in_ok-held.ensures y.new.records y.auto.records
    (bytes_small y.new.records c.type_inv.records) y.ensures)
