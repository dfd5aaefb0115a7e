-- Free, by what `look` found: the refusal of the frame, or the table and the counters that `release` leaves.
use Rattle.std.proofs.lemmas.Result.{err_from_is_err_and}
use Rattle.words.specs.Words.{rows_in}
use Rattle.exam.proofs.Making.{bytes_small}
use Rattle.frames.proofs.Promised.{free_made, free_refused}
use Rattle.frames.proofs.free.Goals as goal

pub returns-in_err-seen-clause-turns : goal.returns-in_err-seen-clause-turns
returns-in_err-seen-clause-turns c m q s H =
    let p = err_from_is_err_and c.from_residual.result c.from_residual.ensures.1 in
    rw (p.1, p.2) (free_refused H c.in_err-seen.ensures)

pub returns : goal.returns
returns c =
    let y = c.release in
    let R = y.ensures.released in
    record {
      turns = λ m q s H.
          rw (c.frame_bytes-bytes.ensures, c.raw.ensures, c.board_in.ensures.0, R.queued, R.pass)
          (free_made H c.in_ok-seen.ensures y.new.records y.auto.records
          (bytes_small y.new.records c.type_inv.records)
          (rows_in y.new.words) y.new.counters R.turned R.counters);
      beside = y.ensures.beside;
    }
