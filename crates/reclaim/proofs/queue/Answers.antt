-- The refusal of the frame, a full queue, or the address in its place.
use mathlib.Core.Path.{refl}
use native.Mathlib.Omega.{arith}
use Rattle.std.proofs.lemmas.Result.{err_from_is_err_and}
use Rattle.words.proofs.Words.{beside_same}
use Rattle.reclaim.proofs.Queueing.{queue_full, queue_made, queue_refuses}
use Rattle.reclaim.proofs.queue.Goals as goal

pub returns-in_err-seen : goal.returns-in_err-seen
returns-in_err-seen c =
    let p = err_from_is_err_and c.from_residual.result c.from_residual.ensures.1 in
    rw (p.1, p.2) record { queues = λ k m s H. queue_refuses H c.in_err-seen.ensures _ refl; beside = beside_same }

pub returns-then-queue-last : goal.returns-then-queue-last
returns-then-queue-last c =
    record {
      queues = λ k m s H.
          queue_full H c.in_ok-seen.ensures _ refl (omega (arith, c.if-queue-last.true, c.queued_in-last.ensures));
      beside = beside_same;
    }

pub frame_bytes-requires : goal.frame_bytes-requires
frame_bytes-requires c = record { fit = c.board_in-board.ensures.1; level_known = λ d. (c.in_ok-seen.ensures.found _ refl).held.leveled }

pub returns : goal.returns
returns c =
    let l = c.queued_in-last.ensures in
    let Q = c.put_queued.ensures in
    record {
      queues = λ k m s H.
          rw (c.frame_bytes.ensures, c.raw-2.ensures, c.raw.ensures, c.board_in-board.ensures.0, Q.rows, Q.queued, Q.pass, l)
          (queue_made H c.in_ok-seen.ensures _ refl (omega (arith, c.if-queue-last.false, l)));
      beside = Q.beside;
    }
