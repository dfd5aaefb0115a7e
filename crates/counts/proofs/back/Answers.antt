-- What is outstanding decides; then the counters alone change.
use native.Mathlib.Omega.{arith}
use Rattle.counts.proofs.Recounted.{back_made, back_short}
use Rattle.counts.proofs.back.Goals as goal

pub returns-then-counters-count : goal.returns-then-counters-count
returns-then-counters-count c ws rs m q s H = back_short H c.args.count c.if-counters-count.true

pub returns : goal.returns
returns c ws rs m q s H =
    let t = c.untrack_frame_pager in
    rw c.counted.ensures (back_made H c.args.count (omega (arith, c.if-counters-count.false)) t.result t.ensures)
