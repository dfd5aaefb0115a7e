-- The counters alone change.
use Rattle.counts.proofs.Recounted.{lend_made}
use Rattle.counts.proofs.lend.Goals as goal

pub returns : goal.returns
returns c ws rs m q s H = rw c.counted.ensures (lend_made H c.args.count c.track_frame_pager.result c.track_frame_pager.ensures)
