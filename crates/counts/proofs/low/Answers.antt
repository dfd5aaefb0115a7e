-- The counters are read by the board of the words, and nothing changes.
use Rattle.counts.proofs.Recounted.{low_made}
use Rattle.counts.proofs.low.Goals as goal

pub returns : goal.returns
returns c rs m q s H = low_made H c.should_reclaim.result (rw (← c.board_in-board.ensures.0) c.should_reclaim.ensures)
