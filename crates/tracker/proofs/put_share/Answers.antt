-- `tracker::put_share` meets its contract. Its texts follow one another.
use Rattle.std.proofs.Common.{arith}
use Rattle.definition.specs.Text.{bytes_of}
use Rattle.text.proofs.Writing.{wrote_then}
use Rattle.tracker.specs.Stats.{share_of}
use Rattle.tracker.proofs.put_share.Goals as goal

pub returns-clause-wrote : goal.returns-clause-wrote
unfolding bytes_of share_of
returns-clause-wrote c =
    let share = rw c.percent.ensures at c.put_named-next-2.ensures.wrote in
    wrote_then (wrote_then c.put_named-next.ensures.wrote share (omega arith)) c.put_text.ensures (omega arith)
