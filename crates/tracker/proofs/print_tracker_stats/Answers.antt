-- `tracker::print_tracker_stats` meets its contract. Its lines follow one another, and are the statistics.
use Rattle.std.proofs.Common.{arith}
use Rattle.definition.specs.Text.{bytes_of}
use Rattle.text.proofs.Writing.{wrote_then, wrote_as}
use Rattle.tracker.proofs.Stats.{stats_lines}
use Rattle.tracker.proofs.print_tracker_stats.Goals as goal

pub returns-clause-wrote : goal.returns-clause-wrote
unfolding bytes_of
returns-clause-wrote c =
    let w2 = wrote_then c.put_text-next.ensures c.put_counts-next.ensures.wrote (omega arith) in
    wrote_as (stats_lines c.args.c) (wrote_then w2 c.put_shares.ensures.wrote (omega arith))
