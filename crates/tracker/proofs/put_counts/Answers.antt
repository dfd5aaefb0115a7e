-- `tracker::put_counts` meets its contract. Its texts follow one another, and are the line of the counts.
use Rattle.std.proofs.Common.{arith}
use Rattle.definition.specs.Text.{bytes_of}
use Rattle.text.proofs.Writing.{wrote_then}
use Rattle.tracker.specs.Stats.{counts_line}
use Rattle.tracker.proofs.put_counts.Goals as goal

pub returns-clause-wrote : goal.returns-clause-wrote
unfolding bytes_of counts_line
returns-clause-wrote c =
    let w2 = wrote_then c.put_named-next.ensures.wrote c.put_named-next-2.ensures.wrote (omega arith) in
    let w3 = wrote_then w2 c.put_named-next-3.ensures.wrote (omega arith) in
    let w4 = wrote_then w3 c.put_named-next-4.ensures.wrote (omega arith) in
    let w5 = wrote_then w4 c.put_named-next-5.ensures.wrote (omega arith) in
    wrote_then w5 c.put_text.ensures (omega arith)
