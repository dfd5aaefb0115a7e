-- `record::is_clear` meets its contract: the largest byte is 0 just where all of them are.
use Rattle.record.proofs.Blanks.{largest_blank}
use Rattle.record.proofs.is_clear.Goals as goal

pub returns : goal.returns
returns c = rw c.largest.ensures (largest_blank c.args.records.now c.args.first c.args.count c.requires)
