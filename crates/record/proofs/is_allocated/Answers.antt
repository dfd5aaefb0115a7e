-- `record::is_allocated` meets its contract: the bit of the mark is 1.
use Rattle.record.proofs.Decoding.{mark_test}
use Rattle.record.proofs.is_allocated.Goals as goal

pub returns : goal.returns
returns c = mark_test c.args.marks 1
