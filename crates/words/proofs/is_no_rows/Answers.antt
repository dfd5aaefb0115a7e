-- `is_no_rows` meets its contract: the rows in use decide, as those behind are unused ones.
use Rattle.words.proofs.Unused.{unused_behind}
use Rattle.words.proofs.is_no_rows.Goals as goal

pub returns : goal.returns
returns c = rw (c.unused_up_to.ensures, c.min.ensures, c.used_in.ensures.0) (unused_behind c.args.words.now c.args.first c.requires.1)
