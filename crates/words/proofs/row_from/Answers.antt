-- `row_from` meets its contract: its six lists are read by `list_from`.
use Rattle.words.specs.Words.{row_in}
use Rattle.words.proofs.row_from.Goals as goal

pub returns : goal.returns
unfolding row_in
returns c = cc
