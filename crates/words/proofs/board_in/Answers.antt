-- The board of the words is the standard one, which is fit.
use mathlib.Core.Path.{refl}
use Rattle.definition.proofs.Boards.{standard_fit}
use Rattle.words.specs.Words.{board_in}
use Rattle.words.proofs.board_in.Goals as goal

pub returns : goal.returns
unfolding board_in
returns c = rw c.standard.ensures (refl, standard_fit)
