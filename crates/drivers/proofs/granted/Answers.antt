-- The call is the one that the turn names.
use Rattle.words.specs.Words.{board_in}
use Rattle.drivers.proofs.Turns.{leaves_turn}
use Rattle.drivers.proofs.granted.Goals as goal

pub returns : goal.returns
unfolding board_in
returns c = leaves_turn c.alloc.ensures.leaves
