-- The grant tells by its answer whether there is a frame to free.
use mathlib.Core.Path.{refl}
use Rattle.std.proofs.lemmas.Result.{err_from_is_err_and}
use Rattle.words.specs.Words.{board_in}
use Rattle.drivers.proofs.Turns.{leaves_turn}
use Rattle.drivers.proofs.granted_and_freed.Goals as goal

pub returns-in_err-frame : goal.returns-in_err-frame
returns-in_err-frame c =
    let p = err_from_is_err_and c.from_residual.result c.from_residual.ensures.1 in
    rw (p.1, p.2, c.in_err-frame.ensures) refl

pub returns : goal.returns
unfolding board_in
returns c = rw c.in_ok-frame.ensures (leaves_turn (rw c.new-pa.ensures at c.free.ensures.leaves))
