-- `entry_in` meets its contract: the three numbers of the entry.
use mathlib.Core.Path.{refl}
use Rattle.store.proofs.entry_in.Goals as goal

pub returns : goal.returns
returns c = rw (c.number_at-3.ensures, c.number_at-2.ensures, c.number_at.ensures) refl
