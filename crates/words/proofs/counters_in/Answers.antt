-- `counters_in` meets its contract by computation.
use mathlib.Core.Path.{refl}
use Rattle.words.specs.Words.{counters_in}
use Rattle.words.proofs.counters_in.Goals as goal

pub returns : goal.returns
unfolding counters_in
returns c = refl
