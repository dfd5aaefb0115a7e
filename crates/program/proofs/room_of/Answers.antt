-- `room_of` meets its contract: what is read in front of a list's end is one of its bytes.
use Rattle.std.proofs.lemmas.List.{get_or-replicate}
use Rattle.program.proofs.room_of.Goals as goal

pub returns : goal.returns
returns _ c = record { zero = λ i h. get_or-replicate _ i 0 1 h }
