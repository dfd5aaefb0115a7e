-- Where contents were lent, the loans became what the contents became: what was made of these was made of the loans.
use Prim.Native.Nat.{ℕ}
use mathlib.Core.List.{List}
use mathlib.Core.Path.{◌≡◌}
use Rattle.definition.specs.Board.{Board}
use Rattle.definition.specs.Calls.{Outcome}
use Rattle.definition.specs.World.{World}
use Rattle.exam.specs.Making.{Made}
use Rattle.exam.specs.Promise.{Answer}

pub made_back
    : {board : Board} {o : Outcome} {w v : World} {y : Answer} {rs m : List ℕ} → Made board o w v y → rs ≡ v.records → m ≡ v.memory
    → Made board o w (record v { records = rs; memory = m }) y
made_back M d e = rw (d, e) M
