-- The loop carries `Going` from the header to the last line. The measure is what is left of the script.
use Prim.Native.Nat.{◌-◌}
use lib.ListN.{length}
use Rattle.script.specs.Run.{Same, running_of}
use Rattle.script.specs.Running.{program_board}
use Rattle.script.proofs.Going.{Going}
use Rattle.script.proofs.Run.run_all.Given as goal

abbrev pub invariant-loop-at : goal.invariant-loop-at
invariant-loop-at l =
    record {
      same : Same l.initial.self l.self;
      going : Going program_board l.script (running_of l.initial.self) (running_of l.self) l.at;
    }

abbrev pub decreases-loop-at : goal.decreases-loop-at
decreases-loop-at l = length l.script - l.at
