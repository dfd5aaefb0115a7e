-- `read_op` meets its contract. The loop's invariant: no op that was passed has the name.
use Rattle.std.proofs.Common.{◌≡◌, drop}
use Rattle.lines.specs.Steps.{pick, all_ops}
use Rattle.lines.proofs.Naming.{pick_row}
use Rattle.lines.proofs.read_op.Given as goal

abbrev pub invariant-loop-name : goal.invariant-loop-name
invariant-loop-name l = pick l.s all_ops ≡ pick_row l.s (drop l.name-index l.name-items)
