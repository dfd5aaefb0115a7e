-- `read_numbers` meets its contract. The loop's invariant: the numbers of all fields are those of the fields that are left, behind those
-- read already.
use Rattle.std.proofs.Common.{◌≡◌}
use Rattle.definition.specs.Script.{fields}
use Rattle.lines.specs.Steps.{gather, no_numbers}
use Rattle.lines.proofs.Parting.{left}
use Rattle.lines.proofs.read_numbers.Given as goal

abbrev pub invariant-loop-field : goal.invariant-loop-field
invariant-loop-field l = gather no_numbers (fields l.s) ≡ gather l.numbers (left l.field-iterator)
