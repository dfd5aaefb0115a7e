-- `read_number` meets its contract. The loop's invariant: the number that the slice spells is the one that goes on from the digits passed,
-- worth v.
use Rattle.std.proofs.Common.{◌≡◌, drop}
use Rattle.definition.specs.Script.{number_from, read_number}
use Rattle.lines.proofs.read_number.Given as goal

abbrev pub invariant-loop-b : goal.invariant-loop-b
invariant-loop-b l = read_number l.s ≡ number_from l.v (drop l.b-index l.s)
