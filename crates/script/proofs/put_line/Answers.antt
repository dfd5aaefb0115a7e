-- The texts follow one another, and are the line.
use native.Mathlib.Omega.{arith}
use Rattle.definition.specs.Text.{bytes_of}
use Rattle.text.proofs.Writing.{wrote_then}
use Rattle.script.proofs.put_line.Goals as goal
use Rattle.script.proofs.put_line.Goals.{in-Ok, in-Err}

pub returns-clause-wrote : goal.returns-clause-wrote
unfolding bytes_of
returns-clause-wrote c =
    let w4 = wrote_then c.put_named-next-3.ensures.wrote c.put_text.ensures (omega arith) in
    let w3 = wrote_then c.put_named-next-2.ensures.wrote w4 (omega arith) in
    let w2 = wrote_then c.put_named-next.ensures.wrote w3 (omega arith) in
    let w1 = wrote_then c.put_op-next.ensures.wrote w2 (omega arith) in
    elim c.match-y.branch [
      | in-Ok w ↦ rw w.in-Ok.is (rw w.number-is at w1)
      | in-Err w ↦ rw w.in-Err.is (rw (w.number-is, w.number.ensures) at w1)
    ]
