-- `vectors::put_heading` meets its contract. The line feed follows the number.
use native.Mathlib.Omega.{arith}
use Rattle.definition.specs.Text.{bytes_of}
use Rattle.text.proofs.Writing.{wrote_then, wrote_as}
use Rattle.vectors.proofs.Framing.{spelt, as_headed}
use Rattle.vectors.proofs.put_heading.Goals as goal

pub returns : goal.returns
unfolding bytes_of
returns c =
    let w = wrote_then c.put_named-k.ensures.wrote c.put_text.ensures (omega arith) in
    spelt (wrote_as (as_headed c.args.name.now c.args.n) w) (omega arith)
