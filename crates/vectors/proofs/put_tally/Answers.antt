-- `vectors::put_tally` meets its contract: four texts, one after another.
use native.Mathlib.Omega.{arith}
use Rattle.definition.specs.Text.{bytes_of}
use Rattle.text.proofs.Writing.{wrote_then, wrote_as}
use Rattle.vectors.proofs.Framing.{spelt, as_tallied}
use Rattle.vectors.proofs.put_tally.Goals as goal

pub returns : goal.returns
unfolding bytes_of
returns c =
    let w = wrote_then c.put_number-k.ensures.wrote c.put_named-k.ensures.wrote (omega arith) in
    let v = wrote_then w c.put_named-k-2.ensures.wrote (omega arith) in
    spelt (wrote_as (as_tallied c.args.t) (wrote_then v c.put_text.ensures (omega arith))) (omega arith)
