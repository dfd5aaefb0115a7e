-- `text::put_named` meets its contract. The digits follow the text.
use native.Mathlib.Omega.{arith}
use Rattle.text.proofs.Writing.{wrote_then}
use Rattle.text.proofs.put_named.Goals as goal

pub returns-clause-wrote : goal.returns-clause-wrote
returns-clause-wrote c = wrote_then c.put_text-next.ensures c.put_number.ensures.wrote (omega arith)
