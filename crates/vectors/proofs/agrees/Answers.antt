-- What is compared is what the run left at the front of the answers.
use Rattle.std.proofs.Common.{◌∙◌}
use Rattle.vectors.proofs.Counting.{answered, same_is}
use Rattle.vectors.proofs.agrees.Goals as goal

pub returns : goal.returns
returns c =
    let ran = rw c.unwrap-n.ensures at c.run_once.ensures in
    (rw (answered ran c.requires) at c.eq.ensures) ∙ same_is _ _
