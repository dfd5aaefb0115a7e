-- Two headings, the script between them, and the answers behind the second.
use Rattle.std.proofs.Common.{arith}
use Rattle.definition.specs.Text.{bytes_of}
use Rattle.vectors.proofs.Framing.{frames}
use Rattle.vectors.proofs.next_case.Goals as goal

pub returns : goal.returns
unfolding bytes_of
returns c =
    let H = rw c.in_ok-h.ensures.ok_part at c.heading_at.ensures in
    let A = rw c.in_ok-a.ensures.ok_part at c.heading_at-2.ensures in
    frames _ _ _ c.in_ok-h.h c.in_ok-a.a H A (omega (arith, c.count_lines.ensures, c.if-count_lines-h.false))
    (omega (arith, c.if-h-gt8191.false))
    c.skip_lines-end.ensures.0
    (omega (arith, A.within, c.if-file-answers.false))
