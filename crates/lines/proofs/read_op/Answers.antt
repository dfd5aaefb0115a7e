-- `read_op` meets its contract. The loop's invariant: no op that was passed has the name.
use Rattle.std.proofs.Common.{◌∙◌, refl, sym}
use Rattle.definition.specs.Text.{bytes_of}
use Rattle.lines.specs.Steps.{pick, all_ops}
use Rattle.lines.proofs.Naming.{pick_row, row_named, row_other, row_none}
use Rattle.lines.proofs.read_op.Goals as goal

pub loop-name-init : goal.loop-name-init
unfolding pick all_ops bytes_of pick_row
loop-name-init c = refl

pub returns-then-eq : goal.returns-then-eq
returns-then-eq c =
    let k = c.loop-name in
    sym (k.invariant ∙ row_named c.args.s.now _ k.name-index _ c.loop-name-test.true c.eq.result c.eq.ensures c.if-eq.true)

pub loop-name-preserved : goal.loop-name-preserved
loop-name-preserved c =
    let k = c.loop-name in
    k.invariant ∙ row_other c.args.s.now _ k.name-index _ c.loop-name-test.true c.eq.result c.eq.ensures c.if-eq.false

pub returns : goal.returns
returns c = sym (c.loop-name.invariant ∙ row_none c.args.s.now _ c.loop-name.name-index c.loop-name-test.false)
