-- `contents::copy_lower` meets its contract. The loop's invariant: the first `done` bytes are moved, and the rest of memory is as it was.
use mathlib.Core.Path.{◌≡◌, refl}
use native.Mathlib.Omega.{arith}
use Rattle.record.proofs.Bytes.{with_none}
use Rattle.contents.proofs.Blocks.{move_lower}
use borrow.Author.Rules.{rules}
use Rattle.contents.proofs.copy_lower.Goals as goal

pub loop-done-init : goal.loop-done-init
loop-done-init c = (search rules, refl, refl, with_none _ _)

pub loop-done-preserved : goal.loop-done-preserved
loop-done-preserved c =
    let k = c.loop-done in
    let a = c.args in (
      search rules,
      search rules,
      search rules,
      rw (c.move_block.ensures, k.invariant.3) (move_lower a.memory.now a.to a.from k.done c.min-n.result (omega arith) (omega arith)),
    )

pub returns : goal.returns
returns c =
    let k = c.loop-done in
    let e : c.args.len ≡ k.done = omega arith in
    rw e k.invariant.3
