-- `contents::move_block` meets its contract. What was put into the block stands at its front, and is put back.
use native.Mathlib.Omega.{arith}
use Rattle.contents.proofs.Blocks.{block_moved}
use Rattle.contents.proofs.move_block.Goals as goal

pub returns : goal.returns
returns c =
    let a = c.args in
    rw (c.write-2.ensures, c.write.ensures) (block_moved a.memory.now a.block.now a.to a.from a.n (omega arith))
