-- `contents::copy` meets its contract, where the bytes lie above their place, below it, or are there already.
use mathlib.Core.Path.{◌≡◌}
use native.Mathlib.Omega.{arith}
use Rattle.contents.proofs.Moves.{lower_written, upper_written, stays_written}
use Rattle.contents.proofs.copy.Goals as goal

pub returns-then-to-len : goal.returns-then-to-len
returns-then-to-len c =
    let a = c.args in
    let s = c.split_at_mut-low.ensures in
    rw (c.write.ensures, s.front, s.back) (lower_written a.memory.now a.to a.from a.len (omega arith) (omega arith))

pub returns-then-from-len : goal.returns-then-from-len
returns-then-from-len c =
    let a = c.args in
    let s = c.split_at_mut-low-then-from-len.ensures in
    rw (c.write-then-from-len.ensures, s.front, s.back) (upper_written a.memory.now a.to a.from a.len (omega arith) (omega arith))

pub returns-else-from-to : goal.returns-else-from-to
returns-else-from-to c =
    let a = c.args in
    let e : a.to ≡ a.from = omega (arith, c.if-to-from.false, c.if-from-to.false) in
    rw e (stays_written a.memory.now a.from a.len (omega arith))
