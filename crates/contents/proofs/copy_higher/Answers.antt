-- `contents::copy_higher` meets its contract. The loop's invariant: the bytes behind the first `left` are moved, and the rest of memory is as it was.
use Prim.Native.Nat.{◌+◌, ◌-◌}
use mathlib.Core.Path.{◌≡◌, refl}
use native.Mathlib.Omega.{arith}
use lib.ListN.{take, drop}
use Rattle.record.specs.Records.{with_bytes}
use Rattle.record.proofs.Bytes.{with_none}
use Rattle.contents.proofs.Blocks.{move_higher}
use borrow.Author.Rules.{rules}
use Rattle.contents.proofs.copy_higher.Goals as goal

pub loop-left-init : goal.loop-left-init
loop-left-init c =
    let a = c.args in
    let e : a.len - a.len ≡ 0 = omega arith in
    (search rules, refl, refl, rw e (with_none _ _))

pub loop-left-preserved : goal.loop-left-preserved
loop-left-preserved c =
    let n = c.min-n.result in
    let k = c.loop-left in
    let a = c.args in
    let m = a.memory.now in
    let j = k.left - n in
    let e : a.len - j ≡ n + (a.len - k.left) = omega arith in
    let x : a.to + k.left ≡ a.to + j + n = omega arith in
    let y : a.from + k.left ≡ a.from + j + n = omega arith in
    let s : k.memory ≡ with_bytes m (a.to + j + n) (take (a.len - k.left) (drop (a.from + j + n) m)) = rw (x, y) at k.invariant.3 in (
      search rules,
      search rules,
      search rules,
      rw (c.move_block.ensures, s, e) (move_higher m (a.to + j) (a.from + j) (a.len - k.left) n (omega arith) (omega arith)),
    )

pub returns : goal.returns
returns c =
    let k = c.loop-left in
    let a = c.args in
    let e : k.left ≡ 0 = omega arith in
    let x : a.to + 0 ≡ a.to = omega arith in
    let y : a.from + 0 ≡ a.from = omega arith in
    let z : a.len - 0 ≡ a.len = omega arith in
    rw (e, x, y, z) at k.invariant.3
