-- `is_no_row` meets its contract: a row is an unused one just where its eleven words are zeros.
use Prim.Native.Nat.{◌+◌, ◌-◌}
use mathlib.Core.Path.{◌≡◌}
use native.Mathlib.Omega.{arith}
use Rattle.words.proofs.Unused.{zeros_folded, unused}
use Rattle.words.proofs.is_no_row.Goals as goal

pub returns : goal.returns
returns c =
    let a = c.args in
    let n : a.at + 11 - a.at ≡ 11 = omega arith in
    rw (c.are_zeros.ensures, zeros_folded, n) (unused a.words.now a.at)
