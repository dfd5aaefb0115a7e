-- `is_bare` meets its contract: two lists are empty just where their three words are zeros.
use Prim.Native.Nat.{◌+◌, ◌-◌}
use mathlib.Core.Path.{◌≡◌}
use native.Mathlib.Omega.{arith}
use Rattle.words.proofs.Places.{place}
use Rattle.words.proofs.Unused.{zeros_folded, bare}
use Rattle.words.proofs.is_bare.Goals as goal

pub returns : goal.returns
returns c =
    let a = c.args in
    let at = place a.i a.level in
    let n : at + 3 - at ≡ 3 = omega arith in
    rw (c.are_zeros.ensures, zeros_folded, n) (bare a.words.now a.i a.level c.requires.0 c.requires.1)
