-- `pages_at` meets its contract: the pages are the second word of a row in use.
use mathlib.Core.Path.{◌≡◌, refl}
use Prim.Native.Nat.{◌+◌, ◌*◌}
use native.Mathlib.Omega.{arith}
use Rattle.words.specs.Words.{row_in}
use Rattle.words.proofs.Places.{row_place, row_none}
use Rattle.words.proofs.pages_at.Goals as goal

pub returns-then-i-used_in : goal.returns-then-i-used_in
unfolding row_in
returns-then-i-used_in c =
    let i = c.args.i in
    let e : 1 + 11 * i + 1 ≡ 2 + 11 * i = omega arith in
    rw (row_place c.args.words.now i c.requires.1 (omega (arith, c.if-i-used_in.true, c.used_in.ensures.0)), e) refl

pub returns-else-i-used_in : goal.returns-else-i-used_in
returns-else-i-used_in c =
    rw (row_none c.args.words.now c.args.i c.requires.1 (omega (arith, c.if-i-used_in.false, c.used_in.ensures.0))) refl
