-- The bytes of a frame by its level.
use Prim.Native.Nat.{◌≤◌, ◌<◌, ◌%◌}
use mathlib.Core.Path.{sym, ◌∙◌}
use native.Mathlib.Nat.{mul-le-mul}
use native.Mathlib.Omega.{arith}
use borrow.Author.Tests.{eqb-true}
use Rattle.definition.proofs.Boards.{page_most}
use Rattle.level.proofs.Sizes.{size_most}
use Rattle.exam.proofs.frame_bytes.Goals as goal
use Rattle.exam.proofs.frame_bytes.Goals.{Else-not-is_admitted}

-- the level is one of the three
known : (c : Else-not-is_admitted) → c.args.seen.level < 3
known c =
    let r = c.is_admitted in
    c.requires.level_known (eqb-true (c.args.seen.marks % 2) 1 (sym r.ensures ∙ c.if-not-is_admitted.false))

pub overflow_mul-result : goal.overflow_mul-result
overflow_mul-result c =
    let few : c.pages_at-pages.result ≤ 262144 = rw (c.pages_at-pages.ensures, c.level_of.ensures) (size_most (known (goal.at.overflow_mul-result c).Else-not-is_admitted)) in
    omega (arith, mul-le-mul (page_most c.requires.fit) few)
