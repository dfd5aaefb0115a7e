-- `row_at` meets its contract: the row i, if it is in use, begins at the word 1 + 11 * i.
use mathlib.Core.Path.{sym, ◌∙◌}
use native.Mathlib.Omega.{arith}
use Rattle.words.proofs.Places.{row_place, row_none}
use Rattle.words.proofs.row_at.Goals as goal

pub returns-then-i-used_in : goal.returns-then-i-used_in
returns-then-i-used_in c =
    c.row_from.ensures
    ∙ sym (row_place c.args.words.now c.args.i c.requires.1 (omega (arith, c.if-i-used_in.true, c.used_in.ensures.0)))

pub returns-else-i-used_in : goal.returns-else-i-used_in
returns-else-i-used_in c =
    c.no_row.ensures
    ∙ sym (row_none c.args.words.now c.args.i c.requires.1 (omega (arith, c.if-i-used_in.false, c.used_in.ensures.0)))
