-- The layout's refusals come first; where a level is found, what the rows list decides the rest.
use mathlib.Core.Path.{refl, sym}
use Rattle.std.proofs.lemmas.Result.{err_from_is_err_and}
use Rattle.grants.proofs.Asking.{wants_found, wants_none, wants_refused}
use Rattle.grants.proofs.wanted.Goals as goal

pub returns-in_err-level : goal.returns-in_err-level
returns-in_err-level c =
    let p = err_from_is_err_and c.from_residual.result c.from_residual.ensures.1 in
    rw (p.1, p.2) (wants_refused _ (rw (← c.board_in-board.ensures.0) (sym (c.in_err-level.ensures c.args.flags))))

pub returns-then-is_listed : goal.returns-then-is_listed
returns-then-is_listed c =
    wants_found c.in_ok-level.level (rw (← c.board_in-board.ensures.0) (sym (c.in_ok-level.ensures c.args.flags)))
    c.is_listed.ensures c.if-is_listed.true

pub returns-then-flags : goal.returns-then-flags
returns-then-flags c =
    wants_none c.in_ok-level.level (rw (← c.board_in-board.ensures.0) (sym (c.in_ok-level.ensures c.args.flags)))
    c.is_listed.ensures c.if-is_listed.false (rw c.if-flags.true refl)

pub returns-else-flags : goal.returns-else-flags
returns-else-flags c =
    wants_none c.in_ok-level.level (rw (← c.board_in-board.ensures.0) (sym (c.in_ok-level.ensures c.args.flags)))
    c.is_listed.ensures c.if-is_listed.false (rw c.if-flags.false refl)
