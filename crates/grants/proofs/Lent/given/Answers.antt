-- The refusal that `wanted` found, or what `grant` or `grant_split` gives.
use Rattle.std.proofs.Common.{eq-eqb, ne_eqb}
use Rattle.std.proofs.lemmas.Result.{err_from_is_err_and}
use Rattle.grants.proofs.Promised.{alloc_made, asked_refused, take_made}
use Rattle.grants.proofs.Lent.given.Goals as goal

pub returns-in_err-level-clause-grants : goal.returns-in_err-level-clause-grants
returns-in_err-level-clause-grants g c small q s H =
    let p = err_from_is_err_and c.from_residual.result c.from_residual.ensures.1 in
    rw (p.1, p.2) (asked_refused H c.in_err-level.ensures _)

pub returns-then-this-ne0-clause-grants : goal.returns-then-this-ne0-clause-grants
returns-then-this-ne0-clause-grants g c small q s H =
    let y = c.grant_split-split in
    let m = y.new.self in
    rw (ne_eqb g.row.SPLIT 0 c.if-this-ne0.true, c.handed.ensures, c.board_in-board.ensures.0)
    (take_made H m.records.now m.memory.now y.ensures.same.as_long small y.ensures.finds c.in_ok-level.ensures y.ensures.gives_by)

pub returns-clause-grants : goal.returns-clause-grants
returns-clause-grants g c small q s H =
    let y = c.grant-whole in
    let m = y.new.self in
    rw (eq-eqb g.row.SPLIT 0 c.if-this-ne0.false, c.handed-2.ensures, c.board_in-board.ensures.0)
    (alloc_made H m.records.now m.memory.now y.ensures.same.as_long small y.ensures.finds c.in_ok-level.ensures y.ensures.gives_by)
