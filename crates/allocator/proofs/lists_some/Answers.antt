-- `lists_some` meets its contract. The loop's invariant: a list of the level or above holds a frame exactly if one of those that are left
-- does.
use mathlib.Core.Bool.{not}
use mathlib.Core.Path.{sym, ap, ◌∙◌}
use native.Mathlib.Omega.{arith}
use borrow.Author.Tests.{eq-eqb, ne_eqb}
use Rattle.definition.specs.Basics.{any}
use Rattle.allocator.proofs.Arrays.{any_on, any_off, range_at, range_past}
use Rattle.allocator.proofs.Listing.{counted_at}
use Rattle.allocator.proofs.lists_some.Goals as goal

pub returns-then-row-k-ne0 : goal.returns-then-row-k-ne0
returns-then-row-k-ne0 c =
    let l = c.loop-k in
    let lists = c.args.row.lists in
    sym (l.invariant ∙ any_off (counted_at lists) (range_at l.k 6 (omega arith)) (ap not (ne_eqb _ 0 c.if-row-k-ne0.true)))

pub loop-k-preserved : goal.loop-k-preserved
loop-k-preserved c =
    let l = c.loop-k in
    let lists = c.args.row.lists in
    l.invariant ∙ any_on (counted_at lists) (range_at l.k 6 (omega arith)) (ap not (eq-eqb _ 0 c.if-row-k-ne0.false))

pub returns : goal.returns
unfolding any
returns c =
    let l = c.loop-k in
    let lists = c.args.row.lists in
    sym (l.invariant ∙ ap (any (counted_at lists)) (range_past l.k 6 (omega arith)))
