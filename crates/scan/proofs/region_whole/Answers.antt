-- `region_whole` meets its contract: by `Rows`, as the scan, the pages on the lists, and then their walks answer.
use Rattle.std.proofs.Common.{sym, ◌∙◌}
use mathlib.Core.Bool.{false≢true}
use Rattle.definition.specs.World.{record_at}
use Rattle.definition.proofs.Tests.{and_left}
use Rattle.scan.proofs.Heads.{tiled_marked}
use Rattle.scan.proofs.Rows.{levels_walk, torn_heads, torn_pages, torn_levels, by_lists}
use Rattle.scan.proofs.region_whole.Goals as goal

pub returns-in_err-held : goal.returns-in_err-held
returns-in_err-held c =
    let a = c.args in
    rw c.from_residual.ensures (torn_heads (record_at a.records.now) a.row a.from a.base a.past c.in_err-held.ensures)

pub returns-then-listed_pages-past : goal.returns-then-listed_pages-past
returns-then-listed_pages-past c =
    let a = c.args in
    torn_pages (record_at a.records.now) a.row a.from a.base a.past c.in_ok-held.held c.in_ok-held.ensures c.requires.base_le_past.0
    (λ e. c.if-listed_pages-past.true (c.listed_pages.ensures ∙ e))

pub invariant_of-lists-clause-marked : goal.invariant_of-lists-clause-marked
invariant_of-lists-clause-marked c =
    let a = c.args in
    tiled_marked (record_at a.records.now) a.from a.base a.past (and_left _ _ c.in_ok-held.ensures.whole)

pub returns-then-all_walk : goal.returns-then-all_walk
returns-then-all_walk c =
    let a = c.args in
    let f = record_at a.records.now in
    let p = c.requires in
    by_lists f a.row a.from a.base a.past c.in_ok-held.held c.in_ok-held.ensures p.base_le_past.0
    (sym c.listed_pages.ensures ∙ c.if-listed_pages-past.false)
    (levels_walk f a.row a.from a.base a.past (rw p.in_use.1 (c.all_walk.ensures.0 c.if-all_walk.true)))

pub returns-else-all_walk : goal.returns-else-all_walk
returns-else-all_walk c =
    let a = c.args in
    let p = c.requires in
    torn_levels (record_at a.records.now) a.row a.from a.base a.past c.in_ok-held.held c.in_ok-held.ensures p.base_le_past.0
    (λ h. false≢true (sym c.if-all_walk.false ∙ c.all_walk.ensures.1 (rw (← p.in_use.1) h)))
