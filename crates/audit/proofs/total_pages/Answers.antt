-- `total_pages` meets its contract. Each of the few rows has at most 2^28 pages, since it ends by 2^40.
use Prim.Native.Nat.{◌<◌}
use mathlib.Core.Path.{◌∙◌}
use native.Mathlib.Omega.{arith}
use borrow.Author.Rules.{rules}
use Rattle.std.specs.List.{sum_by}
use Rattle.std.proofs.lemmas.Iterator.{YieldsList-from_slice, YieldsList-from_map}
use Rattle.std.proofs.lemmas.Iterator.Consumers.{sum_by_from_yields_List, fits_by_from_yields_list}
use Rattle.definition.specs.declared.Row.{Row}
use Rattle.definition.specs.Allocator.{AllocationRegion}
use Rattle.audit.proofs.Booted.{few_total}
use Rattle.audit.proofs.Bare.{sum_regions}
use Rattle.audit.proofs.total_pages.Goals as goal

pub sum-requires-clause-fits : goal.sum-requires-clause-fits
sum-requires-clause-fits c =
    let a = c.args in
    let e = sum_regions a.board (λ (r : AllocationRegion). r.pages) a.rows.now in
    let most = few_total a.board c.requires.fit a.rows.now c.requires.booted in
    let few : sum_by (λ (row : Row). row.pages) a.rows.now < 18446744073709551616 = omega (arith, e, most, c.requires.few) in
    fits_by_from_yields_list _ _ c.map.result _
    (YieldsList-from_map _ (λ (row : Row). row.pages) (YieldsList-from_slice a.rows.now (cc)) c.map.ensures.closure
    (λ x r q k. search rules))
    few

pub returns : goal.returns
returns c =
    let a = c.args in
    sum_by_from_yields_List _ _ c.map.result _ c.sum.ensures.ran
    (YieldsList-from_map _ (λ (row : Row). row.pages) (YieldsList-from_slice a.rows.now (cc)) c.map.ensures.closure
    (λ x r q k. search rules))
    ∙ sum_regions a.board (λ (r : AllocationRegion). r.pages) a.rows.now
