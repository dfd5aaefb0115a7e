-- `managed_pages` meets its contract. The tables of a row are fewer than its pages, and all pages together are few.
use Prim.Native.Nat.{◌<◌}
use mathlib.Core.Path.{sym, ◌∙◌, subst}
use native.Mathlib.Omega.{arith}
use borrow.Author.Rules.{rules}
use Rattle.std.specs.List.{sum_by}
use Rattle.std.proofs.lemmas.Iterator.{YieldsList-from_slice, YieldsList-from_map}
use Rattle.std.proofs.lemmas.Iterator.Adapters.{serves_from_places}
use Rattle.std.proofs.lemmas.Iterator.Consumers.{sum_by_from_yields_List, fits_by_from_yields_list}
use Rattle.definition.specs.declared.Row.{Row}
use Rattle.definition.specs.Allocator.{managed}
use Rattle.definition.specs.World.{bare_region}
use Rattle.audit.proofs.Booted.{Booted, booted_in, few_pages}
use Rattle.audit.proofs.Bare.{sum_regions}
use Rattle.audit.proofs.Regions.{managed_total}
use Rattle.definition.specs.Torn.{bare_regions}
use Rattle.audit.proofs.managed_pages.Goals as goal

pub sum-requires-clause-can : goal.sum-requires-clause-can
sum-requires-clause-can c =
    let a = c.args in
    let fit = c.requires.fit in (
      tt,
      serves_from_places (YieldsList-from_slice a.rows.now (cc)) (λ x q r. search rules)
          (λ x k h e.
          let b : Booted a.board x.now = subst (Booted a.board) (sym e) (booted_in a.board a.rows.now k x.now c.requires.booted h) in
          let few = few_pages fit b in
          let t = b.tables in
          search rules),
    )

pub sum-requires-clause-fits : goal.sum-requires-clause-fits
sum-requires-clause-fits c =
    let a = c.args in
    let few : sum_by (λ (row : Row). managed a.board (bare_region a.board row)) a.rows.now < 18446744073709551616 =
    omega (
      arith,
      sum_regions a.board (managed a.board) a.rows.now,
      managed_total a.board (bare_regions a.board a.rows.now),
      c.requires.few,
    ) in
    fits_by_from_yields_list _ _ c.map.result _
    (YieldsList-from_map _ (λ (row : Row). managed a.board (bare_region a.board row)) (YieldsList-from_slice a.rows.now (cc))
    c.map.ensures.closure (λ x r q k. search rules))
    few

pub returns : goal.returns
returns c =
    let a = c.args in
    let e = sum_by_from_yields_List _ _ c.map.result c.sum.result c.sum.ensures.ran
    (YieldsList-from_map _ (λ (row : Row). managed a.board (bare_region a.board row)) (YieldsList-from_slice a.rows.now (cc))
    c.map.ensures.closure (λ x r q k. search rules))
    ∙ sum_regions a.board (managed a.board) a.rows.now in
    (e, omega (arith, e, managed_total a.board (bare_regions a.board a.rows.now), c.requires.few))
