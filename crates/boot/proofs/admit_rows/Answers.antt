-- `admit_rows` meets its contract: its tests are the sheet's, one by one. The rows are all in use.
use mathlib.Core.List.{List}
use mathlib.Core.Path.{◌≡◌, refl, sym, ap, ◌∙◌}
use native.Mathlib.Omega.{arith}
use borrow.Author.Tests.{le-ltb, lt-ltb}
use Rattle.definition.specs.declared.Row.{Row}
use Rattle.definition.specs.Allocator.{total}
use Rattle.definition.specs.Boot.{most_pages, overlap}
use Rattle.definition.specs.Torn.{bare_regions, regions_of}
use Rattle.audit.proofs.Booted.{booted_used}
use Rattle.boot.specs.Booting.{rows_admitted}
use Rattle.boot.proofs.admit_rows.Goals as goal
use Rattle.boot.proofs.admit_rows.Goals.{After-overlaps, After-total_pages}

overlaps : (c : After-overlaps) → let a = c.args in
    overlap a.board (regions_of a.board a.rows.now) ≡ c.overlaps.result
overlaps c =
    let a = c.args in
    ap (λ (rs : List Row). overlap a.board (bare_regions a.board rs)) (booted_used a.board a.rows.now c.requires.booted)
    ∙ sym c.overlaps.ensures

pages : (c : After-total_pages) → let a = c.args in
    total (regions_of a.board a.rows.now) ≡ c.total_pages.result
pages c =
    let a = c.args in
    ap (λ (rs : List Row). total (bare_regions a.board rs)) (booted_used a.board a.rows.now c.requires.booted) ∙ sym c.total_pages.ensures

pub returns-then-overlaps : goal.returns-then-overlaps
unfolding rows_admitted
returns-then-overlaps c = rw (overlaps (goal.at.returns-then-overlaps c).After-overlaps ∙ c.if-overlaps.true) refl

pub returns-then-total_pages-gt1048576 : goal.returns-then-total_pages-gt1048576
unfolding rows_admitted
returns-then-total_pages-gt1048576 c =
    let a = c.args in
    let at = goal.at.returns-then-total_pages-gt1048576 c in
    rw (
      overlaps at.After-overlaps ∙ c.if-overlaps.false,
      lt-ltb most_pages (total (regions_of a.board a.rows.now)) (omega (arith, pages at.After-total_pages)),
    )
    refl

pub returns-then-not-loans_long : goal.returns-then-not-loans_long
unfolding rows_admitted
returns-then-not-loans_long c =
    let a = c.args in
    let at = goal.at.returns-then-not-loans_long c in
    rw (
      overlaps at.After-overlaps ∙ c.if-overlaps.false,
      le-ltb most_pages (total (regions_of a.board a.rows.now)) (omega (arith, pages at.After-total_pages)),
      sym c.loans_long.ensures ∙ c.if-not-loans_long.true,
    )
    refl

pub returns : goal.returns
unfolding rows_admitted
returns c =
    let a = c.args in
    let at = goal.at.returns c in
    rw (
      overlaps at.After-overlaps ∙ c.if-overlaps.false,
      le-ltb most_pages (total (regions_of a.board a.rows.now)) (omega (arith, pages at.After-total_pages)),
      sym c.loans_long.ensures ∙ c.if-not-loans_long.false,
    )
    refl
