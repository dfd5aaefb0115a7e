-- The two ways out are the two cases of the definition's test.
use Prim.Native.Nat.{◌+◌, ◌≤◌, ◌<◌}
use mathlib.Core.Path.{sym}
use native.Mathlib.Decide.{dec_le}
use native.Mathlib.Omega.{arith}
use Rattle.std.proofs.lemmas.Bool.Decides.{nat_tests}
use Rattle.region.proofs.Addresses.{lookup_below, lookup_past, lookup_in, lookup_fits}
use Rattle.region.proofs.get_frame.Goals as goal
use Rattle.region.proofs.get_frame.Goals.{Else-not-contains, Then-not-contains}

-- the page frame number is one that the region manages
within
    : (c : Else-not-contains)
    → (c.page_number-start.result + c.table_pages.result ≤ c.page_number-number.result)
    × (c.page_number-number.result < c.page_number-start.result + c.args.row.pages)
within c = grind (arith, nat_tests)

-- it is below those, where it is not past them
below
    : (c : Then-not-contains) → (c.page_number-start.result + c.args.row.pages ≤ c.page_number-number.result → ⊥)
    → c.page_number-number.result < c.page_number-start.result + c.table_pages.result
below c h = grind (arith, nat_tests)

pub returns-then-not-contains : goal.returns-then-not-contains
returns-then-not-contains c =
    let n = c.page_number-number.ensures in
    let b = c.page_number-start.ensures in
    let t = c.table_pages.ensures in
    elim (dec_le (c.page_number-start.result + c.args.row.pages) c.page_number-number.result) [
      | yes h ↦ sym (lookup_past c.args.board c.args.row c.args.first n b t h)
      | no h ↦ sym (lookup_below c.args.board c.args.row c.args.first n b t (below c h))
    ]

pub overflow_add-result : goal.overflow_add-result
overflow_add-result c =
    let n = c.page_number-number.ensures in
    let b = c.page_number-start.ensures in
    let t = c.table_pages.ensures in
    let w = within (goal.at.overflow_add-result c).Else-not-contains in
    omega (arith, lookup_fits c.args.board c.args.row c.args.first n b t w.0 w.1, c.requires.pages_bound.1)

pub returns : goal.returns
returns c =
    let n = c.page_number-number.ensures in
    let b = c.page_number-start.ensures in
    let t = c.table_pages.ensures in
    let w = within (goal.at.returns c).Else-not-contains in
    sym (lookup_in c.args.board c.args.row c.args.first n b t w.0 w.1)
