-- The page frame number of a page of the region, times the page size.
use mathlib.Core.Path.{refl}
use native.Mathlib.Omega.{arith}
use Rattle.region.proofs.Addresses.{address_ends, from_is, number_ends, number_few, pages_few, tables_few}
use Rattle.region.proofs.start_address.Goals as goal

pub overflow_add-from : goal.overflow_add-from
overflow_add-from c =
    let n = number_few c.requires.fit c.args.row.start.0 (omega arith) in
    let f = pages_few c.requires.fit _ c.args.row.pages c.requires.pages_bound in
    omega (arith, c.page_number-start.ensures, c.table_pages.ensures, n, tables_few c.requires.fit c.args.row.pages (omega (arith, f)))

pub overflow_add-from-2 : goal.overflow_add-from-2
overflow_add-from-2 c =
    let n = number_few c.requires.fit c.args.row.start.0 (omega arith) in
    let f = pages_few c.requires.fit _ c.args.row.pages c.requires.pages_bound in
    omega (arith, number_ends c.args.row c.page_number-start.ensures c.table_pages.ensures c.requires.inside c.requires.pages_bound, n, f)

pub from_page_number-requires : goal.from_page_number-requires
from_page_number-requires c =
    address_ends c.args.row c.page_number-start.ensures c.table_pages.ensures c.requires.inside c.requires.pages_bound

pub returns : goal.returns
returns c =
    rw (c.from_page_number.ensures, c.table_pages.ensures, c.page_number-start.ensures, from_is c.args.board c.args.row) refl
