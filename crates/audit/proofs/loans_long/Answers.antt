-- `loans_long` meets its contract. Its tests are the sheet's, one by one: at most 2^20 pages are managed, so that their bytes can be
-- counted.
use Prim.Native.Nat.{◌*◌}
use borrow.Author.Tests.{le-leb, lt-leb}
use Rattle.definition.specs.Torn.{loans_long}
use Rattle.audit.proofs.Booted.{booted_used}
use Rattle.audit.proofs.loans_long.Goals as goal

pub returns-then-pages-records : goal.returns-then-pages-records
unfolding loans_long
returns-then-pages-records c =
    let a = c.args in
    let n = c.managed_pages-pages in
    rw (booted_used a.board a.rows.now c.requires.booted, ← n.ensures.0, le-leb (16 * n.result) a.records c.if-pages-records.true)

pub returns-else-pages-records : goal.returns-else-pages-records
unfolding loans_long
returns-else-pages-records c =
    let a = c.args in
    let n = c.managed_pages-pages in
    rw (booted_used a.board a.rows.now c.requires.booted, ← n.ensures.0, lt-leb (16 * n.result) a.records c.if-pages-records.false)
