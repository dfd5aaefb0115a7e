-- `visit` meets its contract. Its tests are `row_test`, in the same order, and what it adds is what the test of the region found.
use Prim.Native.Nat.{◌+◌, ◌-◌, ◌/◌}
use mathlib.Core.Bool.{true}
use mathlib.Core.Path.{◌≡◌, refl, sym, ◌∙◌, subst}
use native.Mathlib.Omega.{arith}
use borrow.Author.Tests.{le-leb}
use lib.Dec.{leb}
use lib.ListN.{length}
use Rattle.definition.specs.declared.Row.{Row}
use Rattle.definition.specs.Board.{Board}
use Rattle.definition.specs.World.{record_at}
use Rattle.definition.specs.Torn.{row_as_boot}
use Rattle.definition.proofs.Tests.{and-true}
use Rattle.std.specs.Prelude.{Option, Some, None}
use Rattle.scan.specs.declared.HeldPages.{HeldPages}
use Rattle.scan.specs.Sheet.{placed_at, AuditedAt, WholeRow, Audited}
use Rattle.scan.proofs.Rows.{audited_row}
use Rattle.words.specs.Words.{board_in, rows_in}
use Rattle.audit.specs.declared.Surveyed.{Surveyed}
use Rattle.audit.specs.Sheet.{row_at, Visited}
use Rattle.audit.proofs.Onward.{and_on}
use Rattle.audit.proofs.Counting.{managed_row}
use Rattle.audit.proofs.Surveying.{visited_torn}
use Rattle.audit.proofs.Lent.visit.Goals as goal
use Rattle.audit.proofs.Lent.visit.Goals.{
  After-region_whole,
  After-row_at-row,
  After-table_pages-tables,
  Else-not-row_as_boot,
  Else-self-past,
  In_ok-held,
}

-- the board that was read
abbrev board : After-row_at-row → Board
board c = c.board_in-board.result

-- what is found of the row that was read, on the board that was, is found of the row behind those that were seen
of_row : (c : After-row_at-row) →
    let seen = c.args.seen in
    let ws = c.args.self.now.words.now in
    let bytes = c.args.self.now.records.now in
    (r : Option Surveyed) → Visited (board c) (record_at bytes) (length bytes / 16) c.row_at-row.result seen r
    → Visited (board_in ws) (record_at bytes) (length bytes / 16) (row_at (rows_in ws) seen.used) seen r
of_row c r v =
    let seen = c.args.seen in
    let bytes = c.args.self.now.records.now in
    let f = record_at bytes in
    let n = length bytes / 16 in
    subst (λ (b : Board). Visited b f n (row_at (rows_in c.args.self.now.words.now) seen.used) seen r) c.board_in-board.ensures.0
    (subst (λ (row : Row). Visited (board c) f n row seen r) c.row_at-row.ensures v)

-- the row is as boot makes it
is_booted : (c : Else-not-row_as_boot) → row_as_boot (board (goal.at.Else-not-row_as_boot c).After-row_at-row) c.row_at-row.result ≡ true
is_booted c = sym c.row_as_boot.ensures ∙ c.if-not-row_as_boot.false

-- where its pages end
ends : (c : After-table_pages-tables) →
    let a = c.args in
    a.seen.managed + (c.row_at-row.result.pages - c.table_pages-tables.result)
    ≡ a.seen.managed + managed_row (board (goal.at.After-table_pages-tables c).After-row_at-row) c.row_at-row.result
ends c = rw c.table_pages-tables.ensures

-- the loan has its records
room : (c : Else-self-past) →
    let a = c.args in
    leb (a.seen.managed + managed_row (board (goal.at.Else-self-past c).After-row_at-row) c.row_at-row.result)
    (length a.self.now.records.now / 16) ≡ true
room c =
    let a = c.args in
    le-leb (a.seen.managed + managed_row (board (goal.at.Else-self-past c).After-row_at-row) c.row_at-row.result)
    (length a.self.now.records.now / 16)
    (omega (arith, ends (goal.at.Else-self-past c).After-table_pages-tables, c.if-self-past.false))

-- what is found of the region by its numbers is found of the row: its first managed page is behind those that were seen
region : (c : After-region_whole) →
    let seen = c.args.seen in
    let f = record_at c.args.self.now.records.now in
    let row = c.row_at-row.result in
    let tables = c.table_pages-tables.result in
    (r : Option HeldPages) → AuditedAt f row (c.page_number.result + tables) seen.managed (seen.managed + (row.pages - tables)) r
    → Audited (board (goal.at.After-region_whole c).After-row_at-row) f (placed_at seen.managed row) r
region c r h =
    let seen = c.args.seen in
    let row = c.row_at-row.result in
    let tables = c.table_pages-tables.result in
    audited_row (board (goal.at.After-region_whole c).After-row_at-row) (record_at c.args.self.now.records.now) (placed_at seen.managed row)
    (c.page_number.result + tables) (seen.managed + (row.pages - tables)) r
    (rw (c.page_number.ensures, c.table_pages-tables.ensures)) (ends (goal.at.After-region_whole c).After-table_pages-tables) h

pub returns-in_err-held : goal.returns-in_err-held
returns-in_err-held c =
    rw c.from_residual.ensures (of_row (goal.at.returns-in_err-held c).After-row_at-row _
    (visited_torn
    (and_on _ (is_booted (goal.at.returns-in_err-held c).Else-not-row_as_boot)
    ∙ and_on _ (room (goal.at.returns-in_err-held c).Else-self-past)
    ∙ region (goal.at.returns-in_err-held c).After-region_whole None c.in_err-held.ensures)))

-- the region is whole, and its pages are those held and those listed
whole : (c : In_ok-held) →
    let f = record_at c.args.self.now.records.now in
    let row = placed_at c.args.seen.managed c.row_at-row.result in
    WholeRow (board (goal.at.In_ok-held c).After-row_at-row) f row c.in_ok-held.held
whole c = region (goal.at.In_ok-held c).After-region_whole (Some c.in_ok-held.held) c.in_ok-held.ensures

pub returns : goal.returns
returns c =
    let w = whole (goal.at.returns c).In_ok-held in
    of_row (goal.at.returns c).After-row_at-row _ record {
      exact = sym (and-true (is_booted (goal.at.returns c).Else-not-row_as_boot)
          (and-true (room (goal.at.returns c).Else-self-past) w.whole));
      added = record {
        used = refl;
        total = refl;
        manages = ends (goal.at.returns c).After-table_pages-tables;
        page = omega (arith, w.page);
        kernel = omega (arith, w.kernel);
        pages = omega (arith, w.page, w.kernel, w.pages);
      };
    }
