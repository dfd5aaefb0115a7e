-- `see` meets its contract. The loop's invariant is `Looking`: some region manages the page exactly if one of those that are left does, and `base` is where
-- their pages start.
use Prim.Native.Nat.{◌<◌}
use mathlib.Core.Path.{◌≡◌}
use native.Mathlib.Omega.{arith}
use Rattle.std.proofs.Math.Logic.{∥∥₁_elim}
use Rattle.std.proofs.Props.{props}
use Rattle.record.specs.Records.{pages_in}
use Rattle.region.specs.Rep.{managed}
use Rattle.words.specs.Words.{board_in, rows_in}
use Rattle.words.proofs.Words.{fit_in}
use Rattle.allocator.proofs.Arrays.{row_last, row_eighth}
use Rattle.allocator.proofs.Seeing.{looking_none, Here, here, nothing_left, not_here, found_inside, found_here}
use Rattle.allocator.proofs.Table.see.Goals as goal
use Rattle.allocator.proofs.Table.see.Goals.{Else-row-eq0, In-Some}

pub loop-i-init : goal.loop-i-init
loop-i-init c = looking_none

pub returns-then-row-eq0 : goal.returns-then-row-eq0
returns-then-row-eq0 c a T =
    nothing_left c.loop-i.invariant
    (row_last T.sane c.loop-i.i c.loop-i.invariant.onward.used (rw c.row_at-row.ensures at c.if-row-eq0.true)) a T

-- the row of a turn
turn
    : (c : Else-row-eq0)
    → let t = c.args.self.now in
    Here (board_in t.words.now) (pages_in t.records.now) (rows_in t.words.now) c.loop-i.base c.loop-i.i
turn c =
    ∥∥₁_elim c.args.self.now.sane (hlevel props)
    (λ S. here c.loop-i.invariant (fit_in _) S c.loop-i-test.true (rw c.row_at-row.ensures at c.if-row-eq0.false))

-- the board that it is looked at with
board_is : (c : Else-row-eq0) → c.board_in-board.result ≡ board_in c.args.self.now.words.now
board_is c = c.board_in-board.ensures.0

pub get_frame-requires : goal.get_frame-requires
get_frame-requires c =
    let t = turn c in
    rw (c.row_at-row.ensures, board_is c) record {
      fit = fit_in _;
      pages_bound = (t.pages, omega (arith, t.small));
    }

-- the page has a record
inside : (c : In-Some) → c.in-Some.page < pages_in c.args.self.now.records.now
inside c =
    let e = (goal.at.In-Some c).Else-row-eq0 in
    found_inside c.loop-i.invariant (turn e) c.in-Some.page (rw (c.row_at-row.ensures, board_is e) at c.in-Some.ensures)

pub marks-requires : goal.marks-requires
marks-requires c = inside (goal.at.marks-requires c).In-Some

pub level-requires : goal.level-requires
level-requires c = inside (goal.at.level-requires c).In-Some

pub returns-in-Some : goal.returns-in-Some
returns-in-Some c =
    let e = (goal.at.returns-in-Some c).Else-row-eq0 in
    found_here c.loop-i.invariant (turn e) c.in-Some.page (rw (c.row_at-row.ensures, board_is e) at c.in-Some.ensures)
    c.marks.result c.level.result c.marks.ensures c.level.ensures

pub loop-i-preserved : goal.loop-i-preserved
unfolding managed
loop-i-preserved c =
    let e = (goal.at.loop-i-preserved c).Else-row-eq0 in
    rw (c.table_pages.ensures, c.row_at-row.ensures, board_is e)
    (not_here c.loop-i.invariant (turn e) (rw (c.row_at-row.ensures, board_is e) at c.in_default.ensures))

pub table_pages-requires : goal.table_pages-requires
table_pages-requires c =
    let t = turn (goal.at.table_pages-requires c).Else-row-eq0 in
    rw (c.row_at-row.ensures, board_is (goal.at.table_pages-requires c).Else-row-eq0) record {
      fit = fit_in _;
      pages_bound = omega (arith, t.pages);
    }

pub overflow_sub-base : goal.overflow_sub-base
overflow_sub-base c =
    let t = turn (goal.at.overflow_sub-base c).Else-row-eq0 in
    let p = rw (c.row_at-row.ensures, board_is (goal.at.overflow_sub-base c).Else-row-eq0) at c.table_pages.ensures in
    rw c.row_at-row.ensures (omega (arith, t.tables, p))

pub overflow_add-base : goal.overflow_add-base
overflow_add-base c =
    let t = turn (goal.at.overflow_add-base c).Else-row-eq0 in
    let p = rw (c.row_at-row.ensures, board_is (goal.at.overflow_add-base c).Else-row-eq0) at c.table_pages.ensures in
    rw c.row_at-row.ensures (omega (arith, t.small, p))

pub returns : goal.returns
returns c a T = nothing_left c.loop-i.invariant (row_eighth T.sane c.loop-i.i c.loop-i-test.false) a T
