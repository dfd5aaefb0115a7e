-- `pass` meets its contract. The loop's invariant is `Gone`: the regions passed had nothing, so that the records and the rows are as they
-- were.
use Rattle.std.proofs.Common.{Option, Some, ◌+◌, ◌-◌, ◌<◌, rules}
use mathlib.Core.Path.{◌≡◌, refl}
use native.Mathlib.Omega.{arith}
use lib.ListN.{length}
use Rattle.world.proofs.Sheets.{good_few}
use Rattle.definition.specs.World.{record_at, used_rows}
use Rattle.level.proofs.Ranks.{rank_below}
use Rattle.record.specs.Records.{pages_in}
use Rattle.region.proofs.Lending.{both_lent, lent}
use Rattle.region.specs.Rep.{managed}
use Rattle.level.specs.Level.{rank}
use Rattle.words.specs.Words.{RowsBeside, board_in, rows_in}
use Rattle.allocator.specs.declared.Spot.{Spot}
use Rattle.allocator.specs.Spots.{PicksIn, pass_by}
use Rattle.words.proofs.Places.{in_use}
use Rattle.words.proofs.Words.{fit_in, rows_beside_same, rows_beside_then}
use Rattle.world.specs.Stands.{Good, row_at}
use Rattle.allocator.proofs.Picking.{gone_none, gone_here, gone_past, gone_eight, gone_all, gone_good, gone_row, gone_on, gone_found}
use Rattle.allocator.proofs.pass.Invariants.{Inv}
use Rattle.allocator.proofs.pass.Goals as goal
use Rattle.allocator.proofs.pass.Goals.{After-pages_at-pages, Else-pages-eq0}

pub loop-i-init : goal.loop-i-init
loop-i-init c =
    record { rows = refl; rest = rows_beside_same; wide = refl; long = refl; gone = gone_none c.requires.1 (rank_below c.args.level) }

-- the pages of a turn's row, by the words that were given
pages_are : (c : After-pages_at-pages) → c.pages_at-pages.result ≡ (row_at (rows_in c.args.words.now) c.loop-i.i).pages
pages_are c = rw c.loop-i.invariant.rows at c.pages_at-pages.ensures

pub returns-then-pages-eq0 : goal.returns-then-pages-eq0
returns-then-pages-eq0 c =
    let I = c.loop-i.invariant in
    let z = rw (pages_are (goal.at.returns-then-pages-eq0 c).After-pages_at-pages) at c.if-pages-eq0.true in record {
      picks_in = gone_all I.gone (gone_past I.gone z) I.rows;
      rows_beside = I.rest;
    }

-- a row that has pages is in use
used : (c : Else-pages-eq0) → c.loop-i.i < length (used_rows (rows_in c.args.words.now))
used c = gone_here c.loop-i.invariant.gone c.loop-i-test.true
    (rw (pages_are (goal.at.Else-pages-eq0 c).After-pages_at-pages) at c.if-pages-eq0.false)

good
    : (c : Else-pages-eq0)
    → Good (board_in c.args.words.now) (record_at c.loop-i.records) (pages_in c.loop-i.records) c.loop-i.base
    (row_at (rows_in c.args.words.now) c.loop-i.i)
good c = gone_good c.loop-i.invariant.gone (used c)

-- the board that it is searched with
board_is : (c : Else-pages-eq0) → c.board_in-board.result ≡ board_in c.args.words.now
board_is c = c.board_in-board.ensures.0

pub allocate-got-requires : goal.allocate-got-requires
allocate-got-requires c =
    let e = (goal.at.allocate-got-requires c).Else-pages-eq0 in
    let I = c.loop-i.invariant in
    let g = good e in
    let u = in_use c.loop-i.words c.loop-i.i (omega arith) (rw c.pages_at-pages.ensures at c.if-pages-eq0.false) in
    rw (I.rows, board_is e) record {
      sound_in = ((omega (arith, c.requires.0, I.wide), omega arith, u), g.sound);
      whole_in = g.whole;
    }

pub returns-in-Some : goal.returns-in-Some
returns-in-Some c =
    let e = (goal.at.returns-in-Some c).Else-pages-eq0 in
    let I = c.loop-i.invariant in
    let d = c.allocate-got.ensures in
    let b = c.allocate-got.new.self in
    let A = rw (I.rows, board_is e) at d.finds_in in
    let W = rw (board_is e, d.same.first, d.same.index) at d.whole_in_2 in
    let B = A.1 in
    let m = d.same.long in
    let by = pass_by (rank c.args.level) c.args.try_zero c.args.only_zero in
    let s : Option Spot = Some (record { index = c.loop-i.i; base = c.loop-i.base; page = c.in-Some.page }) in
    let t : PicksIn by c.args.records.now c.args.words.now b.records.now b.words.now s =
    rw (B.rows, I.rows) (gone_found I.gone (used e) A.0 (omega (arith, m)) W c.in-Some.is) in record {
      picks_in = both_lent (λ bytes ws. PicksIn by c.args.records.now c.args.words.now bytes ws s) t (search rules) (search rules);
      rows_beside = lent (RowsBeside c.args.words.now) (rows_beside_then I.rest B.rest) (search rules);
    }

pub table_pages-requires : goal.table_pages-requires
table_pages-requires c =
    let e = (goal.at.table_pages-requires c).Else-pages-eq0 in
    let p = pages_are (goal.at.table_pages-requires c).After-pages_at-pages in
    rw (board_is e) record {
      fit = fit_in _;
      pages_bound = omega (arith, good_few (fit_in _) (good e), p);
    }

pub overflow_sub-base : goal.overflow_sub-base
overflow_sub-base c =
    let e = (goal.at.overflow_sub-base c).Else-pages-eq0 in
    let p = pages_are (goal.at.overflow_sub-base c).After-pages_at-pages in
    omega (arith, (good e).tables, p, rw (board_is e, p) at c.table_pages.ensures)

pub overflow_add-base : goal.overflow_add-base
unfolding managed
overflow_add-base c =
    let e = (goal.at.overflow_add-base c).Else-pages-eq0 in
    let p = pages_are (goal.at.overflow_add-base c).After-pages_at-pages in
    omega (arith, (good e).sound.small, p, rw (board_is e, p) at c.table_pages.ensures)

pub loop-i-preserved : goal.loop-i-preserved
unfolding managed
loop-i-preserved c =
    let e = (goal.at.loop-i-preserved c).Else-pages-eq0 in
    let I = c.loop-i.invariant in
    let d = c.in_default.ensures in
    let b = c.allocate-got.new.self in
    let A = rw (I.rows, board_is e) at d.finds_in in
    let B = A.1 in
    let m = c.allocate-got.ensures.same.long in
    let base = c.loop-i.base + (c.pages_at-pages.result - c.table_pages.result) in
    let t : Inv c.args.words.now c.args.records.now (rank c.args.level) c.args.try_zero c.args.only_zero b.words.now b.records.now base (c.loop-i.i + 1) =
    record {
      rows = rw (B.rows, I.rows) (gone_row I.gone (used e) A.0 (omega (arith, m)) refl);
      rest = rows_beside_then I.rest B.rest;
      wide = omega (arith, I.wide, c.allocate-got.ensures.same.wide);
      long = omega (arith, I.long, m);
      gone = rw (c.table_pages.ensures, pages_are (goal.at.loop-i-preserved c).After-pages_at-pages, board_is e)
          (gone_on I.gone (used e) A.0 (omega (arith, m)) refl);
    }
    in
    both_lent (λ bytes ws. Inv c.args.words.now c.args.records.now (rank c.args.level) c.args.try_zero c.args.only_zero ws bytes base (c.loop-i.i + 1))
    t (search rules) (search rules)

pub returns : goal.returns
returns c =
    let I = c.loop-i.invariant in record {
      picks_in = gone_all I.gone (gone_eight I.gone (omega arith)) I.rows;
      rows_beside = I.rest;
    }
