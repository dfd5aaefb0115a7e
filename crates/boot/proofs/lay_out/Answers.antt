-- `lay_out` meets its contract. The loop's invariant is `Laid`: the rows passed stand for their regions.
use mathlib.Core.Path.{◌≡◌, refl}
use lib.ListN.{length}
use native.Mathlib.Omega.{arith}
use Rattle.definition.specs.World.{record_at}
use Rattle.record.specs.Records.{pages_in}
use Rattle.region.specs.Rep.{managed}
use Rattle.words.proofs.Owned.{row_narrow}
use Rattle.world.specs.Stands.{row_at}
use Rattle.boot.proofs.OneByOne.{Turn, laid_done, laid_none, laid_on, laid_turn}
use Rattle.boot.proofs.lay_out.Goals as goal
use Rattle.boot.proofs.lay_out.Goals.{In-loop-row}

pub loop-row-init : goal.loop-row-init
loop-row-init c =
    record { long = refl; laid = laid_none c.args.rows.now (pages_in c.args.records.now) c.requires.ready (record_at c.args.records.now) }

-- the row of a turn
turn : (c : In-loop-row) →
    Turn c.args.rows.now (pages_in c.args.records.now) c.requires.ready (row_at c.loop-row.rows c.loop-row.row-index) c.loop-row.base
turn c =
    laid_turn c.args.rows.now (pages_in c.args.records.now) c.requires.ready c.loop-row.invariant.laid
    (omega (arith, c.loop-row-test.true, c.loop-row.auto.rows))

pub new-requires-clause-pages_bound : goal.new-requires-clause-pages_bound
new-requires-clause-pages_bound c =
    let T = turn (goal.at.new-requires-clause-pages_bound c).In-loop-row in
    (omega (arith, T.few), omega (arith, T.tables))

pub new-requires-clause-pages_bound_2 : goal.new-requires-clause-pages_bound_2
new-requires-clause-pages_bound_2 c =
    let T = turn (goal.at.new-requires-clause-pages_bound_2 c).In-loop-row in
    (omega (arith, T.end), omega (arith, T.fits, c.loop-row.invariant.long))

pub table_pages-requires-clause-pages_bound : goal.table_pages-requires-clause-pages_bound
table_pages-requires-clause-pages_bound c = omega (arith, (turn (goal.at.table_pages-requires-clause-pages_bound c).In-loop-row).few)

pub overflow_sub-base : goal.overflow_sub-base
overflow_sub-base c = omega (arith, (turn (goal.at.overflow_sub-base c).In-loop-row).tables, c.table_pages.ensures)

pub loop-row-preserved : goal.loop-row-preserved
unfolding managed
loop-row-preserved c =
    let l = c.loop-row in
    let d = c.new in
    let e : length d.new.records ≡ length c.args.records.now = omega (arith, d.auto.records, l.invariant.long) in
    record {
      long = e;
      laid =
          rw c.table_pages.ensures
          (laid_on c.args.rows.now (pages_in c.args.records.now) c.requires.ready l.invariant.laid
          (omega (arith, c.loop-row-test.true, l.auto.rows))
          (omega (arith, e)) (row_narrow d.result _ d.type_inv) d.ensures.becomes);
    }

pub returns : goal.returns
returns c =
    let l = c.loop-row in
    let e : pages_in l.records ≡ pages_in c.args.records.now = omega (arith, l.invariant.long) in
    rw e (laid_done c.args.rows.now (pages_in c.args.records.now) c.requires.ready l.invariant.laid
    (omega (arith, c.loop-row-test.false, l.auto.row-index-end)))
