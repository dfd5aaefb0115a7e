-- The pages that the test counts are those that the region manages, and a new region is sound and whole.
use Prim.Native.Nat.{◌-◌}
use mathlib.Core.Path.{refl, sym}
use native.Mathlib.Omega.{arith}
use Rattle.std.proofs.lemmas.Bool.{and_parts, le-leb, lt-leb, leb-true}
use Rattle.definition.specs.Board.{standard}
use Rattle.definition.proofs.Boards.{standard_fit}
use Rattle.record.specs.Records.{pages_in}
use Rattle.region.proofs.Beginning.{count_is}
use Rattle.region.proofs.Laws.{rep_sound}
use Rattle.leaves.proofs.laid_out.Goals as goal
use Rattle.leaves.proofs.laid_out.Goals.{then-pages-gt1048576-via-then-pages-gt1048576}
use Rattle.leaves.proofs.laid_out.Goals.{then-pages-gt1048576-via-else-pages-gt1048576+then-not-fits}

pub returns-then-pages-gt1048576-clause-fits_value : goal.returns-then-pages-gt1048576-clause-fits_value
returns-then-pages-gt1048576-clause-fits_value c =
    let a = c.args in
    elim c.then-pages-gt1048576.branch [
      | then-pages-gt1048576-via-then-pages-gt1048576 w ↦ rw (lt-leb a.pages 1048576 w.if-pages-gt1048576.true) refl
      | then-pages-gt1048576-via-else-pages-gt1048576+then-not-fits w ↦
          let t = rw c.standard-board.ensures at w.table_pages.ensures in
          rw (le-leb a.pages 1048576 w.if-pages-gt1048576.false, ← count_is standard (record { 0 = a.start }) a.pages t)
          w.if-not-fits.ensures
    ]

pub new-requires-2 : goal.new-requires-2
new-requires-2 c =
    let t = rw c.standard-board.ensures at c.table_pages.ensures in
    let e = count_is standard (record { 0 = c.args.start }) c.args.pages t in
    let f = and_parts _ _ (sym c.if-not-fits.ensures) in
    let m = leb-true (c.args.pages - c.table_pages.result) (pages_in c.args.records.now) f.0 in
    rw c.standard-board.ensures record {
      fit = standard_fit;
      pages_bound = (omega arith, omega (arith, t));
      pages_bound_2 = (omega (arith, e), omega (arith, e, m, t));
    }

pub returns : goal.returns
returns c =
    let a = c.args in
    let b = c.standard-board.ensures in
    let t = rw b at c.table_pages.ensures in
    record {
      fits_value =
          rw (le-leb a.pages 1048576 c.if-pages-gt1048576.false, ← count_is standard (record { 0 = a.start }) a.pages t)
          c.if-not-fits.ensures;
      sound = rw b at (rep_sound c.new-2.ensures.becomes.rep);
      whole = rw b at c.new-2.ensures.whole_row;
    }
