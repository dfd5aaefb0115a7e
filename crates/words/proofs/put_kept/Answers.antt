-- `put_kept` meets its contract. The loop's invariant: behind the first word stand the words of the rows passed.
use native.Mathlib.Omega.{arith}
use lib.ListN.{length-set}
use lib.Seq.{take_all}
use Rattle.record.proofs.Bytes.{with_none}
use Rattle.words.specs.Words.{rows_words}
use Rattle.words.proofs.Owned.{rows_eight}
use Rattle.words.proofs.Rows.{row_more, kept_stores}
use Rattle.words.proofs.put_kept.Goals as goal

pub loop-i-init : goal.loop-i-init
unfolding rows_words
loop-i-init c = with_none _ 1

pub loop-i-preserved : goal.loop-i-preserved
loop-i-preserved c =
    let k = c.loop-i in
    let eight = rows_eight c.args.rows _ c.well_formed.1.1.0 in
    rw (c.put_row_from.ensures, k.invariant) (row_more _ c.args.rows k.i _ (omega arith) (simp length-set (omega arith)))

pub returns : goal.returns
returns c =
    let k = c.loop-i in
    let eight = rows_eight c.args.rows _ c.well_formed.1.1.0 in
    rw (k.invariant, take_all k.i c.args.rows (omega arith), c.joined.ensures)
    (kept_stores c.args.words.now c.args.used c.args.rows c.args.queued c.args.pass eight c.requires)
