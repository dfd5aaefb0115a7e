-- `survey` meets its contract. The loop's invariant is `Surveying`: what is left decides as the whole does.
use Prim.Native.Nat.{◌/◌}
use mathlib.Core.Path.{◌≡◌, sym, ◌∙◌}
use lib.ListN.{length}
use Rattle.definition.specs.World.{record_at, used_rows}
use Rattle.words.specs.Words.{board_in, rows_in}
use Rattle.words.proofs.Words.{fit_in}
use Rattle.words.proofs.Places.{in_use}
use Rattle.audit.specs.Sheet.{row_at}
use Rattle.audit.proofs.Arrays.{words_eight}
use Rattle.audit.proofs.Surveying.{survey_none, torn_row, past_row, ends_before, ends_last, surveys}
use Rattle.audit.proofs.Lent.survey.Goals as goal
use Rattle.audit.proofs.Lent.survey.Goals.{Then-pages_at-ne0, then-loop-seen-test+else-pages_at-ne0, else-loop-seen-test}

pub loop-seen-init : goal.loop-seen-init
loop-seen-init c =
    let a = c.args.self.now in
    survey_none (board_in a.words.now) (record_at a.records.now) (length a.records.now / 16) (rows_in a.words.now) (words_eight a.words.now)

-- the row has pages
has_pages : (c : Then-pages_at-ne0) → (row_at (rows_in c.args.self.now.words.now) c.loop-seen.seen.used).pages ≡ 0 → ⊥
has_pages c = rw c.pages_at.ensures at c.if-pages_at-ne0.true

pub visit-requires-clause-in_use : goal.visit-requires-clause-in_use
visit-requires-clause-in_use c =
    let h = c.loop-seen-test.true in
    (h, in_use c.args.self.now.words.now c.loop-seen.seen.used h (has_pages (goal.at.visit-requires-clause-in_use c).Then-pages_at-ne0))

pub returns-in_err-seen : goal.returns-in_err-seen
returns-in_err-seen c =
    let a = c.args.self.now in
    rw c.from_residual.ensures
    (torn_row (board_in a.words.now) (record_at a.records.now) (length a.records.now / 16) (rows_in a.words.now) c.loop-seen.seen
    c.loop-seen.invariant
    c.loop-seen-test.true (has_pages (goal.at.returns-in_err-seen c).Then-pages_at-ne0) c.in_err-seen.ensures)

pub loop-seen-preserved : goal.loop-seen-preserved
loop-seen-preserved c =
    let a = c.args.self.now in
    past_row (board_in a.words.now) (record_at a.records.now) (length a.records.now / 16) (rows_in a.words.now) c.loop-seen.seen
    c.loop-seen.invariant
    c.loop-seen-test.true (has_pages (goal.at.loop-seen-preserved c).Then-pages_at-ne0) (fit_in a.words.now) c.in_ok-seen.seen
    c.in_ok-seen.ensures

pub returns : goal.returns
returns c =
    let a = c.args.self.now in
    let b = board_in a.words.now in
    let f = record_at a.records.now in
    let n = length a.records.now / 16 in
    let rows = rows_in a.words.now in
    let s = c.loop-seen.seen in
    let v = c.loop-seen.invariant in
    let ends : length (used_rows rows) ≡ s.used = elim c.loop-seen-test.branch [
      | then-loop-seen-test+else-pages_at-ne0 w ↦ ends_before b f n rows s v w.loop-seen-test.true
          (sym w.pages_at.ensures ∙ w.if-pages_at-ne0.false)
      | else-loop-seen-test w ↦ ends_last b f n rows s v w.loop-seen-test.false
    ] in
    rw c.then_some.ensures (surveys b f n rows s v ends c.is_no_rows.result c.is_no_rows.ensures)
