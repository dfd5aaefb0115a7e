-- Lookup, by what `see` saw: outside, or the page and the bytes of its frame. The world stays.
use mathlib.Core.Path.{sym, ◌∙◌}
use Rattle.std.proofs.lemmas.Result.{err_from_is_err_and}
use Rattle.definition.specs.World.{record_at}
use Rattle.words.specs.Words.{board_in, rows_in}
use Rattle.words.proofs.Words.{fit_in}
use Rattle.exam.proofs.Making.{whole_table}
use Rattle.exam.proofs.Tests.{seen_leveled}
use Rattle.frames.proofs.Promised.{find_made, find_refused}
use Rattle.frames.proofs.find.Goals as goal

pub returns-in_err-seen : goal.returns-in_err-seen
returns-in_err-seen c k m q s H =
    let a = c.args in
    let p = err_from_is_err_and c.from_residual.result c.from_residual.ensures.1 in
    let x = c.in_err-seen in
    rw (p.1, p.2)
    (find_refused (fit_in a.table.words.now) H a.pa.0 _ (c.see.ensures s.allocator (whole_table H)) x.field-0.0 (sym c.ok_or.ensures.value ∙ x.was))

pub frame_bytes-requires-clause-level_known : goal.frame_bytes-requires-clause-level_known
frame_bytes-requires-clause-level_known c =
    let t = c.args.table in
    let x = c.in_ok-seen in
    seen_leveled (board_in t.words.now) (record_at t.records.now) (rows_in t.words.now) _ _ t.sane c.see.ensures x.seen x.ensures.ok_part

pub returns : goal.returns
returns c k m q s H =
    let a = c.args in
    let x = c.in_ok-seen in
    rw (c.frame_bytes.ensures, c.raw.ensures, c.board_in-board.ensures.0)
    (find_made (fit_in a.table.words.now) H a.pa.0 _ (c.see.ensures s.allocator (whole_table H)) x.seen (sym c.ok_or.ensures.value ∙ x.was)
    x.ensures.ok_part)
