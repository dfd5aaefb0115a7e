-- The statistics stand in front of the text, and their length is told in front of the answer; the rest stays.
use mathlib.Core.Path.{sym, ◌∙◌}
use Rattle.std.proofs.lemmas.Result.{err_from_is_err_and}
use Rattle.service.specs.Serving.{is_lent, loans_of, world_with}
use Rattle.service.proofs.Serving.{reports, reports_not, reports_short, reports_torn, serves_with_torn}
use Rattle.service.proofs.serve_stats_with.Goals as goal
use Rattle.service.proofs.serve_stats_with.Goals.{then-text-lt368-via-then-text-lt368, then-text-lt368-via-else-text-lt368+then-not-is_lent}

pub returns-then-text-lt368 : goal.returns-then-text-lt368
returns-then-text-lt368 c =
    let k = c.args.counters in
    let l = loans_of c.args.words.now c.args.records.now c.args.memory.now c.args.queue.now c.args.answer.now in
    elim c.then-text-lt368.branch [
      | then-text-lt368-via-then-text-lt368 w ↦ reports_short (is_lent l) (world_with k l) c.args.text.now w.if-text-lt368.true
      | then-text-lt368-via-else-text-lt368+then-not-is_lent w ↦
          let e = sym w.is_lent.ensures ∙ w.if-not-is_lent.true in
          reports_torn (is_lent l) (world_with k l) c.args.text.now e (serves_with_torn _ l k e)
    ]

pub returns-in_err-report : goal.returns-in_err-report
returns-in_err-report c =
    let l = loans_of c.args.words.now c.args.records.now c.args.memory.now c.args.queue.now c.args.answer.now in
    let p = err_from_is_err_and c.from_residual.result c.from_residual.ensures.1 in
    rw (p.1, p.2)
    (reports_not l c.args.text.now c.args.counters c.stats.ensures c.if-text-lt368.false (sym c.is_lent.ensures ∙ c.if-not-is_lent.false)
    _ c.in_err-report.was)

pub returns : goal.returns
returns c =
    let l = loans_of c.args.words.now c.args.records.now c.args.memory.now c.args.queue.now c.args.answer.now in
    rw c.tell.ensures.0
    (reports l c.args.text.now c.args.counters c.stats.ensures c.if-text-lt368.false (sym c.is_lent.ensures ∙ c.if-not-is_lent.false)
    c.in_ok-report.report c.in_ok-report.was c.tell.ensures.1 c.put_text.ensures.bytes)
