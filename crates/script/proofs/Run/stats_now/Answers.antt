-- The loans are sound, so the counters are small; the line is the report's text.
use Rattle.script.specs.Running.{program_board}
use Rattle.script.proofs.Reaching.{sure_ready}
use Rattle.script.proofs.Turning.{turned_stats}
use Rattle.script.proofs.Run.stats_now.Goals as goal

pub stats-report-requires : goal.stats-report-requires
stats-report-requires c =
    let r = c.args.self.now in
    (sure_ready _ r.words.now r.records.now r.memory.now r.queue.now r.long (c.requires.sure c.if-not-self.false)).few

pub returns-clause-does : goal.returns-clause-does
returns-clause-does c =
    let late = c.if-not-self.false in
    turned_stats program_board late (c.requires.sure late) c.are_bytes.ensures c.stats-report.ensures.reports c.put_text-self.ensures
