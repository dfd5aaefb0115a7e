-- The statistics are written from the first byte of the text on, and nothing else changes.
use Rattle.counts.proofs.Recounted.{reports_written}
use Rattle.counts.proofs.stats.Goals as goal

pub returns-clause-reports : goal.returns-clause-reports
returns-clause-reports c = reports_written c.print_tracker_stats-len.ensures.wrote
