-- The test, then the statistics, which are those of every store that the loans hold.
use Rattle.std.proofs.lemmas.Result.{err_from_is_err_and}
use Rattle.door.proofs.Reporting.{reports_passed, reports_torn}
use Rattle.door.proofs.stats.Goals as goal

pub returns-in_err-torn_test : goal.returns-in_err-torn_test
returns-in_err-torn_test c =
    let p = err_from_is_err_and c.from_residual.result c.from_residual.ensures.1 in
    rw (p.1, p.2) (reports_torn c.in_err-torn_test.ensures)

pub returns : goal.returns
returns c = reports_passed c.in_ok-torn_test.ensures c.stats.ensures.reports c.stats.ensures.len_bound
