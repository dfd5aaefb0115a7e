-- The test, then the copy, of which every store that the loans hold is meant.
use Rattle.std.proofs.Common.{rules}
use Rattle.std.proofs.lemmas.Result.{err_from_is_err_and}
use Rattle.exam.proofs.Returning.{made_back}
use Rattle.door.proofs.Testing.{leaves_passed, leaves_torn}
use Rattle.drivers.proofs.copy.Goals as goal

pub returns-in_err-torn_test : goal.returns-in_err-torn_test
returns-in_err-torn_test c =
    let p = err_from_is_err_and c.from_residual.result c.from_residual.ensures.1 in
    rw (p.1, p.2) (leaves_torn c.in_err-torn_test.ensures _)

pub returns : goal.returns
returns c =
    leaves_passed c.in_ok-torn_test.ensures
    (λ s H. made_back (c.copy.ensures.writes c.args.counters c.args.queue.now s H) (search rules) (search rules))
