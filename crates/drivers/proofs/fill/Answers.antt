-- The test, then the fill, of which every store that the loans hold is meant.
use Rattle.std.proofs.Common.{rules}
use Rattle.exam.proofs.Returning.{made_back}
use Rattle.door.proofs.Testing.{leaves_passed}
use Rattle.drivers.proofs.fill.Goals as goal

pub returns : goal.returns
returns c =
    leaves_passed c.in_ok-torn_test.ensures
    (λ s H. made_back (c.fill.ensures.writes c.args.counters c.args.queue.now s H) (search rules) (search rules))
