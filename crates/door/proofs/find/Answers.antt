-- The test, then the lookup, of which every store that the loans hold is meant.
use Rattle.door.proofs.Testing.{leaves_passed}
use Rattle.door.proofs.find.Goals as goal

pub returns : goal.returns
returns c =
    let l = c.args.loans.now in
    leaves_passed c.in_ok-torn_test.ensures (c.find.ensures l.counters l.memory.now l.queue.now)
