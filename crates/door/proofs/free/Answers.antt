-- The test, then the free, of which every store that the loans hold is meant.
use Rattle.door.proofs.Testing.{leaves_passed}
use Rattle.door.proofs.free.Goals as goal

pub returns-clause-leaves : goal.returns-clause-leaves
returns-clause-leaves c = leaves_passed c.in_ok-torn_test.ensures (c.free.ensures.turns c.args.memory.now c.args.queue.now)
