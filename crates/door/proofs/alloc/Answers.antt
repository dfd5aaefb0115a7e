-- The test, then the grant, of which every store that the loans hold is meant.
use Rattle.door.proofs.Testing.{leaves_passed}
use Rattle.door.proofs.alloc.Goals as goal

pub returns-clause-leaves : goal.returns-clause-leaves
returns-clause-leaves c = leaves_passed c.in_ok-torn_test.ensures (c.alloc.ensures.grants c.args.queue.now)
