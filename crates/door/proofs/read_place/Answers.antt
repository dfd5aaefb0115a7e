-- The test, then the place of the bytes, which is that of every store that the loans hold.
use Rattle.door.proofs.Reporting.{finds_passed}
use Rattle.door.proofs.read_place.Goals as goal

pub returns : goal.returns
returns c = finds_passed c.in_ok-torn_test.ensures c.read_place.ensures
