-- All finds are those of `find_all`, over the store that was booted.
use Rattle.drivers.proofs.drivers_finds.Goals as goal

pub returns : goal.returns
returns c = rw c.booted-counters.ensures c.find_all.ensures
