-- Two frames are granted one after the other, and all copies are those of `copy_all`.
use Rattle.drivers.proofs.drivers_copy.Goals as goal

pub returns : goal.returns
returns c =
    rw (c.booted-counters.ensures, c.granted-from.ensures, c.granted-to.ensures)
    (rw (c.address_in.ensures, c.address_in-2.ensures) at c.copy_all.ensures)
