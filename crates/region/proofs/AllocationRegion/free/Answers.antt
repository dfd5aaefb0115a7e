-- A held frame is on no list, so it can be admitted to the list of its level, which is out of the row meanwhile.
use mathlib.Core.Path.{refl}
use Rattle.region.proofs.Keeping.{row_whole, whole_free}
use Rattle.region.proofs.Freeing.{held_level, free_asks, free_next_lem}
use Rattle.region.proofs.AllocationRegion.free.Goals as goal

pub slot-k-requires : goal.slot-k-requires
slot-k-requires c =
    rw (c.level_of-level.ensures, c.load-r.ensures) (held_level c.requires.sound_in.1 c.requires.held c.requires.whole_in)

pub admit-longer-requires : goal.admit-longer-requires
admit-longer-requires c =
    let lo = c.level_of-level.ensures in
    let z = free_asks c.requires.sound_in.1 c.requires.whole_in c.requires.held c.load-r.ensures c.is_zeroed-zeroed.ensures c.is_kernel-kernel.ensures
    (rw lo at c.slot-k.ensures) c.list_at-l.ensures in
    rw lo record { sound = z.0; level_bound = z.1.0; out = z.1.1.0; page_bound = z.1.1.1 }

pub returns : goal.returns
returns c =
    let lo = c.level_of-level.ensures in
    let m = c.admit-longer in
    let p = c.put_list.ensures in
    let b = free_next_lem c.requires.sound_in.1 c.requires.whole_in c.requires.held c.load-r.ensures c.is_zeroed-zeroed.ensures c.is_kernel-kernel.ensures
    (rw lo at c.slot-k.ensures) c.list_at-l.ensures (rw (m.auto.records, lo) at m.ensures) p.row in record {
      same = record { records = refl; words = refl; first = refl; index = refl; long = m.auto.records; wide = c.put_list.auto.words };
      leaves_in = (rw m.auto.records b, p.rest);
      whole_in_2 = row_whole b (whole_free c.requires.whole_in c.requires.held);
    }
