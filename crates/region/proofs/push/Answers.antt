-- A frame that is on no list is admitted to the list of its level, which is out of the row meanwhile.
use Prim.Native.Nat.{◌<◌}
use Rattle.definition.specs.Frame.{slot}
use Rattle.region.proofs.Laws.{taken_out, out_asks, out_next}
use Rattle.region.proofs.push.Goals as goal

pub admit-longer-requires : goal.admit-longer-requires
admit-longer-requires c =
    let a = c.args in
    let k = c.slot-k in
    let h : slot a.level a.zeroed < 6 = rw k.ensures.0 at k.ensures.1 in
    let z = out_asks a.level a.zeroed a.kernel (taken_out (slot a.level a.zeroed) c.requires.sound_row) h c.requires.level_bound.1 c.requires.by_index c.requires.level_bound.0 in
    rw k.ensures.0 record { sound = z.0; level_bound = z.1.0; out = z.1.1.0; page_bound = z.1.1.1 }

pub returns : goal.returns
returns c =
    let a = c.args in
    let k = c.slot-k in
    let d = c.admit-longer in
    let h : slot a.level a.zeroed < 6 = rw k.ensures.0 at k.ensures.1 in
    rw (d.auto.records, k.ensures.0)
    (out_next a.level a.zeroed a.kernel (taken_out (slot a.level a.zeroed) c.requires.sound_row) h c.requires.level_bound.1 c.requires.by_index
    (rw (d.auto.records, k.ensures.0) at d.ensures))
