-- `contents::fill` meets its contract: std's `fill` leaves a part of equal bytes, as a byte has no clone but itself.
use Prim.Native.Nat.{◌+◌}
use mathlib.Core.Path.{refl}
use Rattle.record.proofs.Bytes.{part_filled}
use Rattle.contents.proofs.fill.Goals as goal

pub returns : goal.returns
returns c =
    let a = c.args in
    part_filled a.memory.now a.at a.len (a.at + a.len) refl a.byte c.fill.new.self c.requires (c.fill.ensures.after (λ y same. same))
