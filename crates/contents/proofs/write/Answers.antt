-- `contents::write` meets its contract: the part from `at` on is all of `bytes`.
use Prim.Native.Nat.{◌+◌}
use mathlib.Core.Path.{refl}
use lib.ListN.{length}
use Rattle.record.proofs.Bytes.{part_written}
use Rattle.contents.proofs.write.Goals as goal

pub returns : goal.returns
returns c =
    let a = c.args in
    let n = length a.bytes.now in
    rw c.copy_from_slice.ensures.after (part_written a.memory.now a.at n (a.at + n) refl a.bytes.now refl)
