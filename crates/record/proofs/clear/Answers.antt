-- `record::clear` meets its contract: std's `fill` leaves a part of zeros, as a byte has no clone but itself.
use Prim.Native.Nat.{◌+◌, ◌*◌}
use native.Mathlib.Omega.{arith}
use Rattle.record.proofs.Bytes.{part_filled}
use Rattle.record.proofs.Records.{clear_records}
use Rattle.record.proofs.clear.Goals as goal

pub returns : goal.returns
returns c =
    let a = c.args in
    let bs = a.records.now in
    let at = a.first * 16 in
    let e = (a.first + a.count) * 16 in
    let f = c.fill.ensures.after (λ y same. same) in
    let b = part_filled bs at (a.count * 16) e (omega arith) 0 c.fill.new.self (omega arith) f in record {
      bytes = b;
      records = rw b (clear_records bs a.first a.count c.requires);
    }
