-- `record::set_number` meets its contract: its four bytes are the number, which is one of the record's.
use Prim.Native.Nat.{◌+◌, ◌*◌, ◌-◌}
use mathlib.Core.Path.{◌≡◌, refl}
use native.Mathlib.Omega.{arith}
use borrow.Rule.Slice.PartMut.{put_mid}
use Rattle.definition.specs.World.{word_bytes}
use Rattle.record.specs.Records.{with_bytes}
use Rattle.record.proofs.Bytes.{part_written}
use Rattle.record.proofs.Words.{put_words, word_set}
use Rattle.record.proofs.set_number.Goals as goal

pub returns : goal.returns
returns c =
    let a = c.args in
    let bs = a.records.now in
    let at = a.page * 16 + a.place * 4 in
    let w = a.page * 4 + a.place in
    let e : w * 4 ≡ at = omega arith in
    let b : put_mid at (at + 4 - at) bs c.copy_from_slice.new.self ≡ with_bytes bs at (word_bytes a.v) =
    rw (c.copy_from_slice.ensures.after, c.to_le_bytes.ensures) (part_written bs at 4 (at + 4) refl (word_bytes a.v) refl) in
    let p = rw e at (put_words bs w a.v (omega arith) (omega arith)) in record {
      bytes = b;
      records = rw b (word_set bs (with_bytes bs at (word_bytes a.v)) a.page a.place a.v w (omega arith) refl p);
    }
