-- `record::store` meets its contract: it writes the four numbers of the record, side by side.
use Prim.Native.Nat.{◌*◌}
use mathlib.Core.List.{◌++◌}
use native.Mathlib.Omega.{arith}
use native.Mathlib.Nat.{add-zero}
use Rattle.definition.proofs.Basics.{upd_same, upd_upd}
use Rattle.definition.specs.World.{word_bytes}
use Rattle.record.proofs.Bytes.{with_then}
use Rattle.record.proofs.store.Goals as goal

pub returns : goal.returns
returns c =
    let a = c.args in
    let bs = a.records.now in
    let at = a.page * 16 in
    let d0 = c.set_number.ensures in
    let d1 = c.set_number-2.ensures in
    let d2 = c.set_number-3.ensures in
    let d3 = c.set_number-4.ensures in
    let one = word_bytes a.r.marks in
    let two = one ++ word_bytes a.r.level in
    let three = two ++ word_bytes a.r.earlier in record {
      bytes = rw (
        d3.bytes,
        d2.bytes,
        d1.bytes,
        d0.bytes,
        add-zero at,
        with_then bs at one (omega arith) (word_bytes a.r.level),
        with_then bs at two (omega arith) (word_bytes a.r.earlier),
        with_then bs at three (omega arith) (word_bytes a.r.later),
      );
      records = rw (d3.records, d2.records, d1.records, d0.records) (simp (upd_same, upd_upd));
    }
