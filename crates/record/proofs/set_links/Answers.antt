-- `record::set_links` meets its contract: it writes the third and the fourth number of the record, side by side.
use Prim.Native.Nat.{◌+◌, ◌*◌}
use mathlib.Core.Path.{◌≡◌}
use native.Mathlib.Omega.{arith}
use Rattle.definition.proofs.Basics.{upd_same, upd_upd}
use Rattle.definition.specs.World.{word_bytes}
use Rattle.record.proofs.Bytes.{with_then}
use Rattle.record.proofs.set_links.Goals as goal

pub returns : goal.returns
returns c =
    let a = c.args in
    let at = a.page * 16 + 8 in
    let d = c.set_number.ensures in
    let m = c.set_number-2.ensures in
    let e : a.page * 16 + 12 ≡ at + 4 = omega arith in record {
      bytes = rw (m.bytes, d.bytes, e) (with_then a.records.now at (word_bytes a.earlier) (omega arith) (word_bytes a.later));
      records = rw (m.records, d.records) (simp (upd_same, upd_upd));
    }
