-- A held frame gets other marks.
use Prim.Native.Nat.{ℕ, ◌+◌, ◌*◌, ◌<◌}
use mathlib.Core.Bool.{Bool, true}
use mathlib.Core.Logic.{◌≢◌}
use mathlib.Core.Option.{none, some}
use mathlib.Core.Path.{◌≡◌, refl, ap, ◌∙◌}
use native.Mathlib.Omega.{arith}
use Rattle.definition.specs.Board.{Board}
use Rattle.definition.proofs.Basics.{upd_other, upd_same}
use Rattle.definition.specs.Basics.{bit, upd}
use Rattle.definition.specs.Frame.{Frame, Levels}
use Rattle.definition.specs.World.{level_of, slot_of}
use Rattle.definition.specs.declared.Record.{Record}
use Rattle.definition.specs.declared.Row.{Row}
use Rattle.list.specs.Linked.{In}
use Rattle.record.specs.Records.{with_marks}
use Rattle.region.specs.Rep.{Becomes, Held, Inside, Rep, Whole, marked_levels}
use Rattle.region.proofs.Laws.{marked_as}
use Rattle.region.proofs.Freeing.{held_out}
use Rattle.region.proofs.Holding.{held_frame_lem}
use Rattle.region.proofs.Keeping.{whole_marked}

module _ {board : Board} where
  module _
      {f : ℕ → Record} {n first : ℕ} {row : Row} {s : Levels} {p : ℕ} (R : Rep board f n first row s) (H : Held board s first row.pages p) (z k : Bool)
    where
      abbrev a : Frame
      a = (held_frame_lem H).0

      here : s.frames p ≡ some a
      here = (held_frame_lem H).1

      held : a.allocated ≡ true
      held = (held_frame_lem H).2

      abbrev b : Frame
      b = record { level = a.level; allocated = a.allocated; zeroed = z; kernel = k }

      pub marks_become
          : (v : ℕ) → v ≡ 1 + 2 * 1 + 4 * bit z + 8 * bit k → Becomes board f first row (with_marks f p v) n row (marked_levels s p z k)
      marks_become v e =
          rw here
          (marked_as (some b) R H.inside (held_out R H) (rw held e) (R.level p H.inside ∙ ap level_of here)
          (let l = R.loose p H.inside (held_out R H) in record { earlier = l.earlier; later = l.later }))

      pub marks_whole : {from : ℕ} → Whole board s none from first row.pages → Whole board (marked_levels s p z k) none from first row.pages
      marks_whole W = rw here (whole_marked b W here refl s.free {other = none} full)
        where
          full : (q : ℕ) → none ≢ some q → Inside board first row.pages q → slot_of (upd s.frames p (some b) q) < 6 → Dec (q ≡ p)
              → In q (s.free (slot_of (upd s.frames p (some b) q)))
          full q m i h (yes e) =
              let g = ap slot_of (ap (upd s.frames p (some b)) e ∙ upd_same s.frames p (some b)) in
              let d : slot_of (some b) ≡ 6 = rw held refl in
              absurd (omega arith)
          full q m i h (no o) =
              let g = upd_other s.frames p (some b) q o in
              rw g (W.full q m i (rw g at h))
