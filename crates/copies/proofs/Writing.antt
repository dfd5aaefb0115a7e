-- What the workers of a copy leave of the loans, for a store that they hold (`Written`): other bytes of a held frame's range, and another
-- ZEROED of the frame. A range is zeroed (`zero_part`, `zero_whole`), or bytes of the loan are moved into the frame (`moved_into`), or
-- nothing is done (`written_same`).
use Prim.Native.Nat.{ℕ, ◌+◌, ◌*◌}
use mathlib.Core.Bool.{Bool, true, false, ◌&&◌}
use mathlib.Core.List.{List}
use mathlib.Core.Path.{◌≡◌, refl, sym, ap, ◌∙◌}
use lib.Dec.{eqb}
use lib.ListN.{length, take, drop, replicate}
use Rattle.definition.specs.Board.{Board}
use Rattle.definition.specs.Store.{Store}
use Rattle.definition.specs.Contents.{bytes_at, copy_contents_from_physaddr, filled, moved, set_not_zero, zero_range}
use Rattle.definition.specs.World.{World, record_at}
use Rattle.record.specs.Records.{with_bytes}
use Rattle.world.proofs.Encoding.{stands_encode}
use Rattle.world.proofs.Writing.{Rewritten, bytes_length, moved_written}
use Rattle.allocator.specs.declared.Seen.{Seen}
use Rattle.allocator.specs.Spots.{number_at}
use Rattle.exam.specs.Making.{Whole}
use Rattle.exam.specs.Promise.{bytes_if}
use Rattle.ranges.proofs.Held.{held_bytes, held_filled, held_written}
use Rattle.ranges.specs.Marking.{Remarked}
use Rattle.ranges.proofs.Marking.{marked_left, marked_whole, relent, written_left, written_whole}
use Rattle.copies.specs.Copies.{Spans, Written}

module _ {board : Board} {w : World} {s : Store} (W : Whole board w s) where
  pub written_same : Written board s w w
  written_same = record { whole = W; world = stands_encode w w s W.stands W.bytes refl refl refl }

  module _ {r : Seen} {off len : ℕ} (P : Spans board (record_at w.records) w.rows (length w.memory) r off len) where
    abbrev number : ℕ
    number = number_at board w.rows r.spot

    abbrev at : ℕ
    at = board.page * r.spot.page + off

    abbrev zeros : List ℕ
    zeros = with_bytes w.memory at (replicate len 0)

    -- the range is zeroed; where it is not the whole frame, the mark stays
    pub zero_part
        : {whole : Bool} → whole ≡ (eqb off 0 && eqb len (bytes_if board r)) → whole ≡ false
        → Written board (zero_range board s number off len) w (relent w w.records zeros)
    unfolding zero_range
    zero_part d e =
        let m = filled (board.page * number + off) len 0 s.memory in
        let R = held_filled W P.held refl off len P.range 0 in
        rw (held_bytes W P.held refl, ← d, e) (record { whole = written_whole W m zeros R; world = written_left W m zeros R })

    module _ {bs : List ℕ} where
      pub zero_whole
          : Remarked board w.rows w.records r true bs → {whole : Bool} → whole ≡ (eqb off 0 && eqb len (bytes_if board r)) → whole ≡ true
          → Written board (zero_range board s number off len) w (relent w bs zeros)
      unfolding zero_range
      zero_whole M d e =
          let m = filled (board.page * number + off) len 0 s.memory in
          let R = held_filled W P.held refl off len P.range 0 in
          rw (held_bytes W P.held refl, ← d, e)
          (record { whole = marked_whole W P.held refl M m zeros R; world = marked_left W P.held refl M m zeros R })

      -- bytes of the loan are moved into the range
      pub moved_into
          : Remarked board w.rows w.records r false bs → (from a : ℕ) → bytes_at s.memory a len ≡ take len (drop from w.memory)
          → Written board (copy_contents_from_physaddr board s number off a len) w
          (relent w bs (with_bytes w.memory at (take len (drop from w.memory))))
      unfolding copy_contents_from_physaddr set_not_zero
      moved_into M from a e =
          let xs = take len (drop from w.memory) in
          let n : length xs ≡ len = sym (ap (λ (ys : List ℕ). length ys) e) ∙ bytes_length s.memory a len in
          let m = moved (board.page * number + off) a len s.memory in
          let R : Rewritten board s.allocator.regions w.memory m (with_bytes w.memory at xs) =
          rw (moved_written s.memory (board.page * number + off) len a, e) (held_written W P.held refl off len P.range xs n)
          in
          record {
            whole = marked_whole W P.held refl M m (with_bytes w.memory at xs) R;
            world = marked_left W P.held refl M m (with_bytes w.memory at xs) R;
          }
