-- The calls on a held frame's contents keep the invariant: they change marks and bytes of that frame alone, because their ranges stay inside it. So a frame on a
-- zeroed list, which has no page in common with a held one, stays zero.
use Prim.Native.Nat.{ℕ, ◌+◌, ◌-◌, ◌*◌, ◌≤◌, ◌<◌}
use native.Mathlib.Omega.{arith}
use mathlib.Core.Bool.{Bool, true, false, cond, ◌&&◌, false≢true}
use mathlib.Core.List.{List}
use mathlib.Core.Option.{some}
use mathlib.Core.Path.{◌≡◌, refl, ◌∙◌}
use lib.Dec.{eqb}
use lib.ListN.{length, get_or}
use borrow.Author.Tests.{eqb-true}
use Rattle.definition.specs.Board.{Board}
use Rattle.definition.specs.Frame.{Frame, size, with_zeroed}
use Rattle.definition.specs.Allocator.{AllocationRegion}
use Rattle.definition.specs.Store.{Memory, Store, with_memory, mark}
use Rattle.definition.specs.Contents.{
  within,
  filled,
  written,
  moved,
  frame_bytes,
  is_zeroed_at,
  zero_frame,
  set_not_zero,
  fill_frame,
  write_frame,
  zero_range,
  copy_contents_from,
  copy_contents_from_physaddr,
}
use Rattle.definition.specs.Book.{Book}
use Rattle.bookkeeping.specs.Blocks.{spans}
use Rattle.bookkeeping.proofs.Invariant.{Blank, Agree, and-true, aside, aside_change, put_back, written_off, zeros_stay, zeros_over}

module _ (b : Board) (pos : 0 < b.page) (m : List AllocationRegion) (s : Store) (k : Book) (h : Agree b m s k) where
  -- bytes change so that what was zero stays so
  zeros_agree : (mem : Memory) → ((q : ℕ) → Blank b s.memory q → Blank b mem q) → Agree b m (with_memory s mem) k
  zeros_agree mem z =
      record {
        sound = record {
          shape = h.sound.shape;
          fine = h.sound.fine;
          own = h.sound.own;
          beyond = h.sound.beyond;
          clean = λ p f e y q o. z q (h.sound.clean p f e y q o);
        };
        counted = h.counted;
        regions = h.regions;
        queue = h.queue;
        room = h.room;
        rounds = h.rounds;
        freed = h.freed;
      }

  module _ (p : ℕ) (f : Frame) (e : s.allocator.frames p ≡ some f) (j : f.allocated ≡ true) where
    -- the mark and the bytes of the frame change
    mark_agree
        : (z : Bool) (mem : Memory) → ((q : ℕ) → spans p (size f.level) q ≡ 0 → Blank b s.memory q → Blank b mem q)
        → (z ≡ true → (q : ℕ) → spans p (size f.level) q ≡ 1 → Blank b mem q) → Agree b m (mark (with_zeroed z) (with_memory s mem) p) k
    mark_agree z mem out inn =
        record {
          sound = put_back p f (with_zeroed z f) h.sound e j refl refl (aside_change mem (with_zeroed z) (aside p f h.sound e j) refl j out inn);
          counted = h.counted;
          regions = h.regions;
          queue = h.queue;
          room = h.room;
          rounds = h.rounds;
          freed = h.freed;
        }

    pub bytes : frame_bytes b s p ≡ b.page * size f.level
    bytes = rw e

    pub zero_agree : Agree b m (zero_frame b s p) k
    unfolding zero_frame filled
    zero_agree =
        mark_agree true (λ a. cond (within (b.page * p) (frame_bytes b s p) a) 0 (s.memory a))
        (λ q o z. zeros_stay b (b.page * p) (frame_bytes b s p) s.memory q z)
        (λ z q o. zeros_over b p (size f.level) (b.page * p) (frame_bytes b s p) s.memory pos refl bytes q o)

    pub dirty_agree : Agree b m (set_not_zero s p) k
    unfolding set_not_zero
    dirty_agree = mark_agree false s.memory (λ q o z. z) (λ z q o. absurd (false≢true z))

    -- bytes of a range of the frame change, and its mark is cleared
    write_agree
        : (off len : ℕ) (x : ℕ → ℕ) → off + len ≤ frame_bytes b s p
        → Agree b m (mark (with_zeroed false) (with_memory s (λ a. cond (within (b.page * p + off) len a) (x a) (s.memory a))) p) k
    write_agree off len x i =
        mark_agree false (λ a. cond (within (b.page * p + off) len a) (x a) (s.memory a))
        (written_off b p (size f.level) (b.page * p + off) len x s.memory pos (omega arith) (omega (arith, bytes))) (λ z q o. absurd (false≢true z))

    pub fill_agree : (off len byte : ℕ) → off + len ≤ frame_bytes b s p → Agree b m (fill_frame b s p off len byte) k
    unfolding fill_frame set_not_zero filled
    fill_agree off len byte i = write_agree off len (λ a. byte) i

    pub bytes_agree : (off : ℕ) (bs : List ℕ) → off + length bs ≤ frame_bytes b s p → Agree b m (write_frame b s p off bs) k
    unfolding write_frame set_not_zero written
    bytes_agree off bs i = write_agree off (length bs) (λ a. get_or bs (a - (b.page * p + off)) 0) i

    pub pcopy_agree : (doff source len : ℕ) → doff + len ≤ frame_bytes b s p → Agree b m (copy_contents_from_physaddr b s p doff source len) k
    unfolding copy_contents_from_physaddr set_not_zero moved
    pcopy_agree doff source len i = write_agree doff len (λ a. s.memory (source + (a - (b.page * p + doff)))) i

    range_agree : (off len : ℕ) → Agree b m (zero_range b s p off len) k
    unfolding zero_range filled
    range_agree off len = go (eqb off 0 && eqb len (frame_bytes b s p)) refl
      where
        mem : Memory
        mem = λ a. cond (within (b.page * p + off) len a) 0 (s.memory a)

        go
            : (t : Bool) → (eqb off 0 && eqb len (frame_bytes b s p)) ≡ t
            → let cleared = with_memory s (λ a. cond (within (b.page * p + off) len a) 0 (s.memory a)) in
            Agree b m (cond t (mark (with_zeroed true) cleared p) cleared) k
        go false i = zeros_agree mem (λ q z. zeros_stay b (b.page * p + off) len s.memory q z)
        go true i =
            let x = and-true (eqb off 0) (eqb len (frame_bytes b s p)) i in
            let y : off ≡ 0 = eqb-true off 0 x.0 in
            let z : len ≡ frame_bytes b s p = eqb-true len (frame_bytes b s p) x.1 in
            mark_agree true mem (λ q o v. zeros_stay b (b.page * p + off) len s.memory q v)
            (λ v q o. zeros_over b p (size f.level) (b.page * p + off) len s.memory pos (omega arith) (z ∙ bytes) q o)

    pub copy_agree : (doff q soff len : ℕ) → doff + len ≤ frame_bytes b s p → Agree b m (copy_contents_from b s p doff q soff len) k
    unfolding copy_contents_from set_not_zero moved
    copy_agree doff q soff len i = go (is_zeroed_at s q) (is_zeroed_at s p)
      where
        go
            : (t u : Bool)
            → let from : ℕ → ℕ = λ a. s.memory (b.page * q + soff + (a - (b.page * p + doff))) in
            let copied = with_memory s (λ a. cond (within (b.page * p + doff) len a) (from a) (s.memory a)) in
            Agree b m (cond t (cond u s (zero_range b s p doff len)) (set_not_zero copied p)) k
        go true true = h
        go true false = range_agree doff len
        go false u = write_agree doff len (λ a. s.memory (b.page * q + soff + (a - (b.page * p + doff)))) i
