-- What a call on one held frame leaves where it gives the frame another ZEROED mark, rewrites bytes of it, and does no more:
-- `marked_whole` and `marked_left` for the world, `marked_made` for the call's whole promise. `written_whole` and `written_left` are
-- the same where no mark changes. Then the promise of each call.
use Prim.Native.Nat.{ℕ, ◌+◌, ◌*◌, ◌/◌}
use mathlib.Core.Bool.{Bool, true, false}
use mathlib.Core.List.{List}
use mathlib.Core.Path.{◌≡◌, refl, ap, ◌∙◌}
use Rattle.std.specs.Prelude.{Ok}
use native.Mathlib.Omega.{arith}
use lib.ListN.{length, replicate}
use Rattle.definition.specs.Allocator.{PhysicalFrameAllocator}
use Rattle.definition.specs.Board.{Board}
use Rattle.definition.specs.Boot.{record_size}
use Rattle.definition.specs.Contents.{filled, fill_frame, set_not_zero, write_frame, written, zero_frame}
use Rattle.definition.specs.Frame.{with_zeroed}
use Rattle.definition.specs.Store.{Memory, Store, mark, with_memory}
use Rattle.definition.specs.Calls.{Call, Dirty, Fill, Write, Zero, done, perform, step}
use Rattle.definition.specs.World.{World, encode, record_at}
use Rattle.record.specs.Records.{pages_in, with_bytes}
use Rattle.words.specs.Words.{board_in, rows_in}
use Rattle.world.specs.Refusals.{frame_refusal, range_of, refusal_of}
use Rattle.world.specs.Tables.{Turned}
use Rattle.world.proofs.Refusing.{one_frame}
use Rattle.world.proofs.Writing.{Rewritten}
use Rattle.allocator.specs.declared.Seen.{Seen}
use Rattle.allocator.specs.Spots.{TurnsIn, number_at}
use Rattle.allocator.proofs.Standing.{sane_table, standing}
use Rattle.exam.specs.Making.{Made, TableIn, Whole}
use Rattle.exam.specs.Promise.{HeldSeen, Looks, bytes_if, reply}
use Rattle.exam.proofs.Making.{
  left_whole,
  left_written,
  looked_bytes,
  looked_free,
  looked_number,
  made_done,
  table_as_long,
  unturned,
  unwritten,
}
use Rattle.ranges.specs.Marking.{Remarked}
use Rattle.ranges.proofs.Held.{held_filled, held_in, held_size, held_written}

-- ---- the marks

-- with other marks the table is sane still
pub marked_table
    : (ws rs rs2 : List ℕ) {op : PhysicalFrameAllocator → PhysicalFrameAllocator} → length rs2 ≡ length rs → TableIn ws rs
    → TurnsIn op rs ws rs2 ws → TableIn ws rs2
marked_table ws rs rs2 l T M =
    let same : pages_in rs2 ≡ pages_in rs = ap (λ (n : ℕ). n / record_size) l in
    (T.0, (M (standing (board_in ws) (record_at rs) (rows_in ws)) (sane_table (rw same T.1))).table.sane)

-- the world with other records and another memory
abbrev pub relent : World → (records memory : List ℕ) → World
relent w records memory =
    record { rows = w.rows; counters = w.counters; queued = w.queued; pass = w.pass; records = records; memory = memory; queue = w.queue }

module _ {board : Board} {w : World} {s : Store} (W : Whole board w s) where
  module _
      {r : Seen} {p : ℕ} (H : HeldSeen board (record_at w.records) w.rows r) (N : number_at board w.rows r.spot ≡ p)
      {zeroed : Bool} {records : List ℕ} (M : Remarked board w.rows w.records r zeroed records)
    where
      -- with the KERNEL mark that the frame has, other marks are another ZEROED mark
      turned
          : Turned board (record_at w.records) w.rows (record_at records) (pages_in records) w.rows
          (mark (with_zeroed zeroed) s p).allocator
      turned = rw (held_in W H N) (rw (N, held_in W H N) at (M.turns s.allocator (table_as_long W records M.as_long)))

      module _ (m : Memory) (memory : List ℕ) (R : Rewritten board s.allocator.regions w.memory m memory) where
        abbrev left : Store
        left = mark (with_zeroed zeroed) (with_memory s m) p

        pub marked_whole : Whole board (relent w records memory) left
        marked_whole =
            let S = W.stands in
            left_whole W left (relent w records memory) turned M.as_long M.bytes R S.counters S.pass S.queue S.queued refl refl

        pub marked_left : encode board left w ≡ relent w records memory
        marked_left =
            let S = W.stands in
            left_written W left (relent w records memory) turned M.as_long M.bytes R S.counters S.pass S.queue S.queued refl refl refl

  -- where bytes are rewritten and every mark stays, as in a copy of zeros into part of a frame
  module _ (m : Memory) (memory : List ℕ) (R : Rewritten board s.allocator.regions w.memory m memory) where
    pub written_whole : Whole board (relent w w.records memory) (with_memory s m)
    written_whole =
        let S = W.stands in
        left_whole W (with_memory s m) (relent w w.records memory) (unturned W) refl W.bytes R S.counters S.pass S.queue S.queued refl refl

    pub written_left : encode board (with_memory s m) w ≡ relent w w.records memory
    written_left =
        let S = W.stands in
        left_written W (with_memory s m) (relent w w.records memory) (unturned W) refl W.bytes R S.counters S.pass S.queue S.queued
        refl refl refl

-- ---- a call on one held frame

module _ {board : Board} {w : World} {s : Store} (W : Whole board w s) {a off len : ℕ} {r : Seen}
    (L : Looks board (record_at w.records) (pages_in w.records) w.rows a off len (Ok r))
  where
    abbrev p : ℕ
    p = a / board.page

    -- where the range stands in the loan
    abbrev at : ℕ
    at = board.page * r.spot.page + off

    -- the records hold the frame with this ZEROED mark
    abbrev MarkedBy : Bool → List ℕ → Type 0
    MarkedBy zeroed records = Remarked board w.rows w.records r zeroed records

    -- the call is done, and leaves these records and bytes
    abbrev MadeOf : Call → (records memory : List ℕ) → ℕ → Type 0
    MadeOf c records memory n = Made board (step board s c) w (relent w records memory) (Ok (reply a n))

    marked_made
        : {zeroed : Bool} {records : List ℕ} → MarkedBy zeroed records
        → (m : Memory) (memory : List ℕ) → Rewritten board s.allocator.regions w.memory m memory
        → (c : Call) (n : ℕ) → refusal_of board s c ≡ frame_refusal board s (range_of a off len)
        → perform board s c ≡ done (mark (with_zeroed zeroed) (with_memory s m) p) a n
        → MadeOf c records memory n
    marked_made {zeroed} {records} M m memory R c n same does =
        let H = (L.found r refl).held in
        let N = looked_number W L r refl in
        let o = done (mark (with_zeroed zeroed) (with_memory s m) p) a n in
        made_done W c o (relent w records memory) (same ∙ looked_free W L r refl) does
        (marked_whole W H N M m memory R)
        (marked_left W H N M m memory R)

    -- 01: "Added `write` and `fill` clear the mark"
    pub fill_made
        : {records : List ℕ} → MarkedBy false records → (byte : ℕ)
        → MadeOf (Fill a off len byte) records (with_bytes w.memory at (replicate len byte)) len
    unfolding perform fill_frame set_not_zero
    fill_made M byte =
        let F = L.found r refl in
        marked_made M (filled (board.page * p + off) len byte s.memory) (with_bytes w.memory at (replicate len byte))
        (held_filled W F.held (looked_number W L r refl) off len F.range byte) (Fill a off len byte) len
        (one_frame board s a off len) refl

    pub write_made
        : {records : List ℕ} → MarkedBy false records → (bytes : List ℕ) → length bytes ≡ len
        → MadeOf (Write a off bytes) records (with_bytes w.memory at bytes) len
    unfolding perform write_frame set_not_zero
    write_made M bytes l =
        let F = L.found r refl in
        marked_made M (written (board.page * p + off) bytes s.memory) (with_bytes w.memory at bytes)
        (held_written W F.held (looked_number W L r refl) off len F.range bytes l) (Write a off bytes) len
        (rw l (one_frame board s a off len)) (rw l refl)

-- of the whole frame
module _ {board : Board} {w : World} {s : Store} (W : Whole board w s) {a : ℕ} {r : Seen}
    (L : Looks board (record_at w.records) (pages_in w.records) w.rows a 0 0 (Ok r))
  where
    -- frame.rs 443, set_not_zero
    pub dirty_made : {records : List ℕ} → MarkedBy W L false records → MadeOf W L (Dirty a) records w.memory (bytes_if board r)
    unfolding perform set_not_zero
    dirty_made M =
        let bytes = looked_bytes W L r refl in
        marked_made W L M s.memory w.memory (unwritten W) (Dirty a) (bytes_if board r) (one_frame board s a 0 0) (rw bytes refl)

    -- frame.rs 430, zero
    pub zero_made
        : {records : List ℕ} → MarkedBy W L true records
        → MadeOf W L (Zero a) records (with_bytes w.memory (at W L) (replicate (bytes_if board r) 0)) (bytes_if board r)
    unfolding perform zero_frame
    zero_made M =
        let H = (L.found r refl).held in
        let n = bytes_if board r in
        let q = a / board.page in
        let start : board.page * q + 0 ≡ board.page * q = omega arith in
        let R = rw start at (held_filled W H (looked_number W L r refl) 0 n (omega (arith, held_size H)) 0) in
        let bytes = looked_bytes W L r refl in
        marked_made W L M (filled (board.page * q) n 0 s.memory) (with_bytes w.memory (at W L) (replicate n 0)) R (Zero a) n
        (one_frame board s a 0 0) (rw bytes refl)
