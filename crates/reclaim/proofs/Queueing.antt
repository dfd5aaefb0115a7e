-- An address that goes into the queue: the refusal of its frame comes before a full queue's, and else it stands in the first free place.
use Prim.Native.Nat.{ℕ, ◌+◌, ◌/◌, ◌≤◌, ◌<◌}
use mathlib.Core.Bool.{Bool, true, false, not, cond}
use mathlib.Core.List.{List, [], ◌∷◌, ◌++◌}
use mathlib.Core.Option.{none, some}
use mathlib.Core.Path.{◌≡◌, refl, sym, ap, ◌∙◌}
use native.Mathlib.Numerals.{add-one}
use native.Mathlib.Omega.{arith}
use borrow.Author.Tests.{le-leb, lt-leb}
use lib.Dec.{leb}
use lib.ListN.{length, length-set, set, take}
use lib.Seq.{drop-set-lt, length-take-le, take-suc-set}
use Rattle.definition.specs.declared.Refusal.{Refusal}
use Rattle.definition.specs.declared.Refusal.TheVariants.{Outside, NoFrameStart, NotHeld, PastTheEnd, QueueFull}
use Rattle.definition.specs.Board.{Board}
use Rattle.definition.specs.Refusal.{◌when◌, first_met, place_in}
use Rattle.definition.specs.Store.{Store, with_queue}
use Rattle.definition.specs.Tracker.{starts_frame, is_held}
use Rattle.definition.specs.Contents.{frame_bytes}
use Rattle.definition.specs.Calls.{Queue, Range, leaves_frame, outside, perform, step}
use Rattle.definition.specs.World.{World, record_at}
use Rattle.record.specs.Records.{pages_in}
use Rattle.world.specs.Refusals.{earlier, frame_refusal, range_of, refusal_of}
use Rattle.world.proofs.Refusing.{queue_refused}
use Rattle.std.specs.Prelude.{Result, Ok, Err}
use Rattle.allocator.specs.declared.Seen.{Seen}
use Rattle.exam.specs.Making.{Made, Whole}
use Rattle.exam.specs.Promise.{Looks, bytes_if, refusal_in, reply}
use Rattle.exam.proofs.Making.{looked_bytes, looked_free, looked_refused, made_left, made_refused, unturned, unwritten, whole_table}

module _ (board : Board) where
  -- the refusals of a frame are tried before a full queue's
  frame_first
      : (s : Store) (r : Range) (full : Bool) (e : Refusal) → frame_refusal board s r ≡ some e
      → earlier (frame_refusal board s r) (cond full (some QueueFull) none) ≡ frame_refusal board s r
  unfolding first_met place_in
  frame_first s r full e = go (outside board s r) (starts_frame board s r.address) (is_held board s r.address) (leaves_frame board s r) full
    where
      go : (a b c d full : Bool)
          → let o = first_met ((Outside when a) ∷ (NoFrameStart when not b) ∷ (NotHeld when not c) ∷ (PastTheEnd when d) ∷ []) in
          o ≡ some e → earlier o (cond full (some QueueFull) none) ≡ o
      go true b c d true h = refl
      go true b c d false h = refl
      go false false c d true h = refl
      go false false c d false h = refl
      go false true false d true h = refl
      go false true false d false h = refl
      go false true true true true h = refl
      go false true true true false h = refl
      go false true true false full h = absurd (let n : ◌≡◌ {A = ℕ} 0 1 = cc in omega arith)

-- the world with the address in the first free place
abbrev pub queued_in : World → ℕ → World
queued_in w a =
    record {
      rows = w.rows;
      counters = w.counters;
      queued = w.queued + 1;
      pass = w.pass;
      records = w.records;
      memory = w.memory;
      queue = set w.queue w.queued a;
    }

module _ {board : Board} {w : World} {s : Store} (H : Whole board w s) {a : ℕ} {x : Result Seen Refusal}
    (L : Looks board (record_at w.records) (pages_in w.records) w.rows a 0 0 x)
  where
    queue_length : length s.queue ≡ w.queued
    queue_length = ap length H.stands.queue ∙ length-take-le w.queued w.queue H.stands.queued

    -- the frame's refusal
    pub queue_refuses : (e : Refusal) → x ≡ Err e → Made board (step board s (Queue a)) w w (Err e)
    queue_refuses e k =
        looked_refused H L (Queue a)
        (queue_refused board s a
        ∙ frame_first board s (range_of a 0 0) (leb s.kept.room (length s.queue)) e (L.refusal s (whole_table H) ∙ ap refusal_in k))
        e k

    module _ (r : Seen) (k : x ≡ Ok r) where
      refusal_is : (full : Bool) → leb (length w.queue) w.queued ≡ full → refusal_of board s (Queue a) ≡ cond full (some QueueFull) none
      refusal_is full e = queue_refused board s a ∙ rw (looked_free H L r k, H.stands.room, queue_length, e) refl

      -- no place is left
      pub queue_full : length w.queue ≤ w.queued → Made board (step board s (Queue a)) w w (Err QueueFull)
      queue_full h = made_refused H (Queue a) QueueFull (refusal_is true (le-leb _ _ h))

      pub queue_made
          : w.queued < length w.queue → Made board (step board s (Queue a)) w (queued_in w a) (Ok (reply a (bytes_if board r)))
      unfolding perform
      queue_made h =
          let S = H.stands in
          let q = w.queued in
          let e : take (q + 1) (set w.queue q a) ≡ take q w.queue ++ (a ∷ []) = rw add-one (take-suc-set w.queue q a h) in
          rw (← looked_bytes H L r k)
          (made_left H (with_queue s (s.queue ++ (a ∷ []))) (queued_in w a) (unturned H) refl H.bytes (unwritten H)
          S.counters
          S.pass
          (ap (λ (l : List ℕ). l ++ (a ∷ [])) S.queue ∙ sym e)
          (omega (arith, length-set w.queue q a))
          refl
          (length-set w.queue q a)
          (Queue a)
          a
          (frame_bytes board s (a / board.page))
          (refusal_is false (lt-leb _ _ h))
          refl
          (drop-set-lt (q + 1) w.queue q a (omega arith)))
