-- What the calls that change the counters, or nothing, make of a store (`Made`), over plain worlds. `stats_text` is for a caller who made
-- the torn test: the text that definition's `call` answers is that of the counters that the world has.
use Prim.Native.Nat.{ℕ, ◌+◌, ◌≤◌, ◌<◌}
use mathlib.Core.Bool.{Bool, true, cond}
use mathlib.Core.List.{List}
use mathlib.Core.Option.{none, some}
use mathlib.Core.Path.{◌≡◌, refl, ap, ◌∙◌}
use Rattle.std.specs.Prelude.{Ok, Err}
use native.Mathlib.Omega.{arith}
use borrow.Author.Tests.{lt-ltb, le-ltb}
use lib.Dec.{ltb}
use lib.ListN.{take, drop, length}
use lib.Seq.{take-append_seam}
use Rattle.definition.specs.declared.Counters.{Counters}
use Rattle.definition.specs.declared.Refusal.TheVariants.{PagerLow}
use Rattle.definition.specs.Basics.{bit}
use Rattle.definition.specs.Board.{Board}
use Rattle.definition.specs.Calls.{Back, Call, Lend, Low, Stats, Text, done, perform, step, tells}
use Rattle.definition.specs.Store.{Store, with_counters}
use Rattle.definition.specs.Torn.{Left, call, sound}
use Rattle.definition.specs.Tracker.{should_reclaim, track_frame_pager, tracker_stats, untrack_frame_pager}
use Rattle.definition.specs.World.{World, decode}
use Rattle.record.specs.Records.{with_bytes}
use Rattle.text.specs.Writing.{Wrote}
use Rattle.audit.proofs.Sheets.{sound_is}
use Rattle.world.specs.Refusals.{refusal_of}
use Rattle.world.proofs.Calling.{done_call}
use Rattle.world.proofs.Refusing.{back_refused, nothing_refused}
use Rattle.world.proofs.RoundTrip.{decode_stands}
use Rattle.exam.specs.Making.{Made, Whole}
use Rattle.exam.specs.Promise.{reply}
use Rattle.exam.proofs.Making.{made_left, made_refused, made_same, unturned, unwritten}
use Rattle.counts.specs.Counting.{Reports, outstanding, text_of}

-- the world with other counters
abbrev pub recounted : World → Counters → World
recounted w c =
    record {
      rows = w.rows;
      counters = c;
      queued = w.queued;
      pass = w.pass;
      records = w.records;
      memory = w.memory;
      queue = w.queue;
    }

module _ {board : Board} {w : World} {s : Store} (H : Whole board w s) where
  -- a call that leaves other counters, and tells what is outstanding by them
  recounted_made
      : (x : Call) (c : Counters) → refusal_of board s x ≡ none → perform board s x ≡ done (with_counters s c) 0 c.pager_outstanding
      → Made board (step board s x) w (recounted w c) (Ok (outstanding c))
  recounted_made x c free p =
      let S = H.stands in
      made_left H (with_counters s c) (recounted w c) (unturned H) refl H.bytes (unwritten H) refl S.pass S.queue S.queued
      refl refl x 0 c.pager_outstanding free p refl

  pub lend_made
      : (n : ℕ) (c : Counters) → c ≡ track_frame_pager n w.counters
      → Made board (step board s (Lend n)) w (recounted w c) (Ok (outstanding c))
  unfolding perform
  lend_made n c e = recounted_made (Lend n) c (nothing_refused board s) (rw (H.stands.counters, e) refl)

  -- what is outstanding decides
  back_refusal
      : (n : ℕ) {b : Bool} → ltb w.counters.pager_outstanding n ≡ b → refusal_of board s (Back n) ≡ cond b (some PagerLow) none
  back_refusal n e = back_refused board s n ∙ rw (H.stands.counters, e) refl

  pub back_made
      : (n : ℕ) → n ≤ w.counters.pager_outstanding → (c : Counters) → c ≡ untrack_frame_pager n w.counters
      → Made board (step board s (Back n)) w (recounted w c) (Ok (outstanding c))
  unfolding perform
  back_made n h c e =
      recounted_made (Back n) c (back_refusal n (le-ltb w.counters.pager_outstanding n h)) (rw (H.stands.counters, e) refl)

  pub back_short : (n : ℕ) → w.counters.pager_outstanding < n → Made board (step board s (Back n)) w w (Err PagerLow)
  back_short n h = made_refused H (Back n) PagerLow (back_refusal n (lt-ltb w.counters.pager_outstanding n h))

  pub low_made : (b : Bool) → b ≡ should_reclaim board w.counters → Made board (step board s Low) w w (Ok (reply 0 (bit b)))
  unfolding perform
  low_made b e = made_same H Low (done s 0 (bit b)) (nothing_refused board s) (rw (H.stands.counters, e) refl) refl

  stats_made : Made board (step board s Stats) w w (Ok (reply 0 (length (tracker_stats w.counters))))
  unfolding perform
  stats_made =
      made_same H Stats (tells s (Text (tracker_stats w.counters))) (nothing_refused board s) (rw H.stands.counters refl) refl

-- ---- the statistics

module _ {out text out' : List ℕ} {n : ℕ} (x : Wrote out 0 text out' n) where
  -- a text that was written from the first byte on
  long : n ≡ length text
  long = omega (arith, x.after)

  text_written : take n out' ≡ text
  unfolding with_bytes
  text_written = rw (x.bytes, long) (take-append_seam text (drop (0 + length text) out))

pub reports_written
    : {k : Counters} {out text : List ℕ} {n : ℕ} → Wrote out 0 (tracker_stats k) text n → Reports k (record { len = n; text = text })
reports_written x = record { makes = λ ws rs m q s H. rw (long x) (stats_made H); text = text_written x }

module _ (board : Board) where
  pub stats_text : (w : World) → sound board w ≡ true → text_of (call board w Stats).answer ≡ tracker_stats w.counters
  unfolding perform
  stats_text w t =
      ap (λ (l : Left). text_of l.answer)
      (done_call board w Stats t (tells (decode board w) (Text (tracker_stats w.counters))) _
      (nothing_refused board (decode board w))
      (rw (decode_stands w (sound_is board w t)).counters refl) refl)
