-- Each turn drops the queue's last address or frees its frame, as `Going` says of the turns so far.
use Prim.Native.Nat.{ℕ, ◌-◌, ◌/◌, ◌<◌}
use mathlib.Core.Path.{◌≡◌, refl, ap}
use Rattle.std.specs.Prelude.{Result, Ok, Err}
use Rattle.definition.specs.declared.Refusal.{Refusal}
use Rattle.allocator.specs.declared.Seen.{Seen}
use native.Mathlib.Omega.{arith}
use lib.ListN.{get_or}
use Rattle.definition.specs.Boot.{record_size}
use Rattle.definition.specs.World.{record_at}
use Rattle.record.specs.Records.{pages_in}
use Rattle.words.specs.Words.{board_in, queued_in, rows_in}
use Rattle.words.proofs.Words.{beside_same, beside_then, board_beside}
use Rattle.exam.specs.Promise.{Looks}
use Rattle.reclaim.proofs.Reclaiming.{going_all, going_drop, going_empty, going_free, going_start}
use Rattle.reclaim.proofs.reclaim_up_to.Goals as goal
use Rattle.reclaim.proofs.reclaim_up_to.Goals.{After-look, in-Ok, in_default}

-- a result that is no Ok
refused : (x : Result Seen Refusal) → ((r : Seen) → x ≡ Ok r → ⊥) → (e : Refusal) × (x ≡ Err e)
refused (Ok r) n = absurd (n r refl)
refused (Err e) n = (e, refl)

-- ---- what is known after a look at the queue's last address

some_left : (l : After-look) → 0 < queued_in l.loop.words
some_left l = omega (arith, l.if-left-eq0.false, l.queued_in-left.ensures)

looked
    : (l : After-look)
    → let k = l.loop in
    let a = l.args in
    Looks (board_in a.words.now) (record_at k.records) (pages_in k.records) (rows_in k.words)
    (get_or a.queue.now (queued_in k.words - 1) 0)
    0
    0
    l.look.result
looked l =
    let k = l.loop in
    let Q = l.put_queued.ensures in
    let same = board_beside (beside_then k.invariant.3 Q.beside) in
    rw (same, l.new-pa.ensures, Q.rows, l.queued_in-left.ensures) at l.look.ensures

pub loop-init : goal.loop-init
loop-init c = (going_start c.args.limit c.requires.table_in.1 c.requires.words_in_bounds.0, refl, refl, beside_same)

pub queued_in-left-requires : goal.queued_in-left-requires
queued_in-left-requires c = omega (arith, c.loop.invariant.2, c.requires.table_in.0)

pub returns-then-left-eq0 : goal.returns-then-left-eq0
returns-then-left-eq0 c =
    record {
      reclaims = going_empty c.loop.invariant.0 c.loop-test.true c.requires.words_in_bounds.2
          (omega (arith, c.if-left-eq0.true, c.queued_in-left.ensures));
      beside = c.loop.invariant.3;
    }

pub put_queued-requires : goal.put_queued-requires
put_queued-requires c = omega (arith, c.loop.invariant.2, c.requires.table_in.0)

pub bounds-queue-left : goal.bounds-queue-left
bounds-queue-left c =
    let G = c.loop.invariant.0 in
    omega (arith, G.queued, G.within, c.queued_in-left.ensures)

pub invariant_of-look : goal.invariant_of-look
invariant_of-look c =
    let I = c.loop.invariant in
    let Q = c.put_queued.ensures in
    record {
      long = omega (arith, I.2, c.requires.table_in.0, c.put_queued.auto.words);
      sane = ∣ rw (board_beside (beside_then I.3 Q.beside), Q.rows) I.0.sane ∣₁;
    }

pub release-requires : goal.release-requires
release-requires c =
    let d = c.put_queued in
    let I = c.loop.invariant in
    rw (board_beside (beside_then I.3 d.ensures.beside), d.ensures.rows)
    (record {
      table_in = (omega (arith, I.2, c.requires.table_in.0, d.auto.words), I.0.sane);
      held_seen = (((looked (goal.at.release-requires c).After-look).found _ c.in-Ok.is).held, omega (arith, I.0.idle, I.0.turns, c.requires.words_in_bounds));
    })

pub overflow_add-freed : goal.overflow_add-freed
overflow_add-freed c = omega (arith, c.loop.invariant.0.few, c.loop.invariant.0.turns, c.requires.words_in_bounds)

pub loop-preserved : goal.loop-preserved
loop-preserved c =
    let l = (goal.at.loop-preserved c).After-look in
    let I = c.loop.invariant in
    let h = c.loop-test.true in
    let d = c.put_queued in
    let Q = d.ensures in
    let e = c.queued_in-left.ensures in
    elim c.match-look.branch [
      | in-Ok w ↦
          let r = w.release in
          let p = ap (λ (n : ℕ). n / record_size) r.auto.records in
          let R = rw (board_beside (beside_then I.3 Q.beside), p, Q.rows, Q.queued, Q.pass, e) at r.ensures.released in
          rw (w.words-is, w.records-is, w.counters-is, w.freed-is) (
            rw p (going_free I.0 h (some_left l) l.look.result (looked l) w.in-Ok.seen w.in-Ok.is R),
            omega (arith, r.auto.records, I.1),
            omega (arith, r.auto.words, d.auto.words, I.2),
            beside_then (beside_then I.3 Q.beside) r.ensures.beside,
          )
      | in_default w ↦
          let n = refused l.look.result w.in_default.not-Ok in
          rw (w.words-is, w.records-is, w.counters-is, w.freed-is) (
            rw (Q.rows, Q.queued, Q.pass, e) (going_drop I.0 h (some_left l) l.look.result (looked l) n.0 n.1),
            I.1,
            omega (arith, d.auto.words, I.2),
            beside_then I.3 Q.beside,
          )
    ]

pub returns : goal.returns
returns c =
    record {
      reclaims = going_all c.loop.invariant.0 c.requires.words_in_bounds.2 (omega (arith, c.loop-test.false));
      beside = c.loop.invariant.3;
    }
