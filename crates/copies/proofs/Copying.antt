-- A copy between two held frames: which of its three ways it takes, by the marks that were read, and that what it leaves and answers is
-- the definition's step.
use Prim.Native.Nat.{ℕ, ◌+◌, ◌*◌, ◌/◌, ◌%◌}
use mathlib.Core.Bool.{true, false}
use mathlib.Core.Path.{◌≡◌, refl, ap, ◌∙◌}
use Rattle.std.specs.Prelude.{Result, Ok, Err}
use native.Mathlib.Omega.{arith}
use lib.Dec.{eqb}
use lib.ListN.{length}
use Rattle.definition.specs.declared.Refusal.{Refusal}
use Rattle.definition.specs.Board.{Board}
use Rattle.definition.specs.Contents.{copy_contents_from, copy_contents_from_physaddr, is_zeroed_at, zero_range}
use Rattle.definition.specs.Calls.{Copy, done, perform, step}
use Rattle.definition.specs.Store.{Store}
use Rattle.definition.specs.World.{World, record_at}
use Rattle.record.specs.Records.{pages_in}
use Rattle.world.specs.Refusals.{earlier, refusal_of}
use Rattle.world.proofs.Refusing.{two_frames}
use Rattle.allocator.specs.declared.Seen.{Seen}
use Rattle.allocator.specs.Spots.{number_at}
use Rattle.exam.specs.declared.lending.Contents.{Contents}
use Rattle.exam.specs.Making.{LooksIn, Made, Whole}
use Rattle.exam.specs.Promise.{Looks, both_held, refusal_in, reply}
use Rattle.exam.proofs.Making.{looked_number, made_done, made_refused, whole_table}
use Rattle.ranges.proofs.Held.{held_in, looked_ends}
use Rattle.copies.specs.Copies.{Spans, SpansIn, Written}

-- ---- the three ways

module _ {board : Board} {w : World} {s : Store} (W : Whole board w s) where
  abbrev SpansAt : Seen → (off len : ℕ) → Type 0
  SpansAt r off len = Spans board (record_at w.records) w.rows (length w.memory) r off len

  span_zeroed : {r : Seen} {off len : ℕ} → SpansAt r off len → is_zeroed_at s (number_at board w.rows r.spot) ≡ eqb (r.marks / 4 % 2) 1
  span_zeroed P = rw (held_in W P.held refl) refl

  module _ {to from : Seen} {off soff len : ℕ} (P : SpansAt to off len) (Q : SpansAt from soff len) where
    abbrev p : ℕ
    p = number_at board w.rows to.spot

    abbrev q : ℕ
    q = number_at board w.rows from.spot

    pub from_dirty
        : eqb (from.marks / 4 % 2) 1 ≡ false
        → copy_contents_from board s p off q soff len ≡ copy_contents_from_physaddr board s p off (board.page * q + soff) len
    unfolding copy_contents_from copy_contents_from_physaddr
    from_dirty e = rw (span_zeroed Q ∙ e) refl

    pub both_zeroed : eqb (from.marks / 4 % 2) 1 ≡ true → eqb (to.marks / 4 % 2) 1 ≡ true → copy_contents_from board s p off q soff len ≡ s
    unfolding copy_contents_from
    both_zeroed e d = rw (span_zeroed Q ∙ e, span_zeroed P ∙ d) refl

    pub from_zeroed
        : eqb (from.marks / 4 % 2) 1 ≡ true → eqb (to.marks / 4 % 2) 1 ≡ false
        → copy_contents_from board s p off q soff len ≡ zero_range board s p off len
    unfolding copy_contents_from
    from_zeroed e d = rw (span_zeroed Q ∙ e, span_zeroed P ∙ d) refl

-- ---- what the tests found

-- what the workers require of a frame that was looked at
pub spans_of
    : (lent : Contents) {a off len : ℕ} {r : Seen} → LooksIn lent.words.now lent.records.now a off len (Ok r) → SpansIn lent r off len
spans_of lent {r = r} L =
    let F = L.found r refl in
    record {
      held = F.held;
      range = F.range;
      ends = omega (arith, looked_ends lent.words.now lent.records.now lent.table L lent.memory.now lent.room);
    }

-- of two that were looked at, the refusal that is tried first
pub both_refusal : (x y : Result Seen Refusal) → earlier (refusal_in x) (refusal_in y) ≡ refusal_in (both_held x y)
both_refusal (Ok r) (Ok t) = refl
both_refusal (Ok r) (Err e) = refl
both_refusal (Err e) (Ok t) = refl
both_refusal (Err e) (Err g) = refl

-- both were found where there is none
pub both_found : (x y : Result Seen Refusal) {r t : Seen} → both_held x y ≡ Ok (r, t) → (x ≡ Ok r) × (y ≡ Ok t)
both_found (Ok f) (Ok g) {r} {t} e =
    let k : ◌≡◌ {A = Seen × Seen} (f, g) (r, t) = grind arith in
    (ap (λ (p : Seen × Seen). Ok p.0) k, ap (λ (p : Seen × Seen). Ok p.1) k)
both_found (Ok f) (Err g) e = absurd (grind arith)
both_found (Err f) (Ok g) e = absurd (grind arith)
both_found (Err f) (Err g) e = absurd (grind arith)

-- ---- the promise

module _ {board : Board} {w : World} {s : Store} (W : Whole board w s) where
  abbrev LooksAt : (a off len : ℕ) → Result Seen Refusal → Type 0
  LooksAt a off len x = Looks board (record_at w.records) (pages_in w.records) w.rows a off len x

  module _ {a off b soff len : ℕ} {x y : Result Seen Refusal} (L : LooksAt a off len x) (F : LooksAt b soff len y) where
    refusal : refusal_of board s (Copy a off b soff len) ≡ refusal_in (both_held x y)
    refusal =
        two_frames board s a off b soff len
        ∙ rw (L.refusal s (whole_table W), F.refusal s (whole_table W)) (both_refusal x y)

    pub copy_refused : (e : Refusal) → both_held x y ≡ Err e → Made board (step board s (Copy a off b soff len)) w w (Err e)
    copy_refused e k = made_refused W (Copy a off b soff len) e (refusal ∙ ap refusal_in k)

    pub copy_made
        : {to from : Seen} → both_held x y ≡ Ok (to, from) → (v : World)
        → Written board
        (copy_contents_from board s (number_at board w.rows to.spot) off (number_at board w.rows from.spot) soff len) w v
        → Made board (step board s (Copy a off b soff len)) w v (Ok (reply a len))
    unfolding perform
    copy_made {to} {from} k v D =
        let k2 = both_found x y k in
        let E = rw (looked_number W L to k2.0, looked_number W F from k2.1) at D in
        made_done W (Copy a off b soff len) (done (copy_contents_from board s (a / board.page) off (b / board.page) soff len) a len) v
        (refusal ∙ ap refusal_in k) refl E.whole E.world
