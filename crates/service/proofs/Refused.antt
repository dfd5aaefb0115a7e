-- A refused call leaves the loans as they were (`refused_untouched`): it leaves the world, and a state that is read out of the words and
-- written over them again is the words.
use Prim.Native.Nat.{ℕ, ◌<◌}
use mathlib.Core.Bool.{Bool, true, false}
use mathlib.Core.List.{List}
use mathlib.Core.Path.{◌≡◌, refl, ap, ◌∙◌}
use lib.ListN.{get_or}
use Rattle.definition.specs.declared.Counters.{Counters}
use Rattle.definition.specs.declared.Refusal.{Refusal}
use Rattle.definition.specs.Board.{Board}
use Rattle.definition.specs.Calls.{Answer as AnswerOf, Call, Refused, Done, Text, Bytes, step}
use Rattle.definition.specs.Store.{Store}
use Rattle.definition.specs.World.{World, decode, encode}
use Rattle.definition.specs.Torn.{Left, call, sound, written as writtenWorld}
use Rattle.bookkeeping.proofs.Answers.{answered}
use Rattle.words.proofs.Words.{counters_again}
use Rattle.audit.proofs.Sheets.{sound_is}
use Rattle.world.proofs.Calling.{torn_call}
use Rattle.world.proofs.RoundTrip.{round_trip}
use Rattle.std.specs.Prelude.{Ok, Err}
use Rattle.exam.specs.Promise.{Answer, told}
use Rattle.exam.proofs.Promises.{Small}
use Rattle.words.specs.Words.{board_in}
use Rattle.service.specs.Serving.{
  Lent,
  Served,
  served,
  served_with,
  written,
  counted_by,
  tells,
  code,
  is_lent,
  world_in,
  world_with,
  state_over,
}
use Rattle.service.proofs.Serving.{kept_same, lent_words, serves_torn, serves_with_torn}

-- ---- the world

-- an answer whose number is not 0
refused_by_lem : (a : AnswerOf) → (code (told a) ≡ 0 → ⊥) → (r : Refusal) × (a ≡ Refused r)
refused_by_lem (Refused r) d = (r, refl)
refused_by_lem (Done a n) d = absurd (d refl)
refused_by_lem (Text t) d = absurd (d refl)
refused_by_lem (Bytes t) d = absurd (d refl)

module _ (board : Board) (w : World) (c : Call) where
  whole_call : sound board w ≡ true → call board w c ≡ writtenWorld board w (step board (decode board w) c)
  unfolding call
  whole_call e = rw e refl

  pub call_untouched : Small w → (code (told (call board w c).answer) ≡ 0 → ⊥) → (call board w c).world ≡ w
  call_untouched small d = go (sound board w) refl
    where
      go : (t : Bool) → sound board w ≡ t → (call board w c).world ≡ w
      go false e = ap (λ (x : Left). x.world) (torn_call board w c e)
      go true e =
          let f = refused_by_lem (step board (decode board w) c).answer (rw (whole_call e) at d) in
          ap (λ (x : Left). x.world) (whole_call e)
          ∙ ap (λ (s : Store). encode board s w) ((answered board (decode board w) c).untouched f.0 f.1)
          ∙ round_trip w (sound_is board w e) small

-- ---- the words and the answer

tells_none : (y : Answer) (ys : List ℕ) → (code y ≡ 0 → ⊥) → tells y ys ≡ ys
unfolding tells
tells_none (Ok y) ys d = absurd (d refl)
tells_none (Err r) ys d = refl

module _ (c : Call) (l : Lent) where
  serves_made : is_lent l ≡ true → served c l ≡ written state_over l (call (board_in l.words) (world_in l) c)
  unfolding served
  serves_made e = rw e refl

  serves_with_made : (k : Counters) → is_lent l ≡ true → served_with c k l ≡ counted_by l (call (board_in l.words) (world_with k l) c)
  unfolding served_with
  serves_with_made k e = rw e refl

-- ---- the loans

module _ (c : Call) (l : Lent) (small : (i : ℕ) → get_or l.records i 0 < 256) where
  pub refused_untouched : ((served c l).number ≡ 0 → ⊥) → (served c l).lent ≡ l
  refused_untouched d = go (is_lent l) refl
    where
      go : (t : Bool) → is_lent l ≡ t → (served c l).lent ≡ l
      go false e = ap (λ (x : Served). x.lent) (serves_torn c l e)
      go true e =
          let m = serves_made c l e in
          let n : code (told (call (board_in l.words) (world_in l) c).answer) ≡ 0 → ⊥ = rw m at d in
          ap (λ (x : Served). x.lent) m
          ∙ rw (
            call_untouched (board_in l.words) (world_in l) c small n,
            tells_none (told (call (board_in l.words) (world_in l) c).answer) l.answer n,
            kept_same l e (world_in l).counters,
            counters_again l.words (lent_words l e),
          ) refl

  -- the same where the counters are a record of their own, and they stay too
  pub refused_untouched_with : (k : Counters) → ((served_with c k l).served.number ≡ 0 → ⊥)
      → ((served_with c k l).counters ≡ k) × ((served_with c k l).served.lent ≡ l)
  refused_untouched_with k d = go (is_lent l) refl
    where
      go : (t : Bool) → is_lent l ≡ t → ((served_with c k l).counters ≡ k) × ((served_with c k l).served.lent ≡ l)
      go false e = rw (serves_with_torn c l k e) (refl, refl)
      go true e =
          let m = serves_with_made c l k e in
          let n : code (told (call (board_in l.words) (world_with k l) c).answer) ≡ 0 → ⊥ = rw m at d in
          rw (
            m,
            call_untouched (board_in l.words) (world_with k l) c small n,
            tells_none (told (call (board_in l.words) (world_with k l) c).answer) l.answer n,
            kept_same l e k,
          ) (refl, refl)
