-- A list of calls over lent words is the run on worlds (`words_follow`), whatever the words, the records and the memory held before the boot. So demands 2 and 3,
-- which are of worlds, hold of the world that the words hold after it (`words_demand_2`, `words_demand_3`).
use Prim.Native.Nat.{ℕ, suc, ◌+◌}
use mathlib.Core.Bool.{true, not, false≢true}
use mathlib.Core.List.{List, [], ◌∷◌, map}
use mathlib.Core.Path.{◌≡◌, refl, sym, ap, ap₂, ◌∙◌, subst}
use native.Mathlib.Omega.{arith}
use lib.ListN.{length, length-map}
use Rattle.definition.specs.declared.MemoryRegion.{MemoryRegion}
use Rattle.definition.specs.declared.Record.{Record}
use Rattle.definition.specs.declared.Row.{Row}
use Rattle.definition.specs.Allocator.{managed}
use Rattle.definition.specs.Basics.{is_some}
use Rattle.definition.specs.Board.{Board, Fit, standard}
use Rattle.definition.specs.Boot.{boot_sheet, kept_regions}
use Rattle.definition.specs.Calls.{Answer as AnswerOf, Call, Refused, Done, Text, Bytes, answer_number}
use Rattle.definition.specs.Torn.{call}
use Rattle.definition.specs.Refusal.{first_met}
use Rattle.definition.specs.Rust.{ground_map}
use Rattle.definition.specs.Store.{Store}
use Rattle.definition.specs.World.{World, bare_region, decode, decode_rows, record_at, used_rows}
use Rattle.definition.proofs.Tests.{and_left}
use Rattle.record.specs.Records.{with_bytes}
use Rattle.definition.proofs.Boards.{standard_fit}
use Rattle.words.proofs.Words.{board_is}
use Rattle.world.proofs.Calling.{numbered}
use Rattle.world.proofs.Spans.{bare}
use Rattle.bookkeeping.specs.Claim.{State}
use Rattle.std.specs.Prelude.{Ok, Err, is_ok}
use Rattle.exam.specs.declared.Reply.{Reply}
use Rattle.exam.specs.Promise.{Answer, told}
use Rattle.theorems.specs.Demands.{Accepted, answers_of, ground_all, world_after}
use Rattle.theorems.proofs.Bookkeeping.{boot_answered, demand_3}
use Rattle.theorems.proofs.Likeness.{demand_2}
use Rattle.theorems.proofs.Outside.{emptied_bared}
use Rattle.theorems.proofs.Runs.{Holds, boot_holds, call_holds, here, holds_decode, holds_sound}
use Rattle.words.specs.Words.{board_in, word_in}
use Rattle.service.specs.Serving.{Lent, booted, code, is_roomy, served, tells, world_in}
use Rattle.runs.specs.Runs.{boot_in, Carries, Tells, Follows, Demand3Words, Demand2Words, lent_after, numbers_after, held_booted}
use Rattle.runs.proofs.Carrying.{Bears, booted_world_lem, served_number, served_world}

told_number : (a : AnswerOf) → code (told a) ≡ answer_number a
told_number (Refused r) = refl
told_number (Done a n) = refl
told_number (Text t) = refl
told_number (Bytes t) = refl

-- ---- the rows in use

module _ (board : Board) where
  -- as many as the regions that they are read as
  as_many : (f : ℕ → Record) (base : ℕ) (rows : List Row) → length (decode_rows board f base rows) ≡ length rows
  unfolding decode_rows
  as_many f base [] = refl
  as_many f base (row ∷ rows) = ap suc (as_many f (base + managed board (bare_region board row)) rows)

module _ {board : Board} (fit : Fit board) where
  -- every call leaves as many as the boot made
  holds_used : {ms : List MemoryRegion} {w v : World} {x : State} → Holds board ms w v x → length (used_rows v.rows) ≡ length (kept_regions board ms)
  unfolding decode
  holds_used {v = v} {x = x} H =
      let rs = x.store.allocator.regions in
      sym (as_many board (record_at v.records) 0 (used_rows v.rows))
      ∙ ap (λ (s : Store). length s.allocator.regions) (holds_decode fit H)
      ∙ sym (length-map rs bare)
      ∙ ap length (sym (emptied_bared rs) ∙ (here fit H).regions ∙ H.kept)

-- ---- a list of calls

-- the loans hold the world v, in words with a row in use for each region of the map
abbrev BearsAll : Board → List MemoryRegion → Lent → World → Type 0
BearsAll board ms l v = Bears l v (length (kept_regions board ms))

-- on the board that all words are of
module _ {board : Board} (fit : Fit board) (of : (ws : List ℕ) → board_in ws ≡ board) where
  module _ {ms : List MemoryRegion} {w : World} where
    -- one call, on a world that came of an accepted boot
    next : {v : World} {x : State} (l : Lent) → Holds board ms w v x → BearsAll board ms l v → (c : Call) → BearsAll board ms (served c l).lent (call board v c).world
    next {v} l H C c =
        let e = C.carries.world in
        let N = call_holds fit H c in
        subst (λ (u : World). BearsAll board ms (served c l).lent (call board u c).world) e
        (served_world c l (of l.words) C.carries.lent (rw e (holds_sound fit N)) (rw e (holds_used fit N)) C.first)

    all_carried : {v : World} {x : State} (l : Lent) → Holds board ms w v x → BearsAll board ms l v → (cs : List Call) → Carries (lent_after l cs) (world_after board v cs)
    unfolding lent_after world_after
    all_carried l H C [] = C.carries
    all_carried {v = v} {x = x} l H C (c ∷ cs) = all_carried {v = (call board v c).world} (served c l).lent (call_holds fit H c) (next l H C c) cs

    all_numbers : {v : World} {x : State} (l : Lent) → Holds board ms w v x → BearsAll board ms l v → (cs : List Call)
        → numbers_after l cs ≡ map answer_number (answers_of board v cs)
    unfolding numbers_after answers_of
    all_numbers l H C [] = refl
    all_numbers {v} l H C (c ∷ cs) =
        let number : (served c l).number ≡ answer_number (call board v c).answer =
        served_number c l (of l.words) C.carries.lent
        ∙ told_number (call board (world_in l) c).answer
        ∙ ap (λ (u : World). answer_number (call board u c).answer) C.carries.world
        in
        ap₂ (λ (n : ℕ) (ns : List ℕ). n ∷ ns) number (all_numbers {v = (call board v c).world} (served c l).lent (call_holds fit H c) (next l H C c) cs)

-- ---- the answer of the next call

accepted_told : (y : Answer) → code y ≡ 0 → is_ok y ≡ true
accepted_told (Ok x) z = refl
accepted_told (Err r) z = absurd (omega (arith, numbered r))

module _ (x : Reply) (ys : List ℕ) where
  first_told : word_in (tells (Ok x) ys) 0 ≡ x.address
  unfolding tells with_bytes
  first_told = refl

  second_told : word_in (tells (Ok x) ys) 1 ≡ x.bytes
  unfolding tells with_bytes
  second_told = refl

carries_tells : {v : World} (l : Lent) → Carries l v → (c : Call) → Tells l v c
unfolding served
carries_tells l C c =
    let y = told (call standard (world_in l) c).answer in
    let t : Tells l (world_in l) c =
    record {
      accepted = rw (C.lent, board_is l.words) (accepted_told y);
      address = λ x e. rw (C.lent, board_is l.words, e) (first_told x l.answer);
      bytes = λ x e. rw (C.lent, board_is l.words, e) (second_told x l.answer);
    }
    in
    rw C.world at t

-- ---- from an accepted boot

module _ (ms : List MemoryRegion) (l : Lent) (e : is_roomy l ≡ true) where
  module _ (ok : Accepted (boot_in ms l).answer) where
    begins : BearsAll standard ms (booted ms l).lent (boot_in ms l).world
    begins = booted_world_lem ms l e ok (holds_used standard_fit (boot_holds standard standard_fit ms (world_in l) ok))

    pub words_follow : (calls : List Call) → Follows ms l calls
    words_follow calls =
        let H = boot_holds standard standard_fit ms (world_in l) ok in
        let C = begins in
        let all = all_carried standard_fit board_is (booted ms l).lent H C calls in
        record { carries = all; numbers = all_numbers standard_fit board_is (booted ms l).lent H C calls; tells = λ c. carries_tells (lent_after (booted ms l).lent calls) all c }

    pub words_demand_3 : (calls : List Call) → Demand3Words ms l calls
    words_demand_3 calls =
        let D = demand_3 standard_fit ms (world_in l) ok calls in
        record {
          regions = D.regions;
          afterwards = rw (words_follow calls).carries.world D.afterwards;
          whole = rw (words_follow calls).carries.world D.whole;
          along = rw begins.carries.world D.along;
        }

  pub words_demand_2 : ground_map standard ms (length l.records) (length l.memory) ≡ true → (calls : List Call)
      → ground_all standard (held_booted ms l) calls ≡ true → Demand2Words ms l calls
  words_demand_2 g calls ground =
      let passed : not (is_some (first_met (boot_sheet standard ms (length l.records) (length l.memory)))) ≡ true = and_left _ _ g in
      let ok : Accepted (boot_in ms l).answer = λ r h. false≢true (rw (((boot_answered ms (world_in l)).refused_as_sheet r).0 h) at passed) in
      let w = (begins ok).carries.world in
      let D = demand_2 standard_fit ms (world_in l) g calls (rw w at ground) in
      record { boots = rw w D.boots; alike = rw (w, (words_follow ok calls).carries.world) D.alike }
