-- Demand 3 over the bytes that the calls leave: `demand_3`, for every map, every world with an accepted boot, whatever bytes its loans have, and every list of
-- calls; and `boot_answered`, of every boot. The proof carries what `bookkeeping` proves of stores over to the worlds that stand for them.
use Prim.Native.Nat.{ℕ}
use mathlib.Core.Bool.{Bool, true, false, not, false≢true}
use mathlib.Core.List.{List, [], ◌∷◌}
use mathlib.Core.Logic.{◌↔◌}
use mathlib.Core.Option.{Option, none, some}
use mathlib.Core.Path.{◌≡◌, refl, sym, ap, ◌∙◌}
use native.Mathlib.Omega.{arith}
use lib.Dec.{eqb}
use lib.ListN.{length}
use Rattle.definition.specs.Board.{Fit}
use Rattle.definition.specs.declared.MemoryRegion.{MemoryRegion}
use Rattle.definition.specs.declared.Refusal.{Refusal}
use Rattle.definition.specs.declared.Refusal.TheVariants.{Torn}
use Rattle.definition.specs.Basics.{all}
use Rattle.definition.specs.Board.{Board}
use Rattle.definition.specs.Boot.{kept_regions, boot_sheet}
use Rattle.definition.specs.Calls.{Call, Answer, Refused, Names, names, sheet}
use Rattle.definition.specs.Refusal.{Test, first_met, number_of}
use Rattle.definition.specs.Store.{Store}
use Rattle.definition.specs.Torn as Torn
use Rattle.definition.specs.Torn.{boot_call, booted, written, untouched}
use Rattle.definition.specs.World.{World, memory_of, encode}
use Rattle.definition.proofs.Tests.{and_left, and_right}
use Rattle.bookkeeping.specs.Claim.{State}
use Rattle.bookkeeping.proofs.Answers.{answered}
use Rattle.bookkeeping.proofs.Bookkeeping.{bookkeeping}
use Rattle.theorems.specs.Demands.{Accepted, BootAnswered, Answered, Along, Demand3}
use Rattle.theorems.specs.Demands.Along.{along_none, along_more}
use Rattle.theorems.proofs.Runs.{Holds, holds_sound, holds_decode, call_is, call_holds, all_hold, all_booked, boot_accepted, boot_holds}

-- ---- a boot

module _ {board : Board} where
  pub boot_answered : (map : List MemoryRegion) (w : World) → BootAnswered board map w
  unfolding boot_call
  boot_answered map w =
      record {
        refused_as_sheet = λ r. as_sheet r (first_met (boot_sheet board map (length w.records) (length w.memory)));
        untouched = λ r e. stays r (first_met (boot_sheet board map (length w.records) (length w.memory))) e;
      }
    where
      as_sheet : (r : Refusal) (o : Option Refusal) → ((Torn.unless_refused w o (booted board map w)).answer ≡ Refused r) ↔ (o ≡ some r)
      as_sheet r none = ((λ (e : ◌≡◌ {A = Answer} (booted board map w).answer (Refused r)). cc), λ (e : ◌≡◌ {A = Option Refusal} none (some r)). cc)
      as_sheet r (some t) = ((λ (e : Refused t ≡ Refused r). cc), λ (e : some t ≡ some r). cc)

      stays : (r : Refusal) (o : Option Refusal) → (Torn.unless_refused w o (booted board map w)).answer ≡ Refused r
          → (Torn.unless_refused w o (booted board map w)).world ≡ w
      stays r none e = let z : ◌≡◌ {A = ℕ} 0 1 = cc in absurd (omega arith)
      stays r (some t) e = refl

-- ---- 6 is no line of a later call's sheet

torn_free : (ts : List Test) → all (λ t. not (eqb (number_of t.refusal) 6)) ts ≡ true → first_met ts ≡ some Torn → ⊥
unfolding all first_met
torn_free [] a e = let z : ◌≡◌ {A = ℕ} 0 1 = cc in omega arith
torn_free (t ∷ ts) a e = go t.met e (torn_free ts (and_right (not (eqb (number_of t.refusal) 6)) _ a))
  where
    go : (m : Bool) → elim m [ true ↦ some t.refusal | false ↦ first_met ts ] ≡ some Torn → (first_met ts ≡ some Torn → ⊥) → ⊥
    go true h more =
        let k : t.refusal ≡ Torn = cc in
        false≢true (sym (ap (λ (r : Refusal). not (eqb (number_of r) 6)) k) ∙ and_left _ _ a)
    go false h more = more h

module _ (board : Board) where
  sheet_free : (s : Store) (n : Names) → all (λ t. not (eqb (number_of t.refusal) 6)) (sheet board s n) ≡ true
  unfolding all sheet
  sheet_free s n = refl

-- ---- each call

module _ {board : Board} (fit : Fit board) where
  module _ {map : List MemoryRegion} {w v : World} {x : State} (H : Holds board map w v x) where
    call_answered : (c : Call) → Answered board v c
    call_answered c =
        let a = answered board x.store c in
        record {
          not_torn = rw (call_is fit H c) (λ e. torn_free (sheet board x.store (names c)) (sheet_free board x.store (names c)) ((a.refused_as_sheet Torn).0 e));
          refused_as_sheet = rw (call_is fit H c, holds_decode fit H) a.refused_as_sheet;
          untouched = rw (call_is fit H c) (λ r e. ap (λ (s : Store). encode board s v) (a.untouched r e) ∙ H.written);
          want_exactly = rw (call_is fit H c, holds_decode fit H) a.want_exactly;
          picked = rw (call_is fit H c, holds_decode fit H) a.picked;
        }

  all_answered : {map : List MemoryRegion} {w v : World} {x : State} → Holds board map w v x → (cs : List Call) → Along board v cs
  all_answered H [] = along_none
  all_answered {map = map} {w = w} {v = v} {x = x} H (c ∷ cs) = along_more (call_answered H c) (all_answered {v = (Torn.call board v c).world} (call_holds fit H c) cs)

-- ---- the demand

module _ {board : Board} (fit : Fit board) where
  pub demand_3 : (map : List MemoryRegion) (w : World) → Accepted (boot_call board map w).answer → (calls : List Call) → Demand3 board map w calls
  demand_3 map w ok calls =
      let H = boot_holds board fit map w ok in
      let K = all_hold fit H calls in
      let claim =
      bookkeeping fit map (length w.records) (length w.memory) (boot_accepted board map w ok) (memory_of board w.memory (kept_regions board map))
      (length w.queue) calls in
      record {
        regions = ap (λ k. k.regions) (all_booked fit H calls) ∙ K.kept;
        afterwards = rw (holds_decode fit K, all_booked fit H calls) claim.afterwards;
        whole = holds_sound fit K;
        along = all_answered fit H calls;
      }
