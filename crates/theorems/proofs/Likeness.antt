-- Demand 2 over the bytes that the calls leave: `demand_2`, on common ground the run on worlds has the Rust's answers, and the worlds stand for the Rust's stores.
-- It joins `likeness`, which is of sane stores, to demand 3, by which every store after an accepted boot is sane.
use Prim.Native.Nat.{ℕ}
use mathlib.Core.Bool.{Bool, true, not, ◌&&◌}
use mathlib.Core.List.{List, [], ◌∷◌}
use mathlib.Core.Option.{Option, none, some}
use mathlib.Core.Path.{◌≡◌, refl, sym, ap, ap₂, ◌∙◌, subst}
use native.Mathlib.Omega.{arith}
use lib.ListN.{length}
use Rattle.definition.specs.Board.{Fit}
use Rattle.definition.specs.declared.MemoryRegion.{MemoryRegion}
use Rattle.definition.specs.declared.Refusal.{Refusal}
use Rattle.definition.specs.Basics.{is_some}
use Rattle.definition.specs.Board.{Board}
use Rattle.definition.specs.Boot.{kept_regions, boot_sheet}
use Rattle.definition.specs.Calls.{Call, Answer, Ran, step}
use Rattle.definition.specs.Refusal.{first_met}
use Rattle.definition.specs.Rust as Rust
use Rattle.definition.specs.Rust.{ground_map, common_ground}
use Rattle.definition.specs.Store.{Store}
use Rattle.definition.specs.Torn as Torn
use Rattle.definition.specs.Torn.{boot_call, booted}
use Rattle.definition.specs.World.{World, memory_of}
use Rattle.definition.proofs.Tests.{and_left}
use Rattle.likeness.specs.Likeness.{Sane, ground_along}
use Rattle.likeness.proofs.Likeness.{likeness_run}
use Rattle.bookkeeping.specs.Claim as Claim
use Rattle.bookkeeping.specs.Claim.{State, next, after, Bookkeeping}
use Rattle.bookkeeping.specs.Good.{Good}
use Rattle.bookkeeping.proofs.Bookkeeping.{bookkeeping}
use Rattle.theorems.specs.Demands.{Accepted, ground_all, Demand2}
use Rattle.theorems.proofs.Runs.{Holds, holds_decode, call_holds, all_hold, all_answers, stores_same, boot_accepted, boot_holds}
use Rattle.theorems.proofs.Sanity.{sane_of}

-- ---- the stores after an accepted boot

module _ (board : Board) where
  record Reached (s : Store) : Type 0 where
    state : State
    is : state.store ≡ s
    good : (cs : List Call) → Good board (after board state cs).store (after board state cs).book
    books : (cs : List Call) → Bookkeeping board (after board state cs).store (after board state cs).book

module _ {board : Board} (fit : Fit board) where
  reached_sane : (s : Store) → Reached board s → Sane s
  unfolding after
  reached_sane s R = subst Sane R.is (sane_of fit (R.good []) (R.books []))

module _ {board : Board} where
  reached_next : (s : Store) (c : Call) → Reached board s → Reached board (step board s c).store
  unfolding after next
  reached_next s c R =
      record {
        state = next board R.state c;
        is = ap (λ (t : Store). (step board t c).store) R.is;
        good = λ cs. R.good (c ∷ cs);
        books = λ cs. R.books (c ∷ cs);
      }

-- ---- common ground on worlds is common ground on their stores

module _ {board : Board} (fit : Fit board) where
  ground_same : {map : List MemoryRegion} {w v : World} {x : State} → Holds board map w v x → (cs : List Call) → ground_all board v cs ≡ ground_along board x.store cs
  unfolding ground_all ground_along next
  ground_same H [] = refl
  ground_same {map = map} {w = w} {v = v} {x = x} H (c ∷ cs) =
      ap₂ (λ (a b : Bool). a && b) (ap (λ (s : Store). common_ground board s c) (holds_decode fit H)) (ground_same {v = (Torn.call board v c).world} (call_holds fit H c) cs)

-- ---- the demand

module _ (board : Board) where
  ground_accepted : (map : List MemoryRegion) (w : World) → ground_map board map (length w.records) (length w.memory) ≡ true
      → Accepted (boot_call board map w).answer
  unfolding boot_call
  ground_accepted map w g = go (first_met (boot_sheet board map (length w.records) (length w.memory))) (and_left _ _ g)
    where
      go : (o : Option Refusal) → not (is_some o) ≡ true → Accepted (Torn.unless_refused w o (booted board map w)).answer
      go none e r h = let z : ◌≡◌ {A = ℕ} 0 1 = cc in omega arith
      go (some t) e r h = let z : ◌≡◌ {A = ℕ} 0 1 = cc in omega arith

same_ran : {s t : Store} {x y : List Answer} → s ≡ t → x ≡ y → ◌≡◌ {A = Ran} (record { store = s; answers = x }) (record { store = t; answers = y })
same_ran p q = cc

module _ {board : Board} (fit : Fit board) where
  pub demand_2 : (map : List MemoryRegion) (w : World) → ground_map board map (length w.records) (length w.memory) ≡ true
      → (calls : List Call) → ground_all board (boot_call board map w).world calls ≡ true → Demand2 board map w calls
  demand_2 map w g calls ground =
      let ok = ground_accepted board map w g in
      let H = boot_holds board fit map w ok in
      let K = all_hold fit H calls in
      let begun = Claim.booted board map (memory_of board w.memory (kept_regions board map)) (length w.queue) in
      let reached : Reached board begun.store =
      record {
        state = begun;
        is = refl;
        good = H.good;
        books =
            λ cs.
            (bookkeeping fit map (length w.records) (length w.memory) (boot_accepted board map w ok) (memory_of board w.memory (kept_regions board map))
            (length w.queue) cs).afterwards;
      } in
      record {
        boots = holds_decode fit H;
        alike =
            ap (λ (s : Store). Rust.run board s calls) (holds_decode fit H)
            ∙ (likeness_run board fit (Reached board) (reached_sane fit) reached_next begun.store reached calls (sym (ground_same fit H calls) ∙ ground)
            ∙ ap {B = Option Ran} some
            (same_ran (sym (holds_decode fit K ∙ stores_same board begun calls)) (sym (all_answers fit H calls))));
      }
