-- The refusal sheet on common ground: a call that it doesn't refuse is performed, in both readings, and a frame that it lets through is managed and
-- held. A lookup meets "outside" or nothing, since an address in a region ends no range past it.
use Prim.Native.Nat.{ℕ, ◌+◌, ◌*◌, ◌/◌, ◌<◌, ◌≤◌}
use mathlib.Core.Bool.{Bool, true, false, not, cond, ◌&&◌, ◌||◌, and-false, false≢true}
use mathlib.Core.List.{[]}
use mathlib.Core.Option.{Option, none, some}
use mathlib.Core.Path.{◌≡◌, refl, sym, ap, ◌∙◌}
use lib.Dec.{leb, ltb}
use native.Mathlib.Nat.{mul_comm, div-lt_iff_lt-mul}
use native.Mathlib.Omega.{arith}
use borrow.Author.Tests.{ltb-true, le-ltb, not-false}
use Rattle.definition.proofs.Passing.{Passed, passed}
use Rattle.definition.proofs.Tests.{any_head}
use Rattle.definition.specs.Board.{Board}
use Rattle.definition.specs.Basics.{any, is_some}
use Rattle.definition.specs.Refusal.{first_met, or_later, ◌when◌}
use Rattle.definition.specs.declared.Refusal.{Refusal}
use Rattle.definition.specs.declared.Refusal.TheVariants.{Outside, PastTheEnd}
use Rattle.definition.specs.Allocator.{AllocationRegion, first, contains, end, is_managed}
use Rattle.definition.specs.Store.{Store}
use Rattle.definition.specs.Tracker.{is_held}
use Rattle.definition.specs.Calls.{Call, Find, Free, Range, Outcome, Refused, tells, outside, leaves_region, sheet, names, perform, step, unless_refused}
use Rattle.definition.specs.Rust as Rust
use Rattle.definition.specs.Rust.{unrefused, on_held}
use Rattle.likeness.proofs.Lists.{any_none}

none_met : (x : Option Refusal) → not (is_some x) ≡ true → x ≡ none
none_met none e = refl
none_met (some r) e = absurd (false≢true e)

-- ---- calls that are not refused

module _ (b : Board) (s : Store) (c : Call) (h : unrefused b s c ≡ true) where
  passes : first_met (sheet b s (names c)) ≡ none
  passes = none_met (first_met (sheet b s (names c))) h

  held : (o : Outcome) → on_held b s c o ≡ some o
  held o = ap (λ (x : Option Refusal). elim x as (λ y. Option Outcome) [ some r ↦ none | none ↦ some o ]) passes

  pub performed : step b s c ≡ perform b s c
  unfolding step
  performed = ap (λ (x : Option Refusal). unless_refused s x (perform b s c)) passes

  -- what the Rust does is what the store would do
  pub held_like : (o : Outcome) → o ≡ perform b s c → on_held b s c o ≡ some (step b s c)
  held_like o e = held o ∙ ap {B = Option Outcome} some (e ∙ sym performed)

-- ---- a frame that is freed

abbrev place : ℕ → Range
place a = record { address = a; offset = 0; length = 0 }

module _ (b : Board) (s : Store) (a : ℕ) (h : unrefused b s (Free a) ≡ true) where
  fine : Passed b s (names (Free a))
  fine = passed b s (names (Free a)) (passes b s (Free a) h)

  pub free_managed : is_managed b s.allocator.regions (a / b.page) ≡ true
  free_managed = not-false _ (any_head (outside b s) (place a) [] fine.inside)

  pub free_held : is_held b s a ≡ true
  free_held = not-false _ (any_head (λ (r : Range). not (is_held b s r.address)) (place a) [] fine.held)

-- ---- a lookup

-- its two lines
abbrev find_sheet : (managed leaves : Bool) → Option Refusal
find_sheet managed leaves = or_later (Outside when (not managed || false)) (or_later (PastTheEnd when (leaves || false)) none)

module _ (b : Board) (positive : 0 < b.page) (s : Store) (a : ℕ) where
  stays_inside : leaves_region b s (place a) ≡ false
  stays_inside = any_none _ inside s.allocator.regions
    where
      inside : (t : AllocationRegion) → (contains b t (a / b.page) && ltb (b.page * end b t) (a + (0 + 0))) ≡ false
      inside t = go (ltb (a / b.page) (end b t)) refl
        where
          go : (u : Bool) → ltb (a / b.page) (end b t) ≡ u → ((leb (first b t) (a / b.page) && u) && ltb (b.page * end b t) (a + (0 + 0))) ≡ false
          go true e =
              let below = (div-lt_iff_lt-mul positive).0 (ltb-true (a / b.page) (end b t) e) in
              let within : a + (0 + 0) ≤ b.page * end b t = omega (arith, below, mul_comm (end b t) b.page) in
              ap (λ (v : Bool). (leb (first b t) (a / b.page) && true) && v) (le-ltb (b.page * end b t) (a + (0 + 0)) within)
              ∙ and-false (leb (first b t) (a / b.page) && true)
          go false e = ap (λ (v : Bool). v && ltb (b.page * end b t) (a + (0 + 0))) (and-false (leb (first b t) (a / b.page)))

  pub find_like : Rust.step b s (Find a) ≡ some (step b s (Find a))
  unfolding Rust.step step sheet first_met any
  find_like =
      ap {B = Option Outcome} some
      (go (is_managed b s.allocator.regions (a / b.page))
      ∙ sym (ap (λ (v : Bool). unless_refused s (find_sheet (is_managed b s.allocator.regions (a / b.page)) v) (perform b s (Find a))) stays_inside))
    where
      go : (m : Bool) → cond m (perform b s (Find a)) (tells s (Refused Outside)) ≡ unless_refused s (find_sheet m false) (perform b s (Find a))
      go true = refl
      go false = refl
