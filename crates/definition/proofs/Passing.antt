-- What a sheet lets pass meets none of its lines: `unmet`, of any sheet, and `passed`, which names each line of a later call's. A proof about accepted calls takes
-- from here what such a call may count on.
use Prim.Native.Nat.{ℕ}
use native.Mathlib.Omega.{arith}
use mathlib.Core.Bool.{Bool, true, false, not, ◌&&◌, ◌||◌}
use mathlib.Core.List.{List, [], ◌∷◌, ◌++◌}
use mathlib.Core.Option.{none}
use mathlib.Core.Path.{◌≡◌, refl}
use lib.Dec.{leb, ltb}
use lib.ListN.{length}
use Rattle.definition.specs.Board.{Board}
use Rattle.definition.specs.Basics.{any}
use Rattle.definition.specs.Refusal.{Test, or_later, first_met}
use Rattle.definition.specs.Store.{Store}
use Rattle.definition.specs.Tracker.{starts_frame, is_held}
use Rattle.definition.specs.Calls.{Names, bad_layout, no_level, wants, outside, leaves_frame, leaves_region, sheet}

-- no line of a sheet is met
pub data Unmet : List Test → Type 0 where
  unmet_none : Unmet []
  unmet_more : {t : Test} {ts : List Test} → t.met ≡ false → Unmet ts → Unmet (t ∷ ts)

pub unmet : (ts : List Test) → first_met ts ≡ none → Unmet ts
unfolding first_met
unmet [] e = unmet_none
unmet (t ∷ ts) e = go t.met refl e (unmet ts)
  where
    go
        : (u : Bool) → t.met ≡ u → or_later (record { refusal = t.refusal; met = u }) (first_met ts) ≡ none → (first_met ts ≡ none → Unmet ts)
        → Unmet (t ∷ ts)
    go true x y more = absurd (let z : ◌≡◌ {A = ℕ} 0 1 = cc in omega arith)
    go false x y more = unmet_more x (more y)

-- the lines of a later call's sheet, none of them met
pub record Passed (b : Board) (s : Store) (n : Names) : Type 0 where
  pub layout : any bad_layout n.layouts ≡ false
  pub level : any (no_level b) n.layouts ≡ false
  pub frame : any (λ y. wants b s y && not y.flags.wait_ok) n.layouts ≡ false
  pub wait : any (λ y. wants b s y && y.flags.wait_ok) n.layouts ≡ false
  pub inside : any (outside b s) (n.frames ++ n.places) ≡ false
  pub starts : any (λ r. not (starts_frame b s r.address)) n.frames ≡ false
  pub held : any (λ r. not (is_held b s r.address)) n.frames ≡ false
  pub ends : (any (leaves_frame b s) n.frames || any (leaves_region b s) n.places) ≡ false
  pub pager : any (ltb s.counters.pager_outstanding) n.returned ≡ false
  pub queue : any (λ (a : ℕ). leb s.kept.room (length s.queue)) n.queued ≡ false

pub passed : (b : Board) (s : Store) (n : Names) → first_met (sheet b s n) ≡ none → Passed b s n
unfolding sheet
passed b s n e = go (unmet (sheet b s n) e)
  where
    go : Unmet (sheet b s n) → Passed b s n
    go (unmet_more layout
        (unmet_more level
        (unmet_more frame
        (unmet_more wait
        (unmet_more inside
        (unmet_more starts
        (unmet_more held
        (unmet_more ends
        (unmet_more pager
        (unmet_more queue unmet_none)))))))))) =
        record {
          layout = layout;
          level = level;
          frame = frame;
          wait = wait;
          inside = inside;
          starts = starts;
          held = held;
          ends = ends;
          pager = pager;
          queue = queue;
        }
