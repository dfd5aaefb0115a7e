-- The refusal of a grant, from what its tests found: 7 or 8 where no level was found, and else 9, 10 or none by whether anything is listed.
use Prim.Native.Nat.{ℕ}
use mathlib.Core.Bool.{Bool, true, false, cond}
use mathlib.Core.List.{List}
use mathlib.Core.Option.{Option, some}
use mathlib.Core.Path.{◌≡◌, refl, ◌∙◌}
use Rattle.std.specs.Prelude.{Result, Ok, Err}
use native.Mathlib.Omega.{arith}
use Rattle.definition.specs.declared.Record.{Record}
use Rattle.definition.specs.declared.Refusal.{Refusal}
use Rattle.definition.specs.declared.Refusal.TheVariants.{BadLayout, NoLevel, NoFrame, MustWait}
use Rattle.definition.specs.declared.Row.{Row}
use Rattle.definition.specs.Board.{Board}
use Rattle.definition.specs.Calls.{Layout, bad_layout, find_level, mine, no_level}
use Rattle.level.specs.declared.Level.{Level}
use Rattle.level.specs.Level.{found_level, level_at, rank}
use Rattle.level.proofs.Choice.{finds}
use Rattle.world.proofs.Refusing.{layout_refused}
use Rattle.allocator.specs.Spots.{ListedAll}
use Rattle.grants.specs.Granting.{Wants}

module _ (board : Board) where
  found_refused
      : (y : Layout) (x : Refusal) (rest : Option Refusal) → found_level board y ≡ Err x
      → cond (bad_layout y) (some BadLayout) (cond (no_level board y) (some NoLevel) rest) ≡ some x
  found_refused y x rest e = go (bad_layout y) (no_level board y) e
    where
      go : (t u : Bool) → cond t (Err BadLayout) (cond u (Err NoLevel) (Ok (level_at (find_level board y)))) ≡ Err x
          → cond t (some BadLayout) (cond u (some NoLevel) rest) ≡ some x
      go true u e = let k : BadLayout ≡ x = cc in rw k refl
      go false true e = let k : NoLevel ≡ x = cc in rw k refl
      go false false e = let z : ◌≡◌ {A = ℕ} 0 1 = cc in absurd (omega arith)

-- a refusal is no level
no_level_in : {x : Refusal} {l : Level} → ◌≡◌ {A = Result Level Refusal} (Err x) (Ok l) → ⊥
no_level_in e = let z : ◌≡◌ {A = ℕ} 0 1 = cc in omega arith

module _ {board : Board} {f : ℕ → Record} {n : ℕ} {rows : List Row} {y : Layout} where
  pub wants_refused : (x : Refusal) → found_level board y ≡ Err x → Wants board f n rows y (Err x)
  wants_refused x found =
      record { refusal = λ s T. layout_refused board s y ∙ found_refused board y x _ found; found = λ l e. absurd (no_level_in e) }

  module _ (l : Level) (found : found_level board y ≡ Ok l) where
    pub wants_found : {b : Bool} → ListedAll board f n rows (rank l) b → b ≡ true → Wants board f n rows y (Ok l)
    unfolding mine
    wants_found listed t =
        let F = finds board y l found in
        record {
          refusal = λ s T. layout_refused board s y ∙ rw (F.fine, F.within, ← F.number, ← listed s.allocator T, t) refl;
          found = λ j z. let same : l ≡ j = cc in rw (← same) F.number;
        }

    pub wants_none
        : {b : Bool} → ListedAll board f n rows (rank l) b → b ≡ false → {x : Refusal} → x ≡ cond y.flags.wait_ok MustWait NoFrame
        → Wants board f n rows y (Err x)
    unfolding mine
    wants_none listed t {x} q =
        let F = finds board y l found in
        record {
          refusal = λ s T. layout_refused board s y ∙ rw (F.fine, F.within, ← F.number, ← listed s.allocator T, t, q) refl;
          found = λ j z. absurd (no_level_in z);
        }
