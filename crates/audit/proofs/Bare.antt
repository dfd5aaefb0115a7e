-- The regions of the rows that a loop has left: the pages and the overlaps of a first row and of the rest.
use Prim.Native.Nat.{ℕ, ◌+◌, ◌<◌}
use mathlib.Core.Bool.{Bool, true, false, ◌||◌}
use mathlib.Core.List.{List, [], ◌∷◌}
use mathlib.Core.Path.{◌≡◌, refl, ap, ◌∙◌}
use native.Mathlib.Omega.{arith}
use lib.ListN.{length}
use Rattle.std.specs.List.{list_any, sum_by}
use Rattle.std.proofs.lemmas.List.Sums.{sum_by-cons}
use Rattle.definition.specs.declared.Row.{Row}
use Rattle.definition.specs.Board.{Board}
use Rattle.definition.specs.Basics.{any, sum}
use Rattle.definition.specs.Allocator.{AllocationRegion, total}
use Rattle.definition.specs.Boot.{shares, overlap}
use Rattle.definition.specs.World.{bare_region, used_rows}
use Rattle.definition.specs.Torn.{bare_regions, regions_of}
use Rattle.audit.proofs.Onward.{or_on, or_off, sum_on}

module _ (board : Board) where
  pub any_regions : (test : AllocationRegion → Bool) (rows : List Row) → list_any (λ (t : Row). test (bare_region board t)) rows
      ≡ any test (bare_regions board rows)
  unfolding any bare_regions
  any_regions test [] = refl
  any_regions test (row ∷ rows) = ap (λ (t : Bool). test (bare_region board row) || t) (any_regions test rows)

  pub sum_regions : (weight : AllocationRegion → ℕ) (rows : List Row) → sum_by (λ (t : Row). weight (bare_region board t)) rows
      ≡ sum weight (bare_regions board rows)
  unfolding sum bare_regions
  sum_regions weight [] = refl
  sum_regions weight (row ∷ rows) =
      sum_by-cons (λ (t : Row). weight (bare_region board t)) row rows ∙ ap (λ (n : ℕ). weight (bare_region board row) + n)
      (sum_regions weight rows)

  module _ {xs ys : List Row} {x : Row} (e : xs ≡ x ∷ ys) where
    pub regions_on : bare_regions board xs ≡ bare_region board x ∷ bare_regions board ys
    unfolding bare_regions
    regions_on = ap (bare_regions board) e

    pub total_on : total (bare_regions board xs) ≡ x.pages + total (bare_regions board ys)
    total_on = sum_on (λ (r : AllocationRegion). r.pages) regions_on

    pub overlap_on : any (shares board (bare_region board x)) (bare_regions board ys) ≡ false
        → overlap board (bare_regions board xs) ≡ overlap board (bare_regions board ys)
    unfolding overlap
    overlap_on h = ap (overlap board) regions_on ∙ or_on _ h

    pub overlap_off : any (shares board (bare_region board x)) (bare_regions board ys) ≡ true → overlap board (bare_regions board xs) ≡ true
    unfolding overlap
    overlap_off h = ap (overlap board) regions_on ∙ or_off _ h

  overlap_few : (xs : List Row) → length xs < 2 → overlap board (bare_regions board xs) ≡ false
  unfolding overlap any bare_regions
  overlap_few [] h = refl
  overlap_few (x ∷ []) h = refl
  overlap_few (x ∷ (y ∷ xs)) h = absurd (omega arith)

  pub overlap_none : (rows : List Row) → length (used_rows rows) < 2 → overlap board (regions_of board rows) ≡ false
  overlap_none rows h = overlap_few (used_rows rows) h
