-- What the definition's allocator does over all regions, where it comes to the region i: a free finds the one region that has the page, and
-- a grant the first that has a frame. The other regions stay as they were.
use Prim.Native.Nat.{ℕ, zero, suc, ◌+◌, ◌≤◌, ◌<◌}
use mathlib.Core.Bool.{Bool, true, false}
use mathlib.Core.List.{List, [], ◌∷◌}
use mathlib.Core.Option.{none, some}
use mathlib.Core.Path.{◌≡◌, refl, ap}
use native.Mathlib.Omega.{arith}
use borrow.Author.Tests.{le-leb, lt-ltb, leb-true, ltb-true}
use lib.Dec.{leb}
use lib.ListN.{length, set}
use Rattle.definition.specs.declared.Record.{Record}
use Rattle.definition.specs.declared.Row.{Row}
use Rattle.definition.specs.Basics.{everywhere}
use Rattle.definition.specs.Board.{Board}
use Rattle.definition.specs.Frame.{Found, Frames, allocate, free}
use Rattle.definition.specs.Allocator.{AllocationRegion, behind_region, contains, end, first, free_in, levels_of, pass, with_free}
use Rattle.definition.proofs.Tests.{and_left, and_right, and-true}
use Rattle.region.specs.Rep.{Inside, from_of, managed}
use Rattle.world.specs.Stands.{Disjoint, StandRows, StandsRow, region_at, row_at}
use Rattle.world.specs.Stands.Disjoint.{disjoint_more}
use Rattle.world.specs.Stands.StandRows.{stand_more}
use Rattle.world.proofs.Sheets.{each_at}

-- ---- which region has a page

module _ {board : Board} where
  module _ {f : ℕ → Record} {n base : ℕ} {row : Row} {fs : Frames} {r : AllocationRegion} (S : StandsRow board f n base row fs r)
      (p : ℕ) where
    pub contains_in : Inside board (from_of board row) row.pages p → contains board r p ≡ true
    unfolding from_of managed
    contains_in i =
        let h = i.high in
        let l = i.low in
        let a : first board r ≤ p = rw (S.start, S.pages) l in
        let b : p < end board r = rw (S.start, S.pages) (omega arith) in
        and-true (le-leb (first board r) p a) (lt-ltb p (end board r) b)

    pub in_contains : contains board r p ≡ true → Inside board (from_of board row) row.pages p
    unfolding from_of managed
    in_contains t =
        let a = leb-true (first board r) p (and_left _ _ t) in
        let b = ltb-true p (end board r) (and_right (leb (first board r) p) _ t) in
        record {
          low = rw (S.start, S.pages) at a;
          high = let c = rw (S.start, S.pages) at a in let d = rw (S.start, S.pages) at b in
              omega arith;
        }

    pub contains_out : (Inside board (from_of board row) row.pages p → ⊥) → contains board r p ≡ false
    contains_out o = go (contains board r p) refl
      where
        go : (b : Bool) → contains board r p ≡ b → b ≡ false
        go false e = refl
        go true e = absurd (o (in_contains e))

-- ---- a free

module _ {board : Board} where
  pub free_in_lem
      : {f : ℕ → Record} {n base : ℕ} {fs : Frames} (rows : List Row) (rs : List AllocationRegion) (i p : ℕ)
      → StandRows board f n fs base rows rs → Disjoint board rows
      → i < length rows → Inside board (from_of board (row_at rows i)) (row_at rows i).pages p
      → free_in board p fs rs
      ≡ record {
        frames = (free (levels_of fs (region_at rs i)) p).frames;
        regions = set rs i (with_free (region_at rs i) (free (levels_of fs (region_at rs i)) p).free);
      }
  unfolding free_in
  free_in_lem (row ∷ rows) (r ∷ rs) zero p (stand_more S Ss) (disjoint_more d ds) h k = rw (contains_in S p k) refl
  free_in_lem {f = f} {n = n} {base = base} {fs = fs} (row ∷ rows) (r ∷ rs) (suc i) p (stand_more S Ss) (disjoint_more d ds) h k =
      rw (contains_out S p (λ j. each_at _ d i (omega arith) p j k))
      (ap (behind_region r) (free_in_lem {base = base + managed board row.pages} rows rs i p Ss ds (omega arith) k))
  free_in_lem {f = f} {n = n} {base = base} {fs = fs} [] rs i p _ _ h k = elim h [ ]
  free_in_lem {f = f} {n = n} {base = base} {fs = fs} (row ∷ rows) [] i p x9 _ h k = elim x9 [ ]

-- ---- a grant

module _ (l : ℕ) (z o : Bool) (fs : Frames) where
  -- what the region i gives
  abbrev pub given : List AllocationRegion → ℕ → Found
  given rs i = allocate everywhere l (levels_of fs (region_at rs i)) z o

  pub pass_none : (rs : List AllocationRegion) → ((i : ℕ) → i < length rs → (given rs i).page ≡ none)
      → pass everywhere l z o fs rs ≡ record { allocator = record { frames = fs; regions = rs }; page = none }
  unfolding pass
  pass_none [] h = refl
  pass_none (r ∷ rs) h = rw (h 0 (omega arith), pass_none rs (λ i k. h (suc i) (omega arith))) refl

  pub pass_found
      : (rs : List AllocationRegion) (i p : ℕ) → i < length rs → ((j : ℕ) → j < i → (given rs j).page ≡ none) → (given rs i).page ≡ some p
      → pass everywhere l z o fs rs
      ≡ record {
        allocator = record {
          frames = (given rs i).levels.frames;
          regions = set rs i (with_free (region_at rs i) (given rs i).levels.free);
        };
        page = some p;
      }
  unfolding pass
  pass_found [] i p k h e = absurd (omega arith)
  pass_found (r ∷ rs) zero p k h e = rw e refl
  pass_found (r ∷ rs) (suc i) p k h e = rw (h 0 (omega arith), pass_found rs i p (omega arith) (λ j m. h (suc j) (omega arith)) e) refl
