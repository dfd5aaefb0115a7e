-- Which page has which page number, where no two regions share a page. `EachPage P base rs` says P of each page of the regions and its
-- number; it goes from a list of regions to the pages of its first region and to the rest, so that an induction over regions never looks at
-- `number_in`.
use Prim.Native.Nat.{ℕ, ◌+◌, ◌≤◌, ◌<◌}
use mathlib.Core.Bool.{Bool, true, false, ◌||◌, false≢true}
use mathlib.Core.List.{List, [], ◌∷◌}
use mathlib.Core.Option.{none, some, none-ne-some}
use mathlib.Core.Path.{◌≡◌, refl, sym, ap, ◌∙◌}
use native.Mathlib.Omega.{arith}
use borrow.Author.Tests.{leb-true, ltb-true, le-leb, lt-ltb}
use lib.Dec.{leb}
use Rattle.definition.specs.Basics.{any}
use Rattle.definition.specs.Board.{Board}
use Rattle.definition.specs.Allocator.{AllocationRegion, first, managed, end, contains}
use Rattle.definition.specs.Boot.{shares, overlap}
use Rattle.definition.specs.World.{number_in}
use Rattle.definition.proofs.Tests.{and_left, and_right}

module _ (board : Board) where
  abbrev pub EachPage : (ℕ → ℕ → Type 0) → ℕ → List AllocationRegion → Type 0
  EachPage P base rs = (p q : ℕ) → number_in board base rs p ≡ some q → P p q

  -- ---- no page is in two regions

  neither : (a b : Bool) → (a || b) ≡ false → (a ≡ false) × (b ≡ false)
  neither true b e = absurd (false≢true (sym e))
  neither false b e = (refl, e)

  pub overlap_rest : (r : AllocationRegion) (rs : List AllocationRegion) → overlap board (r ∷ rs) ≡ false → overlap board rs ≡ false
  unfolding overlap
  overlap_rest r rs e = (neither (any (shares board r) rs) _ e).1

  module _ (r : AllocationRegion) (p : ℕ) (inside : contains board r p ≡ true) where
    elsewhere : (t : AllocationRegion) → shares board r t ≡ false → contains board t p ≡ false
    elsewhere t e = go (contains board t p) refl
      where
        go : (x : Bool) → contains board t p ≡ x → x ≡ false
        go false k = refl
        go true k =
            let a : first board r ≤ p = leb-true _ _ (and_left _ _ inside) in
            let b : p < end board r = ltb-true _ _ (and_right (leb (first board r) p) _ inside) in
            let c : first board t ≤ p = leb-true _ _ (and_left _ _ k) in
            let d : p < end board t = ltb-true _ _ (and_right (leb (first board t) p) _ k) in
            rw (lt-ltb r.start (end board t) (omega arith), lt-ltb t.start (end board r) (omega arith)) at e

    none_elsewhere : (base : ℕ) (rs : List AllocationRegion) → any (shares board r) rs ≡ false → number_in board base rs p ≡ none
    unfolding any number_in
    none_elsewhere base [] e = refl
    none_elsewhere base (t ∷ rs) e =
        let n = neither (shares board r t) _ e in
        rw (elsewhere t n.0) (none_elsewhere (base + managed board t) rs n.1)

  -- ---- the first region and the rest

  module _ (P : ℕ → ℕ → Type 0) (base : ℕ) (r : AllocationRegion) (rs : List AllocationRegion) (each : EachPage P base (r ∷ rs)) where
    pub each_first : (i : ℕ) → i < managed board r → P (first board r + i) (base + i)
    unfolding number_in
    each_first i h =
        each (first board r + i) (base + i)
        (rw (le-leb (first board r) (first board r + i) (omega arith), lt-ltb (first board r + i) (end board r) (omega arith))
        (ap some (omega arith)))

    pub each_rest : overlap board (r ∷ rs) ≡ false → EachPage P (base + managed board r) rs
    unfolding overlap number_in
    each_rest e p q h = go (contains board r p) refl
      where
        go : (x : Bool) → contains board r p ≡ x → P p q
        go false k = each p q (rw k h)
        go true k =
            absurd (none-ne-some q (sym (none_elsewhere r p k (base + managed board r) rs (neither (any (shares board r) rs) _ e).0) ∙ h))
