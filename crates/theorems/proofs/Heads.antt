-- The pages of a good store's region: each starts a frame of the region or is inside one and starts none (`spot`). A reader takes from here that the frames
-- are where stepping meets them, and that a frame's pages are managed (`frame_managed`).
use Prim.Native.Nat.{ℕ, zero, suc, ◌+◌, ◌≤◌, ◌<◌}
use mathlib.Core.Bool.{Bool, true, false, cond, ◌||◌, false≢true}
use mathlib.Core.List.{List, [], ◌∷◌}
use mathlib.Core.Option.{Option, none, some, none-ne-some}
use mathlib.Core.Path.{◌≡◌, refl, sym, ap, ◌∙◌, subst}
use native.Mathlib.Decide.{ℕ_discrete, dec_lt}
use native.Mathlib.Omega.{arith}
use borrow.Author.Tests.{lt-leb}
use lib.Dec.{leb}
use Rattle.definition.specs.Basics.{any}
use Rattle.definition.specs.Board.{Board}
use Rattle.definition.specs.Frame.{Frame, Frames, size}
use Rattle.definition.specs.Allocator.{AllocationRegion, first, managed, end, contains, is_managed}
use Rattle.definition.specs.Contents.{size_of}
use Rattle.definition.specs.Store.{Store}
use Rattle.definition.specs.Book.{Book}
use Rattle.scan.proofs.Members.{or_else}
use Rattle.bookkeeping.specs.Blocks.{All, SixLists}
use Rattle.bookkeeping.specs.Blocks.All.{all_none, all_more}
use Rattle.bookkeeping.specs.Good.{AsBoot, heads_from, heads, IsHead, Lists, Good}
use Rattle.bookkeeping.proofs.Blocks.{size_pos}
use Rattle.bookkeeping.proofs.Tilings.{contains_in, contains_facts}

module _ (board : Board) where
  -- what a good store's region is
  pub record Kept (fs : Frames) (r : AllocationRegion) : Type 0 where
    pub boot : AsBoot board r
    pub tiled : All (IsHead board fs r) (heads board fs r)
    pub lists : Lists board fs r
    pub six : SixLists r

module _ {board : Board} where
  -- its regions are so
  pub all_kept : {fs : Frames} {rs : List AllocationRegion} → All (AsBoot board) rs → All (λ r. All (IsHead board fs r) (heads board fs r)) rs
      → All (Lists board fs) rs → All SixLists rs → All (Kept board fs) rs
  all_kept all_none all_none all_none all_none = all_none
  all_kept (all_more {x = r} a boots) (all_more b tiles) (all_more c lists) (all_more d sixes) =
      all_more {x = r} (record { boot = a; tiled = b; lists = c; six = d }) (all_kept boots tiles lists sixes)

module _ (board : Board) where
  -- a head at its place in the region
  pub record Head (fs : Frames) (r : AllocationRegion) (h : ℕ) : Type 0 where
    pub low : first board r ≤ h
    pub is : IsHead board fs r h

  pub data Spot (fs : Frames) (r : AllocationRegion) (q : ℕ) : Type 0 where
    spot_head : Head fs r q → Spot fs r q
    spot_inner : fs q ≡ none → Spot fs r q

module _ {board : Board} where
  module _ {fs : Frames} {r : AllocationRegion} where
    -- stepping rises from where it starts
    heads_from_lem : (fuel at : ℕ) → first board r ≤ at → All (IsHead board fs r) (heads_from fs fuel at (end board r))
        → All (Head board fs r) (heads_from fs fuel at (end board r))
    unfolding heads_from
    heads_from_lem zero at l a = all_none
    heads_from_lem (suc fuel) at l a = go (leb (end board r) at) a (λ n k. heads_from_lem fuel n k)
      where
        rest : List ℕ
        rest = heads_from fs fuel (at + size_of (fs at)) (end board r)

        go : (t : Bool) → All (IsHead board fs r) (cond t [] (at ∷ rest))
            → ((n : ℕ) → first board r ≤ n → All (IsHead board fs r) (heads_from fs fuel n (end board r)) → All (Head board fs r) (heads_from fs fuel n (end board r)))
            → All (Head board fs r) (cond t [] (at ∷ rest))
        go true b more = all_none
        go false (all_more H b) more = all_more {x = at} (record { low = l; is = H }) (more (at + size_of (fs at)) (omega arith) b)

    spot_from : (fuel at q : ℕ) → end board r ≤ at + fuel → first board r ≤ at → All (IsHead board fs r) (heads_from fs fuel at (end board r))
        → at ≤ q → q < end board r → Spot board fs r q
    unfolding heads_from
    spot_from zero at q f l a u v = absurd (omega arith)
    spot_from (suc fuel) at q f l a u v =
        go (leb (end board r) at) refl a (λ n k m b w. spot_from fuel n q k m b w v)
      where
        rest : List ℕ
        rest = heads_from fs fuel (at + size_of (fs at)) (end board r)

        go : (t : Bool) → leb (end board r) at ≡ t → All (IsHead board fs r) (cond t [] (at ∷ rest))
            → ((n : ℕ) → end board r ≤ n + fuel → first board r ≤ n → All (IsHead board fs r) (heads_from fs fuel n (end board r)) → n ≤ q → Spot board fs r q)
            → Spot board fs r q
        go true e b more = absurd (false≢true (sym (lt-leb (end board r) at (omega arith)) ∙ e))
        go false e (all_more H b) more = on (ℕ_discrete at q) (dec_lt q (at + size H.frame.level))
          where
            on : Dec (at ≡ q) → Dec (q < at + size H.frame.level) → Spot board fs r q
            on (yes i) d = spot_head (record { low = omega arith; is = subst (λ (x : ℕ). IsHead board fs r x) i H })
            on (no n) (yes d) = spot_inner (H.inside q (omega arith) d)
            on (no n) (no d) =
                let s : size_of (fs at) ≡ size H.frame.level = ap size_of H.here in
                let p = size_pos H.frame.level in
                more (at + size_of (fs at)) (omega arith) (omega arith) b (omega arith)

  module _ {fs : Frames} {r : AllocationRegion} (K : Kept board fs r) where
    pub ended : end board r ≡ first board r + managed board r
    ended = omega (arith, K.boot.tables)

    pub heads_at : All (Head board fs r) (heads board fs r)
    heads_at = heads_from_lem (managed board r) (first board r) (omega arith) K.tiled

    pub spot : (q : ℕ) → first board r ≤ q → q < end board r → Spot board fs r q
    spot q l h = spot_from (managed board r) (first board r) q (omega (arith, ended)) (omega arith) K.tiled l h

    -- a frame is a head
    pub frame_head : (q : ℕ) (f : Frame) → contains board r q ≡ true → fs q ≡ some f → Head board fs r q
    frame_head q f c e = let x = contains_facts board r q c in go (spot q x.0 x.1)
      where
        go : Spot board fs r q → Head board fs r q
        go (spot_head H) = H
        go (spot_inner n) = absurd (none-ne-some f (sym n ∙ e))

  -- the pages of a frame are its region's
  pub frame_managed : {fs : Frames} {rs : List AllocationRegion} → All (Kept board fs) rs → (p q : ℕ) (f : Frame) → is_managed board rs p ≡ true → fs p ≡ some f
      → p ≤ q → q < p + size f.level → is_managed board rs q ≡ true
  unfolding is_managed any
  frame_managed all_none p q f m e l h = m
  frame_managed {fs} (all_more {x = r} {xs = rs} K more) p q f m e l h = go (contains board r p) refl m (λ n. frame_managed more p q f n e l h)
    where
      go : (t : Bool) → contains board r p ≡ t → t || is_managed board rs p ≡ true → (is_managed board rs p ≡ true → is_managed board rs q ≡ true)
          → contains board r q || is_managed board rs q ≡ true
      go true c i rest =
          let H = frame_head K p f c e in
          let s : H.is.frame.level ≡ f.level = ap (λ (o : Option Frame). level_of o) (sym H.is.here ∙ e) in
          let j : p + size f.level ≤ end board r = rw (← s) H.is.ends in
          rw (contains_in board r q (omega (arith, H.low)) (omega arith))
        where
          level_of : Option Frame → ℕ
          level_of none = 0
          level_of (some f) = f.level
      go false c i rest = or_else (contains board r q) (is_managed board rs q) (λ n. rest i)

  -- the regions of a good store
  pub good_kept : {s : Store} {k : Book} → Good board s k → All (Kept board s.allocator.frames) s.allocator.regions
  good_kept G = all_kept G.placed.as_boot G.tiled G.lists G.six
