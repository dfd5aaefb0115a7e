-- The definition's layout of several regions. It lays out the last region first; since no two share a page, each region comes out as if it
-- alone were laid out (`lay_at`), which is how the code meets it. `new_laid` says that `lay_rows` is definition's `new_allocator`.
use Prim.Native.Nat.{ℕ, zero, suc, ◌+◌, ◌/◌, ◌≤◌, ◌<◌}
use mathlib.Core.Bool.{Bool, true, false, cond, false≢true}
use mathlib.Core.List.{List, [], ◌∷◌}
use mathlib.Core.Option.{none}
use mathlib.Core.Path.{◌≡◌, refl, sym, ap, ◌∙◌, subst}
use native.Mathlib.Omega.{arith}
use borrow.Author.Tests.{lt-ltb}
use lib.ListN.{length}
use Rattle.definition.specs.declared.MemoryRegion.{MemoryRegion}
use Rattle.definition.specs.declared.Row.{Row}
use Rattle.definition.specs.Board.{Board}
use Rattle.definition.specs.Basics.{any}
use Rattle.definition.specs.Frame.{Frames, Levels, organize}
use Rattle.definition.specs.Allocator.{AllocationRegion, PhysicalFrameAllocator, admit_region, empty_region, is_kept, laid_out, levels_of}
use Rattle.definition.specs.Allocator.{new_allocator}
use Rattle.definition.specs.Boot.{overlap, shares}
use Rattle.definition.specs.World.{bare_region}
use Rattle.definition.specs.Torn.{bare_regions}
use Rattle.definition.proofs.Tests.{and-true}
use Rattle.list.specs.Linked.All.{all_none}
use Rattle.region.specs.Rep.{Inside, from_of, managed}
use Rattle.definition.specs.Board.{Fit}
use Rattle.world.specs.Stands.{shift, Shifted, Carried, Disjoint, Each, Parted, region_at, row_at}
use Rattle.world.specs.Stands.Disjoint.{disjoint_none, disjoint_more}
use Rattle.world.specs.Stands.Each.{each_none, each_more}
use Rattle.world.proofs.Carrying.{carried_organize, shift_in}
use Rattle.world.proofs.Spans.{bared}
use Rattle.boot.specs.Booting.{kept_row, kept_rows, lay_rows}
use Rattle.boot.proofs.Entries.{kept_region}
use Rattle.boot.proofs.KeptRows.{neither}

-- ---- the definition's allocator

module _ {board : Board} (fit : Fit board) where
  pub new_laid : (ms : List MemoryRegion) → new_allocator board ms ≡ lay_rows board (kept_rows board ms)
  unfolding new_allocator kept_rows lay_rows
  new_laid [] = refl
  new_laid (m ∷ ms) = go (is_kept board m) (new_laid ms)
    where
      go : (t : Bool) → new_allocator board ms ≡ lay_rows board (kept_rows board ms)
          → cond t (admit_region board (empty_region board m) (new_allocator board ms)) (new_allocator board ms)
          ≡ lay_rows board (cond t (kept_row board m ∷ kept_rows board ms) (kept_rows board ms))
      go true e =
          ap (admit_region board (empty_region board m)) e
          ∙ ap (λ (r : AllocationRegion). admit_region board r (lay_rows board (kept_rows board ms))) (sym (kept_region fit m))
      go false e = e

module _ (board : Board) where
  pub laid_bare : (rows : List Row) → bared (lay_rows board rows).regions ≡ bare_regions board rows
  unfolding lay_rows bare_regions
  laid_bare [] = refl
  laid_bare (row ∷ rows) = ap (λ (rs : List AllocationRegion). bare_region board row ∷ rs) (laid_bare rows)

-- ---- one region

module _ (board : Board) where
  -- the frames of a region laid out over those that are there
  abbrev over : Row → Frames → Levels
  over row fs = organize (managed board row.pages) (levels_of fs (bare_region board row)) (from_of board row) (from_of board row)
      (managed board row.pages)

  lay_head : (row : Row) (rows : List Row) → lay_rows board (row ∷ rows)
      ≡ laid_out (bare_region board row) (lay_rows board rows).regions (over row (lay_rows board rows).frames)
  unfolding lay_rows from_of managed
  lay_head row rows = refl

  module _ (row : Row) (base : ℕ) (s : Levels) (fs : Frames) where
    begins : (from : ℕ) → shift from base base ≡ from
    begins from = omega arith

    carried
        : Shifted board (from_of board row) base row.pages s (levels_of fs (bare_region board row))
        → Carried board (from_of board row) base row.pages (levels_of fs (bare_region board row))
        (organize (managed board row.pages) s base (from_of board row) (managed board row.pages)) (over row fs)
    carried S =
        subst
        (λ (x : ℕ). Carried board (from_of board row) base row.pages (levels_of fs (bare_region board row))
        (organize (managed board row.pages) s base x (managed board row.pages))
        (organize (managed board row.pages) (levels_of fs (bare_region board row)) x x (managed board row.pages)))
        (begins (from_of board row))
        (carried_organize (managed board row.pages) S base (managed board row.pages) (omega arith) (omega arith))

    -- a state in which no frame of the region starts, by page numbers and by page frame numbers
    blank_same
        : ((q : ℕ) → Inside board base row.pages q → s.frames q ≡ none) → ((k : ℕ) → s.free k ≡ [])
        → ((p : ℕ) → Inside board (from_of board row) row.pages p → fs p ≡ none)
        → Shifted board (from_of board row) base row.pages s (levels_of fs (bare_region board row))
    blank_same blank empty there =
        record {
          frames = λ q i. there (shift (from_of board row) base q) (shift_in q i) ∙ sym (blank q i);
          free = λ k. rw (empty k) refl;
          inside = λ k. rw (empty k) all_none;
        }

module _ {board : Board} where
  -- outside the region nothing changes
  lay_outside : (row : Row) (rows : List Row) (p : ℕ) → (Inside board (from_of board row) row.pages p → ⊥)
      → (lay_rows board (row ∷ rows)).frames p ≡ (lay_rows board rows).frames p
  lay_outside row rows p o =
      rw (lay_head board row rows)
      ((carried board row (from_of board row) (levels_of (lay_rows board rows).frames (bare_region board row)) (lay_rows board rows).frames
      (record { frames = λ q i. ap (lay_rows board rows).frames (back q i.low); free = λ k. refl; inside = λ k. all_none })
      ).outside p o)
    where
      back : (q : ℕ) → from_of board row ≤ q → shift (from_of board row) (from_of board row) q ≡ q
      back q h = omega arith

-- ---- several regions

module _ {board : Board} where
  -- no frame starts outside the regions
  lay_none : (rows : List Row) (p : ℕ) → Each (λ (t : Row). Inside board (from_of board t) t.pages p → ⊥) rows
      → (lay_rows board rows).frames p ≡ none
  unfolding lay_rows
  lay_none [] p each_none = refl
  lay_none (row ∷ rows) p (each_more o os) = lay_outside row rows p o ∙ lay_none rows p os

  beside_all : (row : Row) {rows : List Row} → Each (λ (t : Row). Parted board row t) rows → (p : ℕ)
      → Inside board (from_of board row) row.pages p
      → Each (λ (t : Row). Inside board (from_of board t) t.pages p → ⊥) rows
  beside_all row each_none p i = each_none
  beside_all row (each_more a rest) p i = each_more (λ j. a p i j) (beside_all row rest p i)

each_of : {P : Row → Type 0} {rows : List Row} → Each P rows → (i : ℕ) → i < length rows → P (row_at rows i)
each_of each_none i h = absurd (omega arith)
each_of (each_more a rest) zero h = a
each_of (each_more a rest) (suc i) h = each_of rest i (omega arith)

module _ {board : Board} where
  -- the region i, laid out from any state in which none of its frames starts
  pub lay_at
      : (rows : List Row) → Disjoint board rows → (i : ℕ) → i < length rows → (base : ℕ) (s : Levels)
      → ((q : ℕ) → Inside board base (row_at rows i).pages q → s.frames q ≡ none) → ((k : ℕ) → s.free k ≡ [])
      → Shifted board (from_of board (row_at rows i)) base (row_at rows i).pages
      (organize (managed board (row_at rows i).pages) s base (from_of board (row_at rows i)) (managed board (row_at rows i).pages))
      (levels_of (lay_rows board rows).frames (region_at (lay_rows board rows).regions i))
  lay_at [] D i h base s blank empty = absurd (omega arith)
  lay_at (row ∷ rows) (disjoint_more a rest) zero h base s blank empty =
      rw (lay_head board row rows)
      (carried board row base s (lay_rows board rows).frames
      (blank_same board row base s (lay_rows board rows).frames blank empty (λ p i. lay_none rows p (beside_all row a p i)))
      ).same
  lay_at (row ∷ rows) (disjoint_more a rest) (suc i) h base s blank empty =
      let S = lay_at rows rest i (omega arith) base s blank empty in
      let parted = each_of a i (omega arith) in
      behind (λ p j. lay_outside row rows p (λ x. parted p x j)) S
    where
      behind
          : {u : Levels} → ((p : ℕ) → Inside board (from_of board (row_at rows i)) (row_at rows i).pages p
          → (lay_rows board (row ∷ rows)).frames p ≡ (lay_rows board rows).frames p)
          → Shifted board (from_of board (row_at rows i)) base (row_at rows i).pages u
          (levels_of (lay_rows board rows).frames (region_at (lay_rows board rows).regions i))
          → Shifted board (from_of board (row_at rows i)) base (row_at rows i).pages u
          (levels_of (lay_rows board (row ∷ rows)).frames (region_at (lay_rows board (row ∷ rows)).regions (suc i)))
      behind same S =
          record {
            frames = λ q j. same _ (shift_in q j) ∙ S.frames q j;
            free = λ k. ap (λ (l : PhysicalFrameAllocator). (region_at l.regions (suc i)).free k) (lay_head board row rows) ∙ S.free k;
            inside = S.inside;
          }

-- ---- their starts and pages

module _ (board : Board) where
  pub laid_start : (rows : List Row) (i : ℕ) → i < length rows
      → (region_at (lay_rows board rows).regions i).start ≡ (row_at rows i).start.0 / board.page
  unfolding lay_rows
  laid_start [] i h = absurd (omega arith)
  laid_start (row ∷ rows) zero h = refl
  laid_start (row ∷ rows) (suc i) h = laid_start rows i (omega arith)

  pub laid_pages : (rows : List Row) (i : ℕ) → i < length rows → (region_at (lay_rows board rows).regions i).pages ≡ (row_at rows i).pages
  unfolding lay_rows
  laid_pages [] i h = absurd (omega arith)
  laid_pages (row ∷ rows) zero h = refl
  laid_pages (row ∷ rows) (suc i) h = laid_pages rows i (omega arith)

  pub laid_many : (rows : List Row) → length (lay_rows board rows).regions ≡ length rows
  unfolding lay_rows
  laid_many [] = refl
  laid_many (row ∷ rows) = ap suc (laid_many rows)

-- ---- regions that do not overlap share no page frame

module _ {board : Board} where
  parted : (r t : Row) → shares board (bare_region board r) (bare_region board t) ≡ false → Parted board r t
  unfolding from_of managed
  parted r t e p a b =
      let x = r.start.0 / board.page in
      let y = t.start.0 / board.page in
      let u : x < y + t.pages = omega (arith, a.low, b.high) in
      let v : y < x + r.pages = omega (arith, b.low, a.high) in
      false≢true (sym e ∙ and-true (lt-ltb x (y + t.pages) u) (lt-ltb y (x + r.pages) v))

  beside : (r : Row) (rows : List Row) → any (shares board (bare_region board r)) (bare_regions board rows) ≡ false
      → Each (λ (t : Row). Parted board r t) rows
  unfolding any bare_regions
  beside r [] e = each_none
  beside r (t ∷ ts) e =
      let n = neither (shares board (bare_region board r) (bare_region board t)) _ e in
      each_more (parted r t n.0) (beside r ts n.1)

  pub disjoint : (rows : List Row) → overlap board (bare_regions board rows) ≡ false → Disjoint board rows
  unfolding overlap bare_regions
  disjoint [] e = disjoint_none
  disjoint (row ∷ rows) e =
      let n = neither (any (shares board (bare_region board row)) (bare_regions board rows)) _ e in
      disjoint_more (beside row rows n.0) (disjoint rows n.1)
