-- What is said of regions by their starts and pages alone, whatever their lists. `OfSpans F` says it of F, and a reader takes from here
-- that such an F has the same value for the regions of a table and of what a call turns it into (`spans_turned`), and for the regions of
-- its rows (`spans_bare`).
use Prim.Native.Nat.{ℕ, ◌+◌}
use mathlib.Core.Bool.{Bool}
use mathlib.Core.List.{List, [], ◌∷◌, map}
use mathlib.Core.Path.{◌≡◌, refl, sym, ap, ◌∙◌}
use Rattle.definition.specs.declared.Record.{Record}
use Rattle.definition.specs.declared.Row.{Row}
use Rattle.definition.specs.Basics.{any, sum}
use Rattle.definition.specs.Board.{Board}
use Rattle.definition.specs.Frame.{Frames}
use Rattle.definition.specs.Allocator.{AllocationRegion, PhysicalFrameAllocator, contains, is_managed, managed, with_free}
use Rattle.definition.specs.Boot.{managed_pages, overlap, shares}
use Rattle.definition.specs.Store.{Memory}
use Rattle.definition.specs.Torn.{bare_regions}
use Rattle.definition.specs.World.{memory_bytes, number_in}
use Rattle.world.specs.Stands.{StandRows}
use Rattle.world.specs.Stands.StandRows.{stand_none, stand_more}
use Rattle.world.specs.Tables.{Table, Turned}
use Rattle.world.proofs.Places.{Runs}
use Rattle.world.proofs.Writing.{Fronts, Rewritten}

-- the regions with no lists
abbrev pub bare : AllocationRegion → AllocationRegion
bare r = with_free r (λ k. [])

abbrev pub bared : List AllocationRegion → List AllocationRegion
bared rs = map bare rs

pub record OfSpans {A : Type 0} (F : List AllocationRegion → A) : Type 0 where
  pub same : (rs : List AllocationRegion) → F (bared rs) ≡ F rs

-- ---- what is so

module _ (board : Board) where
  pub memory_spans : (m : Memory) → OfSpans (memory_bytes board m)
  unfolding memory_bytes
  memory_spans m = record { same = go }
    where
      go : (rs : List AllocationRegion) → memory_bytes board m (bared rs) ≡ memory_bytes board m rs
      go [] = refl
      go (r ∷ rs) = rw (go rs)

  pub managed_spans : OfSpans (managed_pages board)
  unfolding sum
  managed_spans = record { same = go }
    where
      go : (rs : List AllocationRegion) → managed_pages board (bared rs) ≡ managed_pages board rs
      go [] = refl
      go (r ∷ rs) = rw (go rs)

  pub number_spans : (base p : ℕ) → OfSpans (λ (rs : List AllocationRegion). number_in board base rs p)
  unfolding number_in
  number_spans base p = record { same = λ rs. go rs base }
    where
      go : (rs : List AllocationRegion) (base : ℕ) → number_in board base (bared rs) p ≡ number_in board base rs p
      go [] base = refl
      go (r ∷ rs) base = rw (go rs (base + managed board r))

pub any_spans : (test : AllocationRegion → Bool) → ((r : AllocationRegion) → test (bare r) ≡ test r) → OfSpans (any test)
unfolding any
any_spans test e = record { same = go }
  where
    go : (rs : List AllocationRegion) → any test (bared rs) ≡ any test rs
    go [] = refl
    go (r ∷ rs) = rw (e r, go rs)

module _ (board : Board) where
  pub manages_spans : (p : ℕ) → OfSpans (λ (rs : List AllocationRegion). is_managed board rs p)
  unfolding is_managed
  manages_spans p = any_spans (λ r. contains board r p) (λ r. refl)

  pub overlap_spans : OfSpans (overlap board)
  unfolding overlap
  overlap_spans = record { same = go }
    where
      go : (rs : List AllocationRegion) → overlap board (bared rs) ≡ overlap board rs
      go [] = refl
      go (r ∷ rs) = rw ((any_spans (shares board r) (λ t. refl)).same rs, go rs)

-- ---- regions with the same starts and pages

module _ {board : Board} where
  pub stand_bare
      : {f : ℕ → Record} {n : ℕ} {fs : Frames} {base : ℕ} {rows : List Row} {rs : List AllocationRegion}
      → StandRows board f n fs base rows rs
      → bared rs ≡ bare_regions board rows
  unfolding bare_regions
  stand_bare stand_none = refl
  stand_bare (stand_more S rest) = rw (S.start, S.pages, stand_bare rest)

  pub turned_bare
      : {f g : ℕ → Record} {n : ℕ} {rows rows2 : List Row} {a a2 : PhysicalFrameAllocator} → Table board f n rows a
      → Turned board f rows g n rows2 a2
      → bared a2.regions ≡ bared a.regions
  turned_bare T U = stand_bare U.table.stands ∙ U.spans ∙ sym (stand_bare T.stands)

module _ {A : Type 0} {F : List AllocationRegion → A} (S : OfSpans F) where
  pub spans_same : (rs ts : List AllocationRegion) → bared ts ≡ bared rs → F ts ≡ F rs
  spans_same rs ts e = sym (S.same ts) ∙ ap F e ∙ S.same rs

module _ {board : Board} where
  module _ {A : Type 0} {F : List AllocationRegion → A} (S : OfSpans F) where
    pub spans_bare
        : {f : ℕ → Record} {n : ℕ} {fs : Frames} {base : ℕ} {rows : List Row} {rs : List AllocationRegion}
        → StandRows board f n fs base rows rs
        → F rs ≡ F (bare_regions board rows)
    spans_bare {rs = rs} T = sym (S.same rs) ∙ ap F (stand_bare T)

    pub spans_turned
        : {f g : ℕ → Record} {n : ℕ} {rows rows2 : List Row} {a a2 : PhysicalFrameAllocator} → Table board f n rows a
        → Turned board f rows g n rows2 a2
        → F a2.regions ≡ F a.regions
    spans_turned {a = a} {a2 = a2} T U = spans_same S a.regions a2.regions (turned_bare T U)

-- ---- the laws of pages and bytes

module _ {board : Board} where
  -- what is known of the rows holds of the regions that they stand for
  pub runs_bare
      : {f : ℕ → Record} {n : ℕ} {fs : Frames} {base : ℕ} {rows : List Row} {rs : List AllocationRegion}
      → StandRows board f n fs base rows rs
      → {p q k : ℕ} → Runs board (bare_regions board rows) p q k → Runs board rs p q k
  runs_bare T {p} R = record { some_page = R.some_page; each = λ i h. spans_bare (number_spans board 0 (p + i)) T ∙ R.each i h }

module _ (board : Board) where
  -- the managed bytes are the front of the loan still
  module _ (rs ts : List AllocationRegion) (e : bared ts ≡ bared rs) where
    pub memory_same : (m : Memory) (bs : List ℕ) → Fronts board rs m bs → Fronts board ts m bs
    memory_same m bs h = rw (spans_same (memory_spans board m) rs ts e, spans_same (managed_spans board) rs ts e) h

    pub rewritten_same : {m : Memory} {bs cs : List ℕ} → Rewritten board rs bs m cs → Rewritten board ts bs m cs
    rewritten_same {m} {cs = cs} W =
        record { memory = memory_same m cs W.memory; as_long = W.as_long; beyond = rw (spans_same (managed_spans board) rs ts e) W.beyond }
