-- A grant is two passes. Where the first finds a frame, that is the grant. Where it finds nothing it leaves the table as it was, for the same allocator, and the
-- second pass is the grant.
use Rattle.definition.specs.Basics.{everywhere}
use Prim.Native.Nat.{ℕ}
use mathlib.Core.Bool.{Bool, true, false}
use mathlib.Core.List.{List, [], ◌∷◌}
use mathlib.Core.Option.{Option, none, some}
use Rattle.std.specs.Prelude.{Some, None}
use mathlib.Core.Path.{◌≡◌, refl, sym, ap, ◌∙◌}
use native.Mathlib.Omega.{arith}
use Rattle.definition.specs.Board.{Board}
use Rattle.definition.specs.declared.Record.{Record}
use Rattle.definition.specs.declared.Row.{Row}
use Rattle.definition.specs.Frame.{Found, Frames, allocate}
use Rattle.definition.specs.Allocator.{AllocationRegion, Allocated, PhysicalFrameAllocator, behind_region, do_alloc, laid_out, levels_of, or_next_region, or_second_pass, pass}
use Rattle.world.specs.Tables.{Sane, Turned}
use Rattle.allocator.specs.declared.Spot.{Spot}
use Rattle.allocator.specs.Spots.{Picked, PicksBy, number_at, pass_by}
use Rattle.allocator.proofs.Standing.{sane_table, standing}

-- ---- a pass that finds nothing

next_found : (r : AllocationRegion) (rs : List AllocationRegion) (a : Found) (next : Allocated) (p : ℕ) → a.page ≡ some p → or_next_region r rs a next ≡ record { allocator = laid_out r rs a.levels; page = some p }
next_found r rs a next p e = rw e refl

next_none : (r : AllocationRegion) (rs : List AllocationRegion) (a : Found) (next : Allocated) → a.page ≡ none → or_next_region r rs a next ≡ record { allocator = behind_region r next.allocator; page = next.page }
next_none r rs a next e = rw e refl

-- it leaves the allocator as it was
pass_nothing
    : (l : ℕ) (t o : Bool) (fs : Frames) (rs : List AllocationRegion) → (pass everywhere l t o fs rs).page ≡ none → (pass everywhere l t o fs rs).allocator ≡ record { frames = fs; regions = rs }
unfolding pass
pass_nothing l t o fs [] e = refl
pass_nothing l t o fs (r ∷ rs) e = go (allocate everywhere l (levels_of fs r) t o) (allocate everywhere l (levels_of fs r) t o).page refl e (pass_nothing l t o fs rs)
  where
    next : Allocated
    next = pass everywhere l t o fs rs

    go : (a : Found) (x : Option ℕ) → a.page ≡ x → (or_next_region r rs a next).page ≡ none → (next.page ≡ none → next.allocator ≡ record { frames = fs; regions = rs })
        → (or_next_region r rs a next).allocator ≡ record { frames = fs; regions = r ∷ rs }
    go a none d e ih =
        let c = next_none r rs a next d in
        ap (λ (x : Allocated). x.allocator) c ∙ ap (behind_region r) (ih (sym (ap (λ (x : Allocated). x.page) c) ∙ e))
    go a (some p) d e ih =
        let c = ap (λ (x : Allocated). x.page) (next_found r rs a next p d) in let z : ◌≡◌ {A = ℕ} 0 1 = cc in absurd (omega arith)

-- ---- two passes

module _ {board : Board} where
  pub turned_then
      : {f g h : ℕ → Record} {n : ℕ} {rows rows2 rows3 : List Row} {a b : PhysicalFrameAllocator} → Turned board f rows g n rows2 a → Turned board g rows2 h n rows3 b
      → Turned board f rows h n rows3 b
  turned_then A B = record { table = B.table; spans = B.spans ∙ A.spans; outside = λ q k. B.outside q (rw A.spans k) ∙ A.outside q k }

first_is : (a b : Allocated) (p : ℕ) → a.page ≡ some p → or_second_pass a b ≡ a
first_is a b p e = rw e refl

second_is : (a b : Allocated) → a.page ≡ none → or_second_pass a b ≡ b
second_is a b e = rw e refl

module _ {board : Board} where
  module _ {f g : ℕ → Record} {n : ℕ} {rows : List Row} {r : Picked} (l : ℕ) (z : Bool) (P : PicksBy board (pass_by l false z) f rows g n r) where
    pub picks_first : {s : Spot} → r.spot ≡ Some s → PicksBy board (do_alloc everywhere l z) f rows g n r
    unfolding do_alloc
    picks_first {s} e a T =
        let here = rw e at (P a T).picked in
        rw (first_is (pass_by l false z a) (pass_by l true false a) (number_at board r.rows s) here.page) (P a T)

    -- what the second pass asks of the table that the first leaves
    pub second_asks : Sane board f n rows → Sane board g n r.rows
    second_asks S = (P (standing board f rows) (sane_table S)).turned.table.sane

    pub picks_second
        : {h : ℕ → Record} {r2 : Picked} → r.spot ≡ None → PicksBy board (pass_by l true false) g r.rows h n r2
        → PicksBy board (do_alloc everywhere l z) f rows h n r2
    unfolding do_alloc
    picks_second e Q a T =
        let k = rw e at (P a T).picked in
        let A : Turned board f rows g n r.rows a = rw (pass_nothing l false z a.frames a.regions k) at (P a T).turned in
        let y = Q a A.table in
        rw (second_is (pass_by l false z a) (pass_by l true false a) k) (record { turned = turned_then A y.turned; picked = y.picked })
