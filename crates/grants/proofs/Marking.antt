-- What a grant does to a store, in one piece: the marks that it sets and clears one after the other are one change of the frame, and a
-- grant that finds nothing leaves the store as it was.
use Prim.Native.Nat.{ℕ, ◌*◌}
use mathlib.Core.Bool.{Bool, true, false, not, cond, ◌&&◌}
use mathlib.Core.List.{List, [], ◌∷◌}
use mathlib.Core.Option.{Option, none, some}
use mathlib.Core.Path.{◌≡◌, refl, sym, ap, ◌∙◌}
use native.Mathlib.Omega.{arith}
use Rattle.definition.specs.declared.FrameAllocFlags.{FrameAllocFlags}
use Rattle.definition.specs.Basics.{everywhere, upd}
use Rattle.definition.specs.Board.{Board}
use Rattle.definition.specs.Contents.{filled, frame_bytes, is_zeroed_at, set_not_zero, zero_frame}
use Rattle.definition.specs.Frame.{Found, Frame, Frames, allocate, change, changed, size, with_kernel, with_zeroed}
use Rattle.definition.specs.Allocator.{
  Allocated,
  AllocationRegion,
  PhysicalFrameAllocator,
  behind_region,
  do_alloc,
  laid_out,
  levels_of,
  or_next_region,
  or_second_pass,
  pass,
}
use Rattle.definition.specs.Store.{Memory, Store, mark, with_allocator, with_counters}
use Rattle.definition.specs.Tracker.{
  Granted,
  count_alloc,
  granted,
  hand_over,
  split_frame,
  then_split_frame,
  try_alloc_frame,
  try_alloc_split_frames,
}
use Rattle.definition.proofs.Basics.{upd_same, upd_upd}
use Rattle.region.specs.Rep.{marked}
use Rattle.allocator.specs.Spots.{mark_at, split_at}

-- ---- marks

cleared : (kernel : Bool) (o : Option Frame) → changed (with_kernel kernel) (changed (with_zeroed false) o) ≡ marked false kernel o
cleared kernel none = refl
cleared kernel (some f) = refl

changed_twice : (o : Option Frame) → changed (with_zeroed false) (changed (with_zeroed true) o) ≡ changed (with_zeroed false) o
changed_twice none = refl
changed_twice (some f) = refl

-- two changes of one frame
change_twice : (g h : Frame → Frame) (fs : Frames) (p : ℕ) → change g (change h fs p) p ≡ upd fs p (changed g (changed h (fs p)))
change_twice g h fs p = rw (upd_same fs p (changed h (fs p))) (upd_upd fs p (changed h (fs p)) (changed g (changed h (fs p))))

marks_once
    : (kernel : Bool) (fs : Frames) (p : ℕ)
    → change (with_kernel kernel) (change (with_zeroed false) fs p) p ≡ upd fs p (marked false kernel (fs p))
marks_once kernel fs p = change_twice (with_kernel kernel) (with_zeroed false) fs p ∙ ap (upd fs p) (cleared kernel (fs p))

-- a ZEROED mark that was set is cleared again
marks_twice : (fs : Frames) (p : ℕ) → change (with_zeroed false) (change (with_zeroed true) fs p) p ≡ change (with_zeroed false) fs p
marks_twice fs p = change_twice (with_zeroed false) (with_zeroed true) fs p ∙ ap (upd fs p) (changed_twice (fs p))

-- ---- a frame that is handed over

module _ (board : Board) where
  abbrev pub handed_store : (pages : ℕ) → FrameAllocFlags → Store → ℕ → Store
  handed_store pages flags s p =
      record {
        allocator = mark_at false flags.kernel p s.allocator;
        memory = cond (flags.zeroed && not (is_zeroed_at s p)) (filled (board.page * p) (frame_bytes board s p) 0 s.memory) s.memory;
        counters = count_alloc pages flags.kernel s.counters;
        queue = s.queue;
        kept = s.kept;
        pass = s.pass;
      }

  hand_over_lem : (pages : ℕ) (flags : FrameAllocFlags) (s : Store) (p : ℕ) → hand_over board pages flags s p ≡ handed_store pages flags s p
  unfolding set_not_zero zero_frame
  hand_over_lem pages flags s p = go (flags.zeroed && not (is_zeroed_at s p))
    where
      kernel : Bool
      kernel = flags.kernel

      fs : Frames
      fs = s.allocator.frames

      zeroed : Memory
      zeroed = filled (board.page * p) (frame_bytes board s p) 0 s.memory

      with : Frames → Memory → Store
      with x m =
          record {
            allocator = record { frames = x; regions = s.allocator.regions };
            memory = m;
            counters = count_alloc pages kernel s.counters;
            queue = s.queue;
            kept = s.kept;
            pass = s.pass;
          }

      go : (b : Bool)
          → with_counters (mark (with_kernel kernel) (set_not_zero (cond b (zero_frame board s p) s) p) p)
          (count_alloc pages kernel s.counters)
          ≡ with (upd fs p (marked false kernel (fs p))) (cond b zeroed s.memory)
      go true =
          ap (λ (x : Frames). with x zeroed)
          (ap (λ (x : Frames). change (with_kernel kernel) x p) (marks_twice fs p) ∙ marks_once kernel fs p)
      go false = ap (λ (x : Frames). with x s.memory) (marks_once kernel fs p)

-- ---- a search that finds nothing

next_found : (r : AllocationRegion) (rs : List AllocationRegion) (a : Found) (next : Allocated) (p : ℕ) → a.page ≡ some p
    → or_next_region r rs a next ≡ record { allocator = laid_out r rs a.levels; page = some p }
next_found r rs a next p e = rw e refl

next_none : (r : AllocationRegion) (rs : List AllocationRegion) (a : Found) (next : Allocated) → a.page ≡ none
    → or_next_region r rs a next ≡ record { allocator = behind_region r next.allocator; page = next.page }
next_none r rs a next e = rw e refl

pass_nothing
    : (l : ℕ) (t o : Bool) (fs : Frames) (rs : List AllocationRegion) → (pass everywhere l t o fs rs).page ≡ none
    → (pass everywhere l t o fs rs).allocator ≡ record { frames = fs; regions = rs }
unfolding pass
pass_nothing l t o fs [] e = refl
pass_nothing l t o fs (r ∷ rs) e =
    let a = allocate everywhere l (levels_of fs r) t o in go a a.page refl e (pass_nothing l t o fs rs)
  where
    next : Allocated
    next = pass everywhere l t o fs rs

    go : (a : Found) (x : Option ℕ) → a.page ≡ x → (or_next_region r rs a next).page ≡ none
        → (next.page ≡ none → next.allocator ≡ record { frames = fs; regions = rs })
        → (or_next_region r rs a next).allocator ≡ record { frames = fs; regions = r ∷ rs }
    go a none d e ih =
        let c = next_none r rs a next d in
        ap (λ (x : Allocated). x.allocator) c ∙ ap (behind_region r) (ih (sym (ap (λ (x : Allocated). x.page) c) ∙ e))
    go a (some p) d e ih =
        let c = ap (λ (x : Allocated). x.page) (next_found r rs a next p d) in let z : ◌≡◌ {A = ℕ} 0 1 = cc in absurd (omega arith)

second_is : (a b : Allocated) → a.page ≡ none → or_second_pass a b ≡ b
second_is a b e = rw e refl

first_is : (a b : Allocated) (p : ℕ) → a.page ≡ some p → or_second_pass a b ≡ a
first_is a b p e = rw e refl

pub none_left
    : (l : ℕ) (z : Bool) (a : PhysicalFrameAllocator) → (do_alloc everywhere l z a).page ≡ none
    → (do_alloc everywhere l z a).allocator ≡ a
unfolding do_alloc
none_left l z a e = go (pass everywhere l false z a.frames a.regions) (pass everywhere l false z a.frames a.regions).page refl e
  where
    second : Allocated
    second = pass everywhere l true false a.frames a.regions

    go : (b : Allocated) (x : Option ℕ) → b.page ≡ x → (or_second_pass b second).page ≡ none → (or_second_pass b second).allocator ≡ a
    go b none d e =
        let c = second_is b second d in
        ap (λ (x : Allocated). x.allocator) c
        ∙ pass_nothing l true false a.frames a.regions (sym (ap (λ (x : Allocated). x.page) c) ∙ e)
    go b (some p) d e =
        let c = ap (λ (x : Allocated). x.page) (first_is b second p d) in let z : ◌≡◌ {A = ℕ} 0 1 = cc in absurd (omega arith)

-- ---- a grant

module _ (board : Board) where
  module _ (l : ℕ) (flags : FrameAllocFlags) (s : Store) where
    abbrev found : Allocated
    found = do_alloc everywhere l flags.zeroed s.allocator

    granted_none : (pages : ℕ) (a : Allocated) → a.page ≡ none → granted board pages flags s a ≡ record { store = s; page = none }
    granted_none pages a e = rw e refl

    granted_some : (pages : ℕ) (a : Allocated) (p : ℕ) → a.page ≡ some p
        → granted board pages flags s a ≡ record { store = hand_over board pages flags (with_allocator s a.allocator) p; page = some p }
    granted_some pages a p e = rw e refl

    pub try_none : found.page ≡ none → try_alloc_frame board everywhere l flags s ≡ record { store = s; page = none }
    unfolding try_alloc_frame
    try_none e = granted_none (size l) found e

    pub try_some : (p : ℕ) → found.page ≡ some p
        → try_alloc_frame board everywhere l flags s
        ≡ record { store = handed_store board (size l) flags (with_allocator s found.allocator) p; page = some p }
    unfolding try_alloc_frame
    try_some p e =
        granted_some (size l) found p e
        ∙ ap (λ (t : Store). record { store = t; page = some p }) (hand_over_lem board (size l) flags (with_allocator s found.allocator) p)

-- ---- its split

abbrev pub split_store : Store → ℕ → Store
split_store s p = with_allocator s (split_at p s.allocator)

module _ (board : Board) where
  module _ (l : ℕ) (flags : FrameAllocFlags) (s : Store) where
    abbrev whole : Granted
    whole = try_alloc_frame board everywhere l flags s

    then_none : (g : Granted) → g.page ≡ none → then_split_frame g ≡ g
    then_none g e = rw e refl

    then_some : (g : Granted) (p : ℕ) → g.page ≡ some p → then_split_frame g ≡ record { store = split_store g.store p; page = some p }
    unfolding split_frame
    then_some g p e = rw e refl

    pub split_none : whole.page ≡ none → try_alloc_split_frames board everywhere l flags s ≡ whole
    unfolding try_alloc_split_frames
    split_none e = then_none whole e

    pub split_some
        : (p : ℕ) → whole.page ≡ some p
        → try_alloc_split_frames board everywhere l flags s ≡ record { store = split_store whole.store p; page = some p }
    unfolding try_alloc_split_frames
    split_some p e = then_some whole p e
