-- Every operation on frames keeps them to the levels: what it writes is of the level that a search asks for, of the level below a frame's own, or of a frame's
-- own. Frees are looked at among the managed pages too, which they leave as they are (`freed_managed`).
use Prim.Native.Nat.{ℕ, zero, suc, ◌+◌, ◌-◌, ◌*◌, ◌≤◌, ◌<◌}
use native.Mathlib.Omega.{arith}
use mathlib.Core.Bool.{Bool, true, false, cond}
use mathlib.Core.List.{List, [], ◌∷◌}
use mathlib.Core.Option.{Option, none, some}
use mathlib.Core.Path.{◌≡◌, refl}
use Rattle.definition.proofs.Basics.{upd_all}
use Rattle.definition.specs.Board.{Board}
use Rattle.definition.specs.Basics.{upd, any, Popped, pop_last}
use Rattle.definition.specs.Frame.{
  Frame,
  Frames,
  Levels,
  Found,
  size,
  levels,
  slot,
  with_allocated,
  changed,
  change,
  is_zeroed,
  nothing,
  or_else,
  popped,
  pop_from,
  level_allocate,
  freed,
  free,
  split,
  then_split,
  do_allocate,
  set_allocated,
  allocate,
  kept,
  kept_as,
  kept_at,
  held_child,
  split_and_keep,
}
use Rattle.definition.specs.Allocator.{
  AllocationRegion,
  PhysicalFrameAllocator,
  Allocated,
  contains,
  levels_of,
  laid_out,
  or_next_region,
  pass,
  or_second_pass,
  do_alloc,
  behind_region,
  free_in,
  is_managed,
}
use Rattle.bookkeeping.specs.Moves.{OfLevel, LeveledAt}
use Rattle.bookkeeping.proofs.Lists.{new_frame, split_frames}

-- ---- frames, at the pages that pass a test

module _ (at : ℕ → Bool) where
  put : (fs : Frames) (p : ℕ) (o : Option Frame) → (at p ≡ true → OfLevel o) → LeveledAt at fs → LeveledAt at (upd fs p o)
  put fs p o h k = upd_all (λ q x. at q ≡ true → OfLevel x) fs p o h (λ q n. k q)

  -- a mark is set or cleared
  pub change_leveled : (g : Frame → Frame) → ((f : Frame) → (g f).level ≡ f.level) → (fs : Frames) (p : ℕ) → LeveledAt at fs → LeveledAt at (change g fs p)
  change_leveled g e fs p h = put fs p (changed g (fs p)) (λ i. go (fs p) (h p i)) h
    where
      go : (o : Option Frame) → OfLevel o → OfLevel (changed g o)
      go none k = k
      go (some f) k = rw (e f) k

  kept_leveled : (i : ℕ) (fs : Frames) (p l : ℕ) (c : Frame) → c.level < levels → LeveledAt at fs → LeveledAt at (kept i fs p l c)
  unfolding kept
  kept_leveled zero fs p l c h k = k
  kept_leveled (suc i) fs p l c h k = put (kept i fs p l c) (p + suc i * size l) (some c) (λ j. h) (kept_leveled i fs p l c h k)

  -- a held frame is split
  pub split_kept : (fs : Frames) (p : ℕ) → at p ≡ true → LeveledAt at fs → LeveledAt at (split_and_keep fs p)
  unfolding split_and_keep
  split_kept fs p i h = go (fs p) (h p i)
    where
      pieces : (f : Frame) (l : ℕ) → l < levels → LeveledAt at (kept_as fs p l (held_child f))
      pieces f zero k = h
      pieces f (suc l) k =
          let c = held_child f l in
          let small : l < levels = omega arith in put (kept 511 fs p l c) p (some c) (λ j. small) (kept_leveled 511 fs p l c small h)

      go : (o : Option Frame) → OfLevel o → LeveledAt at (kept_at fs p o)
      go none k = h
      go (some f) k = pieces f f.level k

  -- a listed frame is split
  split_leveled : (s : Levels) (p l : ℕ) → l < levels → LeveledAt at s.frames → LeveledAt at (split s p l).frames
  split_leveled s p l h k =
      let f = new_frame l (is_zeroed (s.frames p)) in
      rw (split_frames s p l) (put (kept 511 s.frames p l f) p (some f) (λ j. h) (kept_leveled 511 s.frames p l f h k))

-- ---- a search

pop_frames : (among : ℕ → Bool) (s : Levels) (k : ℕ) → (pop_from among s k).levels.frames ≡ s.frames
unfolding pop_from
pop_frames among s k = go (pop_last among (s.free k))
  where
    go : (o : Option Popped) → (popped s k o).levels.frames ≡ s.frames
    go none = refl
    go (some e) = refl

or_frames
    : {fs : Frames} (t : Levels) (o : Option ℕ) (a : Found) → t.frames ≡ fs → a.levels.frames ≡ fs
    → (or_else (record { levels = t; page = o }) a).levels.frames ≡ fs
or_frames t none a h k = k
or_frames t (some p) a h k = h

level_frames : (among : ℕ → Bool) (s : Levels) (l : ℕ) (try_zero only_zero : Bool) → (level_allocate among s l try_zero only_zero).levels.frames ≡ s.frames
unfolding level_allocate
level_frames among s l try_zero true = pop_frames among s (slot l true)
level_frames among s l true false =
    let a = pop_from among s (slot l false) in
    or_frames a.levels a.page (pop_from among s (slot l true)) (pop_frames among s (slot l false)) (pop_frames among s (slot l true))
level_frames among s l false false =
    let a = pop_from among s (slot l false) in or_frames a.levels a.page (nothing s) (pop_frames among s (slot l false)) refl

module _ (at among : ℕ → Bool) (try_zero only_zero : Bool) where
  -- a page is found among t's lists, or else a was
  or_leveled
      : (t : Levels) (o : Option ℕ) (a : Found) → LeveledAt at t.frames → LeveledAt at a.levels.frames
      → LeveledAt at (or_else (record { levels = t; page = o }) a).levels.frames
  or_leveled t none a h k = k
  or_leveled t (some p) a h k = h

  then_leveled
      : (l : ℕ) → l < levels → (t : Levels) (o : Option ℕ) → LeveledAt at t.frames
      → LeveledAt at (then_split among l try_zero only_zero (record { levels = t; page = o })).levels.frames
  then_leveled l i t none h = h
  then_leveled l i t (some p) h = rw (level_frames among (split t p l) l try_zero only_zero) (split_leveled at t p l i h)

  search_leveled
      : (left l : ℕ) (s : Levels) → left ≤ levels - l → LeveledAt at s.frames
      → LeveledAt at (do_allocate among left l s try_zero only_zero).levels.frames
  unfolding do_allocate
  search_leveled zero l s i h = h
  search_leveled (suc left) l s i h =
      let here = level_allocate among s l try_zero only_zero in
      let above = do_allocate among left (l + 1) s try_zero only_zero in
      or_leveled here.levels here.page (then_split among l try_zero only_zero above) (rw (level_frames among s l try_zero only_zero) h)
      (then_leveled l (omega arith) above.levels above.page (search_leveled left (l + 1) s (omega arith) h))

  held_leveled : (t : Levels) (o : Option ℕ) → LeveledAt at t.frames → LeveledAt at (set_allocated (record { levels = t; page = o })).levels.frames
  held_leveled t none h = h
  held_leveled t (some p) h = change_leveled at (with_allocated true) (λ f. refl) t.frames p h

  allocate_leveled : (l : ℕ) (s : Levels) → LeveledAt at s.frames → LeveledAt at (allocate among l s try_zero only_zero).levels.frames
  unfolding allocate
  allocate_leveled l s h =
      let a = do_allocate among (levels - l) l s try_zero only_zero in
      held_leveled a.levels a.page (search_leveled (levels - l) l s (omega arith) h)

  pass_leveled : (l : ℕ) (fs : Frames) (rs : List AllocationRegion) → LeveledAt at fs → LeveledAt at (pass among l try_zero only_zero fs rs).allocator.frames
  unfolding pass
  pass_leveled l fs [] h = h
  pass_leveled l fs (r ∷ rs) h =
      let a = allocate among l (levels_of fs r) try_zero only_zero in
      go a.levels a.page (allocate_leveled l (levels_of fs r) h) (pass among l try_zero only_zero fs rs) (pass_leveled l fs rs h)
    where
      go
          : (t : Levels) (o : Option ℕ) → LeveledAt at t.frames → (next : Allocated) → LeveledAt at next.allocator.frames
          → LeveledAt at (or_next_region r rs (record { levels = t; page = o }) next).allocator.frames
      go t none i next k = k
      go t (some p) i next k = i

pub grant_leveled
    : (at among : ℕ → Bool) (l : ℕ) (zeroed : Bool) (a : PhysicalFrameAllocator) → LeveledAt at a.frames
    → LeveledAt at (do_alloc among l zeroed a).allocator.frames
unfolding do_alloc
grant_leveled at among l zeroed a h =
    let x = pass among l false zeroed a.frames a.regions in
    go x.allocator x.page (pass_leveled at among false zeroed l a.frames a.regions h)
  where
    go
        : (c : PhysicalFrameAllocator) (o : Option ℕ) → LeveledAt at c.frames
        → LeveledAt at (or_second_pass (record { allocator = c; page = o }) (pass among l true false a.frames a.regions)).allocator.frames
    go c none i = pass_leveled at among true false l a.frames a.regions h
    go c (some p) i = i

-- ---- a free

module _ (b : Board) (p : ℕ) (fs : Frames) where
  pub free_leveled : (at : ℕ → Bool) (rs : List AllocationRegion) → LeveledAt at fs → LeveledAt at (free_in b p fs rs).frames
  unfolding free_in free
  free_leveled at [] h = h
  free_leveled at (r ∷ rs) h = go (contains b r p) (free_leveled at rs h)
    where
      here : (o : Option Frame) → (at p ≡ true → OfLevel o) → LeveledAt at (freed (levels_of fs r) p o).frames
      here none k = h
      here (some f) k = put at fs p (some (with_allocated false f)) k h

      go
          : (t : Bool) → LeveledAt at (free_in b p fs rs).frames
          → LeveledAt at (cond t (laid_out r rs (free (levels_of fs r) p)) (behind_region r (free_in b p fs rs))).frames
      go true k = here (fs p) (h p)
      go false k = k

  pub freed_managed : (rs : List AllocationRegion) (q : ℕ) → is_managed b (free_in b p fs rs).regions q ≡ is_managed b rs q
  unfolding free_in is_managed any
  freed_managed [] q = refl
  freed_managed (r ∷ rs) q = go (contains b r p) (freed_managed rs q)
    where
      go
          : (t : Bool) → is_managed b (free_in b p fs rs).regions q ≡ is_managed b rs q
          → is_managed b (cond t (laid_out r rs (free (levels_of fs r) p)) (behind_region r (free_in b p fs rs))).regions q ≡ is_managed b (r ∷ rs) q
      go true e = refl
      go false e = rw e
