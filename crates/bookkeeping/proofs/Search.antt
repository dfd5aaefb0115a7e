-- A search for a frame keeps the frames fine, the lists to their regions and the zeros zero: pops, splits on the way down, and the two passes over the regions.
-- `Sits` is what holds before and after a search in one region, `Loose` what holds while the frame that was found is on no list.
use Prim.Native.Nat.{ℕ, zero, suc, ◌+◌, ◌-◌, ◌*◌, ◌≤◌, ◌<◌}
use native.Mathlib.Omega.{arith}
use native.Mathlib.Nat.{pow-succ'}
use mathlib.Core.Bool.{Bool, true, false, ◌&&◌}
use mathlib.Core.List.{List, [], ◌∷◌, ◌++◌}
use mathlib.Core.Option.{Option, none, some}
use mathlib.Core.Path.{◌≡◌, refl, ◌∙◌}
use lib.Dec.{leb}
use borrow.Author.Tests.{leb-true, le-leb}
use Rattle.definition.proofs.Basics.{upd_same}
use Rattle.definition.specs.Board.{Board}
use Rattle.definition.specs.Basics.{sum, bit}
use Rattle.definition.specs.Frame.{
  Frame,
  Frames,
  Levels,
  Found,
  size,
  levels,
  is_zeroed,
  with_allocated,
  change,
  or_else,
  level_allocate,
  split,
  then_split,
  do_allocate,
  set_allocated,
  allocate,
}
use Rattle.definition.specs.Allocator.{AllocationRegion, PhysicalFrameAllocator, Allocated, first, end, levels_of, or_next_region, pass, or_second_pass, do_alloc}
use Rattle.bookkeeping.specs.Blocks.{Block, All, region_blocks, SixLists, listed, pages_of, between, emptied}
use Rattle.bookkeeping.specs.Blocks.All.{all_more}
use Rattle.bookkeeping.proofs.Blocks.{sum_append, size_pos, block, Fine, fine_same, remark, cut, children_none, child_within}
use Rattle.bookkeeping.proofs.Frames.{Head, head_of, Clean, clean_upd, clean_cut}
use Rattle.bookkeeping.proofs.Lists.{lone, Pops, level_pops, new_frame, split_law, split_frames, Beyond, split_beyond}

-- ---- between two pages

pub between_one : (low high p n : ℕ) → between low high p n ≤ 1
unfolding between
between_one low high p n = go (leb low p && leb (p + n) high)
  where
    go : (t : Bool) → bit t ≤ 1
    go true = omega arith
    go false = omega arith

pub between_facts : (low high p n : ℕ) → between low high p n ≡ 1 → (low ≤ p) × (p + n ≤ high)
unfolding between
between_facts low high p n e = go (leb low p) refl (leb (p + n) high) refl
  where
    go : (t : Bool) → leb low p ≡ t → (u : Bool) → leb (p + n) high ≡ u → (low ≤ p) × (p + n ≤ high)
    go true i true j = (leb-true low p i, leb-true (p + n) high j)
    go true i false j = absurd (omega (arith, rw (i, j) at e))
    go false i u j = absurd (omega (arith, rw i at e))

pub between_in : (low high p n : ℕ) → low ≤ p → p + n ≤ high → between low high p n ≡ 1
unfolding between
between_in low high p n i j = rw (le-leb low p i, le-leb (p + n) high j)

-- weight: 1 if the block does not lie between the two pages
abbrev pub alien : (low high : ℕ) → Block → ℕ
alien low high x = 1 - between low high x.page (pages_of x)

pub alien_facts : (low high : ℕ) (x : Block) → alien low high x ≡ 0 → (low ≤ x.page) × (x.page + pages_of x ≤ high)
alien_facts low high x h = between_facts low high x.page (pages_of x) (omega (arith, between_one low high x.page (pages_of x)))

-- ---- a search in one region, whose managed pages are from `low` on and before `high`

module _ (fit : ℕ → ℕ) (room : ℕ → ℕ → ℕ) (pages : ℕ) (rest : List Block) (low high : ℕ) (Z : ℕ → Type 0) where
  pub record Sits (s : Levels) : Type 0 where
    pub fine : Fine fit room pages s.frames (region_blocks s.free ++ rest)
    pub own : sum (alien low high) (region_blocks s.free) ≡ 0
    pub beyond : Beyond s.free
    pub clean : Clean Z s.frames

  module _ (among : ℕ → Bool) where
    -- a frame of the level is off the lists
    pub record Loose (l : ℕ) (s : Levels) (p : ℕ) : Type 0 where
      pub mine : among p ≡ true
      pub zeroed : Bool
      pub fine : Fine fit room pages s.frames (lone p l zeroed ∷ (region_blocks s.free ++ rest))
      pub inside : alien low high (lone p l zeroed) ≡ 0
      pub own : sum (alien low high) (region_blocks s.free) ≡ 0
      pub beyond : Beyond s.free
      pub clean : Clean Z s.frames

    abbrev pub LooseIf : ℕ → Levels → Option ℕ → Type 0
    LooseIf l s none = Unit
    LooseIf l s (some p) = Loose l s p

    abbrev pub LooseAs : ℕ → Found → Type 0
    LooseAs l a = LooseIf l a.levels a.page

    loosen : (l : ℕ) (s t : Levels) (o : Option ℕ) → Sits s → Pops among l s t o → LooseIf l t o
    unfolding sum
    loosen l s t none h i = tt
    loosen l s t (some p) h i =
        record {
          mine = i.mine;
          zeroed = i.zeroed;
          fine = rw i.frames (fine_same (λ w. simp sum_append (omega (arith, i.moved w))) h.fine);
          inside = omega (arith, h.own, i.moved (alien low high));
          own = omega (arith, h.own, i.moved (alien low high));
          beyond = i.beyond h.beyond;
          clean = rw i.frames h.clean;
        }

    -- the frame that was found is split, and its children are listed
    split_sits : (l : ℕ) (s : Levels) (p : ℕ) → l ≤ 2 → Loose (l + 1) s p → Sits (split s p l)
    unfolding sum
    split_sits l s p h i = go (head_of i.fine)
      where
        f : Frame
        f = new_frame l (is_zeroed (s.frames p))

        up : l + 1 ≡ suc l
        up = omega arith

        whole : size (l + 1) ≡ 512 * size l
        whole = rw up (pow-succ' 512 l)

        place : (low ≤ p) × (p + size (l + 1) ≤ high)
        place = alien_facts low high (lone p (l + 1) i.zeroed) i.inside

        small : (c : ℕ) → p ≤ c → c + size l ≤ p + 512 * size l → alien low high (lone c l (is_zeroed (s.frames p))) ≡ 0
        small c j k = omega (arith, between_in low high c (size l) (omega (arith, place.0)) (omega (arith, place.1, whole)))

        inner : (n : ℕ) → n < 511 → alien low high (block (p + suc n * size l) (new_frame l (is_zeroed (s.frames p)))) ≡ 0
        inner n j = let c = child_within n 511 (size l) p j in small (p + suc n * size l) c.0 (omega (arith, c.1))

        go : Head s.frames (lone p (l + 1) i.zeroed) → Sits (split s p l)
        go k =
            record {
              fine = rw (split_frames s p l) (fine_same (λ w. simp sum_append (omega (arith, split_law w s p l h))) (cut f up i.fine));
              own = omega (
                arith,
                i.own,
                split_law (alien low high) s p l h,
                small p (omega arith) (omega (arith, size_pos l)),
                children_none (alien low high) 511 p (new_frame l (is_zeroed (s.frames p))) inner,
              );
              beyond = split_beyond s p l h i.beyond;
              clean = rw (split_frames s p l) (clean_cut Z s.frames p k.frame f k.here (k.alike (λ y. y.level) ∙ up) (rw k.here) i.clean);
            }

    or_loose : (l : ℕ) (t : Levels) (o : Option ℕ) (a : Found) → LooseIf l t o → LooseAs l a → LooseAs l (or_else (record { levels = t; page = o }) a)
    or_loose l t none a h k = k
    or_loose l t (some p) a h k = h

    then_loose
        : (l : ℕ) (try_zero only_zero : Bool) (t : Levels) (o : Option ℕ) → l ≤ 2 → LooseIf (l + 1) t o
        → LooseAs l (then_split among l try_zero only_zero (record { levels = t; page = o }))
    then_loose l try_zero only_zero t none h i = tt
    then_loose l try_zero only_zero t (some p) h i =
        let a = level_allocate among (split t p l) l try_zero only_zero in
        loosen l (split t p l) a.levels a.page (split_sits l t p h i) (level_pops among (split t p l) l try_zero only_zero h)

    do_loose : (left l : ℕ) (s : Levels) (try_zero only_zero : Bool) → left + l ≤ 3 → Sits s → LooseAs l (do_allocate among left l s try_zero only_zero)
    unfolding do_allocate
    do_loose zero l s try_zero only_zero h i = tt
    do_loose (suc left) l s try_zero only_zero h i =
        let a = level_allocate among s l try_zero only_zero in
        let up = do_allocate among left (l + 1) s try_zero only_zero in
        or_loose l a.levels a.page (then_split among l try_zero only_zero up)
        (loosen l s a.levels a.page i (level_pops among s l try_zero only_zero (omega arith)))
        (then_loose l try_zero only_zero up.levels up.page (omega arith) (do_loose left (l + 1) s try_zero only_zero (omega arith) i))

    -- the frame that was found is marked ALLOCATED
    pub record Taken (l : ℕ) (s : Levels) (p : ℕ) : Type 0 where
      pub mine : among p ≡ true
      pub frame : Frame
      pub here : s.frames p ≡ some frame
      pub level : frame.level ≡ l
      pub held : frame.allocated ≡ true
      pub fine : Fine fit room pages s.frames (block p frame ∷ (region_blocks s.free ++ rest))
      pub own : sum (alien low high) (region_blocks s.free) ≡ 0
      pub beyond : Beyond s.free
      pub clean : Clean Z s.frames

    abbrev pub TakenIf : ℕ → Levels → Option ℕ → Type 0
    TakenIf l s none = Unit
    TakenIf l s (some p) = Taken l s p

    set_taken : (l : ℕ) (s : Levels) (o : Option ℕ) → LooseIf l s o → let a = set_allocated (record { levels = s; page = o }) in TakenIf l a.levels a.page
    set_taken l s none h = tt
    set_taken l s (some p) h = go (head_of h.fine)
      where
        go
            : Head s.frames (lone p l h.zeroed)
            → Taken l (record { frames = change (with_allocated true) s.frames p; free = s.free }) p
        go k =
            record {
              mine = h.mine;
              frame = with_allocated true k.frame;
              here = rw k.here (upd_same s.frames p (some (with_allocated true k.frame)));
              level = k.alike (λ y. y.level);
              held = refl;
              fine = rw k.here (remark (with_allocated true k.frame) (k.alike (λ y. y.level)) h.fine);
              own = h.own;
              beyond = h.beyond;
              clean = rw k.here (clean_upd Z s.frames p (with_allocated true k.frame) (λ z. h.clean p k.frame k.here z) h.clean);
            }

    pub allocate_taken
        : (l : ℕ) (s : Levels) (try_zero only_zero : Bool) → l ≤ 2 → Sits s
        → TakenIf l (allocate among l s try_zero only_zero).levels (allocate among l s try_zero only_zero).page
    unfolding allocate
    allocate_taken l s try_zero only_zero h i =
        let a = do_allocate among (levels - l) l s try_zero only_zero in
        set_taken l a.levels a.page (do_loose (levels - l) l s try_zero only_zero (omega arith) i)

-- ---- the regions in order

-- the frames on a region's lists that do not lie in it
abbrev pub strays : Board → AllocationRegion → ℕ
strays b r = sum (alien (first b r) (end b r)) (region_blocks r.free)

module _ (b : Board) (fit : ℕ → ℕ) (room : ℕ → ℕ → ℕ) (pages : ℕ) (Z : ℕ → Type 0) (among : ℕ → Bool) where
  -- a held frame of the level is off the lists
  pub record Got (rest : List Block) (l : ℕ) (rs : List AllocationRegion) (a : PhysicalFrameAllocator) (p : ℕ) : Type 0 where
    pub mine : among p ≡ true
    pub frame : Frame
    pub here : a.frames p ≡ some frame
    pub level : frame.level ≡ l
    pub held : frame.allocated ≡ true
    pub fine : Fine fit room pages a.frames (block p frame ∷ (listed a.regions ++ rest))
    pub own : sum (strays b) a.regions ≡ 0
    pub beyond : All SixLists a.regions
    pub clean : Clean Z a.frames
    pub shape : emptied a.regions ≡ emptied rs

  abbrev pub GotIf : List Block → ℕ → List AllocationRegion → PhysicalFrameAllocator → Option ℕ → Type 0
  GotIf rest l rs a none = Unit
  GotIf rest l rs a (some p) = Got rest l rs a p

  abbrev pub GotAs : List Block → ℕ → List AllocationRegion → Allocated → Type 0
  GotAs rest l rs a = GotIf rest l rs a.allocator a.page

  next_got
      : (rest : List Block) (l : ℕ) (fs : Frames) (r : AllocationRegion) (rs : List AllocationRegion) → strays b r + sum (strays b) rs ≡ 0
      → SixLists r → All SixLists rs → (t : Levels) (o : Option ℕ) → TakenIf fit room pages (listed rs ++ rest) (first b r) (end b r) Z among l t o
      → (n : PhysicalFrameAllocator) (u : Option ℕ) → GotIf (region_blocks r.free ++ rest) l rs n u
      → GotAs rest l (r ∷ rs) (or_next_region r rs (record { levels = t; page = o }) (record { allocator = n; page = u }))
  unfolding sum listed emptied
  next_got rest l fs r rs c d ds t (some p) i n u j =
      record {
        mine = i.mine;
        frame = i.frame;
        here = i.here;
        level = i.level;
        held = i.held;
        fine = fine_same (λ w. simp sum_append (omega arith)) i.fine;
        own = omega (arith, i.own);
        beyond = all_more i.beyond ds;
        clean = i.clean;
        shape = refl;
      }
  next_got rest l fs r rs c d ds t none i n none j = tt
  next_got rest l fs r rs c d ds t none i n (some p) j =
      record {
        mine = j.mine;
        frame = j.frame;
        here = j.here;
        level = j.level;
        held = j.held;
        fine = fine_same (λ w. simp sum_append (omega arith)) j.fine;
        own = omega (arith, j.own);
        beyond = all_more d j.beyond;
        clean = j.clean;
        shape = rw j.shape;
      }

  pass_got
      : (rest : List Block) (l : ℕ) (try_zero only_zero : Bool) (fs : Frames) (rs : List AllocationRegion) → l ≤ 2
      → Fine fit room pages fs (listed rs ++ rest) → sum (strays b) rs ≡ 0 → All SixLists rs → Clean Z fs → GotAs rest l rs (pass among l try_zero only_zero fs rs)
  unfolding pass sum listed
  pass_got rest l try_zero only_zero fs [] h i c d z = tt
  pass_got rest l try_zero only_zero fs (r ∷ rs) h i c (all_more d ds) z =
      let a = allocate among l (levels_of fs r) try_zero only_zero in
      let n = pass among l try_zero only_zero fs rs in
      next_got rest l fs r rs c d ds a.levels a.page
      (allocate_taken fit room pages (listed rs ++ rest) (first b r) (end b r) Z among l (levels_of fs r) try_zero only_zero h
      (record { fine = fine_same (λ w. simp sum_append (omega arith)) i; own = omega arith; beyond = d; clean = z }))
      n.allocator n.page
      (pass_got (region_blocks r.free ++ rest) l try_zero only_zero fs rs h (fine_same (λ w. simp sum_append (omega arith)) i) (omega arith) ds z)

  second_got
      : (rest : List Block) (l : ℕ) (rs : List AllocationRegion) (a : PhysicalFrameAllocator) (o : Option ℕ) (n : Allocated) → GotIf rest l rs a o
      → GotAs rest l rs n → GotAs rest l rs (or_second_pass (record { allocator = a; page = o }) n)
  second_got rest l rs a none n i j = j
  second_got rest l rs a (some p) n i j = i

  pub do_got
      : (rest : List Block) (l : ℕ) (needsZero : Bool) (a : PhysicalFrameAllocator) → l ≤ 2 → Fine fit room pages a.frames (listed a.regions ++ rest)
      → sum (strays b) a.regions ≡ 0 → All SixLists a.regions → Clean Z a.frames → GotAs rest l a.regions (do_alloc among l needsZero a)
  unfolding do_alloc
  do_got rest l needsZero a h i c d z =
      let one = pass among l false needsZero a.frames a.regions in
      second_got rest l a.regions one.allocator one.page (pass among l true false a.frames a.regions)
      (pass_got rest l false needsZero a.frames a.regions h i c d z) (pass_got rest l true false a.frames a.regions h i c d z)
