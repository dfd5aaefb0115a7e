-- A search finds a frame wherever one of the level or above is listed, and the definition's test for that, `is_listed`, counts the listed blocks. So a grant that
-- the sheet lets pass is always given a frame.
use Prim.Native.Nat.{ℕ, zero, suc, ◌+◌, ◌-◌, ◌≤◌}
use native.Mathlib.Omega.{arith}
use mathlib.Core.Bool.{Bool, true, false, cond, ◌||◌, false≢true}
use mathlib.Core.List.{List, [], ◌∷◌, ◌++◌}
use mathlib.Core.Option.{Option, none, some}
use mathlib.Core.Path.{◌≡◌, refl, sym, ap, ◌∙◌}
use lib.Dec.{leb, ltb}
use borrow.Author.Tests.{lt-ltb}
use Rattle.definition.proofs.Basics.{upd_same}
use Rattle.definition.specs.Basics.{upd, sum, any, bit, range, Popped, or_this, pop_last}
use Rattle.definition.specs.Frame.{
  Frames,
  Levels,
  Found,
  slot,
  levels,
  is_zeroed,
  children,
  or_else,
  popped,
  pop_from,
  level_allocate,
  split,
  then_split,
  do_allocate,
  set_allocated,
  allocate,
}
use Rattle.definition.specs.Allocator.{
  AllocationRegion,
  PhysicalFrameAllocator,
  Allocated,
  levels_of,
  or_next_region,
  pass,
  or_second_pass,
  do_alloc,
  is_listed,
}
use Rattle.bookkeeping.specs.Blocks.{Block, on_list, region_blocks, listed}
use Rattle.bookkeeping.proofs.Blocks.{sum_append}

-- weight: 1 if the block is of the level l or above, and one that a search may take
abbrev pub at_least : (ℕ → Bool) → ℕ → Block → ℕ
at_least among l x = cond (leb l x.level) (bit (among x.page)) 0

-- how many of a list a search may take
unfoldable pub many : (ℕ → Bool) → List ℕ → ℕ
many among xs = sum (λ p. bit (among p)) xs

-- the blocks of one list that count
some_if : (among : ℕ → Bool) (l j : ℕ) (z : Bool) (ps : List ℕ) (t : Bool) → leb l j ≡ t → sum (at_least among l) (on_list j z ps) ≡ cond t (many among ps) 0
unfolding sum on_list many
some_if among l j z [] true e = refl
some_if among l j z [] false e = refl
some_if among l j z (p ∷ ps) true e = rw e (omega (arith, some_if among l j z ps true e))
some_if among l j z (p ∷ ps) false e = rw e (omega (arith, some_if among l j z ps false e))

some_of : (among : ℕ → Bool) (l j : ℕ) (z : Bool) (ps : List ℕ) → sum (at_least among l) (on_list j z ps) ≡ cond (leb l j) (many among ps) 0
some_of among l j z ps = some_if among l j z ps (leb l j) refl

positive : (a n : ℕ) (t : Bool) → t ≡ ltb 0 n → (ltb 0 a || t) ≡ ltb 0 (a + n)
positive zero n t h = let e : n ≡ 0 + n = omega arith in h ∙ ap (ltb 0) e
positive (suc a) n t h = rw (lt-ltb 0 (suc a) (omega arith)) (sym (lt-ltb 0 (suc a + n) (omega arith)))

pair : (a b : ℕ) (n : ℕ) (t : Bool) → t ≡ ltb 0 n → (ltb 0 a || (ltb 0 b || t)) ≡ ltb 0 (a + (b + n))
pair a b n t h = positive a (b + n) (ltb 0 b || t) (positive b n t h)

-- none that passes is left where one passes that is pushed last
not_bare : (among : ℕ → Bool) (xs : List ℕ) (p : ℕ) → among p ≡ true → any among (xs ++ (p ∷ [])) ≡ false → ⊥
unfolding any
not_bare among [] p h e = false≢true (sym e ∙ rw h)
not_bare among (x ∷ xs) p h e = not_bare among xs p h (later (among x) e)
  where
    later : (t : Bool) → (t || any among (xs ++ (p ∷ []))) ≡ false → any among (xs ++ (p ∷ [])) ≡ false
    later true k = absurd (false≢true (sym k))
    later false k = k

-- what a pop answers: one that passes, or there is none
abbrev Bare : (ℕ → Bool) → List ℕ → Option ℕ → Type 0
Bare among xs none = any among xs ≡ false
Bare among xs (some p) = among p ≡ true

last_bare : (among : ℕ → Bool) (s : Levels) (k : ℕ) (xs : List ℕ) → Bare among xs (popped s k (pop_last among xs)).page
unfolding pop_last any
last_bare among s k [] = refl
last_bare among s k (x ∷ xs) = go (among x) refl (pop_last among xs) (last_bare among s k xs)
  where
    go : (t : Bool) → among x ≡ t → (o : Option Popped) → Bare among xs (popped s k o).page → Bare among (x ∷ xs) (popped s k (or_this t x xs o)).page
    go t i (some e) h = h
    go true i none h = i
    go false i none h = rw i h

module _ (among : ℕ → Bool) where
  -- a region's lists from the level l
  from_level
      : (l : ℕ) (free : ℕ → List ℕ) → l ≤ 2
      → sum (at_least among l) (region_blocks free) ≡ many among (free (slot l false)) + many among (free (slot l true)) + sum (at_least among (l + 1)) (region_blocks free)
  unfolding region_blocks
  from_level zero free h = simp (sum_append, some_of) (omega arith)
  from_level (suc zero) free h = simp (sum_append, some_of) (omega arith)
  from_level (suc (suc zero)) free h = simp (sum_append, some_of) (omega arith)
  from_level (suc (suc (suc l))) free h = absurd (omega arith)

  above_all : (free : ℕ → List ℕ) → sum (at_least among 3) (region_blocks free) ≡ 0
  unfolding region_blocks
  above_all free = simp (sum_append, some_of) (omega arith)

  -- ---- the definition's test counts them

  filled : (xs : List ℕ) → any among xs ≡ ltb 0 (many among xs)
  unfolding any many sum
  filled [] = refl
  filled (x ∷ xs) = go (among x) (filled xs)
    where
      go : (t : Bool) → any among xs ≡ ltb 0 (many among xs) → (t || any among xs) ≡ ltb 0 (bit t + many among xs)
      go true h = sym (lt-ltb 0 (1 + many among xs) (omega arith))
      go false h = let e : many among xs ≡ 0 + many among xs = omega arith in h ∙ ap (ltb 0) e

  in_region
      : (l : ℕ) (free : ℕ → List ℕ) → l ≤ 2
      → any (λ k. any among (free k)) (range (slot l false) (slot levels false - slot l false)) ≡ ltb 0 (sum (at_least among l) (region_blocks free))
  unfolding any range region_blocks
  in_region zero free h =
      let n : ℕ → ℕ = λ k. many among (free k) in
      let e : n 0 + (n 1 + (n 2 + (n 3 + (n 4 + (n 5 + 0))))) ≡ n 0 + n 1 + (n 2 + n 3 + (n 4 + n 5)) = omega arith in
      simp (sum_append, some_of, filled)
      (pair (n 0) (n 1) (n 2 + (n 3 + (n 4 + (n 5 + 0)))) _ (pair (n 2) (n 3) (n 4 + (n 5 + 0)) _ (pair (n 4) (n 5) 0 false refl)) ∙ ap (ltb 0) e)
  in_region (suc zero) free h =
      let n : ℕ → ℕ = λ k. many among (free k) in
      let e : n 2 + (n 3 + (n 4 + (n 5 + 0))) ≡ 0 + 0 + (n 2 + n 3 + (n 4 + n 5)) = omega arith in
      simp (sum_append, some_of, filled) (pair (n 2) (n 3) (n 4 + (n 5 + 0)) _ (pair (n 4) (n 5) 0 false refl) ∙ ap (ltb 0) e)
  in_region (suc (suc zero)) free h =
      let n : ℕ → ℕ = λ k. many among (free k) in
      let e : n 4 + (n 5 + 0) ≡ 0 + 0 + (0 + 0 + (n 4 + n 5)) = omega arith in
      simp (sum_append, some_of, filled) (pair (n 4) (n 5) 0 false refl ∙ ap (ltb 0) e)
  in_region (suc (suc (suc l))) free h = absurd (omega arith)

  pub listed_counts : (l : ℕ) (rs : List AllocationRegion) → l ≤ 2 → is_listed among l rs ≡ ltb 0 (sum (at_least among l) (listed rs))
  unfolding is_listed any sum listed
  listed_counts l [] h = refl
  listed_counts l (r ∷ rs) h =
      rw (in_region l r.free h)
      (positive (sum (at_least among l) (region_blocks r.free)) (sum (at_least among l) (listed rs)) (is_listed among l rs) (listed_counts l rs h)
      ∙ ap (ltb 0) (sym (sum_append (at_least among l) (region_blocks r.free) (listed rs))))

  -- ---- where nothing is found, nothing is listed

  abbrev BareBoth : List ℕ → List ℕ → Option ℕ → Type 0
  BareBoth xs ys none = (any among xs ≡ false) × (any among ys ≡ false)
  BareBoth xs ys (some p) = among p ≡ true

  pop_bare : (s : Levels) (k : ℕ) → Bare among (s.free k) (pop_from among s k).page
  unfolding pop_from
  pop_bare s k = last_bare among s k (s.free k)

  or_bare
      : (xs ys : List ℕ) (t : Levels) (o : Option ℕ) (a : Found) → Bare among xs o → Bare among ys a.page
      → BareBoth xs ys (or_else (record { levels = t; page = o }) a).page
  or_bare xs ys t (some p) a h k = h
  or_bare xs ys t none a h k = go a.page k
    where
      go : (o : Option ℕ) → Bare among ys o → BareBoth xs ys o
      go none k = (h, k)
      go (some p) k = k

  -- either kind of a level
  abbrev BareAt : ℕ → Levels → Option ℕ → Type 0
  BareAt l s o = BareBoth (s.free (slot l false)) (s.free (slot l true)) o

  level_bare : (s : Levels) (l : ℕ) → BareAt l s (level_allocate among s l true false).page
  unfolding level_allocate
  level_bare s l =
      let a = pop_from among s (slot l false) in
      or_bare (s.free (slot l false)) (s.free (slot l true)) a.levels a.page (pop_from among s (slot l true)) (pop_bare s (slot l false))
      (pop_bare s (slot l true))

  -- a split leaves one of the two filled
  full
      : (free : ℕ → List ℕ) (l : ℕ) (z : Bool) (xs : List ℕ) (p : ℕ) → among p ≡ true → any among (upd free (slot l z) (xs ++ (p ∷ [])) (slot l false)) ≡ false
      → any among (upd free (slot l z) (xs ++ (p ∷ [])) (slot l true)) ≡ false → ⊥
  full free l true xs p h i j = not_bare among xs p h (sym (ap (any among) (upd_same free (slot l true) (xs ++ (p ∷ [])))) ∙ j)
  full free l false xs p h i j = not_bare among xs p h (sym (ap (any among) (upd_same free (slot l false) (xs ++ (p ∷ [])))) ∙ i)

  split_full : (s : Levels) (p l : ℕ) → among p ≡ true → BareAt l (split s p l) none → ⊥
  unfolding split
  split_full s p l h i =
      let z = is_zeroed (s.frames p) in
      let c = children 511 s p l z in
      full c.free l z (c.free (slot l z)) p h i.0 i.1

  -- none counted
  none_many : (xs : List ℕ) → any among xs ≡ false → many among xs ≡ 0
  none_many xs e = go (many among xs) (sym (filled xs) ∙ e)
    where
      go : (n : ℕ) → ltb 0 n ≡ false → n ≡ 0
      go zero e = refl
      go (suc n) e = absurd (false≢true (sym e ∙ lt-ltb 0 (suc n) (omega arith)))

  -- no answer: nothing at the level or above
  abbrev Lacks : ℕ → Levels → Option ℕ → Type 0
  Lacks l s none = sum (at_least among l) (region_blocks s.free) ≡ 0
  Lacks l s (some p) = among p ≡ true

  then_lacks
      : (l : ℕ) (s : Levels) → l ≤ 2 → (t : Levels) (o : Option ℕ) → Lacks (l + 1) s o → BareAt l s none
      → Lacks l s (then_split among l true false (record { levels = t; page = o })).page
  then_lacks l s h t none i j = omega (arith, from_level l s.free h, none_many (s.free (slot l false)) j.0, none_many (s.free (slot l true)) j.1)
  then_lacks l s h t (some p) i j = go (level_allocate among (split t p l) l true false).page (level_bare (split t p l) l)
    where
      go : (o : Option ℕ) → BareAt l (split t p l) o → Lacks l s o
      go none k = absurd (split_full t p l i k)
      go (some q) k = k

  or_lacks
      : (l : ℕ) (s t : Levels) (o : Option ℕ) (a : Found) → BareAt l s o → (BareAt l s none → Lacks l s a.page)
      → Lacks l s (or_else (record { levels = t; page = o }) a).page
  or_lacks l s t none a h k = k h
  or_lacks l s t (some p) a h k = h

  do_lacks : (left l : ℕ) (s : Levels) → left + l ≡ 3 → Lacks l s (do_allocate among left l s true false).page
  unfolding do_allocate
  do_lacks zero l s h = let e : l ≡ 3 = omega arith in rw e (above_all s.free)
  do_lacks (suc left) l s h =
      let a = level_allocate among s l true false in
      let up = do_allocate among left (l + 1) s true false in
      or_lacks l s a.levels a.page (then_split among l true false up) (level_bare s l)
      (then_lacks l s (omega arith) up.levels up.page (do_lacks left (l + 1) s (omega arith)))

  set_lacks : (l : ℕ) (s t : Levels) (o : Option ℕ) → Lacks l s o → Lacks l s (set_allocated (record { levels = t; page = o })).page
  set_lacks l s t none h = h
  set_lacks l s t (some p) h = h

  allocate_lacks : (l : ℕ) (s : Levels) → l ≤ 2 → Lacks l s (allocate among l s true false).page
  unfolding allocate
  allocate_lacks l s h =
      let a = do_allocate among (levels - l) l s true false in set_lacks l s a.levels a.page (do_lacks (levels - l) l s (omega arith))

  abbrev LacksAll : ℕ → List AllocationRegion → Option ℕ → Type 0
  LacksAll l rs none = sum (at_least among l) (listed rs) ≡ 0
  LacksAll l rs (some p) = Unit

  next_lacks
      : (l : ℕ) (fs : Frames) (r : AllocationRegion) (rs : List AllocationRegion) (t : Levels) (o : Option ℕ) → Lacks l (levels_of fs r) o
      → (n : Allocated) → LacksAll l rs n.page → LacksAll l (r ∷ rs) (or_next_region r rs (record { levels = t; page = o }) n).page
  unfolding listed
  next_lacks l fs r rs t (some p) i n j = tt
  next_lacks l fs r rs t none i n j = go n.page j
    where
      go : (o : Option ℕ) → LacksAll l rs o → LacksAll l (r ∷ rs) o
      go none j = simp sum_append (omega arith)
      go (some p) j = tt

  pass_lacks : (l : ℕ) (fs : Frames) (rs : List AllocationRegion) → l ≤ 2 → LacksAll l rs (pass among l true false fs rs).page
  unfolding pass listed sum
  pass_lacks l fs [] h = refl
  pass_lacks l fs (r ∷ rs) h =
      let a = allocate among l (levels_of fs r) true false in
      next_lacks l fs r rs a.levels a.page (allocate_lacks l (levels_of fs r) h) (pass among l true false fs rs) (pass_lacks l fs rs h)

  second_lacks
      : (l : ℕ) (rs : List AllocationRegion) (a : PhysicalFrameAllocator) (o : Option ℕ) (n : Allocated) → LacksAll l rs n.page
      → LacksAll l rs (or_second_pass (record { allocator = a; page = o }) n).page
  second_lacks l rs a none n j = j
  second_lacks l rs a (some p) n j = tt

  do_alloc_lacks : (l : ℕ) (needsZero : Bool) (a : PhysicalFrameAllocator) → l ≤ 2 → LacksAll l a.regions (do_alloc among l needsZero a).page
  unfolding do_alloc
  do_alloc_lacks l needsZero a h =
      let one = pass among l false needsZero a.frames a.regions in
      second_lacks l a.regions one.allocator one.page (pass among l true false a.frames a.regions) (pass_lacks l a.frames a.regions h)

  -- a search finds a frame wherever one is listed
  pub finds : (l : ℕ) (needsZero : Bool) (a : PhysicalFrameAllocator) → l ≤ 2 → is_listed among l a.regions ≡ true → (p : ℕ) × ((do_alloc among l needsZero a).page ≡ some p)
  finds l needsZero a h i = go (do_alloc among l needsZero a).page refl (do_alloc_lacks l needsZero a h)
    where
      go : (o : Option ℕ) → (do_alloc among l needsZero a).page ≡ o → LacksAll l a.regions o → (p : ℕ) × ((do_alloc among l needsZero a).page ≡ some p)
      go none e j = absurd (false≢true (sym (listed_counts l a.regions h ∙ rw j) ∙ i))
      go (some p) e j = (p, e)
