-- What a search finds has the level that was asked for, where a listed frame has the level of its list. A frame that was split on the way is found
-- again as its own child 0: its level's lists had none of the kinds looked for, the search above leaves them so, and child 0 is pushed last.
use Prim.Native.Nat.{ℕ, zero, suc, ◌+◌, ◌-◌, ◌*◌, ◌<◌}
use mathlib.Core.Bool.{Bool, true, false, false≢true, true≢false}
use mathlib.Core.List.{List, [], ◌∷◌}
use mathlib.Core.Option.{Option, none, some, some-injective}
use mathlib.Core.Path.{◌≡◌, refl, sym, ap, ◌∙◌, subst}
use native.Mathlib.Omega.{arith}
use lib.Dec.{eqb}
use borrow.Author.Tests.{eq-eqb}
use Rattle.definition.proofs.Basics.{upd_same, upd_other}
use Rattle.definition.proofs.Tests.{and_left, and_right, or_left, or_right}
use Rattle.definition.specs.Basics.{any, all, is_some, Popped, pop_back, everywhere}
use Rattle.definition.specs.Frame.{
  Frame,
  Frames,
  Levels,
  Found,
  levels,
  slot,
  nothing,
  or_else,
  popped,
  pop_from,
  level_allocate,
  children,
  child_count,
  split,
  is_zeroed,
  then_split,
  do_allocate,
  changed,
  change,
  with_allocated,
  set_allocated,
  allocate,
}
use Rattle.definition.specs.Allocator.{AllocationRegion, PhysicalFrameAllocator, Allocated, levels_of, laid_out, or_next_region, pass, do_alloc}
use Rattle.likeness.specs.Likeness.{has_level}
use Rattle.likeness.proofs.Lists.{popped_back, all_last}
use Rattle.likeness.proofs.Search.{stocked, pop_some, or_some, slots_apart, slot_below, split_others, split_last}

-- the page that was found, if any, has the level
abbrev Fits : ℕ → Found → Type 0
Fits l a = (p : ℕ) → a.page ≡ some p → has_level l (a.levels.frames p) ≡ true

-- the list k holds frames of the level
abbrev Listed : ℕ → Levels → ℕ → Type 0
Listed l s k = all (λ p. has_level l (s.frames p)) (s.free k) ≡ true

found_none : (a : Found) (l : ℕ) → is_some a.page ≡ false → Fits l a
found_none a l h p e = absurd (false≢true (sym h ∙ ap is_some e))

or_fits : (l : ℕ) (a b : Found) → Fits l a → (is_some a.page ≡ false → Fits l b) → Fits l (or_else a b)
or_fits l a b f g = go a.page refl
  where
    go : (o : Option ℕ) → a.page ≡ o → Fits l (elim o as (λ x. Found) [ some p ↦ a | none ↦ b ])
    go (some p) e = f
    go none e = g (ap is_some e)

pop_fits : (l : ℕ) (s : Levels) (k : ℕ) → Listed l s k → Fits l (pop_from everywhere s k)
unfolding pop_from
pop_fits l s k h = go (pop_back (s.free k)) refl
  where
    go : (o : Option Popped) → pop_back (s.free k) ≡ o → Fits l (popped s k o)
    go none e = found_none (nothing s) l refl
    go (some d) e = λ p q.
        let back = popped_back (s.free k) d e in
        let listed = subst (λ (xs : List ℕ). all (λ x. has_level l (s.frames x)) xs ≡ true) back h in
        let last = all_last (λ x. has_level l (s.frames x)) d.rest d.last listed in
        subst (λ (x : ℕ). has_level l (s.frames x) ≡ true) (some-injective d.last p q) last

level_fits : (l : ℕ) (s : Levels) (try_zero only_zero : Bool) → ((z : Bool) → Listed l s (slot l z)) → Fits l (level_allocate everywhere s l try_zero only_zero)
unfolding level_allocate
level_fits l s try_zero true h = pop_fits l s (slot l true) (h true)
level_fits l s true false h =
    or_fits l (pop_from everywhere s (slot l false)) (pop_from everywhere s (slot l true)) (pop_fits l s (slot l false) (h false)) (λ e. pop_fits l s (slot l true) (h true))
level_fits l s false false h =
    or_fits l (pop_from everywhere s (slot l false)) (nothing s) (pop_fits l s (slot l false) (h false)) (λ e. found_none (nothing s) l refl)

-- ---- after a split

pop_frames : (s : Levels) (k : ℕ) → (pop_from everywhere s k).levels.frames ≡ s.frames
unfolding pop_from
pop_frames s k = go (pop_back (s.free k))
  where
    go : (o : Option Popped) → (popped s k o).levels.frames ≡ s.frames
    go none = refl
    go (some d) = refl

child_level : (s : Levels) (p l : ℕ) → has_level l ((split s p l).frames p) ≡ true
unfolding split
child_level s p l =
    ap (has_level l) (upd_same (children (child_count - 1) s p l (is_zeroed (s.frames p))).frames p _) ∙ eq-eqb l l refl

-- the kind that was looked for in vain is found as child 0, or not at all
kind_fits : (t : Levels) (p l : ℕ) (z : Bool) → stocked t.free (slot l z) ≡ false → Fits l (pop_from everywhere (split t p l) (slot l z))
kind_fits t p l z h = go z (is_zeroed (t.frames p)) refl h
  where
    found : (y : Bool) → is_zeroed (t.frames p) ≡ y → Fits l (pop_from everywhere (split t p l) (slot l y))
    found y e q d =
        let same : p ≡ q = some-injective p q (sym (split_last t p l y e) ∙ d) in
        subst (λ (fs : Frames). has_level l (fs q) ≡ true) (sym (pop_frames (split t p l) (slot l y)))
        (subst (λ (x : ℕ). has_level l ((split t p l).frames x) ≡ true) same (child_level t p l))

    missed : (y w : Bool) → is_zeroed (t.frames p) ≡ w → (y ≡ w → ⊥) → stocked t.free (slot l y) ≡ false → Fits l (pop_from everywhere (split t p l) (slot l y))
    missed y w e n k =
        found_none (pop_from everywhere (split t p l) (slot l y)) l
        (pop_some (split t p l) (slot l y)
        ∙ ap (λ (xs : List ℕ). any everywhere xs) (split_others t p l (slot l y) (λ i. slots_apart l y (is_zeroed (t.frames p)) (λ j. n (j ∙ e)) i))
        ∙ k)

    go : (y w : Bool) → is_zeroed (t.frames p) ≡ w → stocked t.free (slot l y) ≡ false → Fits l (pop_from everywhere (split t p l) (slot l y))
    go true true e k = found true e
    go false false e k = found false e
    go true false e k = missed true false e (λ i. true≢false i) k
    go false true e k = missed false true e (λ i. false≢true i) k

-- s had nothing of the kinds that are looked for, and t, what the search above has left, has the same lists of the level
again_fits : (s t : Levels) (p l : ℕ) (try_zero only_zero : Bool) → ((z : Bool) → t.free (slot l z) ≡ s.free (slot l z))
    → is_some (level_allocate everywhere s l try_zero only_zero).page ≡ false → Fits l (level_allocate everywhere (split t p l) l try_zero only_zero)
unfolding level_allocate
again_fits s t p l try_zero only_zero same h = go try_zero only_zero h
  where
    u : Levels
    u = split t p l

    empty : (z : Bool) → is_some (pop_from everywhere s (slot l z)).page ≡ false → Fits l (pop_from everywhere u (slot l z))
    empty z e = kind_fits t p l z (ap (λ (xs : List ℕ). any everywhere xs) (same z) ∙ sym (pop_some s (slot l z)) ∙ e)

    go : (y o : Bool) → is_some (level_allocate everywhere s l y o).page ≡ false → Fits l (level_allocate everywhere u l y o)
    go y true k = empty true k
    go true false k =
        let both = sym (or_some (pop_from everywhere s (slot l false)) (pop_from everywhere s (slot l true))) ∙ k in
        or_fits l (pop_from everywhere u (slot l false)) (pop_from everywhere u (slot l true)) (empty false (or_left (is_some (pop_from everywhere s (slot l false)).page) _ both))
        (λ e. empty true (or_right (is_some (pop_from everywhere s (slot l false)).page) _ both))
    go false false k =
        let both = sym (or_some (pop_from everywhere s (slot l false)) (nothing s)) ∙ k in
        or_fits l (pop_from everywhere u (slot l false)) (nothing u) (empty false (or_left (is_some (pop_from everywhere s (slot l false)).page) false both))
        (λ e. found_none (nothing u) l refl)

-- ---- the search above leaves the lists below

pop_others : (s : Levels) (j k : ℕ) → (k ≡ j → ⊥) → (pop_from everywhere s j).levels.free k ≡ s.free k
unfolding pop_from
pop_others s j k h = go (pop_back (s.free j))
  where
    go : (o : Option Popped) → (popped s j o).levels.free k ≡ s.free k
    go none = refl
    go (some d) = upd_other s.free j d.rest k h

or_others : (a b : Found) (k : ℕ) {xs : List ℕ} → a.levels.free k ≡ xs → b.levels.free k ≡ xs → (or_else a b).levels.free k ≡ xs
or_others a b k {xs} f g = go a.page
  where
    go : (o : Option ℕ) → (elim o as (λ x. Found) [ some p ↦ a | none ↦ b ]).levels.free k ≡ xs
    go (some p) = f
    go none = g

level_others : (s : Levels) (l : ℕ) (try_zero only_zero : Bool) (k : ℕ) → k < l * 2 → (level_allocate everywhere s l try_zero only_zero).levels.free k ≡ s.free k
unfolding level_allocate
level_others s l try_zero true k h = pop_others s (slot l true) k (λ e. omega arith)
level_others s l true false k h =
    or_others (pop_from everywhere s (slot l false)) (pop_from everywhere s (slot l true)) k (pop_others s (slot l false) k (λ e. omega arith))
    (pop_others s (slot l true) k (λ e. omega arith))
level_others s l false false k h = or_others (pop_from everywhere s (slot l false)) (nothing s) k (pop_others s (slot l false) k (λ e. omega arith)) refl

slot_above : (l : ℕ) (z : Bool) (k : ℕ) → k < l * 2 → k ≡ slot l z → ⊥
slot_above l true k h e = omega arith
slot_above l false k h e = omega arith

search_others : (left l : ℕ) (s : Levels) (try_zero only_zero : Bool) (k : ℕ) → k < l * 2
    → (do_allocate everywhere left l s try_zero only_zero).levels.free k ≡ s.free k
unfolding do_allocate
search_others zero l s try_zero only_zero k h = refl
search_others (suc left) l s try_zero only_zero k h =
    or_others (level_allocate everywhere s l try_zero only_zero) (then_split everywhere l try_zero only_zero (do_allocate everywhere left (l + 1) s try_zero only_zero)) k
    (level_others s l try_zero only_zero k h)
    (parts (do_allocate everywhere left (l + 1) s try_zero only_zero) (search_others left (l + 1) s try_zero only_zero k (omega arith)))
  where
    parts : (a : Found) → a.levels.free k ≡ s.free k → (then_split everywhere l try_zero only_zero a).levels.free k ≡ s.free k
    parts a e = go a.page
      where
        go : (o : Option ℕ)
            → (elim o as (λ x. Found) [ some p ↦ level_allocate everywhere (split a.levels p l) l try_zero only_zero | none ↦ a ]).levels.free k ≡ s.free k
        go (some p) =
            level_others (split a.levels p l) l try_zero only_zero k h
            ∙ split_others a.levels p l k (slot_above l (is_zeroed (a.levels.frames p)) k h)
            ∙ e
        go none = e

-- ---- the search, the passes, the grant

search_fits : (left l : ℕ) (s : Levels) (try_zero only_zero : Bool) → ((z : Bool) → Listed l s (slot l z)) → Fits l (do_allocate everywhere left l s try_zero only_zero)
unfolding do_allocate
search_fits zero l s try_zero only_zero h = found_none (nothing s) l refl
search_fits (suc left) l s try_zero only_zero h =
    or_fits l (level_allocate everywhere s l try_zero only_zero) (then_split everywhere l try_zero only_zero above) (level_fits l s try_zero only_zero h) (λ e. go above.page refl e)
  where
    above : Found
    above = do_allocate everywhere left (l + 1) s try_zero only_zero

    go : (o : Option ℕ) → above.page ≡ o → is_some (level_allocate everywhere s l try_zero only_zero).page ≡ false
        → Fits l (elim o as (λ x. Found) [ some p ↦ level_allocate everywhere (split above.levels p l) l try_zero only_zero | none ↦ above ])
    go (some p) d e =
        again_fits s above.levels p l try_zero only_zero (λ z. search_others left (l + 1) s try_zero only_zero (slot l z) (slot_below l z)) e
    go none d e = found_none above l (ap is_some d)

-- a mark that is set leaves the level
pub level_kept : (l : ℕ) (g : Frame → Frame) → ((f : Frame) → (g f).level ≡ f.level) → (fs : Frames) (p : ℕ)
    → has_level l (fs p) ≡ true → has_level l (change g fs p p) ≡ true
level_kept l g same fs p h = ap (has_level l) (upd_same fs p (changed g (fs p))) ∙ go (fs p) h
  where
    go : (o : Option Frame) → has_level l o ≡ true → has_level l (changed g o) ≡ true
    go none k = k
    go (some f) k = ap (λ (m : ℕ). eqb m l) (same f) ∙ k

set_fits : (l : ℕ) (a : Found) → Fits l a → Fits l (set_allocated a)
set_fits l a f = go a.page refl
  where
    go : (o : Option ℕ) → a.page ≡ o
        → Fits l (elim o as (λ x. Found) [
          | some p ↦ record { levels = record { frames = change (with_allocated true) a.levels.frames p; free = a.levels.free }; page = some p }
          | none ↦ a
        ])
    go (some p) e = λ q d.
        let same : p ≡ q = some-injective p q d in
        subst (λ (x : ℕ). has_level l (change (with_allocated true) a.levels.frames p x) ≡ true) same
        (level_kept l (with_allocated true) (λ h. refl) a.levels.frames p (f p e))
    go none e = f

-- the same of a search over all regions
abbrev pub Fitting : ℕ → Allocated → Type 0
Fitting l a = (p : ℕ) → a.page ≡ some p → has_level l (a.allocator.frames p) ≡ true

next_fits : (l : ℕ) (r : AllocationRegion) (rs : List AllocationRegion) (a : Found) (next : Allocated) → Fits l a → Fitting l next
    → Fitting l (or_next_region r rs a next)
next_fits l r rs a next f g = go a.page refl
  where
    go : (o : Option ℕ) → a.page ≡ o
        → Fitting l (elim o as (λ x. Allocated) [
          | some p ↦ record { allocator = laid_out r rs a.levels; page = some p }
          | none ↦ record { allocator = record { frames = next.allocator.frames; regions = r ∷ next.allocator.regions }; page = next.page }
        ])
    go (some p) e = λ q d. f q (e ∙ d)
    go none e = g

module _ (l : ℕ) (fs : Frames) where
  abbrev pub AllListed : List AllocationRegion → Bool → Type 0
  AllListed rs z = all (λ r. all (λ p. has_level l (fs p)) (r.free (slot l z))) rs ≡ true

  pass_fits : (try_zero only_zero : Bool) (rs : List AllocationRegion) → ((z : Bool) → AllListed rs z) → Fitting l (pass everywhere l try_zero only_zero fs rs)
  unfolding pass all allocate
  pass_fits try_zero only_zero [] h = λ p e. absurd (false≢true (ap is_some e))
  pass_fits try_zero only_zero (r ∷ rs) h =
      next_fits l r rs (allocate everywhere l (levels_of fs r) try_zero only_zero) (pass everywhere l try_zero only_zero fs rs)
      (set_fits l (do_allocate everywhere (levels - l) l (levels_of fs r) try_zero only_zero)
      (search_fits (levels - l) l (levels_of fs r) try_zero only_zero (λ z. and_left (all (λ p. has_level l (fs p)) (r.free (slot l z))) _ (h z))))
      (pass_fits try_zero only_zero rs (λ z. and_right (all (λ p. has_level l (fs p)) (r.free (slot l z))) _ (h z)))

pub found_fits : (l : ℕ) (zeroed : Bool) (a : PhysicalFrameAllocator)
    → ((z : Bool) → AllListed l a.frames a.regions z) → Fitting l (do_alloc everywhere l zeroed a)
unfolding do_alloc
found_fits l zeroed a h = go first.page
  where
    first : Allocated
    first = pass everywhere l false zeroed a.frames a.regions

    second : Allocated
    second = pass everywhere l true false a.frames a.regions

    go : (o : Option ℕ) → Fitting l (elim o as (λ x. Allocated) [ some p ↦ first | none ↦ second ])
    go (some p) = pass_fits l a.frames false zeroed a.regions h
    go none = pass_fits l a.frames true false a.regions h
