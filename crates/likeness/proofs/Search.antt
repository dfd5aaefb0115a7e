-- The search for a frame, over any lists. Take from it that it finds one exactly where one is listed at the level or above, whatever the store: this
-- is why a grant is refused for want of memory in both readings at once.
use Prim.Native.Nat.{ℕ, zero, suc, ◌+◌, ◌-◌, ◌*◌, ◌<◌}
use mathlib.Core.Bool.{Bool, true, false, ◌||◌, or-false, or-true, or_assoc, false≢true}
use mathlib.Core.List.{List, [], ◌∷◌, ◌++◌}
use mathlib.Core.Option.{Option, none, some}
use mathlib.Core.Path.{◌≡◌, refl, sym, ap, ap₂, ◌∙◌, subst}
use native.Mathlib.Omega.{arith}
use Rattle.definition.proofs.Tests.{or_left, or_right}
use Rattle.definition.proofs.Basics.{upd_same, upd_other}
use Rattle.definition.specs.Basics.{any, range, is_some, Popped, or_this, pop_last, pop_back, everywhere}
use Rattle.definition.specs.Frame.{
  Frames,
  Levels,
  Found,
  levels,
  slot,
  nothing,
  or_else,
  popped,
  pop_from,
  level_allocate,
  children,
  child_count,
  split,
  is_zeroed,
  then_split,
  do_allocate,
  set_allocated,
  change,
  with_allocated,
  allocate,
}
use Rattle.definition.specs.Allocator.{
  AllocationRegion,
  PhysicalFrameAllocator,
  Allocated,
  levels_of,
  laid_out,
  or_next_region,
  pass,
  or_second_pass,
  do_alloc,
  is_listed,
}
use Rattle.likeness.proofs.Lists.{pop_back_lem}

-- whether the list k has a frame
abbrev pub stocked : (ℕ → List ℕ) → ℕ → Bool
stocked free k = any everywhere (free k)

-- ---- one list, one level

pub pop_some : (s : Levels) (k : ℕ) → is_some (pop_from everywhere s k).page ≡ stocked s.free k
unfolding pop_from pop_last any
pop_some s k = go (s.free k)
  where
    last : (x : ℕ) (xs : List ℕ) (o : Option Popped) → is_some (popped s k (or_this true x xs o)).page ≡ true
    last x xs none = refl
    last x xs (some e) = refl

    go : (xs : List ℕ) → is_some (popped s k (pop_back xs)).page ≡ any everywhere xs
    go [] = refl
    go (x ∷ xs) = last x xs (pop_back xs)

pub or_some : (a b : Found) → is_some (or_else a b).page ≡ is_some a.page || is_some b.page
or_some a b = go a.page refl
  where
    go : (o : Option ℕ) → a.page ≡ o → is_some (elim o as (λ x. Found) [ some p ↦ a | none ↦ b ]).page ≡ is_some o || is_some b.page
    go (some p) e = ap is_some e
    go none e = refl

level_some : (s : Levels) (l : ℕ) → is_some (level_allocate everywhere s l true false).page ≡ stocked s.free (l * 2) || stocked s.free (l * 2 + 1)
unfolding level_allocate
level_some s l =
    or_some (pop_from everywhere s (slot l false)) (pop_from everywhere s (slot l true)) ∙ ap₂ ◌||◌ (pop_some s (slot l false)) (pop_some s (slot l true))

-- whatever kinds are allowed
level_none : (s : Levels) (l : ℕ) (try_zero only_zero : Bool) → stocked s.free (l * 2) ≡ false → stocked s.free (l * 2 + 1) ≡ false
    → is_some (level_allocate everywhere s l try_zero only_zero).page ≡ false
unfolding level_allocate
level_none s l try_zero true d z = pop_some s (slot l true) ∙ z
level_none s l true false d z = level_some s l ∙ ap₂ ◌||◌ d z
level_none s l false false d z = or_some (pop_from everywhere s (slot l false)) (nothing s) ∙ or-false _ ∙ pop_some s (slot l false) ∙ d

level_found : (s : Levels) (l : ℕ) (z : Bool) → is_some (pop_from everywhere s (slot l z)).page ≡ true → is_some (level_allocate everywhere s l true false).page ≡ true
unfolding level_allocate
level_found s l false h =
    or_some (pop_from everywhere s (slot l false)) (pop_from everywhere s (slot l true)) ∙ ap (λ (t : Bool). t || is_some (pop_from everywhere s (slot l true)).page) h
level_found s l true h =
    or_some (pop_from everywhere s (slot l false)) (pop_from everywhere s (slot l true))
    ∙ ap (λ (t : Bool). is_some (pop_from everywhere s (slot l false)).page || t) h
    ∙ or-true (is_some (pop_from everywhere s (slot l false)).page)

-- ---- a frame that is split: its pieces are on one list, child 0 at the back

pub slots_apart : (l : ℕ) (y z : Bool) → (y ≡ z → ⊥) → slot l y ≡ slot l z → ⊥
slots_apart l true true h e = h refl
slots_apart l true false h e = omega arith
slots_apart l false true h e = omega arith
slots_apart l false false h e = h refl

pub slot_below : (l : ℕ) (z : Bool) → slot l z < (l + 1) * 2
slot_below l true = omega arith
slot_below l false = omega arith

children_others : (i : ℕ) (s : Levels) (p l : ℕ) (z : Bool) (k : ℕ) → (k ≡ slot l z → ⊥) → (children i s p l z).free k ≡ s.free k
unfolding children
children_others zero s p l z k h = refl
children_others (suc i) s p l z k h =
    upd_other (children i s p l z).free (slot l z) _ k h ∙ children_others i s p l z k h

pub split_others : (s : Levels) (p l k : ℕ) → (k ≡ slot l (is_zeroed (s.frames p)) → ⊥) → (split s p l).free k ≡ s.free k
unfolding split
split_others s p l k h =
    let z = is_zeroed (s.frames p) in
    upd_other (children (child_count - 1) s p l z).free (slot l z) _ k h ∙ children_others (child_count - 1) s p l z k h

pub split_last : (s : Levels) (p l : ℕ) (z : Bool) → is_zeroed (s.frames p) ≡ z → (pop_from everywhere (split s p l) (slot l z)).page ≡ some p
unfolding pop_from split
split_last s p l z e =
    subst (λ (y : Bool). (pop_from everywhere (split s p l) (slot l y)).page ≡ some p) e
    (ap (λ (xs : List ℕ). (popped (split s p l) k (pop_back xs)).page) (upd_same c.free k (c.free k ++ (p ∷ [])))
    ∙ ap (λ (o : Option Popped). (popped (split s p l) k o).page) (pop_back_lem (c.free k) p))
  where
    k : ℕ
    k = slot l (is_zeroed (s.frames p))

    c : Levels
    c = children (child_count - 1) s p l (is_zeroed (s.frames p))

-- ---- all levels of a region: something is found exactly where something is listed

module _ (test : ℕ → Bool) where
  -- the two lists of a level, and those above
  two_lists : (left l : ℕ)
      → any test (range (l * 2) (suc left * 2)) ≡ (test (l * 2) || test (l * 2 + 1)) || any test (range ((l + 1) * 2) (left * 2))
  unfolding any range
  two_lists left l =
      let double : suc left * 2 ≡ suc (suc (left * 2)) = omega arith in
      let next : l * 2 + 1 + 1 ≡ (l + 1) * 2 = omega arith in
      ap (λ (n : ℕ). any test (range (l * 2) n)) double
      ∙ ap (λ (n : ℕ). test (l * 2) || (test (l * 2 + 1) || any test (range n (left * 2)))) next
      ∙ sym (or_assoc (test (l * 2)) (test (l * 2 + 1)) (any test (range ((l + 1) * 2) (left * 2))))

parts_some : (l : ℕ) (a : Found) → is_some (then_split everywhere l true false a).page ≡ is_some a.page
parts_some l a = go a.page refl
  where
    go : (o : Option ℕ) → a.page ≡ o
        → is_some (elim o as (λ x. Found) [ some p ↦ level_allocate everywhere (split a.levels p l) l true false | none ↦ a ]).page ≡ is_some o
    go (some p) e =
        let z = is_zeroed (a.levels.frames p) in
        level_found (split a.levels p l) l z (ap is_some (split_last a.levels p l z refl))
    go none e = ap is_some e

search_some : (left l : ℕ) (s : Levels) → is_some (do_allocate everywhere left l s true false).page ≡ any (stocked s.free) (range (l * 2) (left * 2))
unfolding do_allocate any range
search_some zero l s = refl
search_some (suc left) l s =
    or_some (level_allocate everywhere s l true false) (then_split everywhere l true false (do_allocate everywhere left (l + 1) s true false))
    ∙ ap₂ ◌||◌ (level_some s l) (parts_some l (do_allocate everywhere left (l + 1) s true false) ∙ search_some left (l + 1) s)
    ∙ sym (two_lists (stocked s.free) left l)

parts_none : (l : ℕ) (try_zero only_zero : Bool) (a : Found) → is_some a.page ≡ false → is_some (then_split everywhere l try_zero only_zero a).page ≡ false
parts_none l try_zero only_zero a h = go a.page refl h
  where
    go : (o : Option ℕ) → a.page ≡ o → is_some o ≡ false
        → is_some (elim o as (λ x. Found) [ some p ↦ level_allocate everywhere (split a.levels p l) l try_zero only_zero | none ↦ a ]).page ≡ false
    go (some p) e k = absurd (false≢true (sym k))
    go none e k = ap is_some e

search_none : (left l : ℕ) (s : Levels) (try_zero only_zero : Bool) → any (stocked s.free) (range (l * 2) (left * 2)) ≡ false
    → is_some (do_allocate everywhere left l s try_zero only_zero).page ≡ false
unfolding do_allocate
search_none zero l s try_zero only_zero h = refl
search_none (suc left) l s try_zero only_zero h =
    let both = sym (two_lists (stocked s.free) left l) ∙ h in
    let here = or_left (stocked s.free (l * 2) || stocked s.free (l * 2 + 1)) _ both in
    or_some (level_allocate everywhere s l try_zero only_zero) (then_split everywhere l try_zero only_zero (do_allocate everywhere left (l + 1) s try_zero only_zero))
    ∙ ap₂ ◌||◌
    (level_none s l try_zero only_zero (or_left (stocked s.free (l * 2)) _ here) (or_right (stocked s.free (l * 2)) _ here))
    (parts_none l try_zero only_zero (do_allocate everywhere left (l + 1) s try_zero only_zero)
    (search_none left (l + 1) s try_zero only_zero (or_right (stocked s.free (l * 2) || stocked s.free (l * 2 + 1)) _ both)))

set_some : (a : Found) → is_some (set_allocated a).page ≡ is_some a.page
set_some a = go a.page refl
  where
    go : (o : Option ℕ) → a.page ≡ o
        → is_some (elim o as (λ x. Found) [
          | some p ↦ record { levels = record { frames = change (with_allocated true) a.levels.frames p; free = a.levels.free }; page = some p }
          | none ↦ a
        ]).page ≡ is_some o
    go (some p) e = refl
    go none e = ap is_some e

-- ---- all regions, in two passes

abbrev stocked_above : ℕ → AllocationRegion → Bool
stocked_above l r = any (stocked r.free) (range (slot l false) (slot levels false - slot l false))

lists_left : (l : ℕ) → (levels - l) * 2 ≡ slot levels false - slot l false
lists_left l = omega arith

allocate_some : (l : ℕ) (fs : Frames) (r : AllocationRegion) → is_some (allocate everywhere l (levels_of fs r) true false).page ≡ stocked_above l r
unfolding allocate
allocate_some l fs r =
    set_some (do_allocate everywhere (levels - l) l (levels_of fs r) true false)
    ∙ search_some (levels - l) l (levels_of fs r)
    ∙ ap (λ (n : ℕ). any (stocked r.free) (range (l * 2) n)) (lists_left l)

allocate_none : (l : ℕ) (fs : Frames) (r : AllocationRegion) (try_zero only_zero : Bool) → stocked_above l r ≡ false
    → is_some (allocate everywhere l (levels_of fs r) try_zero only_zero).page ≡ false
unfolding allocate
allocate_none l fs r try_zero only_zero h =
    set_some (do_allocate everywhere (levels - l) l (levels_of fs r) try_zero only_zero)
    ∙ search_none (levels - l) l (levels_of fs r) try_zero only_zero (ap (λ (n : ℕ). any (stocked r.free) (range (l * 2) n)) (lists_left l) ∙ h)

next_some : (r : AllocationRegion) (rs : List AllocationRegion) (a : Found) (next : Allocated)
    → is_some (or_next_region r rs a next).page ≡ is_some a.page || is_some next.page
next_some r rs a next = go a.page
  where
    go : (o : Option ℕ)
        → is_some (elim o as (λ x. Allocated) [
          | some p ↦ record { allocator = laid_out r rs a.levels; page = some p }
          | none ↦ record { allocator = record { frames = next.allocator.frames; regions = r ∷ next.allocator.regions }; page = next.page }
        ]).page ≡ is_some o || is_some next.page
    go (some p) = refl
    go none = refl

pass_some : (l : ℕ) (fs : Frames) (rs : List AllocationRegion) → is_some (pass everywhere l true false fs rs).page ≡ any (stocked_above l) rs
unfolding pass any
pass_some l fs [] = refl
pass_some l fs (r ∷ rs) =
    next_some r rs (allocate everywhere l (levels_of fs r) true false) (pass everywhere l true false fs rs)
    ∙ ap₂ ◌||◌ (allocate_some l fs r) (pass_some l fs rs)

pass_none : (l : ℕ) (fs : Frames) (rs : List AllocationRegion) (try_zero only_zero : Bool) → any (stocked_above l) rs ≡ false
    → is_some (pass everywhere l try_zero only_zero fs rs).page ≡ false
unfolding pass any
pass_none l fs [] try_zero only_zero h = refl
pass_none l fs (r ∷ rs) try_zero only_zero h =
    next_some r rs (allocate everywhere l (levels_of fs r) try_zero only_zero) (pass everywhere l try_zero only_zero fs rs)
    ∙ ap₂ ◌||◌
    (allocate_none l fs r try_zero only_zero (or_left (stocked_above l r) _ h))
    (pass_none l fs rs try_zero only_zero (or_right (stocked_above l r) _ h))

second_some : (a second : Allocated) → is_some (or_second_pass a second).page ≡ is_some a.page || is_some second.page
second_some a second = go a.page refl
  where
    go : (o : Option ℕ) → a.page ≡ o
        → is_some (elim o as (λ x. Allocated) [ some p ↦ a | none ↦ second ]).page ≡ is_some o || is_some second.page
    go (some p) e = ap is_some e
    go none e = refl

pub found_exactly : (l : ℕ) (zeroed : Bool) (a : PhysicalFrameAllocator) → is_some (do_alloc everywhere l zeroed a).page ≡ is_listed everywhere l a.regions
unfolding do_alloc is_listed
found_exactly l zeroed a =
    second_some (pass everywhere l false zeroed a.frames a.regions) (pass everywhere l true false a.frames a.regions)
    ∙ ap (λ (t : Bool). is_some (pass everywhere l false zeroed a.frames a.regions).page || t) (pass_some l a.frames a.regions)
    ∙ go (any (stocked_above l) a.regions) refl
  where
    go : (t : Bool) → any (stocked_above l) a.regions ≡ t → (is_some (pass everywhere l false zeroed a.frames a.regions).page || t) ≡ t
    go true e = or-true (is_some (pass everywhere l false zeroed a.frames a.regions).page)
    go false e = or-false (is_some (pass everywhere l false zeroed a.frames a.regions).page) ∙ pass_none l a.frames a.regions false zeroed e
