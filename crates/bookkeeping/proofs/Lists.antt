-- What pops, pushes and splits make of what a region's lists hold, in weights. Each law says by how much every weight of the lists grows or falls, so that a
-- chain of them is a sum.
use Prim.Native.Nat.{ℕ, zero, suc, ◌+◌, ◌*◌, ◌≤◌}
use native.Mathlib.Omega.{arith}
use mathlib.Core.Bool.{Bool, true, false}
use mathlib.Core.List.{List, [], ◌∷◌, ◌++◌}
use mathlib.Core.Option.{Option, none, some}
use mathlib.Core.Path.{◌≡◌, refl, ◌∙◌}
use Rattle.definition.proofs.Basics.{upd_other}
use Rattle.definition.specs.Basics.{upd, sum, Popped, or_this, pop_last, pop_back}
use Rattle.definition.specs.Frame.{Frame, Levels, Found, slot, size, is_zeroed, children, split, kept, nothing, or_else, popped, pop_from, level_allocate}
use Rattle.bookkeeping.specs.Blocks.{Block, on_list, region_blocks}
use Rattle.bookkeeping.proofs.Blocks.{sum_append, block, child_blocks}

-- a block on a list
abbrev pub lone : ℕ → ℕ → Bool → Block
lone p l z = record { page = p; level = l; held = false; mark = z }

pub on_append : (w : Block → ℕ) (l : ℕ) (z : Bool) (xs ys : List ℕ) → sum w (on_list l z (xs ++ ys)) ≡ sum w (on_list l z xs) + sum w (on_list l z ys)
unfolding sum on_list
on_append w l z [] ys = omega arith
on_append w l z (x ∷ xs) ys = omega (arith, on_append w l z xs ys)

pub single : (w : Block → ℕ) (l : ℕ) (z : Bool) (p : ℕ) → sum w (on_list l z (p ∷ [])) ≡ w (lone p l z)
unfolding sum on_list
single w l z p = omega arith

-- one list of a region changed
pub region_law
    : (w : Block → ℕ) (free : ℕ → List ℕ) (l : ℕ) (z : Bool) (ps : List ℕ) → l ≤ 2
    → sum w (region_blocks (upd free (slot l z) ps)) + sum w (on_list l z (free (slot l z))) ≡ sum w (region_blocks free) + sum w (on_list l z ps)
unfolding region_blocks upd
region_law w free zero true ps h = simp sum_append (omega arith)
region_law w free zero false ps h = simp sum_append (omega arith)
region_law w free (suc zero) true ps h = simp sum_append (omega arith)
region_law w free (suc zero) false ps h = simp sum_append (omega arith)
region_law w free (suc (suc zero)) true ps h = simp sum_append (omega arith)
region_law w free (suc (suc zero)) false ps h = simp sum_append (omega arith)
region_law w free (suc (suc (suc l))) z ps h = absurd (omega arith)

-- pushed on the back
pub pushed
    : (w : Block → ℕ) (free : ℕ → List ℕ) (l : ℕ) (z : Bool) (p : ℕ) → l ≤ 2
    → sum w (region_blocks (upd free (slot l z) (free (slot l z) ++ (p ∷ [])))) ≡ w (lone p l z) + sum w (region_blocks free)
pushed w free l z p h = omega (arith, region_law w free l z (free (slot l z) ++ (p ∷ [])) h, on_append w l z (free (slot l z)) (p ∷ []), single w l z p)

-- the lists past the sixth stay empty
abbrev pub Beyond : (ℕ → List ℕ) → Type 0
Beyond free = (k : ℕ) → 6 ≤ k → free k ≡ []

pub upd_beyond : (free : ℕ → List ℕ) (l : ℕ) (z : Bool) (ps : List ℕ) → l ≤ 2 → Beyond free → Beyond (upd free (slot l z) ps)
upd_beyond free l true ps h i k j = upd_other free (slot l true) ps k (λ e. omega arith) ∙ i k j
upd_beyond free l false ps h i k j = upd_other free (slot l false) ps k (λ e. omega arith) ∙ i k j

-- what pop_back answers
abbrev pub Back : List ℕ → Option Popped → Type 0
Back xs none = xs ≡ []
Back xs (some e) = xs ≡ e.rest ++ (e.last ∷ [])

pub back : (xs : List ℕ) → Back xs (pop_back xs)
unfolding pop_last
back [] = refl
back (x ∷ xs) = go (pop_back xs) (back xs)
  where
    go : (o : Option Popped) → Back xs o → Back (x ∷ xs) (or_this true x xs o)
    go none e = rw e
    go (some p) e = rw e

-- what pop_last answers: the page that it took and the rest weigh what the list did
pub record Took (among : ℕ → Bool) (xs : List ℕ) (e : Popped) : Type 0 where
  pub mine : among e.last ≡ true
  pub moved : (w : Block → ℕ) (l : ℕ) (z : Bool) → sum w (on_list l z xs) ≡ w (lone e.last l z) + sum w (on_list l z e.rest)

abbrev pub Last : (ℕ → Bool) → List ℕ → Option Popped → Type 0
Last among xs none = Unit
Last among xs (some e) = Took among xs e

pub pop_last_lem : (among : ℕ → Bool) (xs : List ℕ) → Last among xs (pop_last among xs)
unfolding pop_last
pop_last_lem among [] = tt
pop_last_lem among (x ∷ xs) = go (among x) refl (pop_last among xs) (pop_last_lem among xs)
  where
    go : (t : Bool) → among x ≡ t → (o : Option Popped) → Last among xs o → Last among (x ∷ xs) (or_this t x xs o)
    go t i (some e) h = record { mine = h.mine; moved = λ w l z. unfold sum on_list in omega (arith, h.moved w l z) }
    go true i none h = record { mine = i; moved = λ w l z. unfold sum on_list in refl }
    go false i none h = tt

-- what a pop answers: a frame less
pub record Less (among : ℕ → Bool) (l : ℕ) (s t : Levels) (p : ℕ) : Type 0 where
  pub mine : among p ≡ true
  pub zeroed : Bool
  pub frames : t.frames ≡ s.frames
  pub beyond : Beyond s.free → Beyond t.free
  pub moved : (w : Block → ℕ) → sum w (region_blocks s.free) ≡ w (lone p l zeroed) + sum w (region_blocks t.free)

abbrev pub Pops : (ℕ → Bool) → ℕ → Levels → Levels → Option ℕ → Type 0
Pops among l s t none = Unit
Pops among l s t (some p) = Less among l s t p

abbrev pub PopsAs : (ℕ → Bool) → ℕ → Levels → Found → Type 0
PopsAs among l s a = Pops among l s a.levels a.page

pop_pops : (among : ℕ → Bool) (s : Levels) (l : ℕ) (z : Bool) → l ≤ 2 → PopsAs among l s (pop_from among s (slot l z))
unfolding pop_from
pop_pops among s l z h = go (pop_last among (s.free (slot l z))) (pop_last_lem among (s.free (slot l z)))
  where
    go : (o : Option Popped) → Last among (s.free (slot l z)) o → PopsAs among l s (popped s (slot l z) o)
    go none e = tt
    go (some p) e =
        record {
          mine = e.mine;
          zeroed = z;
          frames = refl;
          beyond = upd_beyond s.free l z p.rest h;
          moved = λ w. omega (arith, region_law w s.free l z p.rest h, e.moved w l z);
        }

or_pops : (among : ℕ → Bool) (l : ℕ) (s t : Levels) (o : Option ℕ) (a : Found) → Pops among l s t o → PopsAs among l s a → PopsAs among l s (or_else (record { levels = t; page = o }) a)
or_pops among l s t none a h k = k
or_pops among l s t (some p) a h k = h

pub level_pops : (among : ℕ → Bool) (s : Levels) (l : ℕ) (try_zero only_zero : Bool) → l ≤ 2 → PopsAs among l s (level_allocate among s l try_zero only_zero)
unfolding level_allocate
level_pops among s l try_zero true h = pop_pops among s l true h
level_pops among s l true false h =
    let a = pop_from among s (slot l false) in
    or_pops among l s a.levels a.page (pop_from among s (slot l true)) (pop_pops among s l false h) (pop_pops among s l true h)
level_pops among s l false false h =
    let a = pop_from among s (slot l false) in or_pops among l s a.levels a.page (nothing s) (pop_pops among s l false h) tt

-- ---- a listed frame's children, pushed

abbrev pub new_frame : ℕ → Bool → Frame
new_frame l z = record { level = l; allocated = false; zeroed = z; kernel = false }

pub children_law
    : (w : Block → ℕ) (i : ℕ) (s : Levels) (p l : ℕ) (z : Bool) → l ≤ 2
    → sum w (region_blocks (children i s p l z).free) ≡ sum w (child_blocks i p (new_frame l z)) + sum w (region_blocks s.free)
unfolding children child_blocks sum
children_law w zero s p l z h = omega arith
children_law w (suc i) s p l z h = omega (arith, pushed w (children i s p l z).free l z (p + suc i * size l) h, children_law w i s p l z h)

children_beyond : (i : ℕ) (s : Levels) (p l : ℕ) (z : Bool) → l ≤ 2 → Beyond s.free → Beyond (children i s p l z).free
unfolding children
children_beyond zero s p l z h i = i
children_beyond (suc n) s p l z h i =
    let c = (children n s p l z).free in upd_beyond c l z (c (slot l z) ++ ((p + suc n * size l) ∷ [])) h (children_beyond n s p l z h i)

children_frames : (i : ℕ) (s : Levels) (p l : ℕ) (z : Bool) → (children i s p l z).frames ≡ kept i s.frames p l (new_frame l z)
unfolding children kept
children_frames zero s p l z = refl
children_frames (suc i) s p l z = rw (children_frames i s p l z)

pub split_law
    : (w : Block → ℕ) (s : Levels) (p l : ℕ) → l ≤ 2
    → let f = new_frame l (is_zeroed (s.frames p)) in
    sum w (region_blocks (split s p l).free) ≡ w (block p f) + (sum w (child_blocks 511 p f) + sum w (region_blocks s.free))
unfolding split
split_law w s p l h =
    let z = is_zeroed (s.frames p) in omega (arith, pushed w (children 511 s p l z).free l z p h, children_law w 511 s p l z h)

pub split_frames
    : (s : Levels) (p l : ℕ) → let f = new_frame l (is_zeroed (s.frames p)) in (split s p l).frames ≡ upd (kept 511 s.frames p l f) p (some f)
unfolding split
split_frames s p l = rw (children_frames 511 s p l (is_zeroed (s.frames p)))

pub split_beyond : (s : Levels) (p l : ℕ) → l ≤ 2 → Beyond s.free → Beyond (split s p l).free
unfolding split
split_beyond s p l h i =
    let z = is_zeroed (s.frames p) in
    let c = (children 511 s p l z).free in
    upd_beyond c l z (c (slot l z) ++ (p ∷ [])) h (children_beyond 511 s p l z h i)
