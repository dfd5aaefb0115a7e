-- Frames, their lists and the allocator of one region, after frame.rs. A frame is known by its first page, a page by its page frame
-- number: its address divided by the page size. Sizes are counted in pages. The order is that of frame.rs, but what is used comes first.
use Rattle.std.specs.Prelude.{ℕ, zero, suc, ◌+◌, ◌-◌, ◌*◌, ◌%◌, ◌^◌, Bool, true, false, cond, ◌&&◌, List, [], ◌∷◌, ◌++◌, leb, eqb}
use Rattle.std.proofs.Math.Option.{Option, none, some}
use Rattle.definition.specs.Basics.{upd, Popped, pop_last}

-- 358, Frame: `some` at the first page of a frame, which is then ADMITTED; `none` at a page inside a larger frame
pub record Frame : Type 0 where
  pub level : ℕ
  pub allocated : Bool
  pub zeroed : Bool
  pub kernel : Bool

-- 460, set_free, and 465, set_allocated
abbrev pub with_allocated : Bool → Frame → Frame
with_allocated b f = record { level = f.level; allocated = b; zeroed = f.zeroed; kernel = f.kernel }

-- 443, set_not_zero, and 430, zero, but for the bytes
abbrev pub with_zeroed : Bool → Frame → Frame
with_zeroed b f = record { level = f.level; allocated = f.allocated; zeroed = b; kernel = f.kernel }

-- 470, set_kernel
abbrev pub with_kernel : Bool → Frame → Frame
with_kernel b f = record { level = f.level; allocated = f.allocated; zeroed = f.zeroed; kernel = b }

abbrev pub changed : (Frame → Frame) → Option Frame → Option Frame
changed g none = none
changed g (some f) = some (g f)

abbrev pub is_zeroed : Option Frame → Bool
is_zeroed none = false
is_zeroed (some f) = f.zeroed

abbrev pub is_allocated : Option Frame → Bool
is_allocated none = false
is_allocated (some f) = f.allocated

abbrev pub Frames : Type 0
Frames = ℕ → Option Frame

-- a mark of the frame at a page set or cleared
abbrev pub change : (Frame → Frame) → Frames → ℕ → Frames
change g fs p = upd fs p (changed g (fs p))

-- 69, PHYS_LEVEL_LAYOUTS: the pages of a frame, and its alignment
abbrev pub size : ℕ → ℕ
size l = 512 ^ l

-- 67, NR_LEVELS
abbrev pub levels : ℕ
levels = 3

-- ---- 59, AllocationRegionLevel

-- the six lists of a region by one number: dirty (non_zeroed) and zeroed at each level
abbrev pub slot : ℕ → Bool → ℕ
slot l false = l * 2
slot l true = l * 2 + 1

-- all frames, and the lists of free frames of one region, each from front to back
pub record Levels : Type 0 where
  pub frames : Frames
  pub free : ℕ → List ℕ

-- the frame f at a page, on the back of its list
abbrev pub push : Levels → ℕ → Frame → Levels
push s p f =
    record {
      frames = upd s.frames p (some f);
      free = upd s.free (slot f.level f.zeroed) (s.free (slot f.level f.zeroed) ++ (p ∷ []));
    }

-- what a search leaves, and the page that it found
pub record Found : Type 0 where
  pub levels : Levels
  pub page : Option ℕ

abbrev pub nothing : Levels → Found
nothing s = record { levels = s; page = none }

abbrev pub or_else : Found → Found → Found
or_else a b = elim a.page [ some p ↦ a | none ↦ b ]

abbrev pub popped : Levels → ℕ → Option Popped → Found
popped s k none = nothing s
popped s k (some e) = record { levels = record { frames = s.frames; free = upd s.free k e.rest }; page = some e.last }

-- pop_back of the list k, of the pages that the search may take: a search everywhere is the Rust's
unfoldable pub pop_from : (ℕ → Bool) → Levels → ℕ → Found
pop_from among s k = popped s k (pop_last among (s.free k))

-- 106, allocate: zeroed only; or dirty, then zeroed where that is allowed
unfoldable pub level_allocate : (ℕ → Bool) → Levels → ℕ → (try_zero only_zero : Bool) → Found
level_allocate among s l try_zero only_zero =
    cond only_zero (pop_from among s (slot l true))
    (or_else (pop_from among s (slot l false)) (cond try_zero (pop_from among s (slot l true)) (nothing s)))

-- 127, admit_one: a new frame, free, with no mark but the ZEROED that it is given
abbrev pub admit_one : Levels → ℕ → ℕ → Bool → Levels
admit_one s p l z = push s p (record { level = l; allocated = false; zeroed = z; kernel = false })

-- ---- 76, AllocationRegion

abbrev pub freed : Levels → ℕ → Option Frame → Levels
freed s p none = s
freed s p (some f) = push s p (with_allocated false f)

-- 166, free: clears ALLOCATED only, so KERNEL stays until the next grant or split
unfoldable pub free : Levels → ℕ → Levels
free s p = freed s p (s.frames p)

-- 213 and 253, child_count
abbrev pub child_count : ℕ
child_count = 512

-- 255: the children 1 to i of the frame at a page, of level l
unfoldable pub children : ℕ → Levels → ℕ → ℕ → Bool → Levels
children zero s p l z = s
children (suc i) s p l z = admit_one (children i s p l z) (p + suc i * size l) l z

-- 244, split: a listed frame becomes 512 of level l, of which child 0 is pushed last; they inherit ZEROED only
unfoldable pub split : Levels → ℕ → ℕ → Levels
split s p l =
    let z = is_zeroed (s.frames p) in
    admit_one (children (child_count - 1) s p l z) p l z

abbrev pub then_split : (ℕ → Bool) → ℕ → (try_zero only_zero : Bool) → Found → Found
then_split among l try_zero only_zero a =
    elim a.page [ some p ↦ level_allocate among (split a.levels p l) l try_zero only_zero | none ↦ a ]

-- 182, do_allocate: calls itself for the next larger level, with so many levels left, and splits on return
unfoldable pub do_allocate : (ℕ → Bool) → (left l : ℕ) → Levels → (try_zero only_zero : Bool) → Found
do_allocate among zero l s try_zero only_zero = nothing s
do_allocate among (suc left) l s try_zero only_zero =
    or_else (level_allocate among s l try_zero only_zero)
    (then_split among l try_zero only_zero (do_allocate among left (l + 1) s try_zero only_zero))

abbrev pub set_allocated : Found → Found
set_allocated a =
    elim a.page [
      | some p ↦ record { levels = record { frames = change (with_allocated true) a.levels.frames p; free = a.levels.free }; page = some p }
      | none ↦ a
    ]

-- 195, allocate, at the level that find_level found
unfoldable pub allocate : (ℕ → Bool) → ℕ → Levels → (try_zero only_zero : Bool) → Found
allocate among l s try_zero only_zero = set_allocated (do_allocate among (levels - l) l s try_zero only_zero)

-- 215: the frame c at each of the children 1 to i of a page, of level l
unfoldable pub kept : ℕ → Frames → ℕ → ℕ → Frame → Frames
kept zero fs p l c = fs
kept (suc i) fs p l c = upd (kept i fs p l c) (p + suc i * size l) (some c)

abbrev pub kept_as : Frames → ℕ → ℕ → (ℕ → Frame) → Frames
kept_as fs p zero child = fs
kept_as fs p (suc l) child = upd (kept (child_count - 1) fs p l (child l)) p (some (child l))

-- 01: "Split pieces keep KERNEL"; they keep ZEROED and are held
abbrev pub held_child : Frame → ℕ → Frame
held_child f l = record { level = l; allocated = true; zeroed = f.zeroed; kernel = f.kernel }

abbrev pub kept_at : Frames → ℕ → Option Frame → Frames
kept_at fs p none = fs
kept_at fs p (some f) = kept_as fs p f.level (held_child f)

-- 203, split_and_keep: a held frame becomes 512 held ones; at level 0 nothing changes
unfoldable pub split_and_keep : Frames → ℕ → Frames
split_and_keep fs p = kept_at fs p (fs p)

-- 313, "select level based on alignment and space": the highest level, up to l, that fits
unfoldable pub highest : ℕ → ℕ → ℕ → ℕ
highest zero number left = 0
highest (suc l) number left = cond (eqb (number % size (suc l)) 0 && leb (size (suc l)) left) (suc l) (highest l number left)

-- 308, "Organize into levels": frames from a page up, where so many pages are left. `number` is the page frame number, by which a frame is aligned; it
-- is the page itself, but for the records, which number their pages otherwise and are laid out by the same rule
unfoldable pub organize : ℕ → Levels → (p number left : ℕ) → Levels
organize zero s p number left = s
organize (suc fuel) s p number left =
    let l = highest (levels - 1) number left in
    cond (eqb left 0) s (organize fuel (admit_one s p l false) (p + size l) (number + size l) (left - size l))
