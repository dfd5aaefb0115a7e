-- A frame's marks as one number, and the tests that read it: each bit is the mark that it stands for, and the frame is read back from its record. A reader takes
-- from here `marks_of_lem` for a frame and `frame_back` for a page's record.
use Prim.Native.Nat.{ℕ, ◌+◌, ◌*◌, ◌/◌, ◌%◌, ◌<◌}
use mathlib.Core.Bool.{Bool, true, false, cond, ◌&&◌}
use mathlib.Core.Option.{Option, none, some}
use mathlib.Core.Path.{◌≡◌, refl}
use native.Mathlib.Omega.{arith}
use borrow.Author.Tests.{lt-ltb}
use lib.Dec.{eqb}
use Rattle.definition.specs.Basics.{bit}
use Rattle.definition.specs.Frame.{Frame, size, slot}
use Rattle.definition.specs.World.{marks_of, level_of, frame_of}
use Rattle.definition.specs.Torn.{held_as}
use Rattle.bookkeeping.specs.Good.{same, held_pages}

pub record Marks (f : Frame) (m : ℕ) : Type 0 where
  pub admitted : m % 2 ≡ 1
  pub few : m < 16
  pub held : m / 2 % 2 ≡ bit f.allocated
  pub zeroed : m / 4 % 2 ≡ bit f.zeroed
  pub kernel : m / 8 % 2 ≡ bit f.kernel

bit_small : (t : Bool) → bit t < 2
bit_small true = omega arith
bit_small false = omega arith

pub marks_of_lem : (f : Frame) → Marks f (marks_of (some f))
marks_of_lem f =
    let a = bit_small f.allocated in
    let z = bit_small f.zeroed in
    let k = bit_small f.kernel in
    record { admitted = omega arith; few = omega arith; held = omega arith; zeroed = omega arith; kernel = omega arith }

pub slot_bit : (l : ℕ) (z : Bool) → l * 2 + bit z ≡ slot l z
slot_bit l true = refl
slot_bit l false = omega arith

-- the frame of the record that has a frame's marks and level
pub frame_back : (o : Option Frame) (e l : ℕ) → frame_of (record { marks = marks_of o; level = level_of o; earlier = e; later = l }) ≡ o
unfolding frame_of
frame_back none e l = refl
frame_back (some f) e l = go f.allocated f.zeroed f.kernel
  where
    go : (a z k : Bool)
        → frame_of (record { marks = 1 + 2 * bit a + 4 * bit z + 8 * bit k; level = f.level; earlier = e; later = l })
        ≡ some (record { level = f.level; allocated = a; zeroed = z; kernel = k })
    go true true true = refl
    go true true false = refl
    go true false true = refl
    go true false false = refl
    go false true true = refl
    go false true false = refl
    go false false true = refl
    go false false false = refl

-- the pages that a record of a held frame counts are the frame's
pub held_same : (kernel : Bool) (f : Frame) (e l : ℕ) → f.level < 3
    → held_as kernel (record { marks = marks_of (some f); level = f.level; earlier = e; later = l }) ≡ held_pages kernel (some f)
held_same kernel f e l h = rw (lt-ltb f.level 3 h) (go f.allocated f.zeroed f.kernel kernel)
  where
    go : (a z k t : Bool)
        → cond (eqb ((1 + 2 * bit a + 4 * bit z + 8 * bit k) / 2 % 2) 1 && eqb ((1 + 2 * bit a + 4 * bit z + 8 * bit k) / 8 % 2) (bit t)) (size f.level) 0
        ≡ cond (a && same k t) (size f.level) 0
    go true true true true = refl
    go true true true false = refl
    go true true false true = refl
    go true true false false = refl
    go true false true true = refl
    go true false true false = refl
    go true false false true = refl
    go true false false false = refl
    go false true true t = refl
    go false true false t = refl
    go false false true t = refl
    go false false false t = refl
