-- What a call that the sheet lets pass may count on: of a grant, that a frame of its level or above is listed; of a call on frames, that each is held and that
-- its range stays inside. A reader should take from here that no accepted call is without what it names.
use Prim.Native.Nat.{◌+◌, ◌/◌, ◌≤◌}
use native.Mathlib.Omega.{arith}
use mathlib.Core.Bool.{Bool, true, false, not, cond, ◌&&◌}
use mathlib.Core.List.{List, ◌∷◌, ◌++◌}
use mathlib.Core.Path.{◌≡◌, refl}
use lib.Dec.{leb, ltb}
use borrow.Author.Tests.{ltb-false, le-leb, not-false}
use Rattle.definition.proofs.Passing.{Passed}
use Rattle.definition.proofs.Tests.{any_head}
use Rattle.definition.specs.Board.{Board}
use Rattle.definition.specs.Basics.{any}
use Rattle.definition.specs.Allocator.{is_listed}
use Rattle.definition.specs.Store.{Store}
use Rattle.definition.specs.Contents.{frame_bytes}
use Rattle.definition.specs.Tracker.{starts_frame, is_held}
use Rattle.definition.specs.Calls.{Layout, Range, Names, no_level, bytes_of_level, level_from, find_level, wants, mine, outside, leaves_frame, leaves_region}
use Rattle.bookkeeping.proofs.Invariant.{At, at_of, or-false}

-- ---- the first frame that a call names

pub record Named (b : Board) (s : Store) (r : Range) : Type 0 where
  pub at : At b s r.address
  pub range : r.offset + r.length ≤ frame_bytes b s (r.address / b.page)

pub named : (b : Board) (s : Store) (n : Names) (r : Range) (rs : List Range) → n.frames ≡ r ∷ rs → Passed b s n → Named b s r
named b s n r rs e h =
    record {
      at = at_of b s r.address
          (not-false _ (any_head (outside b s) r (rs ++ n.places) (rw e at h.inside)))
          (not-false _ (any_head (λ (r : Range). not (starts_frame b s r.address)) r rs (rw e at h.starts)))
          (not-false _ (any_head (λ (r : Range). not (is_held b s r.address)) r rs (rw e at h.held)));
      range = ltb-false (frame_bytes b s (r.address / b.page)) (r.offset + r.length)
          (any_head (leaves_frame b s) r rs (rw e at (or-false (any (leaves_frame b s) n.frames) (any (leaves_region b s) n.places) h.ends).0));
    }

-- ---- the level of a grant

third : (t u v : Bool) → v ≡ true → cond t 0 (cond u 1 (cond v 2 3)) ≤ 2
third true u v e = omega arith
third false true v e = omega arith
third false false v e = rw e (omega arith)

pub level_low : (b : Board) (y : Layout) → no_level b y ≡ false → find_level b y ≤ 2
unfolding level_from
level_low b y e =
    let x = or-false (ltb (bytes_of_level b 2) y.size) (ltb (bytes_of_level b 2) y.align) e in
    let i = le-leb y.size (bytes_of_level b 2) (ltb-false (bytes_of_level b 2) y.size x.0) in
    let j = le-leb y.align (bytes_of_level b 2) (ltb-false (bytes_of_level b 2) y.align x.1) in
    third (leb y.size (bytes_of_level b 0) && leb y.align (bytes_of_level b 0)) (leb y.size (bytes_of_level b 1) && leb y.align (bytes_of_level b 1))
    (leb y.size (bytes_of_level b 2) && leb y.align (bytes_of_level b 2)) (rw (i, j))

-- a grant that passes: its level, and that a frame of it or above is listed
pub record Grantable (b : Board) (s : Store) (y : Layout) : Type 0 where
  pub low : find_level b y ≤ 2
  pub listed : is_listed (mine s) (find_level b y) s.allocator.regions ≡ true

unwanted : (t w : Bool) → (t && not w) ≡ false → (t && w) ≡ false → t ≡ false
unwanted true true i j = j
unwanted true false i j = i
unwanted false w i j = refl

pub grantable : (b : Board) (s : Store) (n : Names) (y : Layout) (ys : List Layout) → n.layouts ≡ y ∷ ys → Passed b s n → Grantable b s y
grantable b s n y ys e h =
    record {
      low = level_low b y (any_head (no_level b) y ys (rw e at h.level));
      listed = not-false _ (unwanted (wants b s y) y.flags.wait_ok
          (any_head (λ (y : Layout). wants b s y && not y.flags.wait_ok) y ys (rw e at h.frame))
          (any_head (λ (y : Layout). wants b s y && y.flags.wait_ok) y ys (rw e at h.wait)));
    }
