-- Where the two readings of a split and of a copy come to the same: a frame that KERNEL doesn't mark, or that is a page; a zeroed source whose copy
-- covers the target. Take from it what these clauses of common ground are for.
use Prim.Native.Nat.{ℕ}
use mathlib.Core.Bool.{Bool, true, false, not, cond, ◌&&◌, ◌||◌, false≢true}
use mathlib.Core.Option.{Option, none, some}
use mathlib.Core.Path.{◌≡◌, refl, sym, ap, ◌∙◌}
use lib.Dec.{eqb}
use borrow.Author.Tests.{eqb-true}
use Rattle.definition.specs.Board.{Board}
use Rattle.definition.specs.Frame as Frame
use Rattle.definition.specs.Frame.{Frame, Frames, kept_as, split_and_keep}
use Rattle.definition.specs.Store.{Store, with_frames}
use Rattle.definition.specs.Contents.{frame_bytes, is_zeroed_at, copy_contents_from, zero_range}
use Rattle.definition.specs.Tracker.{split_frame}
use Rattle.definition.specs.Rust as Rust
use Rattle.definition.specs.Rust.{is_kernel, covers_if_zeroed}
use Rattle.likeness.specs.Likeness.{has_level}

-- ---- frame.rs 203, split_and_keep

abbrev child_as : Frame → Bool → ℕ → Frame
child_as f kernel l = record { level = l; allocated = true; zeroed = f.zeroed; kernel = kernel }

kept_plain : (fs : Frames) (p : ℕ) (o : Option Frame) → is_kernel o ≡ false → Rust.kept_at fs p o ≡ Frame.kept_at fs p o
kept_plain fs p none h = refl
kept_plain fs p (some f) h = ap (λ (k : Bool). kept_as fs p f.level (child_as f k)) (sym h)

kept_page : (fs : Frames) (p : ℕ) (o : Option Frame) → has_level 0 o ≡ true → Rust.kept_at fs p o ≡ Frame.kept_at fs p o
kept_page fs p none h = refl
kept_page fs p (some f) h =
    let zero_level = eqb-true f.level 0 h in
    ap (λ (l : ℕ). kept_as fs p l (Rust.held_child f)) zero_level ∙ sym (ap (λ (l : ℕ). kept_as fs p l (Frame.held_child f)) zero_level)

module _ (s : Store) (p : ℕ) where
  split_like : Rust.kept_at s.allocator.frames p (s.allocator.frames p) ≡ Frame.kept_at s.allocator.frames p (s.allocator.frames p)
      → Rust.split_frame s p ≡ split_frame s p
  unfolding Rust.split_frame split_frame split_and_keep
  split_like h = ap (with_frames s) h

  pub split_plain : is_kernel (s.allocator.frames p) ≡ false → Rust.split_frame s p ≡ split_frame s p
  split_plain h = split_like (kept_plain s.allocator.frames p (s.allocator.frames p) h)

  pub split_page : has_level 0 (s.allocator.frames p) ≡ true → Rust.split_frame s p ≡ split_frame s p
  split_page h = split_like (kept_page s.allocator.frames p (s.allocator.frames p) h)

-- ---- frame.rs 491, copy_contents_from

copied : {A : Type 0} (source target covers : Bool) (same marked cleared moved : A) → (not source || (target || covers)) ≡ true
    → cond source (cond target same marked) moved ≡ cond source (cond target same (cond covers marked cleared)) moved
copied true true covers same marked cleared moved h = refl
copied true false true same marked cleared moved h = refl
copied true false false same marked cleared moved h = absurd (false≢true h)
copied false target covers same marked cleared moved h = refl

pub copy_like : (b : Board) (s : Store) (p doff q soff len : ℕ) → covers_if_zeroed b s p doff q len ≡ true
    → Rust.copy_contents_from b s p doff q soff len ≡ copy_contents_from b s p doff q soff len
unfolding Rust.copy_contents_from copy_contents_from Rust.zero_range zero_range
copy_like b s p doff q soff len h =
    copied (is_zeroed_at s q) (is_zeroed_at s p) (eqb doff 0 && eqb len (frame_bytes b s p)) _ _ _ _ h
