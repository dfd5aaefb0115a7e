-- A free on common ground: the counter that a held frame is booked in has its pages, so nothing wraps and the Rust's assertion holds; and the books
-- are in order again after it. Take from it that the Rust's free is the store's, one after another.
use Prim.Native.Nat.{ℕ, ◌+◌, ◌-◌, ◌%◌, ◌^◌, ◌≤◌, ◌<◌}
use mathlib.Core.Bool.{Bool, true, false, not, cond, ◌&&◌, ◌||◌, false≢true}
use mathlib.Core.List.{List, [], ◌∷◌}
use mathlib.Core.Option.{Option, none, some}
use mathlib.Core.Path.{◌≡◌, refl, ap, ap₂, ◌∙◌, subst}
use native.Mathlib.Nat.{one-le-pow}
use native.Mathlib.Omega.{arith}
use lib.Dec.{lit<}
use borrow.Author.Tests.{lt-ltb}
use Rattle.definition.proofs.Basics.{upd_same, upd_other}
use Rattle.definition.specs.declared.Counters.{Counters}
use Rattle.definition.specs.Board.{Board}
use Rattle.definition.specs.Basics.{upd, any, sum, member}
use Rattle.definition.specs.Frame as Frame
use Rattle.definition.specs.Frame.{Frame, Frames, size, is_allocated, with_allocated, Levels}
use Rattle.definition.specs.Allocator.{AllocationRegion, PhysicalFrameAllocator, contains, free_in, is_managed, laid_out, levels_of, behind_region}
use Rattle.definition.specs.Store.{Store, with_allocator, with_counters}
use Rattle.definition.specs.Tracker.{count_free, freed_frame, free_frame}
use Rattle.definition.specs.Rust as Rust
use Rattle.definition.specs.Rust.{old_count, all_once}
use Rattle.likeness.specs.Likeness.{Sane, pages_held}
use Rattle.likeness.proofs.Lists.{without, without_it, once_more, once_without, sum_without}

-- ---- the counters

-- frames and the counters that book them
pub record Books (fs : Frames) (c : Counters) : Type 0 where
  pub booked : (kernel : Bool) (ps : List ℕ) → all_once ps ≡ true → sum (λ p. pages_held kernel (fs p)) ps ≤ old_count kernel c
  pub fits : c.idle + (c.kernel_used + c.page_data) < 2 ^ 64

pub sane_books : {s : Store} → Sane s → Books s.allocator.frames s.counters
sane_books S = record { booked = S.booked; fits = S.fits }

size_positive : (l : ℕ) → 0 < size l
size_positive l = one-le-pow l 512 (lit< tt)

minus_exact : (a n : ℕ) → n ≤ a → a < 2 ^ 64 → Rust.minus a n ≡ a - n
minus_exact a n h k = omega arith

counted_like : (n : ℕ) (kernel : Bool) (c : Counters) → n ≤ old_count kernel c → c.idle + (c.kernel_used + c.page_data) < 2 ^ 64
    → Rust.count_free n kernel c ≡ count_free n kernel c
unfolding count_free
counted_like n kernel c h fits = λ i.
    record {
      kernel_used = used kernel h i;
      page_data = paged kernel h i;
      idle = idle kernel h i;
      total = c.total;
      allocated = c.allocated;
      freed = (c.freed + n) % 2 ^ 64;
      reclaimed = c.reclaimed;
      waiting = c.waiting;
      pager_outstanding = c.pager_outstanding;
    }
  where
    used : (k : Bool) → n ≤ old_count k c → cond k (Rust.minus c.kernel_used n) c.kernel_used ≡ c.kernel_used - cond k n 0
    used true e = minus_exact c.kernel_used n e (omega arith)
    used false e = omega arith

    paged : (k : Bool) → n ≤ old_count k c → cond k c.page_data (Rust.minus c.page_data n) ≡ c.page_data - cond k 0 n
    paged true e = omega arith
    paged false e = minus_exact c.page_data n e (omega arith)

    idle : (k : Bool) → n ≤ old_count k c → (c.idle + n) % 2 ^ 64 ≡ c.idle + n
    idle true e = omega arith
    idle false e = omega arith

-- ---- a held frame is booked

held_pages_lem : (f : Frame) → f.allocated ≡ true → pages_held f.kernel (some f) ≡ size f.level
held_pages_lem f h = ap (λ (t : Bool). cond (t && cond f.kernel f.kernel (not f.kernel)) (size f.level) 0) h ∙ go f.kernel
  where
    go : (k : Bool) → cond (cond k k (not k)) (size f.level) 0 ≡ size f.level
    go true = refl
    go false = refl

module _ {fs : Frames} {c : Counters} (B : Books fs c) (p : ℕ) (f : Frame) (at : fs p ≡ some f) (held : f.allocated ≡ true) where
  weight : pages_held f.kernel (fs p) ≡ size f.level
  weight = ap (pages_held f.kernel) at ∙ held_pages_lem f held

  booked_pages : size f.level ≤ old_count f.kernel c
  unfolding sum all_once member any
  booked_pages = omega (arith, weight, B.booked f.kernel (p ∷ []) refl)

  -- the frames and the counters after it is freed
  abbrev pub freed_frames : Frames
  freed_frames = upd fs p (some (with_allocated false f))

  abbrev pub freed_counters : Counters
  freed_counters = count_free (size f.level) f.kernel c

  left_held : (kernel : Bool) (ps : List ℕ)
      → sum (λ q. pages_held kernel (freed_frames q)) ps ≡ sum (λ q. pages_held kernel (fs q)) (without p ps)
  left_held kernel =
      sum_without p (λ q. pages_held kernel (fs q)) (λ q. pages_held kernel (freed_frames q)) (ap (pages_held kernel) (upd_same fs p _))
      (λ q n. ap (pages_held kernel) (upd_other fs p _ q n))

  -- whatever frames are still held, with the freed one they were booked
  others_booked : (kernel : Bool) (ps : List ℕ) → all_once ps ≡ true
      → pages_held kernel (fs p) + sum (λ q. pages_held kernel (freed_frames q)) ps ≤ old_count kernel c
  unfolding sum
  others_booked kernel ps once =
      let all = B.booked kernel (p ∷ without p ps) (once_more p (without p ps) (without_it p ps) (once_without p ps once)) in
      omega (arith, left_held kernel ps, all)

  after_booked : (kernel : Bool) (ps : List ℕ) → all_once ps ≡ true → sum (λ q. pages_held kernel (freed_frames q)) ps ≤ old_count kernel freed_counters
  unfolding count_free
  after_booked kernel ps once = go kernel f.kernel refl (others_booked kernel ps once)
    where
      go : (k l : Bool) → f.kernel ≡ l → pages_held k (fs p) + sum (λ q. pages_held k (freed_frames q)) ps ≤ old_count k c
          → sum (λ q. pages_held k (freed_frames q)) ps ≤ old_count k (count_free (size f.level) l c)
      go true true e h = let w = subst (λ (x : Bool). pages_held x (fs p) ≡ size f.level) e weight in omega arith
      go true false e h = omega arith
      go false true e h = omega arith
      go false false e h = let w = subst (λ (x : Bool). pages_held x (fs p) ≡ size f.level) e weight in omega arith

  after_fits : freed_counters.idle + (freed_counters.kernel_used + freed_counters.page_data) < 2 ^ 64
  unfolding count_free
  after_fits = go f.kernel booked_pages B.fits
    where
      go : (k : Bool) → size f.level ≤ old_count k c → c.idle + (c.kernel_used + c.page_data) < 2 ^ 64
          → c.idle + size f.level + (c.kernel_used - cond k (size f.level) 0 + (c.page_data - cond k 0 (size f.level))) < 2 ^ 64
      go true h fits = omega arith
      go false h fits = omega arith

  pub after_free : Books freed_frames freed_counters
  after_free = record { booked = after_booked; fits = after_fits }

-- ---- what a free does to the frames and the regions

module _ (b : Board) (p : ℕ) (fs : Frames) (f : Frame) (at : fs p ≡ some f) where
  put_back : (s : Levels) → s.frames ≡ fs → (Frame.free s p).frames ≡ upd fs p (some (with_allocated false f))
  unfolding Frame.free
  put_back s e =
      ap (λ (o : Option Frame). (Frame.freed s p o).frames) (ap (λ (gs : Frames). gs p) e ∙ at)
      ∙ ap (λ (gs : Frames). upd gs p (some (with_allocated false f))) e

  pub freed_frames_lem : (rs : List AllocationRegion) → is_managed b rs p ≡ true → (free_in b p fs rs).frames ≡ upd fs p (some (with_allocated false f))
  unfolding free_in is_managed any
  freed_frames_lem [] h = absurd (false≢true h)
  freed_frames_lem (r ∷ rs) h = go (contains b r p) (freed_frames_lem rs) h
    where
      go : (t : Bool) → (is_managed b rs p ≡ true → (free_in b p fs rs).frames ≡ upd fs p (some (with_allocated false f)))
          → (t || is_managed b rs p) ≡ true
          → (cond t (laid_out r rs (Frame.free (levels_of fs r) p)) (behind_region r (free_in b p fs rs))).frames ≡ upd fs p (some (with_allocated false f))
      go true later k = put_back (levels_of fs r) refl
      go false later k = later k

pub freed_managed : (b : Board) (p : ℕ) (fs : Frames) (rs : List AllocationRegion) (q : ℕ)
    → is_managed b (free_in b p fs rs).regions q ≡ is_managed b rs q
unfolding free_in is_managed any
freed_managed b p fs [] q = refl
freed_managed b p fs (r ∷ rs) q = go (contains b r p) (freed_managed b p fs rs q)
  where
    go : (t : Bool) → is_managed b (free_in b p fs rs).regions q ≡ is_managed b rs q
        → is_managed b (cond t (laid_out r rs (Frame.free (levels_of fs r) p)) (behind_region r (free_in b p fs rs))).regions q
        ≡ (contains b r q || is_managed b rs q)
    go true later = refl
    go false later = ap (λ (t : Bool). contains b r q || t) later

-- ---- 41, free_frame

pub free_like : (b : Board) (s : Store) → Books s.allocator.frames s.counters → (p : ℕ) → is_allocated (s.allocator.frames p) ≡ true
    → Rust.free_frame b s p ≡ some (free_frame b s p)
unfolding Rust.free_frame free_frame
free_like b s B p h = go (s.allocator.frames p) refl h
  where
    go : (o : Option Frame) → s.allocator.frames p ≡ o → is_allocated o ≡ true → Rust.freed b s p o ≡ some (freed_frame b s p o)
    go none e k = absurd (false≢true k)
    go (some f) e k =
        let pages = booked_pages B p f e k in
        let old : 0 < old_count f.kernel s.counters = omega (arith, size_positive f.level) in
        let t : PhysicalFrameAllocator = free_in b p s.allocator.frames s.allocator.regions in
        ap₂ (λ (x y : Bool). cond x (cond y (some (Rust.counted (with_allocator s t) (size f.level) f.kernel)) none) none)
        (lt-ltb 0 (old_count f.kernel s.counters) old) k
        ∙ ap (λ (c : Counters). some (with_counters (with_allocator s t) c)) (counted_like (size f.level) f.kernel s.counters pages B.fits)
