-- A free keeps the invariant: the held frame goes on the back of the list of its region, level and mark, and the book strikes it. That the region which has its
-- first page has the whole frame follows from the invariant, because regions share no page.
use Prim.Native.Nat.{ℕ, zero, suc, ◌+◌, ◌≤◌}
use native.Mathlib.Omega.{arith}
use mathlib.Core.Bool.{Bool, true, false, cond}
use mathlib.Core.List.{List, [], ◌∷◌, ◌++◌}
use mathlib.Core.Option.{some}
use mathlib.Core.Path.{◌≡◌, refl, sym, ◌∙◌}
use borrow.Author.Tests.{le-leb, lt-ltb}
use Rattle.definition.specs.Board.{Board}
use Rattle.definition.specs.Basics.{upd, sum}
use Rattle.definition.specs.Frame.{Frame, Frames, size, slot, with_allocated, free}
use Rattle.definition.specs.Allocator.{AllocationRegion, PhysicalFrameAllocator, first, end, contains, levels_of, laid_out, behind_region, free_in}
use Rattle.definition.specs.Store.{Store}
use Rattle.definition.specs.Tracker.{count_free, free_frame}
use Rattle.definition.specs.Book.{Book, with_held, replace, struck}
use Rattle.bookkeeping.specs.Blocks.{
  Block,
  All,
  SixLists,
  listed,
  held_block,
  holding,
  pages_of,
  manages,
  home,
  between,
  has_room,
  lies,
  emptied,
  pages_with_kernel,
  pages_without,
}
use Rattle.bookkeeping.specs.Blocks.All.{all_more}
use Rattle.bookkeeping.proofs.Blocks.{sum_append, size_pos, wrong, fine_same, remark}
use Rattle.bookkeeping.proofs.Frames.{clean_upd}
use Rattle.bookkeeping.proofs.Lists.{lone, pushed, upd_beyond}
use Rattle.bookkeeping.proofs.Search.{between_one, between_facts, alien, strays}
use Rattle.bookkeeping.proofs.Books.{Replaced, held_of, in_book_lem}
use Rattle.bookkeeping.proofs.Invariant.{Blank, room_of, Agree, Aside, aside, home_emptied, lies_emptied, room_lies}

-- where a region has a frame whole it manages its first page
room_manages : (b : Board) (r : AllocationRegion) (p n : ℕ) → 1 ≤ n → has_room b p n r ≤ manages b p r
room_manages b r p n h = go (between (first b r) (end b r) p n) refl
  where
    go : (x : ℕ) → between (first b r) (end b r) p n ≡ x → x ≤ manages b p r
    go zero e = omega arith
    go (suc zero) e =
        let x = between_facts (first b r) (end b r) p n e in
        rw (le-leb (first b r) p x.0, lt-ltb p (end b r) (omega (arith, x.1))) (omega arith)
    go (suc (suc x)) e = absurd (omega (arith, between_one (first b r) (end b r) p n))

lies_home : (b : Board) (rs : List AllocationRegion) (p n : ℕ) → 1 ≤ n → lies b rs p n ≤ home b rs p
unfolding lies home sum
lies_home b [] p n h = omega arith
lies_home b (r ∷ rs) p n h = omega (arith, room_manages b r p n h, lies_home b rs p n h)

-- the regions and frames after a free of the frame f at the page p
pub record Freed (b : Board) (fs : Frames) (rs : List AllocationRegion) (p : ℕ) (f : Frame) (a : PhysicalFrameAllocator) : Type 0 where
  pub frames : a.frames ≡ upd fs p (some (with_allocated false f))
  pub lists : (w : Block → ℕ) → sum w (listed a.regions) ≡ w (lone p f.level f.zeroed) + sum w (listed rs)
  pub shape : emptied a.regions ≡ emptied rs
  pub own : sum (strays b) a.regions ≡ 0
  pub beyond : All SixLists a.regions

module _ (b : Board) (p : ℕ) (f : Frame) (low : f.level ≤ 2) where
  here_freed
      : (fs : Frames) (r : AllocationRegion) (rs : List AllocationRegion) → fs p ≡ some f → has_room b p (size f.level) r ≡ 1 → sum (strays b) (r ∷ rs) ≡ 0
      → SixLists r → All SixLists rs → Freed b fs (r ∷ rs) p f (laid_out r rs (free (levels_of fs r) p))
  unfolding free sum listed emptied
  here_freed fs r rs e i o d ds =
      rw e (record {
        frames = refl;
        lists = λ w. simp sum_append (omega (arith, pushed w r.free f.level f.zeroed p low));
        shape = refl;
        own = omega (arith, pushed (alien (first b r) (end b r)) r.free f.level f.zeroed p low);
        beyond = all_more (upd_beyond r.free f.level f.zeroed (r.free (slot f.level f.zeroed) ++ (p ∷ [])) low d) ds;
      })

  there_freed
      : (fs : Frames) (r : AllocationRegion) (rs : List AllocationRegion) (a : PhysicalFrameAllocator) → sum (strays b) (r ∷ rs) ≡ 0 → SixLists r
      → Freed b fs rs p f a
      → Freed b fs (r ∷ rs) p f (behind_region r a)
  unfolding sum listed emptied
  there_freed fs r rs a o d h =
      record {
        frames = h.frames;
        lists = λ w. simp sum_append (omega (arith, h.lists w));
        shape = rw h.shape;
        own = omega (arith, h.own);
        beyond = all_more d h.beyond;
      }

  pub in_freed
      : (fs : Frames) (rs : List AllocationRegion) → fs p ≡ some f → home b rs p ≤ 1 → 1 ≤ lies b rs p (size f.level) → sum (strays b) rs ≡ 0
      → All SixLists rs → Freed b fs rs p f (free_in b p fs rs)
  unfolding free_in home lies sum
  in_freed fs [] e h i o d = absurd (omega arith)
  in_freed fs (r ∷ rs) e h i o (all_more d ds) = go (λ x y. in_freed fs rs e x y (omega arith) ds) (contains b r p) refl
    where
      go
          : (home b rs p ≤ 1 → 1 ≤ lies b rs p (size f.level) → Freed b fs rs p f (free_in b p fs rs)) → (t : Bool) → contains b r p ≡ t
          → Freed b fs (r ∷ rs) p f (cond t (laid_out r rs (free (levels_of fs r) p)) (behind_region r (free_in b p fs rs)))
      go more true k =
          here_freed fs r rs e
          (omega (
            arith,
            rw k at h,
            lies_home b rs p (size f.level) (size_pos f.level),
            between_one (first b r) (end b r) p (size f.level),
          )) o d ds
      go more false k =
          there_freed fs r rs (free_in b p fs rs) o d
          (more (omega (arith, rw k at h)) (omega (arith, rw k at (room_manages b r p (size f.level) (size_pos f.level)))))

module _ (b : Board) (m : List AllocationRegion) (s : Store) (k : Book) (h : Agree b m s k) (p : ℕ) (f : Frame) where
  -- the frame goes back on its list
  pub free_agree
      : 1 ≤ home b s.allocator.regions p → s.allocator.frames p ≡ some f → f.allocated ≡ true
      → Agree b m (free_frame b s p) (with_held k (replace struck p k.held))
  unfolding free_frame count_free sum
  free_agree i e j =
      rw e (record {
        sound = record {
          shape = x.shape ∙ h.sound.shape;
          fine = rw x.frames (fine_same (λ w. simp sum_append (omega (arith, x.lists w))) (remark (with_allocated false f) refl off.fine));
          own = x.own;
          beyond = x.beyond;
          clean = rw x.frames
              (clean_upd (Blank b s.memory) s.allocator.frames p (with_allocated false f) (λ z. h.sound.clean p f e z) h.sound.clean);
        };
        counted = record {
          idle = omega (arith, h.counted.idle, x.lists pages_of);
          kernel = omega (arith, h.counted.kernel, book.before pages_with_kernel);
          page = omega (arith, h.counted.page, book.before pages_without);
          total = h.counted.total;
          waiting = h.counted.waiting;
        };
        regions = h.regions;
        queue = h.queue;
        room = h.room;
        rounds = h.rounds;
        freed = h.freed;
      })
    where
      book : Replaced struck p k.held (held_of p f)
      book = in_book_lem struck s.allocator.regions k.held p f h.sound.fine e j

      off : Aside b (room_of b m) m s.memory (listed s.allocator.regions ++ holding (replace struck p k.held)) p s.allocator.frames f
      off = aside p f h.sound e j

      right : wrong (room_of b m) (held_block (held_of p f)) ≡ 0
      right = omega (arith, off.fine.right)

      x : Freed b s.allocator.frames s.allocator.regions p f (free_in b p s.allocator.frames s.allocator.regions)
      x =
          in_freed b p f (omega (arith, right)) s.allocator.frames s.allocator.regions e
          (rw (sym (home_emptied b s.allocator.regions p), h.sound.shape) (h.sound.fine.once p))
          (rw (sym (lies_emptied b s.allocator.regions p (size f.level)), h.sound.shape) (omega (arith, right, room_lies b m p (size f.level) (size_pos f.level))))
          h.sound.own h.sound.beyond
