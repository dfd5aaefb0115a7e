-- A grant and a split keep the invariant: a grant hands over the frame that the search found, zeroed where that was asked, and the book holds it; a split makes
-- 512 held pieces of a held frame, and the book counts them as pieces.
use Prim.Native.Nat.{ℕ, zero, suc, ◌+◌, ◌*◌, ◌≤◌, ◌<◌}
use native.Mathlib.Omega.{arith}
use mathlib.Core.Bool.{Bool, true, false, not, cond, ◌&&◌, false≢true}
use mathlib.Core.List.{List, ◌∷◌, ◌++◌}
use mathlib.Core.Option.{Option, none, some}
use mathlib.Core.Path.{◌≡◌, refl, ap, ◌∙◌}
use Rattle.definition.specs.declared.FrameAllocFlags.{FrameAllocFlags}
use Rattle.definition.specs.Board.{Board}
use Rattle.definition.specs.Basics.{sum}
use Rattle.definition.specs.Frame.{Frame, size, with_zeroed, with_kernel, is_zeroed, kept_as, held_child, split_and_keep}
use Rattle.definition.specs.Allocator.{AllocationRegion, PhysicalFrameAllocator, do_alloc}
use Rattle.definition.specs.Boot.{managed_pages}
use Rattle.definition.specs.Store.{Store, with_allocator, with_counters, mark}
use Rattle.definition.specs.Contents.{filled, size_of, zero_frame, set_not_zero}
use Rattle.definition.specs.Tracker.{count_alloc, Granted, hand_over, granted, try_alloc_frame, split_frame}
use Rattle.definition.specs.Book.{Held, Book, with_held, replace, struck, broken}
use Rattle.bookkeeping.specs.Blocks.{listed, held_block, holding, pages_of, home, pages_with_kernel, pages_without}
use Rattle.bookkeeping.proofs.Blocks.{sum_append, Fine, fine_same, cut}
use Rattle.bookkeeping.proofs.Frames.{Clean, clean_cut}
use Rattle.bookkeeping.proofs.Search.{Got, GotIf, do_got}
use Rattle.bookkeeping.proofs.Books.{Replaced, held_of, in_book_lem, broken_zero, broken_suc, broken_kernel, broken_other}
use Rattle.bookkeeping.proofs.Invariant.{Blank, room_of, Agree, Aside, aside, aside_change, as_held, zeros_stay, zeros_over}

-- ---- a split

module _ (b : Board) (m : List AllocationRegion) (s : Store) (k : Book) (h : Agree b m s k) (p : ℕ) (f : Frame) where
  pub split_agree : s.allocator.frames p ≡ some f → f.allocated ≡ true → Agree b m (split_frame s p) (with_held k (replace broken p k.held))
  unfolding split_frame split_and_keep sum
  split_agree e j =
      rw e (record {
        sound = record { shape = h.sound.shape; fine = fine f.level refl; own = h.sound.own; beyond = h.sound.beyond; clean = clean f.level refl };
        counted = record {
          idle = h.counted.idle;
          kernel = omega (arith, h.counted.kernel, book.before pages_with_kernel, book.after pages_with_kernel, broken_kernel (held_of p f));
          page = omega (arith, h.counted.page, book.before pages_without, book.after pages_without, broken_other (held_of p f));
          total = h.counted.total;
          waiting = h.counted.waiting;
        };
        regions = h.regions;
        queue = h.queue;
        room = h.room;
        rounds = h.rounds;
        freed = h.freed;
      })
    where
      book : Replaced broken p k.held (held_of p f)
      book = in_book_lem broken s.allocator.regions k.held p f h.sound.fine e j

      off : Aside b (room_of b m) m s.memory (listed s.allocator.regions ++ holding (replace struck p k.held)) p s.allocator.frames f
      off = aside p f h.sound e j

      fine
          : (l : ℕ) → f.level ≡ l
          → Fine (home b m) (room_of b m) (managed_pages b m) (kept_as s.allocator.frames p l (held_child f))
          (listed s.allocator.regions ++ holding (replace broken p k.held))
      fine zero i =
          fine_same (λ w. simp sum_append (omega (arith, book.before w, book.after w, broken_zero w (held_of p f) i))) h.sound.fine
      fine (suc l) i =
          fine_same (λ w. simp sum_append (omega (arith, book.after w, broken_suc w (held_of p f) l f.zeroed i))) (cut (held_child f l) i off.fine)

      clean : (l : ℕ) → f.level ≡ l → Clean (Blank b s.memory) (kept_as s.allocator.frames p l (held_child f))
      clean zero i = h.sound.clean
      clean (suc l) i = clean_cut (Blank b s.memory) s.allocator.frames p f (held_child f l) e i refl h.sound.clean

-- ---- a grant

-- what is granted: a held frame of the level, with KERNEL as asked
pub record Handed (b : Board) (m : List AllocationRegion) (s : Store) (k : Book) (p l : ℕ) (kernel : Bool) : Type 0 where
  pub agree : Agree b m s (with_held k (record { page = p; level = l; kernel = kernel } ∷ k.held))
  pub frame : Frame
  pub here : s.allocator.frames p ≡ some frame
  pub held : frame.allocated ≡ true

module _ (b : Board) (pos : 0 < b.page) (m : List AllocationRegion) (s : Store) (k : Book) (h : Agree b m s k) (among : ℕ → Bool) (l : ℕ) (flags : FrameAllocFlags) where
  abbrev Find : PhysicalFrameAllocator → ℕ → Type 0
  Find a p = Got b (home b m) (room_of b m) (managed_pages b m) (Blank b s.memory) among (holding k.held) l s.allocator.regions a p

  module _ (a : PhysicalFrameAllocator) (p : ℕ) (g : Find a p) where
    found : Aside b (room_of b m) m s.memory (listed a.regions ++ holding k.held) p a.frames g.frame
    unfolding sum
    found = record { here = g.here; held = g.held; fine = fine_same (λ w. omega (arith, as_held p g.frame g.held w)) g.fine; clean = g.clean }

    -- the frame f at the page p, which is aside, is held by the book from now on
    last
        : (t : Store) (f : Frame) → Aside b (room_of b m) m t.memory (listed a.regions ++ holding k.held) p t.allocator.frames f → f.level ≡ l
        → f.kernel ≡ flags.kernel → t.allocator.regions ≡ a.regions → t.queue ≡ s.queue → t.kept ≡ s.kept → t.pass ≡ s.pass
        → Handed b m (with_counters t (count_alloc (size l) flags.kernel s.counters)) k p l flags.kernel
    unfolding count_alloc sum holding
    last t f i el ek er eq em ep =
        record {
          agree = record {
            sound = record {
              shape = rw er (g.shape ∙ h.sound.shape);
              fine = rw er (fine_same (λ w. simp sum_append (omega (arith, ap (λ (y : Held). w (held_block y)) same))) i.fine);
              own = rw er g.own;
              beyond = rw er g.beyond;
              clean = i.clean;
            };
            counted = record {
              idle = rw er (omega (arith, h.counted.idle, before, now));
              kernel = omega (arith, h.counted.kernel);
              page = omega (arith, h.counted.page);
              total = h.counted.total;
              waiting = h.counted.waiting;
            };
            regions = h.regions;
            queue = eq ∙ h.queue;
            room = rw (eq, em) h.room;
            rounds = rw ep h.rounds;
            freed = rw ep h.freed;
          };
          frame = f;
          here = i.here;
          held = i.held;
        }
      where
        same : held_of p f ≡ record { page = p; level = l; kernel = flags.kernel }
        same = λ j. record { page = p; level = el j; kernel = ek j }

        before : sum pages_of (listed s.allocator.regions) + sum pages_of (holding k.held) ≡ managed_pages b m
        before = simp sum_append at h.sound.fine.adds

        now : size l + (sum pages_of (listed a.regions) + sum pages_of (holding k.held)) ≡ managed_pages b m
        now = rw el at (simp sum_append at i.fine.adds)

    handed : Handed b m (hand_over b (size l) flags (with_allocator s a) p) k p l flags.kernel
    unfolding set_not_zero zero_frame filled
    handed = go (flags.zeroed && not (is_zeroed (a.frames p)))
      where
        go
            : (t : Bool)
            → Handed b m
            (with_counters (mark (with_kernel flags.kernel) (set_not_zero (cond t (zero_frame b (with_allocator s a) p) (with_allocator s a)) p) p)
            (count_alloc (size l) flags.kernel s.counters)) k p l flags.kernel
        go false =
            let two = aside_change s.memory (with_zeroed false) found refl g.held (λ q o z. z) (λ z q o. absurd (false≢true z)) in
            let three = aside_change s.memory (with_kernel flags.kernel) two refl g.held (λ q o z. z) (λ z q o. absurd (false≢true z)) in
            last (mark (with_kernel flags.kernel) (set_not_zero (with_allocator s a) p) p) (with_kernel flags.kernel (with_zeroed false g.frame)) three
            g.level refl refl refl refl refl
        go true =
            let t = mark (with_kernel flags.kernel) (set_not_zero (zero_frame b (with_allocator s a) p) p) p in
            let len : b.page * size_of (a.frames p) ≡ b.page * size g.frame.level = rw g.here in
            let one = aside_change t.memory (with_zeroed true) found refl g.held
            (λ q o z. zeros_stay b (b.page * p) (b.page * size_of (a.frames p)) s.memory q z)
            (λ z q o. zeros_over b p (size g.frame.level) (b.page * p) (b.page * size_of (a.frames p)) s.memory pos refl len q o) in
            let two = aside_change t.memory (with_zeroed false) one refl g.held (λ q o z. z) (λ z q o. absurd (false≢true z)) in
            let three = aside_change t.memory (with_kernel flags.kernel) two refl g.held (λ q o z. z) (λ z q o. absurd (false≢true z)) in
            last t (with_kernel flags.kernel (with_zeroed false (with_zeroed true g.frame))) three g.level refl refl refl refl refl

  -- what a search that found the page p is made of
  abbrev Grants : ℕ → Granted → Type 0
  Grants p t = (t.page ≡ some p) × Handed b m t.store k p l flags.kernel

  grants
      : (a : PhysicalFrameAllocator) (o : Option ℕ) (p : ℕ) → o ≡ some p
      → GotIf b (home b m) (room_of b m) (managed_pages b m) (Blank b s.memory) among (holding k.held) l s.allocator.regions a o
      → Grants p (granted b (size l) flags s (record { allocator = a; page = o }))
  grants a none p e g = absurd (let z : ◌≡◌ {A = ℕ} 0 1 = cc in omega arith)
  grants a (some q) p e g = let d : p ≡ q = cc in rw d (refl, handed a q g)

  pub grant_handed : l ≤ 2 → (p : ℕ) → (do_alloc among l flags.zeroed s.allocator).page ≡ some p → Grants p (try_alloc_frame b among l flags s)
  unfolding try_alloc_frame
  grant_handed i p e =
      let a = do_alloc among l flags.zeroed s.allocator in
      grants a.allocator a.page p e
      (do_got b (home b m) (room_of b m) (managed_pages b m) (Blank b s.memory) among (holding k.held) l flags.zeroed s.allocator i
      h.sound.fine h.sound.own h.sound.beyond h.sound.clean)
