-- A round of reclaim keeps the invariant: the store is low exactly when the book says so, and each address off the queue's end is freed in the store where the
-- book strikes a frame, and nowhere else.
use Prim.Native.Nat.{ℕ, zero, suc, ◌+◌, ◌-◌, ◌*◌, ◌/◌, ◌%◌, ◌≤◌}
use native.Mathlib.Omega.{arith}
use mathlib.Core.Bool.{Bool, true, false, cond, ◌&&◌, false≢true}
use mathlib.Core.List.{List, [], ◌∷◌, ◌++◌}
use mathlib.Core.Option.{Option, none, some}
use mathlib.Core.Path.{◌≡◌, refl, sym, ap, ◌∙◌, subst}
use lib.Dec.{ltb, eqb}
use lib.ListN.{length, length-append}
use borrow.Author.Tests.{ltb-false, eq-eqb}
use Rattle.definition.specs.declared.Pass.{Pass}
use Rattle.definition.specs.Board.{Board}
use Rattle.definition.specs.Basics.{sum, is_some, Popped, pop_back}
use Rattle.definition.specs.Frame.{Frame, is_allocated}
use Rattle.definition.specs.Allocator.{AllocationRegion, total, is_managed}
use Rattle.definition.specs.Boot.{managed_pages}
use Rattle.definition.specs.Store.{Store, with_queue, with_pass}
use Rattle.definition.specs.Tracker.{
  count_alloc,
  track_reclaimed,
  freed_frame,
  free_frame,
  should_reclaim,
  starts_frame,
  is_held,
  can_be_freed,
  Reclaimed,
  one_more,
  free_or_drop,
  reclaim_up_to,
  end_pass,
  go_on,
  worked,
  after_round,
  reclaim_round,
}
use Rattle.definition.specs.Book.{with_waiting, Held, Book, with_held, replace, replace_at, struck, counters_of, free_next, free_up_to, round_of}
use Rattle.bookkeeping.specs.Blocks.{Block, listed, holding, pages_of, home, pages_with_kernel, pages_without, tables}
use Rattle.bookkeeping.proofs.Blocks.{sum_append, starts_at, weigh, starts_none}
use Rattle.bookkeeping.proofs.Frames.{one, if_held}
use Rattle.bookkeeping.proofs.Lists.{Back, back}
use Rattle.bookkeeping.proofs.Books.{all_held, replace_none}
use Rattle.bookkeeping.proofs.Invariant.{Agree, At, at_of, and-true, home_emptied, managed_home, unmanaged_home}
use Rattle.bookkeeping.proofs.Frees.{free_agree}

-- ---- low by the book

pub record Totals (pages : ℕ) (hs : List Held) : Type 0 where
  pub idle : (counters_of pages hs).idle ≡ pages - sum pages_of (holding hs)
  pub kernel : (counters_of pages hs).kernel_used ≡ sum pages_with_kernel (holding hs)
  pub page : (counters_of pages hs).page_data ≡ sum pages_without (holding hs)

totals : (pages : ℕ) (hs : List Held) → Totals pages hs
unfolding counters_of count_alloc holding sum
totals pages [] = record { idle = omega arith; kernel = refl; page = refl }
totals pages (h ∷ hs) =
    let x = totals pages hs in
    record { idle = omega (arith, x.idle); kernel = omega (arith, x.kernel); page = omega (arith, x.page) }

module _ (b : Board) (m : List AllocationRegion) (sums : managed_pages b m + sum (tables b) m ≡ total m) where
  pub low_same : (s : Store) (k : Book) → Agree b m s k → should_reclaim b s.counters ≡ should_reclaim b (counters_of (total k.regions) k.held)
  low_same s k h =
      let x = totals (total m) k.held in
      let e : s.counters.idle ≡ total m - sum pages_of (holding k.held) = omega (arith, h.counted.idle, simp sum_append at h.sound.fine.adds) in
      rw (h.regions, e, h.counted.kernel, h.counted.page, x.idle, x.kernel, x.page)

-- ---- an address that can't be freed names no frame of the book

module _ (b : Board) (m : List AllocationRegion) (s : Store) (k : Book) (h : Agree b m s k) (a : ℕ) where
  abbrev Starts : Type 0
  Starts = sum (starts_at (a / b.page) one) (holding k.held) ≡ 0

  nothing : Starts → replace_at b struck a k ≡ k
  nothing e = go (eqb (a % b.page) 0)
    where
      go : (t : Bool) → cond t (with_held k (replace struck (a / b.page) k.held)) k ≡ k
      go true = rw (replace_none struck (a / b.page) k.held e)
      go false = refl

  marks
      : (w : Block → ℕ)
      → sum (starts_at (a / b.page) w) (listed s.allocator.regions) + sum (starts_at (a / b.page) w) (holding k.held)
      ≡ weigh w (a / b.page) (s.allocator.frames (a / b.page))
  marks w = simp sum_append at (h.sound.fine.marks (a / b.page) w)

  unmanaged : is_managed b s.allocator.regions (a / b.page) ≡ false → Starts
  unmanaged e =
      let rs = s.allocator.regions in
      let z : home b m (a / b.page) ≡ 0 = rw h.sound.shape at (home_emptied b rs (a / b.page) ∙ unmanaged_home b rs (a / b.page) e) in
      omega (arith, simp sum_append at (starts_none (a / b.page) one (listed rs ++ holding k.held) (h.sound.fine.tiles (a / b.page) ∙ z)))

  no_frame : s.allocator.frames (a / b.page) ≡ none → Starts
  no_frame e = omega (arith, rw e at (marks one))

  not_held : (f : Frame) → s.allocator.frames (a / b.page) ≡ some f → f.allocated ≡ false → Starts
  not_held f e j = omega (arith, all_held (a / b.page) k.held, rw (e, j) at (marks if_held))

  -- either the address names a held frame, or the book has none there
  pub dropped : can_be_freed b s a ≡ false → replace_at b struck a k ≡ k
  dropped e = go (is_managed b s.allocator.regions (a / b.page)) refl (eqb (a % b.page) 0) refl (s.allocator.frames (a / b.page)) refl e
    where
      edge : (t : Bool) → eqb (a % b.page) 0 ≡ t → t ≡ false → replace_at b struck a k ≡ k
      edge t x y = rw (x ∙ y)

      held : (f : Frame) (t : Bool) → s.allocator.frames (a / b.page) ≡ some f → f.allocated ≡ t → (true && t) ≡ false → replace_at b struck a k ≡ k
      held f true x y z = absurd (false≢true (sym z))
      held f false x y z = nothing (not_held f x y)

      go
          : (t : Bool) → is_managed b s.allocator.regions (a / b.page) ≡ t → (u : Bool) → eqb (a % b.page) 0 ≡ u
          → (o : Option Frame) → s.allocator.frames (a / b.page) ≡ o → (t && (u && is_some o && is_allocated o)) ≡ false → replace_at b struck a k ≡ k
      go false x u y o z i = nothing (unmanaged x)
      go true x false y o z i = edge false y refl
      go true x true y none z i = nothing (no_frame z)
      go true x true y (some f) z i = held f f.allocated z refl i

  pub freeable : can_be_freed b s a ≡ true → At b s a
  freeable e =
      let x = and-true (is_managed b s.allocator.regions (a / b.page)) (starts_frame b s a && is_held b s a) e in
      let y = and-true (starts_frame b s a) (is_held b s a) x.1 in
      at_of b s a x.0 y.0 y.1

-- ---- up to so many addresses off the queue's end

free_pass : (b : Board) (s : Store) (p : ℕ) → (free_frame b s p).pass ≡ s.pass
unfolding free_frame
free_pass b s p = go (s.allocator.frames p)
  where
    go : (o : Option Frame) → (freed_frame b s p o).pass ≡ s.pass
    go none = refl
    go (some f) = refl

pub record Swept (b : Board) (m : List AllocationRegion) (n : ℕ) (s : Store) (r : Reclaimed) (k : Book) : Type 0 where
  pub agree : Agree b m r.store k
  pub few : r.freed ≤ n
  pub pass : r.store.pass ≡ s.pass

module _ (b : Board) (m : List AllocationRegion) where
  shorter
      : (s : Store) (k : Book) (e : Popped) → Agree b m s k → k.queue ≡ e.rest ++ (e.last ∷ [])
      → Agree b m (with_queue s e.rest) (with_waiting k e.rest)
  shorter s k e h i =
      record {
        sound = h.sound;
        counted = h.counted;
        regions = h.regions;
        queue = refl;
        room = omega (arith, h.room, ap length h.queue, simp length-append at (ap length i));
        rounds = h.rounds;
        freed = h.freed;
      }

  abbrev Sweeps : ℕ → Type 0
  Sweeps n = (s : Store) (k : Book) → Agree b m s k → Swept b m n s (reclaim_up_to b n s) (free_up_to b n k)

  module _ (n : ℕ) (more : Sweeps n) (s : Store) (k : Book) (h : Agree b m s k) where
    -- one address, freed or dropped
    sweep_one
        : (a : ℕ) (t : Bool) → can_be_freed b s a ≡ t
        → Swept b m (suc n) s (cond t (one_more (reclaim_up_to b n (free_frame b s (a / b.page)))) (reclaim_up_to b n s)) (free_up_to b n (replace_at b struck a k))
    sweep_one a true e =
        let x = freeable b m s k h a e in
        let g = free_agree b m s k h (a / b.page) x.frame (managed_home b s.allocator.regions (a / b.page) x.managed) x.here x.held in
        let y = more (free_frame b s (a / b.page)) (with_held k (replace struck (a / b.page) k.held)) g in
        rw (eq-eqb (a % b.page) 0 x.edge) (record { agree = y.agree; few = omega (arith, y.few); pass = y.pass ∙ free_pass b s (a / b.page) })
    sweep_one a false e =
        let y = more s k h in rw (dropped b m s k h a e) (record { agree = y.agree; few = omega (arith, y.few); pass = y.pass })

  pub sweeps : (n : ℕ) → Sweeps n
  unfolding reclaim_up_to free_up_to
  sweeps zero s k h = record { agree = h; few = omega arith; pass = refl }
  sweeps (suc n) s k h =
      subst (λ (q : List ℕ). Swept b m (suc n) s (free_or_drop b (reclaim_up_to b n) s (pop_back q)) (free_next b (free_up_to b n) k (pop_back k.queue)))
      (sym h.queue)
      (go (sweeps n) (pop_back k.queue) (back k.queue))
    where
      go : Sweeps n → (o : Option Popped) → Back k.queue o → Swept b m (suc n) s (free_or_drop b (reclaim_up_to b n) s o) (free_next b (free_up_to b n) k o)
      go more none i = record { agree = h; few = omega arith; pass = refl }
      go more (some e) i =
          let t = with_queue s e.rest in
          let x = sweep_one n more t (with_waiting k e.rest) (shorter s k e h i) e.last (can_be_freed b t e.last) refl in
          record { agree = x.agree; few = x.few; pass = x.pass }

-- ---- a round

module _ (b : Board) (m : List AllocationRegion) where
  -- the pass changes within its bounds
  pass_agree
      : (s : Store) (k : Book) (p : Pass) → Agree b m s k → p.rounds ≤ b.max_rounds + 1 → p.freed ≤ b.per_round * p.rounds → Agree b m (with_pass s p) k
  pass_agree s k p h i j =
      record { sound = h.sound; counted = h.counted; regions = h.regions; queue = h.queue; room = h.room; rounds = i; freed = j }

  end_agree : (s : Store) (k : Book) (p : Pass) → Agree b m s k → Agree b m (end_pass s p).store k
  unfolding track_reclaimed
  end_agree s k p h =
      record {
        sound = h.sound;
        counted = record {
          idle = h.counted.idle;
          kernel = h.counted.kernel;
          page = h.counted.page;
          total = h.counted.total;
          waiting = h.counted.waiting;
        };
        regions = h.regions;
        queue = h.queue;
        room = h.room;
        rounds = omega arith;
        freed = omega arith;
      }

  after_agree
      : (s : Store) (k : Book) (r : Reclaimed) → Agree b m s k → (l : Book) → Swept b m b.per_round s r l → Agree b m (after_round b s.pass r).store l
  after_agree s k r h l x = go (ltb b.max_rounds s.pass.rounds) refl
    where
      go
          : (t : Bool) → ltb b.max_rounds s.pass.rounds ≡ t
          → Agree b m (cond t (end_pass r.store (worked s.pass r.freed)) (go_on r.store (worked s.pass r.freed))).store l
      go true e = end_agree r.store l (worked s.pass r.freed) x.agree
      go false e =
          pass_agree r.store l (worked s.pass r.freed) x.agree (omega (arith, ltb-false b.max_rounds s.pass.rounds e))
          (omega (arith, h.freed, x.few))

  pub round_agree
      : managed_pages b m + sum (tables b) m ≡ total m → (s : Store) (k : Book) → Agree b m s k → Agree b m (reclaim_round b s).store (round_of b k)
  unfolding reclaim_round
  round_agree sums s k h = rw (sym (low_same b m sums s k h)) (go (should_reclaim b s.counters))
    where
      go
          : (t : Bool)
          → Agree b m (cond t (after_round b s.pass (reclaim_up_to b b.per_round s)) (end_pass s s.pass)).store (cond t (free_up_to b b.per_round k) k)
      go true = after_agree s k (reclaim_up_to b b.per_round s) h (free_up_to b b.per_round k) (sweeps b m b.per_round s k h)
      go false = end_agree s k s.pass h
