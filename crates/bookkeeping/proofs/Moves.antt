-- What every call leaves of the bounds that calls ask for (specs/Moves), in one walk over the calls: `step_moves`, `step_pass`, `step_leveled`. The same walk shows
-- that no call changes what is kept from boot, which Kept takes from here. Then the same of a list of calls, whatever its length: `run_moves`, `run_pass`,
-- and `run_under`, by which counts that a test found small stay small.
use Prim.Native.Nat.{ℕ, zero, suc, ◌+◌, ◌*◌, ◌/◌, ◌≤◌, ◌<◌, ◌^◌}
use native.Mathlib.Nat.{le_of_suc-le-suc, pow-le-pow_right}
use native.Mathlib.Omega.{arith}
use mathlib.Core.Bool.{Bool, true, false, not, cond, ◌&&◌}
use mathlib.Core.List.{List, [], ◌∷◌, ◌++◌}
use mathlib.Core.Option.{Option, none, some}
use mathlib.Core.Path.{◌≡◌, refl, ap, ◌∙◌}
use lib.Dec.{leb, ltb, eqb, lit<}
use lib.ListN.{length, length-append}
use borrow.Author.Tests.{leb-false, ltb-false}
use Rattle.definition.specs.declared.Counters.{Counters}
use Rattle.definition.specs.declared.FrameAllocFlags.{FrameAllocFlags}
use Rattle.definition.specs.declared.Pass.{Pass}
use Rattle.definition.specs.declared.Refusal.{Refusal}
use Rattle.definition.proofs.Passing.{Passed, passed}
use Rattle.definition.proofs.Tests.{any_head}
use Rattle.definition.specs.Board.{Board}
use Rattle.definition.specs.Basics.{Popped, pop_back, everywhere}
use Rattle.definition.specs.Boot.{most_pages}
use Rattle.definition.specs.Frame.{Frame, size, levels, with_kernel, with_zeroed}
use Rattle.definition.specs.Allocator.{PhysicalFrameAllocator, do_alloc, is_managed}
use Rattle.definition.specs.Refusal.{first_met}
use Rattle.definition.specs.Store.{Memory, Store, with_allocator, with_memory, with_counters, with_queue, with_pass, mark}
use Rattle.definition.specs.Contents.{
  filled,
  moved,
  frame_bytes,
  is_zeroed_at,
  zero_frame,
  set_not_zero,
  fill_frame,
  write_frame,
  zero_range,
  copy_contents_from,
  copy_contents_from_physaddr,
}
use Rattle.definition.specs.Tracker.{
  count_alloc,
  count_free,
  track_reclaimed,
  track_frame_pager,
  untrack_frame_pager,
  freed_frame,
  free_frame,
  granted,
  try_alloc_frame,
  split_frame,
  then_split_frame,
  try_alloc_split_frames,
  should_reclaim,
  starts_frame,
  is_held,
  can_be_freed,
  Reclaimed,
  one_more,
  free_or_drop,
  reclaim_up_to,
  end_pass,
  go_on,
  worked,
  after_round,
  reclaim_round,
}
use Rattle.definition.specs.Calls.{Call, Alloc, Take, Split, Free, Zero, Dirty, Find, Queue, Fill, Write, Read, Copy, Pcopy, Round, Lend, Back, Low, Stats, names, find_level, mine, sheet, hands, perform, unless_refused, step, run}
use Rattle.bookkeeping.specs.Moves.{OfLevel, LeveledAt, ManagedLeveled, Leveled, largest, reach, Moved, Under, Within}
use Rattle.bookkeeping.proofs.Leveled.{change_leveled, split_kept, grant_leveled, free_leveled, freed_managed}
use Rattle.bookkeeping.proofs.Lists.{Back as PoppedFrom, back}
use Rattle.bookkeeping.proofs.Invariant.{and-true}
use Rattle.bookkeeping.proofs.Sheets.{named, grantable}

-- ---- counts

size_most : (l : ℕ) → l < levels → size l ≤ largest
size_most l h = pow-le-pow_right (lit< tt) (le_of_suc-le-suc h)

alloc_moves : (n m : ℕ) (kernel : Bool) (c : Counters) → n ≤ m → Moved m c (count_alloc n kernel c)
unfolding count_alloc
alloc_moves n m true c h = omega arith
alloc_moves n m false c h = omega arith

free_moves : (n m : ℕ) (kernel : Bool) (c : Counters) → n ≤ m → Moved m c (count_free n kernel c)
unfolding count_free
free_moves n m kernel c h = omega arith

module _ (b : Board) where
  -- ---- what a call leaves, t

  pub record Steps (s t : Store) : Type 0 where
    pub kept : t.kept ≡ s.kept
    pub leveled : Leveled s → Leveled t
    pub moves : ManagedLeveled b s → Moved (reach b) s.counters t.counters
    pub pass : Within b s → Within b t

  same : (s : Store) → Steps s s
  same s = record { kept = refl; leveled = λ h. h; moves = λ h. omega arith; pass = λ h. h }

  -- and is changed further, in frames and memory, or in counters
  module _ {s t : Store} (h : Steps s t) where
    framed : (a : PhysicalFrameAllocator) (m : Memory) → (Leveled t → LeveledAt everywhere a.frames) → Steps s (with_memory (with_allocator t a) m)
    framed a m k =
        record {
          kept = h.kept;
          leveled = λ l. k (h.leveled l);
          moves = h.moves;
          pass = λ w. let v = h.pass w in record { room = v.room; rounds = v.rounds; freed = v.freed };
        }

    -- a mark is set or cleared
    marked : (g : Frame → Frame) → ((f : Frame) → (g f).level ≡ f.level) → (p : ℕ) → Steps s (mark g t p)
    marked g e p = framed _ t.memory (change_leveled everywhere g e t.allocator.frames p)

    written : (m : Memory) → Steps s (with_memory t m)
    written m = framed t.allocator m (λ l. l)

    counts : (c : Counters) → (ManagedLeveled b s → Moved (reach b) s.counters c) → Steps s (with_counters t c)
    counts c k =
        record {
          kept = h.kept;
          leveled = h.leveled;
          moves = k;
          pass = λ w. let v = h.pass w in record { room = v.room; rounds = v.rounds; freed = v.freed };
        }

  either : {s x y : Store} (t : Bool) → Steps s x → Steps s y → Steps s (cond t x y)
  either true h k = h
  either false h k = k

  -- ---- grants

  module _ (n : ℕ) (fits : n ≤ largest) (flags : FrameAllocFlags) {s : Store} where
    grant_steps
        : (a : PhysicalFrameAllocator) → (Leveled s → LeveledAt everywhere a.frames) → (o : Option ℕ)
        → Steps s (granted b n flags s (record { allocator = a; page = o })).store
    unfolding zero_frame set_not_zero
    grant_steps a h none = same s
    grant_steps a h (some p) =
        let t = with_allocator s a in
        let laid = framed (same s) a s.memory h in
        let zeroed = marked (written laid (filled (b.page * p) (frame_bytes b t p) 0 t.memory)) (with_zeroed true) (λ f. refl) p in
        let dirty = marked (either (flags.zeroed && not (is_zeroed_at t p)) zeroed laid) (with_zeroed false) (λ f. refl) p in
        counts (marked dirty (with_kernel flags.kernel) (λ f. refl) p) _ (λ l. alloc_moves n (reach b) flags.kernel s.counters (omega arith))

  then_steps : {s : Store} (t : Store) (o : Option ℕ) → Steps s t → Steps s (then_split_frame (record { store = t; page = o })).store
  unfolding split_frame
  then_steps t none h = h
  then_steps t (some p) h = framed h _ t.memory (split_kept everywhere t.allocator.frames p refl)

  hands_steps : {s : Store} (l : ℕ) (t : Store) (o : Option ℕ) → Steps s t → Steps s (hands b l (record { store = t; page = o })).store
  hands_steps l t none h = h
  hands_steps l t (some p) h = h

  alloc_steps : (s : Store) (l : ℕ) → l < levels → (flags : FrameAllocFlags) → Steps s (try_alloc_frame b (mine s) l flags s).store
  unfolding try_alloc_frame
  alloc_steps s l i flags =
      let a = do_alloc (mine s) l flags.zeroed s.allocator in
      grant_steps (size l) (size_most l i) flags a.allocator (grant_leveled everywhere (mine s) l flags.zeroed s.allocator) a.page

  -- ---- frees: so many frames off s leave t

  record Frees (n : ℕ) (s t : Store) : Type 0 where
    kept : t.kept ≡ s.kept
    pass : t.pass ≡ s.pass
    queue : length t.queue ≤ length s.queue
    leveled : Leveled s → Leveled t
    managed : ManagedLeveled b s → ManagedLeveled b t
    moves : ManagedLeveled b s → Moved (largest * n) s.counters t.counters

  shorter : (n : ℕ) (s : Store) (q : List ℕ) → length q ≤ length s.queue → Frees n s (with_queue s q)
  shorter n s q h = record { kept = refl; pass = refl; queue = h; leveled = λ l. l; managed = λ l. l; moves = λ l. omega arith }

  frees_then : {n m k : ℕ} {s t u : Store} → Frees n s t → Frees m t u → n + m ≤ k → Frees k s u
  frees_then h j i =
      record {
        kept = j.kept ∙ h.kept;
        pass = j.pass ∙ h.pass;
        queue = omega (arith, h.queue, j.queue);
        leveled = λ l. j.leveled (h.leveled l);
        managed = λ l. j.managed (h.managed l);
        moves = λ l. omega (arith, h.moves l, j.moves (h.managed l));
      }

  free_frees : (s : Store) (p : ℕ) → is_managed b s.allocator.regions p ≡ true → Frees 1 s (free_frame b s p)
  unfolding free_frame
  free_frees s p i = go (s.allocator.frames p) (λ l. l p i)
    where
      go : (o : Option Frame) → (ManagedLeveled b s → OfLevel o) → Frees 1 s (freed_frame b s p o)
      go none k = shorter 1 s s.queue (omega arith)
      go (some f) k =
          let fs = s.allocator.frames in
          let rs = s.allocator.regions in
          record {
            kept = refl;
            pass = refl;
            queue = omega arith;
            leveled = free_leveled b p fs everywhere rs;
            managed = λ l q j. free_leveled b p fs (is_managed b rs) rs l q (rw (freed_managed b p fs rs q) at j);
            moves = λ l. free_moves (size f.level) (largest * 1) f.kernel s.counters (omega (arith, size_most f.level (k l)));
          }

  -- a pass of its own bounds over what frees left
  frees_steps
      : {n : ℕ} {s t : Store} → Frees n s t → largest * n ≤ reach b → (c : Counters) → Moved 0 t.counters c → (p : Pass)
      → (Within b s → (p.rounds ≤ b.max_rounds + 1) × (p.freed ≤ b.per_round * p.rounds)) → Steps s (with_pass (with_counters t c) p)
  frees_steps h i c e p k =
      record {
        kept = h.kept;
        leveled = h.leveled;
        moves = λ l. omega (arith, h.moves l, e);
        pass = λ w. record { room = omega (arith, w.room, h.queue, ap (λ x. x.room) h.kept); rounds = (k w).0; freed = (k w).1 };
      }

  free_steps : (s : Store) (p : ℕ) → is_managed b s.allocator.regions p ≡ true → Steps s (free_frame b s p)
  free_steps s p i =
      let h = free_frees s p i in
      let t = free_frame b s p in
      frees_steps h (omega arith) t.counters (omega arith) t.pass (λ w. rw h.pass (w.rounds, w.freed))

  -- ---- rounds

  abbrev Sweeps : ℕ → Store → Reclaimed → Type 0
  Sweeps n s r = Frees n s r.store × (r.freed ≤ n)

  module _ (n : ℕ) (more : (s : Store) → Sweeps n s (reclaim_up_to b n s)) (s : Store) where
    -- one address, freed or dropped
    sweep_one
        : (t : Store) → Frees 0 s t → (a : ℕ) (u : Bool) → can_be_freed b t a ≡ u
        → Sweeps (suc n) s (cond u (one_more (reclaim_up_to b n (free_frame b t (a / b.page)))) (reclaim_up_to b n t))
    sweep_one t h a true e =
        let i = (and-true (is_managed b t.allocator.regions (a / b.page)) (starts_frame b t a && is_held b t a) e).0 in
        let x = more (free_frame b t (a / b.page)) in
        (frees_then h (frees_then {k = suc n} (free_frees t (a / b.page) i) x.0 (omega arith)) (omega arith), omega arith)
    sweep_one t h a false e = let x = more t in (frees_then h x.0 (omega arith), omega arith)

  sweeps : (n : ℕ) (s : Store) → Sweeps n s (reclaim_up_to b n s)
  unfolding reclaim_up_to
  sweeps zero s = (shorter 0 s s.queue (omega arith), omega arith)
  sweeps (suc n) s = go (λ t. sweeps n t) (pop_back s.queue) (back s.queue)
    where
      go : ((t : Store) → Sweeps n t (reclaim_up_to b n t)) → (o : Option Popped) → PoppedFrom s.queue o → Sweeps (suc n) s (free_or_drop b (reclaim_up_to b n) s o)
      go more none e = (shorter (suc n) s s.queue (omega arith), omega arith)
      go more (some e) i =
          let t = with_queue s e.rest in
          sweep_one n more s t (shorter 0 s e.rest (omega (arith, simp length-append at (ap length i)))) e.last (can_be_freed b t e.last) refl

  ends_steps : {n : ℕ} {s t : Store} → Frees n s t → largest * n ≤ reach b → (p : Pass) → Steps s (end_pass t p).store
  unfolding track_reclaimed
  ends_steps {t = t} h i p = frees_steps h i _ (omega arith) _ (λ w. (omega arith, omega arith))

  round_steps : (s : Store) → Steps s (reclaim_round b s).store
  unfolding reclaim_round
  round_steps s = go (should_reclaim b s.counters)
    where
      r : Reclaimed
      r = reclaim_up_to b b.per_round s

      worked_on
          : (t : Bool) → ltb b.max_rounds s.pass.rounds ≡ t
          → Steps s (cond t (end_pass r.store (worked s.pass r.freed)) (go_on r.store (worked s.pass r.freed))).store
      worked_on true e = ends_steps (sweeps b.per_round s).0 (omega arith) (worked s.pass r.freed)
      worked_on false e =
          let x = sweeps b.per_round s in
          frees_steps x.0 (omega arith) r.store.counters (omega arith) (worked s.pass r.freed)
          (λ w. (omega (arith, ltb-false b.max_rounds s.pass.rounds e), omega (arith, w.freed, x.1)))

      go : (t : Bool) → Steps s (cond t (after_round b s.pass r) (end_pass s s.pass)).store
      go true = worked_on (ltb b.max_rounds s.pass.rounds) refl
      go false = ends_steps (shorter 0 s s.queue (omega arith)) (omega arith) s.pass

  -- ---- contents

  zero_steps : (s : Store) (p off len : ℕ) → Steps s (zero_range b s p off len)
  unfolding zero_range
  zero_steps s p off len =
      let cleared = written (same s) (filled (b.page * p + off) len 0 s.memory) in
      either (eqb off 0 && eqb len (frame_bytes b s p)) (marked cleared (with_zeroed true) (λ f. refl) p) cleared

  dirty_steps : (s : Store) (m : Memory) (p : ℕ) → Steps s (set_not_zero (with_memory s m) p)
  unfolding set_not_zero
  dirty_steps s m p = marked (written (same s) m) (with_zeroed false) (λ f. refl) p

  copy_steps : (s : Store) (p doff q soff len : ℕ) → Steps s (copy_contents_from b s p doff q soff len)
  unfolding copy_contents_from
  copy_steps s p doff q soff len =
      either (is_zeroed_at s q) (either (is_zeroed_at s p) (same s) (zero_steps s p doff len))
      (dirty_steps s (moved (b.page * p + doff) (b.page * q + soff) len s.memory) p)

  -- ---- each call

  queue_steps : (s : Store) (a : ℕ) → leb s.kept.room (length s.queue) ≡ false → Steps s (with_queue s (s.queue ++ (a ∷ [])))
  queue_steps s a e =
      record {
        kept = refl;
        leveled = λ l. l;
        moves = λ l. omega arith;
        pass = λ w.
            record {
              room = simp length-append (omega (arith, leb-false s.kept.room (length s.queue) e));
              rounds = w.rounds;
              freed = w.freed;
            };
      }

  perform_steps : (s : Store) (c : Call) → Passed b s (names c) → Steps s (perform b s c).store
  unfolding perform split_frame zero_frame fill_frame write_frame copy_contents_from_physaddr try_alloc_split_frames track_frame_pager untrack_frame_pager
  perform_steps s (Alloc y) x =
      let l = find_level b y in
      let t = try_alloc_frame b (mine s) l y.flags s in
      hands_steps l t.store t.page (alloc_steps s l (omega (arith, (grantable b s (names (Alloc y)) y [] refl x).low)) y.flags)
  perform_steps s (Take y) x =
      let l = find_level b y in
      let t = try_alloc_frame b (mine s) l y.flags s in
      let u = try_alloc_split_frames b (mine s) l y.flags s in
      hands_steps l u.store u.page
      (then_steps t.store t.page (alloc_steps s l (omega (arith, (grantable b s (names (Take y)) y [] refl x).low)) y.flags))
  perform_steps s (Split a) x = framed (same s) _ s.memory (split_kept everywhere s.allocator.frames (a / b.page) refl)
  perform_steps s (Free a) x = free_steps s (a / b.page) (named b s (names (Free a)) _ [] refl x).at.managed
  perform_steps s (Zero a) x =
      marked (written (same s) (filled (b.page * (a / b.page)) (frame_bytes b s (a / b.page)) 0 s.memory)) (with_zeroed true) (λ f. refl) (a / b.page)
  perform_steps s (Dirty a) x = dirty_steps s s.memory (a / b.page)
  perform_steps s (Find a) x = same s
  perform_steps s (Queue a) x = queue_steps s a (any_head (λ (a : ℕ). leb s.kept.room (length s.queue)) a [] x.queue)
  perform_steps s (Fill a off len byte) x = dirty_steps s _ (a / b.page)
  perform_steps s (Write a off bytes) x = dirty_steps s _ (a / b.page)
  perform_steps s (Read a off len) x = same s
  perform_steps s (Copy dst doff src soff len) x = copy_steps s (dst / b.page) doff (src / b.page) soff len
  perform_steps s (Pcopy dst doff src len) x = dirty_steps s _ (dst / b.page)
  perform_steps s Round x = round_steps s
  perform_steps s (Lend n) x = counts (same s) _ (λ l. omega arith)
  perform_steps s (Back n) x = counts (same s) _ (λ l. omega arith)
  perform_steps s Low x = same s
  perform_steps s Stats x = same s

  pub steps : (s : Store) (c : Call) → Steps s (step b s c).store
  unfolding step
  steps s c = go (first_met (sheet b s (names c))) refl
    where
      go : (o : Option Refusal) → first_met (sheet b s (names c)) ≡ o → Steps s (unless_refused s o (perform b s c)).store
      go none e = perform_steps s c (passed b s (names c) e)
      go (some r) e = same s

  -- each count of pages rises by at most `reach`
  pub step_moves : (s : Store) (c : Call) → ManagedLeveled b s → Moved (reach b) s.counters (step b s c).store.counters
  step_moves s c = (steps s c).moves

  pub step_pass : (s : Store) (c : Call) → Within b s → Within b (step b s c).store
  step_pass s c = (steps s c).pass

  pub step_leveled : (s : Store) (c : Call) → Leveled s → Leveled (step b s c).store
  step_leveled s c = (steps s c).leveled

  -- ---- a list of calls

  pub run_leveled : (s : Store) (cs : List Call) → Leveled s → Leveled (run b s cs).store
  unfolding run
  run_leveled s [] l = l
  run_leveled s (c ∷ cs) l = run_leveled (step b s c).store cs (step_leveled s c l)

  pub run_pass : (s : Store) (cs : List Call) → Within b s → Within b (run b s cs).store
  unfolding run
  run_pass s [] w = w
  run_pass s (c ∷ cs) w = run_pass (step b s c).store cs (step_pass s c w)

  pub run_moves : (s : Store) (cs : List Call) → Leveled s → Moved (length cs * reach b) s.counters (run b s cs).store.counters
  unfolding run
  run_moves s [] l = omega arith
  run_moves s (c ∷ cs) l = omega (arith, step_moves s c (λ p i. l p refl), run_moves (step b s c).store cs (step_leveled s c l))

  -- counts under n stay under m for as many calls as there is way between
  pub run_under
      : (n m : ℕ) (s : Store) (cs : List Call) → Leveled s → Under n s.counters → n + length cs * reach b ≤ m → Under m (run b s cs).store.counters
  run_under n m s cs l u h = omega (arith, run_moves s cs l, u)

  -- of a store that has no more pages than it may, they stay under 2^57, which is what a call asks for
  pub run_few
      : (s : Store) (cs : List Call) → Leveled s → Under (most_pages + 1) s.counters → most_pages + length cs * reach b < 2 ^ 57
      → Under (2 ^ 57) (run b s cs).store.counters
  run_few s cs l u h = run_under (most_pages + 1) (2 ^ 57) s cs l u (omega arith)
