-- Each call keeps the invariant, refused or not, and so does every list of calls. A refused call leaves the store and the book as they were; each accepted one is
-- taken to the law of what it does, with what the sheet grants of the frames that it names.
use Prim.Native.Nat.{ℕ, ◌+◌, ◌*◌, ◌/◌, ◌%◌, ◌<◌}
use native.Mathlib.Omega.{arith}
use native.Mathlib.Nat.{mul-div_cancel_left}
use mathlib.Core.Bool.{false}
use mathlib.Core.List.{List, [], ◌∷◌, ◌++◌}
use mathlib.Core.Option.{Option, none, some}
use mathlib.Core.Path.{◌≡◌, refl, sym, ap, subst}
use lib.Dec.{leb}
use lib.ListN.{length, length-append}
use borrow.Author.Tests.{eq-eqb, leb-false}
use Rattle.definition.proofs.Boards.{page_positive}
use Rattle.definition.proofs.Passing.{Passed, passed}
use Rattle.definition.proofs.Tests.{any_head}
use Rattle.definition.specs.declared.Refusal.{Refusal}
use Rattle.definition.specs.Board.{Board, Fit}
use Rattle.definition.specs.Basics.{sum}
use Rattle.definition.specs.Allocator.{AllocationRegion, total}
use Rattle.definition.specs.Boot.{managed_pages}
use Rattle.definition.specs.Refusal.{first_met}
use Rattle.definition.specs.Store.{Store, with_counters, with_queue}
use Rattle.definition.specs.Tracker.{try_alloc_frame, try_alloc_split_frames, then_split_frame, split_frame, with_pager_outstanding, track_frame_pager, untrack_frame_pager}
use Rattle.definition.specs.Calls.{
  Layout,
  Call,
  Alloc,
  Take,
  Split,
  Free,
  Zero,
  Dirty,
  Find,
  Queue,
  Fill,
  Write,
  Read,
  Copy,
  Pcopy,
  Round,
  Lend,
  Back,
  Low,
  Stats,
  names,
  bytes_of_level,
  find_level,
  mine,
  sheet,
  Outcome,
  done,
  hands,
  perform,
  unless_refused,
  step,
}
use Rattle.definition.specs.Book.{Held, Book, with_held, with_waiting, replace, note_answer}
use Rattle.bookkeeping.specs.Blocks.{tables}
use Rattle.bookkeeping.specs.Claim.{State, next, after}
use Rattle.bookkeeping.specs.Good.{Placed}
use Rattle.bookkeeping.proofs.Wants.{finds}
use Rattle.bookkeeping.proofs.Invariant.{Agree, Holds, managed_home}
use Rattle.bookkeeping.proofs.Accepts.{placed_sums}
use Rattle.bookkeeping.proofs.Frees.{free_agree}
use Rattle.bookkeeping.proofs.Grants.{Handed, split_agree, grant_handed}
use Rattle.bookkeeping.proofs.Writes.{zero_agree, dirty_agree, fill_agree, bytes_agree, copy_agree, pcopy_agree}
use Rattle.bookkeeping.proofs.Rounds.{round_agree}
use Rattle.bookkeeping.proofs.Sheets.{named, Grantable, grantable}

-- ---- what a grant that found a page answers

none_some : {p : ℕ} → ◌≡◌ {A = Option ℕ} none (some p) → ⊥
none_some e = let z : ◌≡◌ {A = ℕ} 0 1 = cc in omega arith

pub hands_is
    : (b : Board) (l : ℕ) (t : Store) (o : Option ℕ) (p : ℕ) → o ≡ some p
    → hands b l (record { store = t; page = o }) ≡ done t (b.page * p) (bytes_of_level b l)
hands_is b l t none p e = absurd (none_some e)
hands_is b l t (some q) p e = let d : q ≡ p = cc in rw d

pub then_is : (t : Store) (o : Option ℕ) (p : ℕ) → o ≡ some p → then_split_frame (record { store = t; page = o }) ≡ record { store = split_frame t p; page = some p }
then_is t none p e = absurd (none_some e)
then_is t (some q) p e = let d : q ≡ p = cc in rw d

-- ---- each call

module _ (b : Board) (pos : 0 < b.page) (m : List AllocationRegion) (sums : managed_pages b m + sum (tables b) m ≡ total m) (s : Store) (k : Book)
    (h : Agree b m s k) where
  abbrev pub Keeps : Call → Outcome → Type 0
  Keeps c o = Agree b m o.store (note_answer b k c o.answer)

  module _ (y : Layout) (g : Grantable b s y) where
    granted
        : (p : ℕ)
        × (((try_alloc_frame b (mine s) (find_level b y) y.flags s).page ≡ some p)
        × Handed b m (try_alloc_frame b (mine s) (find_level b y) y.flags s).store k p (find_level b y) y.flags.kernel)
    granted =
        let f = finds (mine s) (find_level b y) y.flags.zeroed s.allocator g.low g.listed in
        let x = grant_handed b pos m s k h (mine s) (find_level b y) y.flags g.low f.0 f.1 in (f.0, x)

    alloc_agree : Keeps (Alloc y) (hands b (find_level b y) (try_alloc_frame b (mine s) (find_level b y) y.flags s))
    alloc_agree =
        let t = try_alloc_frame b (mine s) (find_level b y) y.flags s in
        let p = granted.0 in
        subst (λ o. Keeps (Alloc y) o) (sym (hands_is b (find_level b y) t.store t.page p granted.1.0))
        (rw (mul-div_cancel_left p pos) granted.1.1.agree)

    take_agree : Keeps (Take y) (hands b (find_level b y) (try_alloc_split_frames b (mine s) (find_level b y) y.flags s))
    unfolding try_alloc_split_frames replace
    take_agree =
        let t = try_alloc_frame b (mine s) (find_level b y) y.flags s in
        let p = granted.0 in
        let x = granted.1.1 in
        let w : Held = record { page = p; level = find_level b y; kernel = y.flags.kernel } in
        let z = split_agree b m t.store (with_held k (w ∷ k.held)) x.agree p x.frame x.here x.held in
        subst (λ q. Keeps (Take y) (hands b (find_level b y) q)) (sym (then_is t.store t.page p granted.1.0))
        (rw (mul-div_cancel_left p pos) (rw (eq-eqb p p refl) at z))

  queue_agree
      : (a : ℕ) → leb s.kept.room (length s.queue) ≡ false
      → Agree b m (with_queue s (s.queue ++ (a ∷ []))) (with_waiting k (k.queue ++ (a ∷ [])))
  queue_agree a e =
      record {
        sound = h.sound;
        counted = h.counted;
        regions = h.regions;
        queue = ap (λ q. q ++ (a ∷ [])) h.queue;
        room = simp length-append (omega (arith, leb-false s.kept.room (length s.queue) e));
        rounds = h.rounds;
        freed = h.freed;
      }

  pager_agree : (n : ℕ) → Agree b m (with_counters s (with_pager_outstanding n s.counters)) k
  pager_agree n =
      record {
        sound = h.sound;
        counted = record {
          idle = h.counted.idle;
          kernel = h.counted.kernel;
          page = h.counted.page;
          total = h.counted.total;
          waiting = h.counted.waiting;
        };
        regions = h.regions;
        queue = h.queue;
        room = h.room;
        rounds = h.rounds;
        freed = h.freed;
      }

  perform_agree : (c : Call) → Passed b s (names c) → Keeps c (perform b s c)
  unfolding perform track_frame_pager untrack_frame_pager
  perform_agree (Alloc y) x = alloc_agree y (grantable b s (names (Alloc y)) y [] refl x)
  perform_agree (Take y) x = take_agree y (grantable b s (names (Take y)) y [] refl x)
  perform_agree (Split a) x =
      let i = (named b s (names (Split a)) _ [] refl x).at in
      rw (eq-eqb (a % b.page) 0 i.edge) (split_agree b m s k h (a / b.page) i.frame i.here i.held)
  perform_agree (Free a) x =
      let i = (named b s (names (Free a)) _ [] refl x).at in
      let j = managed_home b s.allocator.regions (a / b.page) i.managed in
      rw (eq-eqb (a % b.page) 0 i.edge) (free_agree b m s k h (a / b.page) i.frame j i.here i.held)
  perform_agree (Zero a) x = let i = (named b s (names (Zero a)) _ [] refl x).at in zero_agree b pos m s k h (a / b.page) i.frame i.here i.held
  perform_agree (Dirty a) x = let i = (named b s (names (Dirty a)) _ [] refl x).at in dirty_agree b pos m s k h (a / b.page) i.frame i.here i.held
  perform_agree (Find a) x = h
  perform_agree (Queue a) x = queue_agree a (any_head (λ (a : ℕ). leb s.kept.room (length s.queue)) a [] x.queue)
  perform_agree (Fill a off len byte) x =
      let i = named b s (names (Fill a off len byte)) _ [] refl x in
      fill_agree b pos m s k h (a / b.page) i.at.frame i.at.here i.at.held off len byte i.range
  perform_agree (Write a off bytes) x =
      let i = named b s (names (Write a off bytes)) _ [] refl x in
      bytes_agree b pos m s k h (a / b.page) i.at.frame i.at.here i.at.held off bytes i.range
  perform_agree (Read a off len) x = h
  perform_agree (Copy dst doff src soff len) x =
      let i = named b s (names (Copy dst doff src soff len)) _ _ refl x in
      copy_agree b pos m s k h (dst / b.page) i.at.frame i.at.here i.at.held doff (src / b.page) soff len i.range
  perform_agree (Pcopy dst doff src len) x =
      let i = named b s (names (Pcopy dst doff src len)) _ [] refl x in
      pcopy_agree b pos m s k h (dst / b.page) i.at.frame i.at.here i.at.held doff src len i.range
  perform_agree Round x = round_agree b m sums s k h
  perform_agree (Lend n) x = pager_agree _
  perform_agree (Back n) x = pager_agree _
  perform_agree Low x = h
  perform_agree Stats x = h

  pub step_agree : (c : Call) → Keeps c (step b s c)
  unfolding step
  step_agree c = go (first_met (sheet b s (names c))) refl
    where
      go : (o : Option Refusal) → first_met (sheet b s (names c)) ≡ o → Keeps c (unless_refused s o (perform b s c))
      go (some r) e = h
      go none e = perform_agree c (passed b s (names c) e)

-- ---- every list of calls

module _ {b : Board} (fit : Fit b) where
  pub step_holds : (s : Store) (k : Book) (c : Call) → Holds b s k → Holds b (step b s c).store (note_answer b k c (step b s c).answer)
  step_holds s k c h =
      let m = k.regions in
      let x = step_agree b (page_positive fit) m (placed_sums b m h.placed.as_boot) s k h.agree c in
      let e = sym x.regions in
      record { agree = subst (λ rs. Agree b rs (step b s c).store (note_answer b k c (step b s c).answer)) e x; placed = subst (λ rs. Placed b rs) e h.placed }

  pub always : (x : State) (cs : List Call) → Holds b x.store x.book → Holds b (after b x cs).store (after b x cs).book
  unfolding after next
  always x [] h = h
  always x (c ∷ cs) h = always (next b x c) cs (step_holds x.store x.book c h)
