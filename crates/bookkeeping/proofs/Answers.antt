-- Each call is answered as the claim says, whatever the store: refused exactly as the sheet says, and then without a change. A grant reports want of memory
-- exactly when nothing of its level or above is listed, and is otherwise given the frame that the search finds.
use Prim.Native.Nat.{ℕ, ◌+◌, ◌*◌, ◌≤◌, ◌<◌}
use native.Mathlib.Omega.{arith}
use mathlib.Core.Bool.{Bool, true, false, not, cond, ◌&&◌, ◌||◌, false≢true}
use mathlib.Core.List.{List, [], ◌∷◌}
use mathlib.Core.Logic.{◌⊎◌, inl, inr, ◌↔◌}
use mathlib.Core.Option.{Option, none, some}
use mathlib.Core.Path.{◌≡◌, refl, sym, ap, ◌∙◌, subst}
use lib.Dec.{leb}
use borrow.Author.Tests.{leb-false, lt-leb, ltb-false, le-ltb, not-true}
use Rattle.definition.proofs.Passing.{passed}
use Rattle.definition.specs.declared.FrameAllocFlags.{FrameAllocFlags}
use Rattle.definition.specs.declared.Refusal.{Refusal}
use Rattle.definition.specs.declared.Refusal.TheVariants.{BadLayout, NoLevel, NoFrame, MustWait}
use Rattle.definition.specs.Board.{Board}
use Rattle.definition.specs.Basics.{any, sum, bit}
use Rattle.definition.specs.Allocator.{PhysicalFrameAllocator, do_alloc, is_listed}
use Rattle.definition.specs.Refusal.{◌when◌, or_later, first_met}
use Rattle.definition.specs.Store.{Store}
use Rattle.definition.specs.Tracker.{Granted, granted, try_alloc_frame, try_alloc_split_frames}
use Rattle.definition.specs.Calls.{
  Layout,
  Call,
  Alloc,
  Take,
  Split,
  Free,
  Zero,
  Dirty,
  Find,
  Queue,
  Fill,
  Write,
  Read,
  Copy,
  Pcopy,
  Round,
  Lend,
  Back,
  Low,
  Stats,
  Answer,
  Refused,
  Done,
  Text,
  Bytes,
  Names,
  layout_named,
  names,
  bad_layout,
  no_level,
  bytes_of_level,
  find_level,
  mine,
  wants,
  sheet,
  Outcome,
  hands,
  perform,
  unless_refused,
  step,
}
use Rattle.bookkeeping.specs.Blocks.{Block, All, listed}
use Rattle.bookkeeping.specs.Blocks.All.{all_none, all_more}
use Rattle.bookkeeping.specs.Claim.{Asks, Wanting, NoneFrom, Picked, Answered}
use Rattle.bookkeeping.proofs.Wants.{at_least, listed_counts, finds}
use Rattle.bookkeeping.proofs.Sheets.{level_low, Grantable, grantable}
use Rattle.bookkeeping.proofs.Steps.{hands_is, then_is}

-- ---- an accepted call is not refused

abbrev Accepts : Answer → Type 0
Accepts y = (r : Refusal) → y ≡ Refused r → ⊥

done_accepts : (a n : ℕ) → Accepts (Done a n)
done_accepts a n r e = let z : ◌≡◌ {A = ℕ} 0 1 = cc in omega arith

text_accepts : (t : List ℕ) → Accepts (Text t)
text_accepts t r e = let z : ◌≡◌ {A = ℕ} 0 1 = cc in omega arith

bytes_accepts : (t : List ℕ) → Accepts (Bytes t)
bytes_accepts t r e = let z : ◌≡◌ {A = ℕ} 0 1 = cc in omega arith

hands_accepts : (b : Board) (l : ℕ) (t : Store) (o : Option ℕ) → Accepts (hands b l (record { store = t; page = o })).answer
hands_accepts b l t none = done_accepts 0 0
hands_accepts b l t (some p) = done_accepts (b.page * p) (bytes_of_level b l)

perform_accepts : (b : Board) (s : Store) (c : Call) → Accepts (perform b s c).answer
unfolding perform
perform_accepts b s (Alloc y) = let g = try_alloc_frame b (mine s) (find_level b y) y.flags s in hands_accepts b (find_level b y) g.store g.page
perform_accepts b s (Take y) = let g = try_alloc_split_frames b (mine s) (find_level b y) y.flags s in hands_accepts b (find_level b y) g.store g.page
perform_accepts b s (Split a) = done_accepts _ _
perform_accepts b s (Free a) = done_accepts _ _
perform_accepts b s (Zero a) = done_accepts _ _
perform_accepts b s (Dirty a) = done_accepts _ _
perform_accepts b s (Find a) = done_accepts _ _
perform_accepts b s (Queue a) = done_accepts _ _
perform_accepts b s (Fill a off len byte) = done_accepts _ _
perform_accepts b s (Write a off bytes) = done_accepts _ _
perform_accepts b s (Read a off len) = bytes_accepts _
perform_accepts b s (Copy dst doff src soff len) = done_accepts _ _
perform_accepts b s (Pcopy dst doff src len) = done_accepts _ _
perform_accepts b s Round = done_accepts _ _
perform_accepts b s (Lend n) = done_accepts _ _
perform_accepts b s (Back n) = done_accepts _ _
perform_accepts b s Low = done_accepts _ _
perform_accepts b s Stats = text_accepts _

-- ---- refused exactly as the sheet says

module _ (b : Board) (s : Store) (c : Call) where
  as_sheet : (o : Option Refusal) (x : Outcome) → Accepts x.answer → (r : Refusal) → ((unless_refused s o x).answer ≡ Refused r) ↔ (o ≡ some r)
  as_sheet none x h r = (λ e. absurd (h r e), λ e. absurd (let z : ◌≡◌ {A = ℕ} 0 1 = cc in omega arith))
  as_sheet (some q) x h r = (λ e. let d : q ≡ r = cc in rw d, λ e. let d : q ≡ r = cc in rw d)

  unchanged : (o : Option Refusal) (x : Outcome) → Accepts x.answer → (r : Refusal) → (unless_refused s o x).answer ≡ Refused r → (unless_refused s o x).store ≡ s
  unchanged none x h r e = absurd (h r e)
  unchanged (some q) x h r e = refl

  refused : (r : Refusal) → ((step b s c).answer ≡ Refused r) ↔ (first_met (sheet b s (names c)) ≡ some r)
  unfolding step
  refused r = as_sheet (first_met (sheet b s (names c))) (perform b s c) (perform_accepts b s c) r

  untouched : (r : Refusal) → (step b s c).answer ≡ Refused r → (step b s c).store ≡ s
  unfolding step
  untouched r e = unchanged (first_met (sheet b s (names c))) (perform b s c) (perform_accepts b s c) r e

  passes : (o : Option Refusal) (x : Outcome) → o ≡ none → unless_refused s o x ≡ x
  passes none x e = refl
  passes (some r) x e = absurd (let z : ◌≡◌ {A = ℕ} 0 1 = cc in omega arith)

  step_performs : first_met (sheet b s (names c)) ≡ none → step b s c ≡ perform b s c
  unfolding step
  step_performs e = passes (first_met (sheet b s (names c))) (perform b s c) e

-- ---- the frame that the search finds

granted_page
    : (b : Board) (n : ℕ) (flags : FrameAllocFlags) (s : Store) (a : PhysicalFrameAllocator) (o : Option ℕ)
    → (granted b n flags s (record { allocator = a; page = o })).page ≡ o
granted_page b n flags s a none = refl
granted_page b n flags s a (some p) = refl

module _ (b : Board) (s : Store) (y : Layout) where
  found_page : (p : ℕ) → (do_alloc (mine s) (find_level b y) y.flags.zeroed s.allocator).page ≡ some p → (try_alloc_frame b (mine s) (find_level b y) y.flags s).page ≡ some p
  unfolding try_alloc_frame
  found_page p e =
      granted_page b _ y.flags s (do_alloc (mine s) (find_level b y) y.flags.zeroed s.allocator).allocator
      (do_alloc (mine s) (find_level b y) y.flags.zeroed s.allocator).page ∙ e

  alloc_answer
      : (p : ℕ) → (do_alloc (mine s) (find_level b y) y.flags.zeroed s.allocator).page ≡ some p
      → (perform b s (Alloc y)).answer ≡ Done (b.page * p) (bytes_of_level b (find_level b y))
  unfolding perform
  alloc_answer p e =
      let g = try_alloc_frame b (mine s) (find_level b y) y.flags s in ap (λ (o : Outcome). o.answer) (hands_is b (find_level b y) g.store g.page p (found_page p e))

  take_answer
      : (p : ℕ) → (do_alloc (mine s) (find_level b y) y.flags.zeroed s.allocator).page ≡ some p
      → (perform b s (Take y)).answer ≡ Done (b.page * p) (bytes_of_level b (find_level b y))
  unfolding perform try_alloc_split_frames
  take_answer p e =
      let g = try_alloc_frame b (mine s) (find_level b y) y.flags s in
      ap (λ (t : Granted). (hands b (find_level b y) t).answer) (then_is g.store g.page p (found_page p e))

  picks : Grantable b s y → (p : ℕ) × ((do_alloc (mine s) (find_level b y) y.flags.zeroed s.allocator).page ≡ some p)
  picks g = finds (mine s) (find_level b y) y.flags.zeroed s.allocator g.low g.listed

  alloc_picked : first_met (sheet b s (names (Alloc y))) ≡ none → Picked b s y (step b s (Alloc y)).answer
  alloc_picked e =
      let x = picks (grantable b s (names (Alloc y)) y [] refl (passed b s (names (Alloc y)) e)) in
      record { page = x.0; found = x.1; given = ap (λ (o : Outcome). o.answer) (step_performs b s (Alloc y) e) ∙ alloc_answer x.0 x.1 }

  take_picked : first_met (sheet b s (names (Take y))) ≡ none → Picked b s y (step b s (Take y)).answer
  take_picked e =
      let x = picks (grantable b s (names (Take y)) y [] refl (passed b s (names (Take y)) e)) in
      record { page = x.0; found = x.1; given = ap (λ (o : Outcome). o.answer) (step_performs b s (Take y) e) ∙ take_answer x.0 x.1 }

-- ---- want of memory

-- the sheet of a grant
grant_sheet : (bad high want wait : Bool) → Option Refusal
grant_sheet bad high want wait =
    or_later (BadLayout when bad || false)
    (or_later (NoLevel when high || false)
    (or_later (NoFrame when (want && not wait) || false)
    (or_later (MustWait when (want && wait) || false) none)))

abbrev Lacking : Option Refusal → Type 0
Lacking o = (o ≡ some NoFrame) ⊎ (o ≡ some MustWait)

grant_lacks : (bad high want wait : Bool) → Lacking (grant_sheet bad high want wait) → (bad ≡ false) × (high ≡ false) × (want ≡ true)
unfolding grant_sheet
grant_lacks true high want wait (inl e) = absurd (let z : ◌≡◌ {A = ℕ} 0 1 = cc in omega arith)
grant_lacks true high want wait (inr e) = absurd (let z : ◌≡◌ {A = ℕ} 0 1 = cc in omega arith)
grant_lacks false true want wait (inl e) = absurd (let z : ◌≡◌ {A = ℕ} 0 1 = cc in omega arith)
grant_lacks false true want wait (inr e) = absurd (let z : ◌≡◌ {A = ℕ} 0 1 = cc in omega arith)
grant_lacks false false true wait e = (refl, refl, refl)
grant_lacks false false false wait (inl e) = absurd (let z : ◌≡◌ {A = ℕ} 0 1 = cc in omega arith)
grant_lacks false false false wait (inr e) = absurd (let z : ◌≡◌ {A = ℕ} 0 1 = cc in omega arith)

lacks_grant : (bad high want wait : Bool) → (bad ≡ false) × (high ≡ false) × (want ≡ true) → Lacking (grant_sheet bad high want wait)
unfolding grant_sheet
lacks_grant bad high want true (i, j, k) = inr (rw (i, j, k))
lacks_grant bad high want false (i, j, k) = inl (rw (i, j, k))

sheet_of : (b : Board) (s : Store) (y : Layout) → first_met (sheet b s (layout_named y)) ≡ grant_sheet (bad_layout y) (no_level b y) (wants b s y) y.flags.wait_ok
unfolding sheet first_met any grant_sheet
sheet_of b s y = refl

module _ (among : ℕ → Bool) (l : ℕ) where
  all_below : (xs : List Block) → sum (at_least among l) xs ≡ 0 → All (λ x. among x.page ≡ true → x.level < l) xs
  unfolding sum
  all_below [] e = all_none
  all_below (x ∷ xs) e = all_more {x = x} (λ m. go m (leb l x.level) refl) (all_below xs (omega arith))
    where
      go : among x.page ≡ true → (t : Bool) → leb l x.level ≡ t → x.level < l
      go m true i = absurd (omega (arith, rw (i, m) at e))
      go m false i = leb-false l x.level i

  below_all : (xs : List Block) → All (λ x. among x.page ≡ true → x.level < l) xs → sum (at_least among l) xs ≡ 0
  unfolding sum
  below_all [] all_none = refl
  below_all (x ∷ xs) (all_more i h) = go (leb l x.level) refl (among x.page) refl (below_all xs h)
    where
      go
          : (t : Bool) → leb l x.level ≡ t → (u : Bool) → among x.page ≡ u → sum (at_least among l) xs ≡ 0
          → cond t (bit u) 0 + sum (at_least among l) xs ≡ 0
      go true e true d k = absurd (false≢true (sym (lt-leb l x.level (i d)) ∙ e))
      go true e false d k = omega arith
      go false e u d k = omega arith

module _ (b : Board) (s : Store) (y : Layout) where
  -- nothing listed, by the definition's test
  none_listed : find_level b y ≤ 2 → wants b s y ≡ true → NoneFrom (find_level b y) s
  none_listed h e =
      all_below (mine s) (find_level b y) (listed s.allocator.regions)
      (omega (
        arith,
        ltb-false 0 (sum (at_least (mine s) (find_level b y)) (listed s.allocator.regions))
            (sym (listed_counts (mine s) (find_level b y) s.allocator.regions h) ∙ not-true (is_listed (mine s) (find_level b y) s.allocator.regions) e),
      ))

  listed_none : find_level b y ≤ 2 → NoneFrom (find_level b y) s → wants b s y ≡ true
  listed_none h i =
      ap not (listed_counts (mine s) (find_level b y) s.allocator.regions h ∙ le-ltb 0 (sum (at_least (mine s) (find_level b y)) (listed s.allocator.regions))
      (omega (arith, below_all (mine s) (find_level b y) (listed s.allocator.regions) i)))

  abbrev Want : Type 0
  Want = (bad_layout y ≡ false) × (no_level b y ≡ false) × NoneFrom (find_level b y) s

  sheet_want : Lacking (first_met (sheet b s (layout_named y))) → Want
  sheet_want e =
      let x = grant_lacks (bad_layout y) (no_level b y) (wants b s y) y.flags.wait_ok (rw sheet_of at e) in
      (x.0, x.1, none_listed (level_low b y x.1) x.2)

  want_sheet : Want → Lacking (first_met (sheet b s (layout_named y)))
  want_sheet (i, j, k) = rw sheet_of (lacks_grant (bad_layout y) (no_level b y) (wants b s y) y.flags.wait_ok (i, j, listed_none (level_low b y j) k))

  -- a call whose sheet is the grant's
  wants_exactly : (c : Call) → names c ≡ layout_named y → Wanting (step b s c).answer ↔ Want
  wants_exactly c e = (to, from)
    where
      to : Wanting (step b s c).answer → Want
      to (inl i) = sheet_want (subst (λ (n : Names). Lacking (first_met (sheet b s n))) e (inl ((refused b s c NoFrame).0 i)))
      to (inr i) = sheet_want (subst (λ (n : Names). Lacking (first_met (sheet b s n))) e (inr ((refused b s c MustWait).0 i)))

      back : Lacking (first_met (sheet b s (names c))) → Wanting (step b s c).answer
      back (inl i) = inl ((refused b s c NoFrame).1 i)
      back (inr i) = inr ((refused b s c MustWait).1 i)

      from : Want → Wanting (step b s c).answer
      from w = back (rw e (want_sheet w))

pub answered : (b : Board) (s : Store) (c : Call) → Answered b s c
answered b s c =
    record {
      refused_as_sheet = refused b s c;
      untouched = untouched b s c;
      want_exactly = λ y x. wants_exactly b s y c (asks y x);
      picked = picked;
    }
  where
    asks : (y : Layout) → Asks c y → names c ≡ layout_named y
    asks y (inl e) = ap names e
    asks y (inr e) = ap names e

    picked : (y : Layout) → Asks c y → first_met (sheet b s (names c)) ≡ none → Picked b s y (step b s c).answer
    picked y (inl e) = subst (λ (c : Call). first_met (sheet b s (names c)) ≡ none → Picked b s y (step b s c).answer) (sym e) (alloc_picked b s y)
    picked y (inr e) = subst (λ (c : Call). first_met (sheet b s (names c)) ≡ none → Picked b s y (step b s c).answer) (sym e) (take_picked b s y)
