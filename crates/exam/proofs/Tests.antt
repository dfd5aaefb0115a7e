-- What was seen at an address, in the sheet's terms: the refusal of a held frame read off its record is the definition's, and where there is none a held frame
-- starts there.
use Prim.Native.Nat.{ℕ, ◌+◌, ◌*◌, ◌/◌, ◌%◌, ◌<◌}
use mathlib.Core.Bool.{Bool, true, false, not, cond, ◌&&◌}
use mathlib.Core.List.{List, [], ◌∷◌}
use mathlib.Core.Option.{Option, none, some}
use mathlib.Core.Path.{◌≡◌, refl, sym, ap, ◌∙◌}
use Rattle.std.specs.Prelude.{Result, Ok, Err, Some, None}
use Rattle.std.specs.Prelude.{Option as MayBe}
use Rattle.std.proofs.Math.Logic.{∥∥₁_elim}
use Rattle.std.proofs.Props.{props}
use native.Mathlib.Omega.{arith}
use borrow.Author.Tests.{eq-eqb, eqb-true, ltb-false}
use lib.Dec.{eqb, ltb}
use Rattle.definition.specs.declared.Record.{Record}
use Rattle.definition.specs.declared.Row.{Row}
use Rattle.definition.specs.declared.Refusal.{Refusal}
use Rattle.definition.specs.declared.Refusal.TheVariants.{Outside, NoFrameStart, NotHeld, PastTheEnd}
use Rattle.definition.specs.Basics.{is_some}
use Rattle.definition.specs.Board.{Board}
use Rattle.definition.specs.Frame.{Frame, is_allocated, size}
use Rattle.definition.specs.Contents.{size_of}
use Rattle.definition.specs.Refusal.{◌when◌, first_met}
use Rattle.definition.specs.Store.{Store}
use Rattle.definition.specs.Allocator.{PhysicalFrameAllocator, is_managed}
use Rattle.definition.specs.Tracker.{starts_frame, is_held}
use Rattle.definition.specs.Calls.{leaves_frame}
use Rattle.definition.specs.World.{frame_of}
use Rattle.definition.proofs.Tests.{and_left, and_right}
use Rattle.world.specs.Refusals.{frame_refusal, range_of}
use Rattle.allocator.specs.declared.Seen.{Seen}
use Rattle.allocator.specs.Spots.{Sees, SeesAll, SeesPage}
use Rattle.region.specs.Rep.{state_of}
use Rattle.world.specs.Tables.{Sane}
use Rattle.allocator.proofs.Turning.{sees_held, sees_in, spot_good}
use Rattle.allocator.proofs.Standing.{sane_table, standing}
use Rattle.exam.specs.Promise.{Found, HeldSeen, Leveled, Looks, bytes_if, held_as, refusal_in}

-- the four lines of the sheet by their tests
by_tests : (a b c d : Bool)
    → first_met ((Outside when not a) ∷ (NoFrameStart when not b) ∷ (NotHeld when not c) ∷ (PastTheEnd when d) ∷ [])
    ≡ cond (not a) (some Outside) (cond (not b) (some NoFrameStart) (cond (not c) (some NotHeld) (cond d (some PastTheEnd) none)))
unfolding first_met
by_tests false b c d = refl
by_tests true false c d = refl
by_tests true true false d = refl
by_tests true true true true = refl
by_tests true true true false = refl

-- ---- the frame of a record

-- the frame of an admitted record
abbrev of_record : Record → Frame
of_record r = record { level = r.level; allocated = eqb (r.marks / 2 % 2) 1; zeroed = eqb (r.marks / 4 % 2) 1; kernel = eqb (r.marks / 8 % 2) 1 }

some_frame : (r : Record) → is_some (frame_of r) ≡ eqb (r.marks % 2) 1
unfolding frame_of
some_frame r = go (eqb (r.marks % 2) 1)
  where
    go : (b : Bool) → is_some (cond b (some (of_record r)) none) ≡ b
    go true = refl
    go false = refl

admitted_frame : (r : Record) → eqb (r.marks % 2) 1 ≡ true
    → frame_of r ≡ some (of_record r)
unfolding frame_of
admitted_frame r e = rw e refl

module _ (board : Board) where
  size_frame : (r : Record) → board.page * size_of (frame_of r) ≡ cond (eqb (r.marks % 2) 1) (board.page * size r.level) 0
  unfolding frame_of
  size_frame r = go (eqb (r.marks % 2) 1)
    where
      go : (b : Bool) → board.page * size_of (cond b (some (of_record r)) none) ≡ cond b (board.page * size r.level) 0
      go true = refl
      go false = omega arith

-- ---- the refusal

module _ {board : Board} where
  -- of a page that was seen
  module _ {f : ℕ → Record} {rows : List Row} (s : Store) (a off len : ℕ) (r : Seen) (S : SeesPage board f rows (a / board.page) s.allocator r) where
    abbrev record_seen : Record
    record_seen = record { marks = r.marks; level = r.level; earlier = (f r.spot.page).earlier; later = (f r.spot.page).later }

    seen_marks : s.allocator.frames (a / board.page) ≡ frame_of record_seen
    seen_marks = S.frame ∙ rw (S.marks, S.level) refl

    pub bytes_seen : board.page * size_of (s.allocator.frames (a / board.page)) ≡ bytes_if board r
    bytes_seen = rw seen_marks (size_frame board record_seen)

    starts_seen : is_some (s.allocator.frames (a / board.page)) ≡ eqb (r.marks % 2) 1
    starts_seen = rw seen_marks (some_frame record_seen)

    held_seen : eqb (r.marks % 2) 1 ≡ true → is_allocated (s.allocator.frames (a / board.page)) ≡ eqb (r.marks / 2 % 2) 1
    held_seen e = rw (seen_marks, admitted_frame record_seen e) refl

    abbrev by_store : Option Refusal
    by_store =
        cond (not (starts_frame board s a)) (some NoFrameStart)
        (cond (not (is_held board s a)) (some NotHeld) (cond (leaves_frame board s (range_of a off len)) (some PastTheEnd) none))

    last_two : (h l : Bool) → cond (not h) (some NotHeld) (cond l (some PastTheEnd) none) ≡ refusal_in (cond (not h) (Err NotHeld) (cond l (Err PastTheEnd) (Ok r)))
    last_two false l = refl
    last_two true true = refl
    last_two true false = refl

    page_seen : (b c : Bool) → eqb (a % board.page) 0 ≡ b → eqb (r.marks % 2) 1 ≡ c → by_store ≡ refusal_in (held_as board (Some r) a off len)
    page_seen false c e d = rw (starts_seen, e) refl
    page_seen true false e d = rw (starts_seen, e, d) refl
    page_seen true true e d = rw (bytes_seen, starts_seen, held_seen d, e, d) (last_two (eqb (r.marks / 2 % 2) 1) (ltb (board.page * size r.level) (off + len)))

module _ (board : Board) (f : ℕ → Record) (rows : List Row) where
  pub frame_seen
      : (s : Store) (a off len : ℕ) (o : MayBe Seen) → Sees board f rows (a / board.page) s.allocator o
      → frame_refusal board s (range_of a off len) ≡ refusal_in (held_as board o a off len)
  frame_seen s a off len None S =
      by_tests (is_managed board s.allocator.regions (a / board.page)) (starts_frame board s a) (is_held board s a) (leaves_frame board s (range_of a off len))
      ∙ rw S refl
  frame_seen s a off len (Some r) S =
      by_tests (is_managed board s.allocator.regions (a / board.page)) (starts_frame board s a) (is_held board s a) (leaves_frame board s (range_of a off len))
      ∙ rw S.managed (page_seen s a off len r S (eqb (a % board.page) 0) (eqb (r.marks % 2) 1) refl refl)

  -- the frames of a sane table have one of the three levels
  page_leveled : {n p : ℕ} {a : PhysicalFrameAllocator} {r : Seen} → Sane board f n rows → SeesPage board f rows p a r → r.marks % 2 ≡ 1 → r.level < 3
  unfolding state_of
  page_leveled {r = r} N P d =
      let G = spot_good N (sees_in P) in
      let e : frame_of (f r.spot.page) ≡ some (of_record (f r.spot.page)) = admitted_frame (f r.spot.page) (eq-eqb _ 1 (sym (ap (λ (x : ℕ). x % 2) P.marks) ∙ d)) in
      omega (arith, P.level, (G.whole.tile r.spot.page (of_record (f r.spot.page)) P.spot.inside e).level)

  sees_leveled : {n : ℕ} (p : ℕ) (a : PhysicalFrameAllocator) (o : MayBe Seen) → Sane board f n rows → Sees board f rows p a o → Leveled o
  sees_leveled p a None N S r k d = absurd (let z : ◌≡◌ {A = ℕ} 0 1 = cc in omega arith)
  sees_leveled p a (Some t) N S r k d = let e : t ≡ r = cc in page_leveled N (rw e at S) d

  pub seen_leveled : {n : ℕ} (p : ℕ) (o : MayBe Seen) → ∥ Sane board f n rows ∥₁ → SeesAll board f n rows p o → Leveled o
  seen_leveled p o N all r k d =
      ∥∥₁_elim N (hlevel props)
      (λ S. sees_leveled p (standing board f rows) o S (all (standing board f rows) (sane_table S)) r k d)

-- ---- where nothing is refused, a held frame starts there and the range lies in it

all_passed : (r t : Seen) (b c d : Bool)
    → ◌≡◌ {A = Result Seen Refusal} (cond (not b) (Err NoFrameStart) (cond (not c) (Err NotHeld) (cond d (Err PastTheEnd) (Ok r)))) (Ok t)
    → (b ≡ true) × (c ≡ true) × (d ≡ false) × (r ≡ t)
all_passed r t false c d h = absurd (let z : ◌≡◌ {A = ℕ} 0 1 = cc in omega arith)
all_passed r t true false d h = absurd (let z : ◌≡◌ {A = ℕ} 0 1 = cc in omega arith)
all_passed r t true true true h = absurd (let z : ◌≡◌ {A = ℕ} 0 1 = cc in omega arith)
all_passed r t true true false h = let e : r ≡ t = cc in (refl, refl, refl, e)

module _ {board : Board} {f : ℕ → Record} {n : ℕ} {rows : List Row} (N : ∥ Sane board f n rows ∥₁) (a off len : ℕ) where
  page_held
      : (r : Seen) → SeesAll board f n rows (a / board.page) (Some r) → r.marks % 2 ≡ 1 → r.marks / 2 % 2 ≡ 1 → HeldSeen board f rows r
  page_held r all admitted allocated =
      ∥∥₁_elim N (hlevel props) (λ S.
      let P = all (standing board f rows) (sane_table S) in
      let h = sees_held P admitted allocated in
      record { inside = h.0; held = h.1; leveled = page_leveled board f rows S P admitted; marks = P.marks; level = P.level })

  page_found : (r : Seen) → SeesAll board f n rows (a / board.page) (Some r) → held_as board (Some r) a off len ≡ Ok r → Found board f n rows a off len r
  page_found r all e =
      let t = all_passed r r (eqb (a % board.page) 0 && eqb (r.marks % 2) 1) (eqb (r.marks / 2 % 2) 1) (ltb (bytes_if board r) (off + len)) e in
      let admitted = eqb-true (r.marks % 2) 1 (and_right (eqb (a % board.page) 0) _ t.0) in
      let bytes : bytes_if board r ≡ board.page * size r.level = rw (and_right (eqb (a % board.page) 0) _ t.0) refl in
      record {
        held = page_held r all admitted (eqb-true (r.marks / 2 % 2) 1 t.1);
        edge = eqb-true (a % board.page) 0 (and_left _ _ t.0);
        range = omega (arith, ltb-false (bytes_if board r) (off + len) t.2, bytes);
        sees = all;
      }

  seen_found : (o : MayBe Seen) → SeesAll board f n rows (a / board.page) o → (r : Seen) → held_as board o a off len ≡ Ok r → Found board f n rows a off len r
  seen_found None all r e = absurd (let z : ◌≡◌ {A = ℕ} 0 1 = cc in omega arith)
  seen_found (Some t) all r e =
      let k : t ≡ r = (all_passed t r (eqb (a % board.page) 0 && eqb (t.marks % 2) 1) (eqb (t.marks / 2 % 2) 1) (ltb (bytes_if board t) (off + len)) e).3 in
      page_found r (rw k at all) (rw k at e)

  pub looks_at : (o : MayBe Seen) → SeesAll board f n rows (a / board.page) o → Looks board f n rows a off len (held_as board o a off len)
  looks_at o all = record { refusal = λ s T. frame_seen board f rows s a off len o (all s.allocator T); found = seen_found o all }
