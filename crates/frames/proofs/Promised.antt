-- What a lookup, a split and a free make of a store (`Made`), over plain worlds: `turned_made` where only the table and the counters
-- change, the rest what each call does to the store that the world holds.
use Prim.Native.Nat.{ℕ, ◌+◌, ◌*◌, ◌/◌, ◌%◌, ◌<◌}
use mathlib.Core.Bool.{Bool, true, false, not, cond, ◌&&◌, false≢true}
use mathlib.Core.List.{List, [], ◌∷◌}
use mathlib.Core.Option.{none, some}
use mathlib.Core.Path.{◌≡◌, refl, sym, ap, ◌∙◌}
use Rattle.std.specs.Prelude.{Ok, Err, None, Some}
use Rattle.std.specs.Prelude.{Option as MayBe}
use Rattle.std.specs.Option.{ok_or}
use native.Mathlib.Omega.{arith}
use borrow.Author.Tests.{ltb-true}
use lib.Dec.{eqb, leb, ltb}
use lib.ListN.{get_or, length}
use Rattle.definition.specs.declared.Counters.{Counters}
use Rattle.definition.specs.declared.Record.{Record}
use Rattle.definition.specs.declared.Row.{Row}
use Rattle.definition.specs.declared.Refusal.{Refusal}
use Rattle.definition.specs.declared.Refusal.TheVariants.{Outside, PastTheEnd}
use Rattle.definition.specs.Basics.{any}
use Rattle.definition.specs.Board.{Board, Fit}
use Rattle.definition.specs.Frame.{Frame, is_allocated, size}
use Rattle.definition.specs.Allocator.{AllocationRegion, PhysicalFrameAllocator, contains, end, first, is_managed}
use Rattle.definition.specs.Contents.{frame_bytes}
use Rattle.definition.specs.Refusal.{◌when◌, first_met}
use Rattle.definition.specs.Store.{Store, with_allocator, with_counters}
use Rattle.definition.specs.Tracker.{count_free, free_frame, split_frame}
use Rattle.definition.specs.Calls.{Call, Find, Free, Split, done, perform, step}
use Rattle.definition.specs.World.{World, frame_of, record_at}
use Rattle.definition.proofs.Boards.{page_least}
use Rattle.definition.proofs.Bytes.{address_is, offset_small, page_before}
use Rattle.record.specs.Records.{pages_in}
use Rattle.region.specs.Rep.{state_of}
use Rattle.world.specs.Refusals.{refusal_of}
use Rattle.world.specs.Tables.{Turned}
use Rattle.world.proofs.Refusing.{one_frame, one_place}
use Rattle.allocator.specs.declared.Seen.{Seen}
use Rattle.allocator.specs.Spots.{Sees, SeesPage, TurnsBy, free_at, number_at, split_at}
use Rattle.exam.specs.Making.{Made, Whole}
use Rattle.exam.specs.Promise.{HeldSeen, Looks, bytes_if, refusal_in, reply}
use Rattle.exam.proofs.Making.{looked_bytes, looked_free, looked_number, looked_page, looked_refused}
use Rattle.exam.proofs.Making.{made_left, made_refused, made_same, table_as_long, unwritten}
use Rattle.exam.proofs.Tests.{bytes_seen}

-- ---- a call that changes the table and the counters alone

abbrev pub turned_into : World → List Row → Counters → List ℕ → World
turned_into w rows counters records =
    record {
      rows = rows;
      counters = counters;
      queued = w.queued;
      pass = w.pass;
      records = records;
      memory = w.memory;
      queue = w.queue;
    }

module _ {board : Board} {w : World} {s : Store} (H : Whole board w s) (bs : List ℕ) (e : length bs ≡ length w.records) where
  pub turned_made
      : (c : Call) (x : PhysicalFrameAllocator) (k : Counters) (rows : List Row) (a n : ℕ) → refusal_of board s c ≡ none
      → perform board s c ≡ done (with_counters (with_allocator s x) k) a n
      → Turned board (record_at w.records) w.rows (record_at bs) (pages_in bs) rows x → ((i : ℕ) → get_or bs i 0 < 256)
      → Made board (step board s c) w (turned_into w rows k bs) (Ok (reply a n))
  turned_made c x k rows a n free p T small =
      let t = with_counters (with_allocator s x) k in
      let S = H.stands in
      made_left H t (turned_into w rows k bs) T e small (unwritten H) refl S.pass S.queue S.queued refl refl c a n free p refl

-- ---- a held frame

abbrev of_record : Record → Frame
of_record x =
    record { level = x.level; allocated = eqb (x.marks / 2 % 2) 1; zeroed = eqb (x.marks / 4 % 2) 1; kernel = eqb (x.marks / 8 % 2) 1 }

held_frame_lem : (x : Record) → is_allocated (frame_of x) ≡ true → frame_of x ≡ some (of_record x)
unfolding frame_of
held_frame_lem x = go (eqb (x.marks % 2) 1)
  where
    go : (b : Bool) → is_allocated (cond b (some (of_record x)) none) ≡ true → cond b (some (of_record x)) none ≡ some (of_record x)
    go true h = refl
    go false h = absurd (false≢true h)

module _ {board : Board} where
  -- what a free of the frame that was seen makes of a store
  pub free_store
      : {f : ℕ → Record} {rows : List Row} (s : Store) (p : ℕ) {r : Seen} → SeesPage board f rows p s.allocator r → HeldSeen board f rows r
      → free_frame board s p
      ≡ with_counters (with_allocator s (free_at board p s.allocator)) (count_free (size r.level) (eqb (r.marks / 8 % 2) 1) s.counters)
  unfolding free_frame state_of
  free_store {f} s p {r} S H = rw (S.frame, held_frame_lem (f r.spot.page) H.held.held, H.marks, H.level) refl

split_store_lem
    : (s : Store) (p : ℕ) {c : Counters} → s.counters ≡ c
    → split_frame s p ≡ with_counters (with_allocator s (split_at p s.allocator)) c
unfolding split_frame
split_store_lem s p e = ap (λ (c : Counters). with_counters (with_allocator s (split_at p s.allocator)) c) e

module _ (board : Board) where
  split_performed
      : (s : Store) (a : ℕ)
      → perform board s (Split a) ≡ done (split_frame s (a / board.page)) a (frame_bytes board s (a / board.page))
  unfolding perform
  split_performed s a = refl

  free_performed
      : (s : Store) (a : ℕ)
      → perform board s (Free a) ≡ done (free_frame board s (a / board.page)) a (frame_bytes board s (a / board.page))
  unfolding perform
  free_performed s a = refl

  find_performed
      : (s : Store) (a : ℕ)
      → perform board s (Find a) ≡ done s (board.page * (a / board.page)) (frame_bytes board s (a / board.page))
  unfolding perform
  find_performed s a = refl

module _ {board : Board} {w : World} {s : Store} (H : Whole board w s) {a : ℕ} {e : Refusal}
    (L : Looks board (record_at w.records) (pages_in w.records) w.rows a 0 0 (Err e))
  where
    pub split_refused : Made board (step board s (Split a)) w w (Err e)
    split_refused = looked_refused H L (Split a) (one_frame board s a 0 0) e refl

    pub free_refused : Made board (step board s (Free a)) w w (Err e)
    free_refused = looked_refused H L (Free a) (one_frame board s a 0 0) e refl

module _ {board : Board} {w : World} {s : Store} (H : Whole board w s) {a : ℕ} {r : Seen}
    (L : Looks board (record_at w.records) (pages_in w.records) w.rows a 0 0 (Ok r))
    (bs : List ℕ) (e : length bs ≡ length w.records) (small : (i : ℕ) → get_or bs i 0 < 256)
  where
    abbrev p : ℕ
    p = a / board.page

    pub split_made
        : TurnsBy board (split_at (number_at board w.rows r.spot)) (record_at w.records) w.rows (record_at bs) (pages_in bs) w.rows
        → Made board (step board s (Split a)) w (turned_into w w.rows w.counters bs) (Ok (reply a (bytes_if board r)))
    split_made T =
        rw (← looked_bytes H L r refl)
        (turned_made H bs e (Split a) (split_at p s.allocator) w.counters w.rows a (frame_bytes board s p)
        (one_frame board s a 0 0 ∙ looked_free H L r refl)
        (split_performed board s a ∙ ap (λ (t : Store). done t a (frame_bytes board s p)) (split_store_lem s p H.stands.counters))
        (rw (looked_number H L r refl) at (T s.allocator (table_as_long H bs e)))
        small)

    pub free_made
        : (rows : List Row) (k : Counters)
        → TurnsBy board (free_at board (number_at board w.rows r.spot)) (record_at w.records) w.rows (record_at bs) (pages_in bs) rows
        → k ≡ count_free (size r.level) (eqb (r.marks / 8 % 2) 1) w.counters
        → Made board (step board s (Free a)) w (turned_into w rows k bs) (Ok (reply a (bytes_if board r)))
    free_made rows k T counted =
        let c = ap (count_free (size r.level) (eqb (r.marks / 8 % 2) 1)) H.stands.counters ∙ sym counted in
        let freed =
        free_store s p (looked_page H L r refl) (L.found r refl).held
        ∙ ap (with_counters (with_allocator s (free_at board p s.allocator))) c
        in
        rw (← looked_bytes H L r refl)
        (turned_made H bs e (Free a) (free_at board p s.allocator) k rows a (frame_bytes board s p)
        (one_frame board s a 0 0 ∙ looked_free H L r refl)
        (free_performed board s a ∙ ap (λ (t : Store). done t a (frame_bytes board s p)) freed)
        (rw (looked_number H L r refl) at (T s.allocator (table_as_long H bs e)))
        small)

-- ---- a lookup

module _ (board : Board) (fit : Fit board) where
  -- a place of no bytes leaves no region that has its page
  abbrev leaves : AllocationRegion → ℕ → Bool
  leaves t a = ltb (board.page * end board t) (a + (0 + 0))

  stays : (rs : List AllocationRegion) (a : ℕ) → any (λ t. contains board t (a / board.page) && leaves t a) rs ≡ false
  unfolding any
  stays [] a = refl
  stays (t ∷ rs) a =
      rw (go (leb (first board t) (a / board.page)) (ltb (a / board.page) (end board t)) (leaves t a) refl refl) (stays rs a)
    where
      go : (x y z : Bool) → ltb (a / board.page) (end board t) ≡ y → leaves t a ≡ z → (x && y) && z ≡ false
      go false y z e d = refl
      go true false z e d = refl
      go true true false e d = refl
      go true true true e d =
          let P = board.page in
          let inside = page_before P (ltb-true (a / P) (end board t) e) in
          let off = offset_small P (omega (arith, page_least fit)) a in
          absurd (omega (arith, inside, address_is P a, off, ltb-true (P * end board t) (a + (0 + 0)) d))

  -- so it is refused as outside or not at all
  abbrev managed : Store → ℕ → Bool
  managed s a = is_managed board s.allocator.regions (a / board.page)

  pub place_refusal_lem : (s : Store) (a : ℕ) → refusal_of board s (Find a) ≡ cond (managed s a) none (some Outside)
  unfolding first_met
  place_refusal_lem s a = one_place board s a 0 0 ∙ rw (stays s.allocator.regions a) (go (managed s a))
    where
      go : (m : Bool) → first_met ((Outside when not m) ∷ (PastTheEnd when false) ∷ []) ≡ cond m none (some Outside)
      go true = refl
      go false = refl

module _ {board : Board} (fit : Fit board) {w : World} {s : Store} (H : Whole board w s) (a : ℕ) where
  seen_refusal
      : (o : MayBe Seen) → Sees board (record_at w.records) w.rows (a / board.page) s.allocator o
      → refusal_of board s (Find a) ≡ refusal_in (ok_or o Outside)
  seen_refusal None Z = place_refusal_lem board fit s a ∙ rw Z refl
  seen_refusal (Some r) Z = place_refusal_lem board fit s a ∙ rw Z.managed refl

  module _ (o : MayBe Seen) (Z : Sees board (record_at w.records) w.rows (a / board.page) s.allocator o) where
    pub find_refused : (r : Refusal) → ok_or o Outside ≡ Err r → Made board (step board s (Find a)) w w (Err r)
    find_refused r e = made_refused H (Find a) r (seen_refusal o Z ∙ ap refusal_in e)

    pub find_made
        : (r : Seen) → ok_or o Outside ≡ Ok r → o ≡ Some r
        → Made board (step board s (Find a)) w w (Ok (reply (board.page * (a / board.page)) (bytes_if board r)))
    find_made r e k =
        let p = a / board.page in
        rw (← bytes_seen s a 0 0 r (rw k at Z))
        (made_same H (Find a) (done s (board.page * p) (frame_bytes board s p)) (seen_refusal o Z ∙ ap refusal_in e)
        (find_performed board s a) refl)
