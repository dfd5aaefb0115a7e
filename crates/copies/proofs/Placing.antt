-- A copy from a physical address: the region that manages the address is the one whose row was seen, so what the sheet asks of all
-- regions is asked of that row, and the bytes up to the region's end follow one another in the loan.
use Prim.Native.Nat.{ℕ, zero, suc, ◌+◌, ◌-◌, ◌*◌, ◌/◌, ◌%◌, ◌≤◌, ◌<◌}
use mathlib.Core.Bool.{Bool, true, false, not, cond, ◌&&◌, ◌||◌}
use mathlib.Core.List.{List, [], ◌∷◌}
use mathlib.Core.Option.{none, some}
use mathlib.Core.Path.{◌≡◌, refl, sym, ap, ◌∙◌}
use Rattle.std.specs.Prelude.{Result, Ok, Err, Some, None}
use Rattle.std.specs.Prelude.{Option as MayBe}
use native.Mathlib.Omega.{arith}
use borrow.Author.Tests.{ltb-false}
use lib.Dec.{ltb}
use lib.ListN.{length, take, drop}
use Rattle.definition.proofs.Boards.{page_least}
use Rattle.definition.proofs.Bytes.{address_is, offset_small, page_before, pages_less}
use Rattle.definition.specs.declared.Record.{Record}
use Rattle.definition.specs.declared.Row.{Row}
use Rattle.definition.specs.declared.Refusal.{Refusal}
use Rattle.definition.specs.declared.Refusal.TheVariants.{Outside, PastTheEnd}
use Rattle.definition.specs.Basics.{any}
use Rattle.definition.specs.Board.{Board, Fit}
use Rattle.definition.specs.Boot.{managed_pages}
use Rattle.definition.specs.Allocator.{AllocationRegion, PhysicalFrameAllocator, contains, end, is_managed}
use Rattle.definition.specs.Refusal.{◌when◌, first_met}
use Rattle.definition.specs.Contents.{bytes_at, copy_contents_from_physaddr}
use Rattle.definition.specs.Calls.{Pcopy, done, leaves_region, perform, step}
use Rattle.definition.specs.Store.{Store}
use Rattle.definition.specs.World.{World, bare_region, record_at, used_rows}
use Rattle.definition.specs.Torn.{bare_regions, regions_of}
use Rattle.record.specs.Records.{pages_in}
use Rattle.region.specs.Rep.{Inside, from_of, managed}
use Rattle.world.specs.Refusals.{place_refusal, range_of, refusal_of}
use Rattle.world.specs.Stands.{Disjoint, Each, Parted, row_at}
use Rattle.world.specs.Stands.Disjoint.{disjoint_more}
use Rattle.world.specs.Stands.Each.{each_none, each_more}
use Rattle.world.specs.Tables.{Sane}
use Rattle.world.proofs.Places.{Lies, Runs, contains_false, contains_true, runs_lies, spotted_end, spotted_runs}
use Rattle.world.proofs.Refusing.{frame_and_place}
use Rattle.world.proofs.Sheets.{each_at}
use Rattle.world.proofs.Spans.{any_spans, runs_bare, spans_bare}
use Rattle.world.proofs.Tables.{used_row}
use Rattle.world.proofs.Writing.{memory_read}
use Rattle.allocator.specs.declared.Seen.{Seen}
use Rattle.allocator.specs.Spots.{Sees, SeesIn, SeesPage, number_at}
use Rattle.allocator.proofs.Standing.{sane_table, standing}
use Rattle.words.specs.Words.{board_in, rows_in}
use Rattle.words.proofs.Words.{fit_in}
use Rattle.allocator.proofs.Turning.{sees_in, spot_good, spot_index}
use Rattle.exam.specs.declared.lending.Contents.{Contents}
use Rattle.exam.specs.Making.{Made, Whole}
use Rattle.exam.specs.Promise.{Looks, both_held, refusal_in, reply}
use Rattle.exam.proofs.Making.{looked_number, made_done, made_refused, whole_table}
use Rattle.copies.specs.Copies.{Inward, Placed, Written, end_seen, place_seen}
use Rattle.copies.proofs.Copying.{both_found, both_refusal}

-- ---- one region of many

module _ (board : Board) where
  module _ (p x : ℕ) where
    -- the page is of the region, which ends before x
    abbrev leaves : AllocationRegion → Bool
    leaves t = contains board t p && ltb (board.page * end board t) x

    in_row : (row : Row) → Inside board (from_of board row) row.pages p → contains board (bare_region board row) p ≡ true
    unfolding from_of managed
    in_row row k = contains_true board (bare_region board row) p k.low (omega (arith, k.low, k.high))

    not_in : (row : Row) → (Inside board (from_of board row) row.pages p → ⊥) → contains board (bare_region board row) p ≡ false
    unfolding from_of managed
    not_in row o = contains_false board (bare_region board row) p (λ l u. o (record { low = l; high = omega arith }))

    no_other
        : (row : Row) (rows : List Row) → Each (λ (t : Row). Parted board row t) rows → Inside board (from_of board row) row.pages p
        → any leaves (bare_regions board rows) ≡ false
    unfolding any bare_regions
    no_other row [] each_none k = refl
    no_other row (t ∷ ts) (each_more a rest) k = rw (not_in t (a p k), no_other row ts rest k) refl

    or_none_lem : (a : Bool) → (a || false) ≡ a
    or_none_lem true = refl
    or_none_lem false = refl

    of_row
        : (rows : List Row) (i : ℕ) → Disjoint board rows → i < length rows
        → Inside board (from_of board (row_at rows i)) (row_at rows i).pages p
        → any leaves (bare_regions board rows) ≡ ltb (board.page * end board (bare_region board (row_at rows i))) x
    unfolding any bare_regions
    of_row [] i D h k = absurd (omega arith)
    of_row (row ∷ rows) zero (disjoint_more d ds) h k =
        rw (in_row row k, no_other row rows d k) (or_none_lem (ltb (board.page * end board (bare_region board row)) x))
    of_row (row ∷ rows) (suc i) (disjoint_more d ds) h k =
        rw (not_in row (λ j. each_at _ d i (omega arith) p j k)) (of_row rows i ds (omega arith) k)

-- ---- the refusal

by_tests
    : (e h : Bool)
    → first_met ((Outside when not e) ∷ (PastTheEnd when h) ∷ []) ≡ cond (not e) (some Outside) (cond h (some PastTheEnd) none)
unfolding first_met
by_tests false h = refl
by_tests true true = refl
by_tests true false = refl

-- ---- what was seen of a sane table

passed : (h : Bool) {r t : Seen} → ◌≡◌ {A = Result Seen Refusal} (cond h (Err PastTheEnd) (Ok r)) (Ok t) → (h ≡ false) × (r ≡ t)
passed true e = absurd (grind arith)
passed false e = (refl, grind arith)

module _ (board : Board) (rows : List Row) (a len : ℕ) {r : Seen} where
  -- a place that is not refused was seen, and its range ends within its region
  place_found
      : (o : MayBe Seen) → place_seen board rows o a len ≡ Ok r → (o ≡ Some r) × (ltb (end_seen board rows r) (a + len) ≡ false)
  place_found None e = absurd (grind arith)
  place_found (Some t) e =
      let k = passed (ltb (end_seen board rows t) (a + len)) e in
      (ap Some k.1, rw (← k.1) k.0)

module _
    {board : Board} {f : ℕ → Record} {n : ℕ} {rows : List Row} (N : Sane board f n rows) (a : ℕ) {x : PhysicalFrameAllocator} {r : Seen}
    (Y : SeesPage board f rows (a / board.page) x r)
  where
    abbrev row : Row
    row = row_at rows r.spot.index

    seen_inside : Inside board (from_of board row) row.pages (a / board.page)
    seen_inside =
        let I = Y.spot in
        record { low = omega (arith, I.number); high = omega (arith, I.number, I.inside.low, I.inside.high) }

    seen_inward : Fit board → Inward board rows r a
    seen_inward fit =
        let I = Y.spot in
        let k = seen_inside in
        record {
          index = spot_index N (sees_in Y);
          before =
              let P = board.page in
              let last = page_before P {a = a / P} {b = end board (bare_region board row)} (omega (arith, spotted_end I, k.high)) in
              omega (arith, last, address_is P a, offset_small P (omega (arith, page_least fit)) a);
          bounded = (spot_good N (sees_in Y)).bounded;
        }

    -- the bytes of a place that is not refused follow one another, up to the end of its region
    module _ (len : ℕ) (h : ltb (end_seen board rows r) (a + len) ≡ false) where
      abbrev at : ℕ
      at = board.page * r.spot.page + a % board.page

      -- the pages from the place's on, as many as its region has
      abbrev RunsIn : List AllocationRegion → Type 0
      RunsIn rs = Runs board rs (a / board.page) r.spot.page (end board (bare_region board row) - a / board.page)

      place_runs : RunsIn (regions_of board rows)
      place_runs = spotted_runs Y.spot N.apart

      place_lies : {rs : List AllocationRegion} → RunsIn rs → Lies board rs a at len
      place_lies R =
          let P = board.page in
          let e = ltb-false (end_seen board rows r) (a + len) h in
          let k : a % P + len ≤ P * (end board (bare_region board row) - a / P) =
          omega (arith, e, address_is P a, pages_less P (end board (bare_region board row)) (a / P))
          in
          runs_lies board R (a % P) len k (sym (address_is P a)) refl

      place_ends : at + len ≤ board.page * managed_pages board (regions_of board rows)
      place_ends = (place_lies place_runs).ends

-- ---- by the contents that are lent

module _ (lent : Contents) (a : ℕ) (o : MayBe Seen) where
  abbrev board : Board
  board = board_in lent.words.now

  abbrev rows : List Row
  rows = rows_in lent.words.now

  module _ (S : SeesIn lent.records.now lent.words.now (a / board.page) o) where
    -- in the table that the words and the records hold
    abbrev here : PhysicalFrameAllocator
    here = standing board (record_at lent.records.now) rows

    page_there : (r : Seen) → o ≡ Some r → SeesPage board (record_at lent.records.now) rows (a / board.page) here r
    page_there r e = rw e at (S here (sane_table lent.table.1))

    pub seen_placed : Placed board rows o a
    seen_placed r e = seen_inward lent.table.1 a (page_there r e) (fit_in lent.words.now)

    -- the place, which lies in the loan
    pub seen_ends
        : (len : ℕ) {r : Seen} → place_seen board rows o a len ≡ Ok r
        → board.page * r.spot.page + a % board.page + len ≤ length lent.memory.now
    seen_ends len {r} e =
        let p = place_found board rows a len o e in
        omega (arith, place_ends lent.table.1 a (page_there r p.0) len p.1, lent.room)

-- ---- in a world that holds a store

module _ {board : Board} {w : World} {s : Store} (W : Whole board w s) (a len : ℕ) where
  module _ {r : Seen} (Y : SeesPage board (record_at w.records) w.rows (a / board.page) s.allocator r) where
    seen_leaves : leaves_region board s (range_of a 0 len) ≡ ltb (end_seen board w.rows r) (a + len)
    seen_leaves =
        let I = Y.spot in
        let e : a + (0 + len) ≡ a + len = omega arith in
        let here = of_row board (a / board.page) (a + len) (used_rows w.rows) r.spot.index W.sane.apart I.used in
        spans_bare (any_spans (leaves board (a / board.page) (a + (0 + len))) (λ t. refl)) W.stands.rows
        ∙ rw e (rw (used_row w.rows r.spot.index I.used) at here (seen_inside W.sane a Y))

    place_bytes
        : ltb (end_seen board w.rows r) (a + len) ≡ false
        → bytes_at s.memory a len ≡ take len (drop (board.page * r.spot.page + a % board.page) w.memory)
    place_bytes h =
        let lies = place_lies W.sane a Y len h (runs_bare W.stands.rows (place_runs W.sane a Y len h)) in
        memory_read board lies s.memory w.memory W.stands.fits W.stands.memory

  end_refusal : (h : Bool) (r : Seen) → cond h (some PastTheEnd) none ≡ refusal_in (cond h (Err PastTheEnd) (Ok r))
  end_refusal true r = refl
  end_refusal false r = refl

  place_seen_lem
      : (o : MayBe Seen) → Sees board (record_at w.records) w.rows (a / board.page) s.allocator o
      → place_refusal board s (range_of a 0 len) ≡ refusal_in (place_seen board w.rows o a len)
  place_seen_lem None S =
      by_tests (is_managed board s.allocator.regions (a / board.page)) (leaves_region board s (range_of a 0 len))
      ∙ rw S refl
  place_seen_lem (Some r) S =
      by_tests (is_managed board s.allocator.regions (a / board.page)) (leaves_region board s (range_of a 0 len))
      ∙ rw (S.managed, seen_leaves S) (end_refusal (ltb (end_seen board w.rows r) (a + len)) r)

  -- ---- the promise

  module _ (o : MayBe Seen) (S : Sees board (record_at w.records) w.rows (a / board.page) s.allocator o)
      {b off : ℕ} {x : Result Seen Refusal} (L : Looks board (record_at w.records) (pages_in w.records) w.rows b off len x)
    where
      abbrev both : Result (Seen × Seen) Refusal
      both = both_held x (place_seen board w.rows o a len)

      refusal : refusal_of board s (Pcopy b off a len) ≡ refusal_in both
      refusal =
          frame_and_place board s b off a 0 len len
          ∙ rw (L.refusal s (whole_table W), place_seen_lem o S) (both_refusal x (place_seen board w.rows o a len))

      pub pcopy_refused : (e : Refusal) → both ≡ Err e → Made board (step board s (Pcopy b off a len)) w w (Err e)
      pcopy_refused e k = made_refused W (Pcopy b off a len) e (refusal ∙ ap refusal_in k)

      pub pcopy_made
          : {to from : Seen} → both ≡ Ok (to, from) → (v : World)
          → (bytes_at s.memory a len ≡ take len (drop (board.page * from.spot.page + a % board.page) w.memory)
          → Written board (copy_contents_from_physaddr board s (number_at board w.rows to.spot) off a len) w v)
          → Made board (step board s (Pcopy b off a len)) w v (Ok (reply b len))
      unfolding perform
      pcopy_made {to} {from} k v D =
          let n = both_found x (place_seen board w.rows o a len) k in
          let p = place_found board w.rows a len o n.1 in
          let E = rw (looked_number W L to n.0) at (D (place_bytes (rw p.0 at S) p.1)) in
          made_done W (Pcopy b off a len) (done (copy_contents_from_physaddr board s (b / board.page) off a len) b len) v
          (refusal ∙ ap refusal_in k) refl E.whole E.world
