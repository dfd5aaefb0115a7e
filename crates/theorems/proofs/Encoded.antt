-- A good store, written into loans that are long enough, is a sound world: `encoded_sound` takes each sentence of the torn sheet from what `Good` says of the
-- store. A reader takes from here that the bytes which a call leaves pass the test that the next call makes of them.
use Prim.Native.Nat.{ℕ, ◌+◌, ◌*◌, ◌≤◌}
use mathlib.Core.Bool.{Bool, true, false}
use mathlib.Core.List.{List, [], ◌∷◌}
use mathlib.Core.Path.{◌≡◌, refl, sym, ap, ap₂, ◌∙◌}
use native.Mathlib.Omega.{arith}
use borrow.Author.Tests.{le-leb, eq-eqb}
use lib.ListN.{length, length-append, length-drop}
use Rattle.definition.specs.declared.Record.{Record}
use Rattle.definition.specs.Basics.{all, sum}
use Rattle.definition.specs.Board.{Board}
use Rattle.definition.specs.Boot.{most_pages, record_size, managed_pages}
use Rattle.definition.specs.Frame.{Frames}
use Rattle.definition.specs.Allocator.{AllocationRegion, managed, total}
use Rattle.definition.specs.Book.{Book}
use Rattle.definition.specs.Store.{Store}
use Rattle.definition.specs.World.{World, encode_rows, encode}
use Rattle.definition.specs.Torn as Torn
use Rattle.definition.specs.Torn.{Placed, placed, placed_from, records_of, regions_of, loans_long, tiled, held_alone, lists_walk, unheld_listed, Sound, sound}
use Rattle.definition.proofs.Tests.{and-true}
use Rattle.definition.specs.Board.{Fit}
use Rattle.world.proofs.Sheets.{managed_most}
use Rattle.world.proofs.Spans.{managed_spans}
use Rattle.bookkeeping.specs.Blocks.{All, tables}
use Rattle.bookkeeping.specs.Blocks.All.{all_none, all_more}
use Rattle.bookkeeping.specs.Good.{Good, listed_pages, head_pages}
use Rattle.theorems.proofs.Bytes.{Written, Fitting, regions_length, regions_written, memory_length}
use Rattle.theorems.proofs.Bytes.Written.{written_none, written_more}
use Rattle.theorems.proofs.Bytes.Fitting.{fitting_none, fitting_more}
use Rattle.theorems.proofs.Heads.{Kept, good_kept}
use Rattle.theorems.proofs.Regions.{Sheet, placed_as, fitting_of, sheet_of}
use Rattle.theorems.proofs.Rows.{rows_for, used_rows_lem, regions_bare, total_bare, rows_sound}

-- ---- the regions one after another

module _ (board : Board) where
  -- each region's page of the sheet, where the first has the page number `base`
  pub data Sheets (f : ℕ → Record) (fs : Frames) : ℕ → List AllocationRegion → Type 0 where
    sheets_none : {base : ℕ} → Sheets f fs base []
    sheets_more
        : {base : ℕ} {r : AllocationRegion} {rs : List AllocationRegion} → Sheet board f fs base r → Sheets f fs (base + managed board r) rs → Sheets f fs base (r ∷ rs)

module _ {board : Board} where
  all_fitting : {fs : Frames} (base : ℕ) {rs : List AllocationRegion} → All (Kept board fs) rs → base + managed_pages board rs ≤ most_pages → Fitting board fs base rs
  unfolding sum
  all_fitting base all_none h = fitting_none
  all_fitting base (all_more {x = r} K more) h =
      fitting_more (fitting_of base r K (omega arith)) (all_fitting (base + managed board r) more (omega arith))

module _ {board : Board} (fit : Fit board) where
  all_sheets : {f : ℕ → Record} {fs : Frames} {base : ℕ} {rs : List AllocationRegion} → All (Kept board fs) rs → Written board f fs base rs → Sheets board f fs base rs
  all_sheets all_none written_none = sheets_none
  all_sheets {f} (all_more K more) (written_more {base = base} {r = r} w rest) = sheets_more (sheet_of fit f base r K w) (all_sheets {base = base + managed board r} more rest)

module _ (board : Board) where
  -- the rows that are written for them
  abbrev placed_in : ℕ → List AllocationRegion → List Placed
  placed_in base rs = placed_from board base (encode_rows board base rs)

module _ {board : Board} where
  module _ {f : ℕ → Record} {fs : Frames} where
    -- a test of each row, from a fact of each region
    each_row : (test : Placed → Bool) → ((base : ℕ) (r : AllocationRegion) → Sheet board f fs base r → test (placed_as board base r) ≡ true)
        → {base : ℕ} {rs : List AllocationRegion} → Sheets board f fs base rs → all test (placed_in board base rs) ≡ true
    unfolding all placed_from encode_rows
    each_row test h sheets_none = refl
    each_row test h (sheets_more {base = base} {r = r} S more) = and-true (h base r S) (each_row test h more)

    -- and a sum
    sum_rows : (v : Placed → ℕ) (w : AllocationRegion → ℕ) → ((base : ℕ) (r : AllocationRegion) → Sheet board f fs base r → v (placed_as board base r) ≡ w r)
        → {base : ℕ} {rs : List AllocationRegion} → Sheets board f fs base rs → sum v (placed_in board base rs) ≡ sum w rs
    unfolding sum placed_from encode_rows
    sum_rows v w h sheets_none = refl
    sum_rows v w h (sheets_more {base = base} {r = r} S more) = ap₂ (λ (a b : ℕ). a + b) (h base r S) (sum_rows v w h more)

-- ---- the world

module _ (board : Board) where
  -- the loans of w are long enough for the store s
  pub record Fits (s : Store) (w : World) : Type 0 where
    pub records : record_size * managed_pages board s.allocator.regions ≤ length w.records
    pub memory : board.page * managed_pages board s.allocator.regions ≤ length w.memory
    pub queue : s.kept.room ≡ length w.queue

module _ {board : Board} (fit : Fit board) where
  module _ {s : Store} {k : Book} (w : World) (G : Good board s k) (F : Fits board s w) where
    abbrev rs : List AllocationRegion
    rs = s.allocator.regions

    abbrev fs : Frames
    fs = s.allocator.frames

    abbrev v : World
    v = encode board s w

    pub written_records : Written board (records_of v) fs 0 rs
    unfolding encode
    written_records = regions_written board fs rs _ (all_fitting 0 (good_kept G) (omega (arith, managed_most board rs, G.placed.pages)))

    pub all_regions : Sheets board (records_of v) fs 0 rs
    all_regions = all_sheets fit (good_kept G) written_records

    rows_are : v.rows ≡ rows_for board rs
    unfolding encode
    rows_are = refl

    pub placed_are : placed board v.rows ≡ placed_in board 0 rs
    unfolding encode
    placed_are = ap (placed_from board 0) (used_rows_lem G.placed.as_boot)

    pub records_length : length v.records ≡ length w.records
    unfolding encode
    records_length = simp (length-append, length-drop) (omega (arith, regions_length board fs 0 rs, F.records))

    pub memory_as_long : length v.memory ≡ length w.memory
    unfolding encode
    memory_as_long = simp (length-append, length-drop) (omega (arith, memory_length board fit s.memory rs, F.memory))

    pub queue_length : length v.queue ≡ length w.queue
    unfolding encode
    queue_length = simp (length-append, length-drop) (omega (arith, G.room, F.queue))

    loans : loans_long board v.rows (length v.records) (length v.memory) ≡ true
    unfolding loans_long
    loans =
        let m : managed_pages board (regions_of board v.rows) ≡ managed_pages board rs =
        ap (λ l. managed_pages board (regions_of board l)) rows_are
        ∙ (ap (managed_pages board) (regions_bare fit G.placed.as_boot) ∙ (managed_spans board).same rs) in
        rw (m, records_length, memory_as_long) (and-true (le-leb _ _ F.records) (le-leb _ _ F.memory))

    totals : total (regions_of board v.rows) ≡ total rs
    totals = ap (λ l. total (regions_of board l)) rows_are ∙ (ap total (regions_bare fit G.placed.as_boot) ∙ total_bare rs)

    idle : sum (λ r. listed_pages r + tables board r) rs ≡ Torn.idle_pages board (placed board v.rows)
    unfolding Torn.idle_pages
    idle =
        rw placed_are
        (sym (sum_rows (λ x. Torn.listed_pages x + Torn.tables_of board x) (λ r. listed_pages r + tables board r)
        (λ base r S. ap (λ (n : ℕ). n + tables board r) S.pages) all_regions))

    held : (kernel : Bool) → sum (head_pages board fs kernel) rs ≡ Torn.held_pages board (records_of v) kernel (placed board v.rows)
    unfolding Torn.held_pages
    held kernel =
        rw placed_are
        (sym (sum_rows (λ x. sum (λ h. Torn.held_as kernel (records_of v h)) (Torn.heads board (records_of v) x)) (head_pages board fs kernel)
        (λ base r S. S.held kernel) all_regions))

    pub encoded : Sound board v
    unfolding encode tiled held_alone lists_walk unheld_listed
    encoded =
        record {
          rows = rw rows_are (rows_sound fit G.placed.as_boot G.placed.few G.placed.apart G.placed.pages);
          loans = loans;
          tiling = rw placed_are (each_row _ (λ base r S. S.tiled) all_regions);
          alone = rw placed_are (each_row _ (λ base r S. S.alone) all_regions);
          lists = rw placed_are (each_row _ (λ base r S. S.walks) all_regions);
          listed = rw placed_are (each_row _ (λ base r S. S.listed) all_regions);
          idle = eq-eqb _ _ (G.idle ∙ idle);
          totals = eq-eqb _ _ (G.totals ∙ sym totals);
          kernel = eq-eqb _ _ (G.kernel ∙ held true);
          page = eq-eqb _ _ (G.page ∙ held false);
          waiting = eq-eqb _ _ G.waiting;
          queue = le-leb (length s.queue) (length v.queue) (omega (arith, queue_length, G.room, F.queue));
          pass = and-true (le-leb _ _ G.rounds) (le-leb _ _ G.freed);
        }

module _ {board : Board} where
  -- what has every field of the sheet passes its test
  sound_test : (w : World) → Sound board w → sound board w ≡ true
  unfolding sound
  sound_test w S =
      and-true S.rows
      (and-true S.loans
      (and-true S.tiling
      (and-true S.alone
      (and-true S.lists
      (and-true S.listed
      (and-true S.idle
      (and-true S.totals (and-true S.kernel (and-true S.page (and-true S.waiting (and-true S.queue S.pass)))))))))))

module _ {board : Board} (fit : Fit board) where
  pub encoded_sound : {s : Store} {k : Book} (w : World) → Good board s k → Fits board s w → sound board (encode board s w) ≡ true
  encoded_sound {s = s} w G F = sound_test (encode board s w) (encoded fit w G F)
