-- The sheet of a boot: of a map of at most eight entries, none of them far, it is the sheet of the rows that it keeps.
use Prim.Native.Nat.{ℕ, ◌*◌, ◌≤◌, ◌<◌}
use mathlib.Core.Bool.{Bool, true, false, cond, ◌&&◌, ◌||◌}
use mathlib.Core.List.{List, [], ◌∷◌}
use mathlib.Core.Path.{◌≡◌, refl, ◌∙◌}
use native.Mathlib.Decide.{dec_le}
use native.Mathlib.Omega.{arith}
use borrow.Author.Tests.{le-leb, le-ltb, lt-leb, lt-ltb, ltb-false}
use lib.Dec.{leb, ltb}
use lib.ListN.{length}
use Rattle.definition.specs.declared.MemoryRegion.{MemoryRegion}
use Rattle.definition.specs.declared.Row.{Row}
use Rattle.definition.specs.declared.Refusal.TheVariants.{LongMap, FarAddress, Overlap, TooManyPages, ShortLoan}
use Rattle.definition.specs.Board.{Board}
use Rattle.definition.specs.Basics.{any}
use Rattle.definition.specs.Allocator.{total}
use Rattle.definition.specs.Boot.{boot_sheet, ends_far, kept_regions, managed_pages, most_pages, most_rows, overlap, record_size}
use Rattle.definition.specs.Refusal.{first_met, ◌when◌}
use Rattle.definition.specs.Torn.{loans_long, regions_of}
use Rattle.std.specs.Prelude.{Result, Ok, Err, ⊤}
use mathlib.Core.Option.{Option, none, some}
use Rattle.definition.specs.declared.Refusal.{Refusal}
use Rattle.exam.specs.Promise.{refusal_in}
use Rattle.boot.specs.Booting.{rows_admitted}

sheet_by
    : (a b c d e : Bool)
    → first_met ((LongMap when a) ∷ (FarAddress when b) ∷ (Overlap when c) ∷ (TooManyPages when d) ∷ (ShortLoan when e) ∷ [])
    ≡ cond a (some LongMap) (cond b (some FarAddress) (cond c (some Overlap) (cond d (some TooManyPages) (cond e (some ShortLoan) none))))
unfolding first_met
sheet_by true b c d e = refl
sheet_by false true c d e = refl
sheet_by false false true d e = refl
sheet_by false false false true e = refl
sheet_by false false false false true = refl
sheet_by false false false false false = refl

-- a loan is short exactly if not both are long
short_loans
    : (r m a b : ℕ)
    → cond (ltb r a || ltb m b) (some ShortLoan) none ≡ refusal_in {A = ⊤} (cond (leb a r && leb b m) (Ok tt) (Err ShortLoan))
short_loans r m a b = go (dec_le a r) (dec_le b m)
  where
    go : Dec (a ≤ r) → Dec (b ≤ m)
        → cond (ltb r a || ltb m b) (some ShortLoan) none ≡ refusal_in {A = ⊤} (cond (leb a r && leb b m) (Ok tt) (Err ShortLoan))
    go (yes h) (yes k) = rw (le-ltb r a h, le-leb a r h, le-ltb m b k, le-leb b m k) refl
    go (yes h) (no k) = rw (le-ltb r a h, le-leb a r h, lt-ltb m b (omega arith), lt-leb b m (omega arith)) refl
    go (no h) k = rw (lt-ltb r a (omega arith), lt-leb a r (omega arith)) refl

-- the rows' own lines, where they are told by tests
rows_by : (c d : Bool) (u : Option Refusal) (v : Result ⊤ Refusal) → u ≡ refusal_in v
    → cond c (some Overlap) (cond d (some TooManyPages) u) ≡ refusal_in (cond c (Err Overlap) (cond d (Err TooManyPages) v))
rows_by true d u v e = refl
rows_by false true u v e = refl
rows_by false false u v e = e

module _ (board : Board) (ms : List MemoryRegion) (records memory : ℕ) where
  abbrev short : Bool
  short = ltb records (record_size * managed_pages board (kept_regions board ms))
      || ltb memory (board.page * managed_pages board (kept_regions board ms))

  by_tests
      : first_met (boot_sheet board ms records memory)
      ≡ cond (ltb most_rows (length ms)) (some LongMap)
      (cond (any ends_far ms) (some FarAddress)
      (cond (overlap board (kept_regions board ms)) (some Overlap)
      (cond (ltb most_pages (total (kept_regions board ms))) (some TooManyPages) (cond short (some ShortLoan) none))))
  by_tests =
      sheet_by (ltb most_rows (length ms)) (any ends_far ms) (overlap board (kept_regions board ms))
      (ltb most_pages (total (kept_regions board ms))) short

  pub long_map : 8 < length ms → first_met (boot_sheet board ms records memory) ≡ some LongMap
  long_map h = by_tests ∙ rw (lt-ltb 8 (length ms) h) refl

  module _ (few : length ms ≤ 8) where
    pub far_map : any ends_far ms ≡ true → first_met (boot_sheet board ms records memory) ≡ some FarAddress
    far_map f = by_tests ∙ rw (le-ltb 8 (length ms) few, f) refl

    pub near_map
        : any ends_far ms ≡ false → (rows : List Row) → regions_of board rows ≡ kept_regions board ms
        → first_met (boot_sheet board ms records memory) ≡ refusal_in (rows_admitted board rows records memory)
    unfolding rows_admitted loans_long
    near_map f rows e =
        by_tests
        ∙ rw (le-ltb 8 (length ms) few, f, e)
        (rows_by (overlap board (kept_regions board ms)) (ltb most_pages (total (kept_regions board ms))) _ _
        (short_loans records memory (record_size * managed_pages board (kept_regions board ms))
        (board.page * managed_pages board (kept_regions board ms))))

-- ---- the rows' own refusals

module _ (board : Board) (rows : List Row) (records memory : ℕ) where
  -- what is so where none is met
  pub record Admitted : Type 0 where
    pub apart : overlap board (regions_of board rows) ≡ false
    pub most : total (regions_of board rows) ≤ most_pages
    pub long : loans_long board rows records memory ≡ true

  pub admitted : refusal_in (rows_admitted board rows records memory) ≡ none → Admitted
  unfolding rows_admitted
  admitted z =
      go (overlap board (regions_of board rows)) (ltb most_pages (total (regions_of board rows))) (loans_long board rows records memory)
      refl refl refl z
    where
      go : (a b c : Bool) → overlap board (regions_of board rows) ≡ a → ltb most_pages (total (regions_of board rows)) ≡ b
          → loans_long board rows records memory ≡ c
          → refusal_in {A = ⊤} (cond a (Err Overlap) (cond b (Err TooManyPages) (cond c (Ok tt) (Err ShortLoan)))) ≡ none → Admitted
      go true b c x y u z = absurd (let n : ◌≡◌ {A = ℕ} 0 1 = cc in omega arith)
      go false true c x y u z = absurd (let n : ◌≡◌ {A = ℕ} 0 1 = cc in omega arith)
      go false false false x y u z = absurd (let n : ◌≡◌ {A = ℕ} 0 1 = cc in omega arith)
      go false false true x y u z = record { apart = x; most = ltb-false most_pages (total (regions_of board rows)) y; long = u }
