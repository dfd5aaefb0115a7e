-- Laws of the rows that a map keeps: how the loop over its entries adds one, and that they are rows such as boot makes, the others unused,
-- and the regions of the definition's `kept_regions`.
use Prim.Native.Nat.{ℕ, zero, suc, ◌+◌, ◌-◌, ◌≤◌, ◌<◌}
use mathlib.Core.Bool.{Bool, true, false, cond, ◌||◌, false≢true}
use mathlib.Core.List.{List, [], ◌∷◌, ◌++◌, append-nil}
use mathlib.Core.Path.{◌≡◌, refl, sym, ap, ap₂, ◌∙◌}
use native.Mathlib.Numerals.{add-one}
use native.Mathlib.Omega.{arith}
use borrow.Author.Tests.{ne_eqb}
use lib.ListN.{length, get_or, take, drop, set, replicate, length-append, length-replicate}
use lib.Seq.{append_snoc, take-append_seam, drop-append_seam, set-append_seam, take-suc, take_all, length-take-le}
use Rattle.std.specs.Prelude.{Option, Some, None}
use Rattle.std.proofs.lemmas.Option.{same_Some}
use Rattle.std.specs.List.{list_any}
use Rattle.definition.specs.declared.MemoryRegion.{MemoryRegion}
use Rattle.definition.specs.declared.MemoryRegionKind.TheVariants.{UsableRam}
use Rattle.definition.specs.declared.Row.{Row}
use Rattle.definition.specs.Board.{Board}
use Rattle.definition.specs.Basics.{all, any}
use Rattle.definition.specs.Allocator.{AllocationRegion, empty_region, is_kept}
use Rattle.definition.specs.Boot.{ends_far, kept_regions}
use Rattle.definition.specs.World.{no_row, used_rows}
use Rattle.definition.specs.Torn.{bare_regions, is_no_row, regions_of, row_as_boot}
use Rattle.definition.proofs.Tests.{and_left, and_right, and-true}
use Rattle.audit.proofs.Booted.{booted, booted_used}
use Rattle.definition.specs.Board.{Fit}
use Rattle.world.specs.Stands.{row_at}
use Rattle.boot.specs.declared.Kept.{Kept}
use Rattle.boot.specs.Booting.{Keeps, RowsKept, Mapped, eight, kept_row, kept_rows, row_of}
use Rattle.boot.proofs.Entries.{kept_booted, kept_region}

pub neither : (a b : Bool) → (a || b) ≡ false → (a ≡ false) × (b ≡ false)
neither true b e = absurd (false≢true (sym e))
neither false b e = (refl, e)

-- ---- the map

-- a map of at most eight entries is in the array, all of it
pub mapped_all : (map : List MemoryRegion) (count : ℕ) (ms : List MemoryRegion) → Mapped map count ms → count ≤ 8 → take count map ≡ ms
mapped_all map count ms M h = sym M.front ∙ take_all 8 ms (omega (arith, M.long))

-- what a place past the end reads as
abbrev pub no_entry : MemoryRegion
no_entry = record { start = record { 0 = 0 }; length = 0; kind = UsableRam }

-- ---- one entry more

module _ (board : Board) where
  kept_append : (xs ys : List MemoryRegion) → kept_rows board (xs ++ ys) ≡ kept_rows board xs ++ kept_rows board ys
  unfolding kept_rows
  kept_append [] ys = refl
  kept_append (m ∷ xs) ys = go (is_kept board m) (kept_append xs ys)
    where
      go : (t : Bool) → kept_rows board (xs ++ ys) ≡ kept_rows board xs ++ kept_rows board ys
          → cond t (kept_row board m ∷ kept_rows board (xs ++ ys)) (kept_rows board (xs ++ ys))
          ≡ cond t (kept_row board m ∷ kept_rows board xs) (kept_rows board xs) ++ kept_rows board ys
      go true e = ap (λ (l : List Row). kept_row board m ∷ l) e
      go false e = e

  pub kept_most : (ms : List MemoryRegion) → length (kept_rows board ms) ≤ length ms
  unfolding kept_rows
  kept_most [] = omega arith
  kept_most (m ∷ ms) = go (is_kept board m) (kept_most ms)
    where
      go : (t : Bool) → length (kept_rows board ms) ≤ length ms → length
          (cond t (kept_row board m ∷ kept_rows board ms) (kept_rows board ms)) ≤ length (m ∷ ms)
      go true h = omega arith
      go false h = omega arith

-- the place behind the rows is unused
eight_split : (xs : List Row) → length xs < 8 → eight xs ≡ xs ++ (no_row ∷ replicate (8 - suc (length xs)) no_row)
unfolding eight
eight_split xs h = let e : 8 - length xs ≡ suc (8 - suc (length xs)) = omega arith in ap (λ (k : ℕ). xs ++ replicate k no_row) e

eight_set : (xs : List Row) (r : Row) → length xs < 8 → set (eight xs) (length xs) r ≡ xs ++ (r ∷ replicate (8 - suc (length xs)) no_row)
eight_set xs r h =
    ap (λ (l : List Row). set l (length xs) r) (eight_split xs h)
    ∙ set-append_seam xs no_row (replicate (8 - suc (length xs)) no_row) r

eight_next : (xs : List Row) (r : Row) → length xs < 8 → set (eight xs) (length xs) r ≡ eight (xs ++ (r ∷ []))
unfolding eight
eight_next xs r h =
    let e : length (xs ++ (r ∷ [])) ≡ suc (length xs) = length-append xs (r ∷ []) ∙ omega arith in
    eight_set xs r h
    ∙ sym (append_snoc xs r (replicate (8 - suc (length xs)) no_row))
    ∙ ap (λ (k : ℕ). (xs ++ (r ∷ [])) ++ replicate (8 - k) no_row) (sym e)

-- what one entry keeps
kept_one : (t : Bool) (k r : Row) → Some r ≡ cond t (Some k) None → cond t (k ∷ []) [] ≡ r ∷ []
kept_one true k r e = ap (λ (x : Row). x ∷ []) (sym (same_Some _ _ e))
kept_one false k r e = cc

kept_none : (t : Bool) (k : Row) → ◌≡◌ {A = Option Row} None (cond t (Some k) None) → cond t (k ∷ []) [] ≡ []
kept_none true k e = cc
kept_none false k e = refl

-- a turn of the loop, at the entry i
module _
    (board : Board) (map : List MemoryRegion) (i : ℕ) (d : MemoryRegion) {rows : List Row} {used : ℕ} (h : i < length map) (few : i < 8)
    (R : rows ≡ eight (kept_rows board (take i map))) (U : used ≡ length (kept_rows board (take i map)))
  where
    next : take (i + 1) map ≡ take i map ++ (get_or map i d ∷ [])
    next = rw add-one (take-suc map i d h)

    pub turn_fits : used < 8
    turn_fits = omega (arith, kept_most board (take i map), length-take-le i map (omega arith))

    -- the rows kept after it
    after : kept_rows board (take (i + 1) map) ≡ kept_rows board (take i map) ++ kept_rows board (get_or map i d ∷ [])
    after = ap (kept_rows board) next ∙ kept_append board (take i map) (get_or map i d ∷ [])

    -- the entry is kept, and its row is r
    module _ (r : Row) (e : Some r ≡ row_of board (get_or map i d)) where
      grown : kept_rows board (take (i + 1) map) ≡ kept_rows board (take i map) ++ (r ∷ [])
      unfolding kept_rows
      grown = after ∙ ap (λ (l : List Row). kept_rows board (take i map) ++ l) (kept_one (is_kept board (get_or map i d)) _ _ e)

      pub turn_rows : set rows used r ≡ eight (kept_rows board (take (i + 1) map))
      turn_rows = rw (R, U, grown) (eight_next (kept_rows board (take i map)) r (omega (arith, turn_fits)))

      pub turn_more : used + 1 ≡ length (kept_rows board (take (i + 1) map))
      turn_more = rw (U, grown) (sym (length-append (kept_rows board (take i map)) (r ∷ [])))

    -- it is not
    module _ (e : None ≡ row_of board (get_or map i d)) where
      same : kept_rows board (take (i + 1) map) ≡ kept_rows board (take i map)
      unfolding kept_rows
      same =
          after
          ∙ ap (λ (l : List Row). kept_rows board (take i map) ++ l) (kept_none (is_kept board (get_or map i d)) _ e)
          ∙ append-nil (kept_rows board (take i map))

      pub turn_rows_same : rows ≡ eight (kept_rows board (take (i + 1) map))
      turn_rows_same = rw (R, same) refl

      pub turn_same : used ≡ length (kept_rows board (take (i + 1) map))
      turn_same = rw (U, same) refl

pub any_is : {A : Type 0} (test : A → Bool) (xs : List A) → list_any test xs ≡ any test xs
unfolding any
any_is test [] = refl
any_is test (x ∷ xs) = ap (λ (t : Bool). test x || t) (any_is test xs)

pub any_none : {A : Type 0} (test : A → Bool) (d : A) (xs : List A) (i : ℕ) → any test xs ≡ false → i < length xs → test (get_or xs i d)
    ≡ false
unfolding any
any_none test d [] i e h = absurd (omega arith)
any_none test d (x ∷ xs) zero e h = (neither (test x) _ e).0
any_none test d (x ∷ xs) (suc i) e h = any_none test d xs i (neither (test x) _ e).1 (omega arith)

-- ---- the rows as boot makes them

module _ {board : Board} (fit : Fit board) where
  pub all_booted : (ms : List MemoryRegion) → any ends_far ms ≡ false → all (row_as_boot board) (kept_rows board ms) ≡ true
  unfolding any all kept_rows
  all_booted [] e = refl
  all_booted (m ∷ ms) e = go (is_kept board m) refl (all_booted ms (neither (ends_far m) _ e).1)
    where
      go : (t : Bool) → is_kept board m ≡ t → all (row_as_boot board) (kept_rows board ms) ≡ true
          → all (row_as_boot board) (cond t (kept_row board m ∷ kept_rows board ms) (kept_rows board ms)) ≡ true
      go true k r = and-true (kept_booted fit m k (neither (ends_far m) _ e).0) r
      go false k r = r

  pub kept_regions_lem : (ms : List MemoryRegion) → bare_regions board (kept_rows board ms) ≡ kept_regions board ms
  unfolding kept_rows bare_regions kept_regions
  kept_regions_lem [] = refl
  kept_regions_lem (m ∷ ms) = go (is_kept board m) (kept_regions_lem ms)
    where
      go : (t : Bool) → bare_regions board (kept_rows board ms) ≡ kept_regions board ms
          → bare_regions board (cond t (kept_row board m ∷ kept_rows board ms) (kept_rows board ms))
          ≡ cond t (empty_region board m ∷ kept_regions board ms) (kept_regions board ms)
      go true e = ap₂ (λ (r : AllocationRegion) (rs : List AllocationRegion). r ∷ rs) (kept_region fit m) e
      go false e = e

-- ---- rows with pages, and unused ones to eight

abbrev pub Paged : List Row → Type 0
Paged xs = (j : ℕ) → j < length xs → (row_at xs j).pages ≡ 0 → ⊥

used_before : (xs : List Row) (k : ℕ) → Paged xs → used_rows (xs ++ replicate k no_row) ≡ xs
unfolding used_rows
used_before [] zero p = refl
used_before [] (suc k) p = refl
used_before (x ∷ xs) k p =
    ap (λ (t : Bool). cond t [] (x ∷ used_rows (xs ++ replicate k no_row))) (ne_eqb x.pages 0 (p 0 (omega arith)))
    ∙ ap (λ (l : List Row). x ∷ l) (used_before xs k (λ j h. p (suc j) (omega arith)))

pub used_eight : (xs : List Row) → Paged xs → used_rows (eight xs) ≡ xs
unfolding eight
used_eight xs p = used_before xs (8 - length xs) p

pub eight_unused : (xs : List Row) → drop (length xs) (eight xs) ≡ replicate (8 - length xs) no_row
unfolding eight
eight_unused xs = drop-append_seam xs (replicate (8 - length xs) no_row)

pub eight_front : (xs : List Row) → take (length xs) (eight xs) ≡ xs
unfolding eight
eight_front xs = take-append_seam xs (replicate (8 - length xs) no_row)

pub eight_long : (xs : List Row) → length xs ≤ 8 → length (eight xs) ≡ 8
unfolding eight
eight_long xs h = length-append xs (replicate (8 - length xs) no_row) ∙ omega (arith, length-replicate (8 - length xs) no_row)

none_left : (k : ℕ) → all is_no_row (replicate k no_row) ≡ true
unfolding all
none_left zero = refl
none_left (suc k) = none_left k

module _ (board : Board) where
  pub booted_paged : (xs : List Row) → all (row_as_boot board) xs ≡ true → Paged xs
  unfolding all
  booted_paged [] e j h z = absurd (omega arith)
  booted_paged (x ∷ xs) e zero h z = omega (arith, (booted board x (and_left _ _ e)).more)
  booted_paged (x ∷ xs) e (suc j) h z = booted_paged xs (and_right (row_as_boot board x) _ e) j (omega arith) z

-- ---- what the loop leaves

module _ {board : Board} (fit : Fit board) (ms : List MemoryRegion) (near : any ends_far ms ≡ false) where
  pub kept_paged : Paged (kept_rows board ms)
  kept_paged = booted_paged board (kept_rows board ms) (all_booted fit ms near)

  pub kept_used : used_rows (eight (kept_rows board ms)) ≡ kept_rows board ms
  kept_used = used_eight (kept_rows board ms) kept_paged

  pub kept_spans : regions_of board (eight (kept_rows board ms)) ≡ kept_regions board ms
  kept_spans = ap (bare_regions board) kept_used ∙ kept_regions_lem fit ms

  -- the regions of the rows alone
  pub kept_alone : regions_of board (kept_rows board ms) ≡ kept_regions board ms
  kept_alone = ap (bare_regions board) (booted_used board (kept_rows board ms) (all_booted fit ms near)) ∙ kept_regions_lem fit ms

  pub kept_front : (r : Kept) → Keeps board ms r → take r.used r.rows ≡ kept_rows board ms
  kept_front r K = rw (K.rows, K.used) (eight_front (kept_rows board ms))

  pub kept_ready : (r : Kept) → Keeps board ms r → RowsKept board r.rows r.used
  kept_ready r K =
      rw (K.rows, K.used)
      (record {
        many = ap length (sym kept_used);
        booted = rw kept_used (all_booted fit ms near);
        unused = rw (eight_unused (kept_rows board ms)) (none_left (8 - length (kept_rows board ms)));
      })
