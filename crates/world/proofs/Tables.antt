-- A call on one region turns a table into another: `table_set`. What the definition's allocator does with the same region is then what the
-- new table stands for, as its regions but that one are as they were.
use Prim.Native.Nat.{ℕ, zero, suc, ◌+◌, ◌≤◌, ◌<◌}
use mathlib.Core.Bool.{Bool, true, false, cond}
use mathlib.Core.List.{List, [], ◌∷◌}
use mathlib.Core.Path.{◌≡◌, refl, sym, ap, ◌∙◌}
use native.Mathlib.Omega.{arith}
use lib.Dec.{eqb}
use lib.ListN.{length, set, drop, length-set}
use Rattle.definition.specs.declared.Record.{Record}
use Rattle.definition.specs.declared.Row.{Row}
use Rattle.definition.specs.Basics.{sum}
use Rattle.definition.specs.Board.{Board}
use Rattle.definition.specs.Frame.{Levels}
use Rattle.definition.specs.Allocator.{AllocationRegion, PhysicalFrameAllocator, levels_of, with_free}
use Rattle.definition.specs.Boot.{managed_pages}
use Rattle.definition.specs.World.{bare_region, used_rows}
use Rattle.definition.specs.Torn.{bare_regions, regions_of}
use Rattle.region.specs.Rep.{Becomes, WholeRow, from_of, managed}
use Rattle.world.specs.Stands.{Carried, Disjoint, Each, Parted, base_at, region_at, row_at}
use Rattle.world.specs.Stands.Disjoint.{disjoint_none, disjoint_more}
use Rattle.world.specs.Stands.Each.{each_none, each_more}
use Rattle.world.specs.Tables.{Sane, Table, Turned}
use Rattle.world.proofs.Changing.{good_set, stands_set}

-- ---- the rows in use

pub used_row : (rows : List Row) (i : ℕ) → i < length (used_rows rows) → row_at (used_rows rows) i ≡ row_at rows i
unfolding used_rows
used_row [] i h = refl
used_row (row ∷ rows) i h = go (eqb row.pages 0) i h (used_row rows)
  where
    go : (b : Bool) (i : ℕ) → i < length (cond b [] (row ∷ used_rows rows))
        → ((j : ℕ) → j < length (used_rows rows) → row_at (used_rows rows) j ≡ row_at rows j)
        → row_at (cond b [] (row ∷ used_rows rows)) i ≡ row_at (row ∷ rows) i
    go true i h ih = absurd (omega arith)
    go false zero h ih = refl
    go false (suc j) h ih = ih j (omega arith)

pub used_set : (rows : List Row) (i : ℕ) (r : Row) → i < length (used_rows rows) → r.pages ≡ (row_at rows i).pages
    → used_rows (set rows i r) ≡ set (used_rows rows) i r
unfolding used_rows
used_set [] i r h e = absurd (omega arith)
used_set (row ∷ rows) zero r h e = go (eqb row.pages 0) refl h
  where
    go : (b : Bool) → eqb row.pages 0 ≡ b → zero < length (cond b [] (row ∷ used_rows rows))
        → cond (eqb r.pages 0) [] (r ∷ used_rows rows) ≡ set (cond b [] (row ∷ used_rows rows)) zero r
    go true k h = absurd (omega arith)
    go false k h = rw (e, k) refl
used_set (row ∷ rows) (suc i) r h e = go (eqb row.pages 0) h (used_set rows i r)
  where
    go : (b : Bool) → suc i < length (cond b [] (row ∷ used_rows rows))
        → (i < length (used_rows rows) → r.pages ≡ (row_at rows i).pages → used_rows (set rows i r) ≡ set (used_rows rows) i r)
        → cond b [] (row ∷ used_rows (set rows i r)) ≡ set (cond b [] (row ∷ used_rows rows)) (suc i) r
    go true h ih = absurd (omega arith)
    go false h ih = ap (λ (xs : List Row). row ∷ xs) (ih (omega arith) e)

drop_set : (n i : ℕ) (rows : List Row) (r : Row) → i < n → drop n (set rows i r) ≡ drop n rows
drop_set zero i rows r h = absurd (omega arith)
drop_set (suc n) i [] r h = refl
drop_set (suc n) zero (row ∷ rows) r h = refl
drop_set (suc n) (suc i) (row ∷ rows) r h = drop_set n i rows r (omega arith)

-- ---- a row with the same start and pages

module _ (board : Board) where
  module _ (r : Row) where
    bare_set : (rows : List Row) (i : ℕ) → r.start ≡ (row_at rows i).start → r.pages ≡ (row_at rows i).pages
        → bare_regions board (set rows i r) ≡ bare_regions board rows
    unfolding bare_regions
    bare_set [] i a b = refl
    bare_set (row ∷ rows) zero a b = rw (a, b) refl
    bare_set (row ∷ rows) (suc i) a b = ap (λ (xs : List AllocationRegion). bare_region board row ∷ xs) (bare_set rows i a b)

    from_row : (row : Row) → r.start ≡ row.start → r.pages ≡ row.pages → from_of board r ≡ from_of board row
    unfolding from_of
    from_row row a b = rw (a, b) refl

module _ (r : Row) where
  each_set : {P : Row → Type 0} {rows : List Row} (i : ℕ) → Each P rows → (i < length rows → P (row_at rows i) → P r)
      → Each P (set rows i r)
  each_set i each_none h = each_none
  each_set zero (each_more p ps) h = each_more (h (omega arith) p) ps
  each_set (suc i) (each_more p ps) h = each_more p (each_set i ps (λ k. h (omega arith)))

module _ {board : Board} where
  module _ (r : Row) where
    disjoint_set : {rows : List Row} (i : ℕ) → Disjoint board rows → r.start ≡ (row_at rows i).start → r.pages ≡ (row_at rows i).pages
        → Disjoint board (set rows i r)
    disjoint_set i disjoint_none a b = disjoint_none
    disjoint_set zero (disjoint_more {row = row} {rows = rows} p ps) a b = disjoint_more (parted p) ps
      where
        parted : {xs : List Row} → Each (λ (t : Row). Parted board row t) xs → Each (λ (t : Row). Parted board r t) xs
        parted each_none = each_none
        parted (each_more {row = t} h hs) = each_more {row = t} (rw (from_row board r row a b, b) h) (parted hs)
    disjoint_set (suc i) (disjoint_more {row = row} {rows = rows} p ps) a b =
        disjoint_more (each_set r i p (λ k h. rw (from_row board r (row_at rows i) a b, b) h)) (disjoint_set i ps a b)

-- ---- the managed pages

module _ (board : Board) where
  ends_by : (base : ℕ) (rows : List Row) (i : ℕ) → i < length rows
      → base_at board base rows i + managed board (row_at rows i).pages ≤ base + managed_pages board (bare_regions board rows)
  unfolding base_at bare_regions sum managed
  ends_by base [] i h = absurd (omega arith)
  ends_by base (row ∷ rows) zero h = omega arith
  ends_by base (row ∷ rows) (suc i) h = omega (arith, ends_by (base + managed board row.pages) rows i (omega arith))

-- ---- the table

module _ {board : Board} where
  module _
      {f g : ℕ → Record} {n : ℕ} {rows : List Row} {a : PhysicalFrameAllocator} {r : Row} {u t2 : Levels} (T : Table board f n rows a)
      (i : ℕ)
      (h : i < length (used_rows rows))
      (B : Becomes board f (base_at board 0 (used_rows rows) i) (row_at rows i) g n r u)
      (W : WholeRow board g (base_at board 0 (used_rows rows) i) r)
      (C : Carried board (from_of board (row_at rows i)) (base_at board 0 (used_rows rows) i) (row_at rows i).pages
      (levels_of a.frames (region_at a.regions i)) u t2)
    where
      e : row_at (used_rows rows) i ≡ row_at rows i
      e = used_row rows i h

      became : Becomes board f (base_at board 0 (used_rows rows) i) (row_at (used_rows rows) i) g n r u
      became = rw e B

      carried : Carried board (from_of board (row_at (used_rows rows) i)) (base_at board 0 (used_rows rows) i)
          (row_at (used_rows rows) i).pages (levels_of a.frames (region_at a.regions i)) u t2
      carried = rw e C

      started : r.start ≡ (row_at (used_rows rows) i).start
      started = B.start ∙ ap (λ (x : Row). x.start) (sym e)

      paged : r.pages ≡ (row_at (used_rows rows) i).pages
      paged = B.pages ∙ ap (λ (x : Row). x.pages) (sym e)

      used : used_rows (set rows i r) ≡ set (used_rows rows) i r
      used = used_set rows i r h B.pages

      spans : regions_of board (set rows i r) ≡ regions_of board rows
      spans = ap (bare_regions board) used ∙ bare_set board r (used_rows rows) i started paged

      sane : Sane board g n (set rows i r)
      sane =
          record {
            eight = length-set rows i r ∙ T.sane.eight;
            unused = rw (used, length-set (used_rows rows) i r, drop_set (length (used_rows rows)) i rows r h) T.sane.unused;
            good = rw used (good_set i 0 (used_rows rows) h T.sane.good became W);
            apart = rw used (disjoint_set r i T.sane.apart started paged);
            most = rw spans T.sane.most;
          }

      pub table_set
          : Turned board f rows g n (set rows i r)
          (record { frames = t2.frames; regions = set a.regions i (with_free (region_at a.regions i) t2.free) })
      table_set =
          record {
            table = record {
              sane = sane;
              stands = rw used
                  (stands_set i 0 (used_rows rows) a.regions h T.sane.apart T.stands became carried);
            };
            spans = spans;
            outside = λ q k. B.outside q (λ j. absurd (omega (arith, j.high, rw e at (ends_by board 0 (used_rows rows) i h))));
          }
