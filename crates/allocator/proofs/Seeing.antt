-- What a look for a page in one row tells of all regions: a row that has the page is where it stands, and a row that doesn't leaves it to those behind it
-- (`Looking`).
use Prim.Native.Nat.{ℕ, ◌+◌, ◌≤◌, ◌<◌, ◌^◌}
use mathlib.Core.Bool.{Bool, true, false, cond}
use mathlib.Core.List.{List}
use mathlib.Core.Option.{none, some}
use Rattle.std.specs.Prelude.{Some, None}
use mathlib.Core.Path.{◌≡◌, refl, sym, ap, ◌∙◌}
use native.Mathlib.Omega.{arith}
use borrow.Author.Tests.{leb-true, ltb-true}
use lib.Dec.{leb}
use lib.ListN.{length}
use Rattle.definition.specs.declared.Record.{Record}
use Rattle.definition.specs.declared.Row.{Row}
use Rattle.definition.specs.Board.{Board, Fit}
use Rattle.definition.specs.Frame.{Frames}
use Rattle.definition.specs.Allocator.{AllocationRegion, contains, end, first, is_managed, table_pages}
use Rattle.definition.specs.World.{bare_region, frame_of, page_number, used_rows}
use Rattle.definition.proofs.Tests.{and_left, and_right}
use Rattle.region.specs.Rep.{Inside, from_of, lookup, managed, state_of}
use Rattle.world.specs.Stands.{StandsRow, base_at, region_at, row_at, shift}
use Rattle.world.specs.Tables.{Sane}
use Rattle.world.proofs.Sheets.{good_few}
use Rattle.allocator.specs.Spots.{SeesAll}
use Rattle.allocator.proofs.Arrays.{Onward, onward_none, onward_row, onward_found, onward_end, row_good, row_used, base_first, base_row, region_stands}

-- ---- a look at one row

module _ (board : Board) where
  -- the row has the page frame number p, as the page q
  pub record Looked (row : Row) (base p q : ℕ) : Type 0 where
    pub has : contains board (bare_region board row) p ≡ true
    pub inside : Inside board base row.pages q
    pub number : p ≡ shift (from_of board row) base q

  module _ (row : Row) (base p : ℕ) where
    looked_at : contains board (bare_region board row) p ≡ true → Looked row base p (page_number board base (bare_region board row) p)
    unfolding from_of managed
    looked_at t =
        let r = bare_region board row in
        let a = leb-true (first board r) p (and_left _ _ t) in
        let b = ltb-true p (end board r) (and_right (leb (first board r) p) _ t) in
        record { has = t; inside = record { low = omega arith; high = omega arith }; number = omega arith }

    looked : (q : ℕ) → some q ≡ lookup board row base p → Looked row base p q
    unfolding lookup
    looked q e = go (contains board (bare_region board row) p) refl (sym e)
      where
        go : (t : Bool) → contains board (bare_region board row) p ≡ t → cond t (some (page_number board base (bare_region board row) p)) none ≡ some q
            → Looked row base p q
        go true h m = let z : page_number board base (bare_region board row) p ≡ q = cc in rw z at (looked_at h)
        go false h m = let z : ◌≡◌ {A = ℕ} 0 1 = cc in absurd (omega arith)

    missed : none ≡ lookup board row base p → contains board (bare_region board row) p ≡ false
    unfolding lookup
    missed e = go (contains board (bare_region board row) p) refl (sym e)
      where
        go : (t : Bool) → contains board (bare_region board row) p ≡ t → cond t (some (page_number board base (bare_region board row) p)) none ≡ none
            → contains board (bare_region board row) p ≡ false
        go true h m = let z : ◌≡◌ {A = ℕ} 0 1 = cc in absurd (omega arith)
        go false h m = h

  abbrev pub manages : ℕ → AllocationRegion → Bool
  manages p r = contains board r p

module _ {board : Board} where
  module _ {f : ℕ → Record} {n base : ℕ} {row : Row} {fs : Frames} {r : AllocationRegion} (S : StandsRow board f n base row fs r) (p : ℕ) where
    -- the region has the row's pages
    manages_same : manages board p r ≡ contains board (bare_region board row) p
    manages_same = rw (S.start, S.pages) refl

    looked_frame : (q : ℕ) → Looked board row base p q → fs p ≡ frame_of (f q)
    unfolding state_of
    looked_frame q L = ap fs L.number ∙ S.same.frames q L.inside

-- ---- a look at each row in turn

module _ (board : Board) where
  -- some region manages p exactly if one of those from i on does, and the pages of the row i are numbered from `base` on
  pub record Looking (f : ℕ → Record) (n : ℕ) (rows : List Row) (p base i : ℕ) : Type 0 where
    pub onward : Onward board f n rows (manages board p) i
    pub based : base ≡ base_at board 0 (used_rows rows) i

  -- the row i is in use: what the code asks of its numbers
  pub record Here (n : ℕ) (rows : List Row) (base i : ℕ) : Type 0 where
    pub used : i < length (used_rows rows)
    pub pages : (row_at rows i).pages ≤ 2 ^ 32
    pub tables : table_pages board (row_at rows i).pages < (row_at rows i).pages
    pub small : base + managed board (row_at rows i).pages < 2 ^ 32
    pub fits : base + managed board (row_at rows i).pages ≤ n

module _ {board : Board} where
  pub looking_none : {f : ℕ → Record} {n : ℕ} {rows : List Row} {p : ℕ} → Looking board f n rows p 0 0
  looking_none {rows = rows} = record { onward = onward_none; based = sym (base_first board 0 (used_rows rows)) }

  module _ {f : ℕ → Record} {n : ℕ} {rows : List Row} {p base i : ℕ} (K : Looking board f n rows p base i) where
    pub here : Fit board → Sane board f n rows → i < 8 → ((row_at rows i).pages ≡ 0 → ⊥) → Here board n rows base i
    here fit S h k =
        let u = row_used S i K.onward.used h k in
        let g = row_good S i u in
        record {
          used = u;
          pages = omega (arith, good_few fit g);
          tables = g.tables;
          small = rw K.based g.sound.small;
          fits = rw K.based g.sound.fits;
        }

    -- no row is left
    pub nothing_left : length (used_rows rows) ≤ i → SeesAll board f n rows p None
    unfolding is_managed
    nothing_left h a T = onward_end K.onward T h

    module _ (H : Here board n rows base i) where
      pub not_here
          : none ≡ lookup board (row_at rows i) base p
          → Looking board f n rows p (base + managed board (row_at rows i).pages) (i + 1)
      not_here e =
          record {
            onward =
                onward_row K.onward H.used
                (λ a T. manages_same (region_stands T i H.used) p ∙ missed board (row_at rows i) base p e);
            based = ap (λ (b : ℕ). b + managed board (row_at rows i).pages) K.based ∙ sym (base_row board rows i H.used);
          }

      module _ (q : ℕ) (e : some q ≡ lookup board (row_at rows i) base p) where
        pub found_inside : q < n
        found_inside = omega (arith, (looked board (row_at rows i) base p q e).inside.high, H.fits)

        pub found_here : (m l : ℕ) → m ≡ (f q).marks → l ≡ (f q).level
            → SeesAll board f n rows p (Some (record { spot = record { index = i; base = base; page = q }; marks = m; level = l }))
        unfolding is_managed
        found_here m l x y a T =
            let L = looked board (row_at rows i) base p q e in
            let S : StandsRow board f n base (row_at rows i) a.frames (region_at a.regions i) = rw K.based (region_stands T i H.used) in
            record {
              managed = onward_found K.onward T H.used (manages_same S p ∙ L.has);
              spot = record { used = H.used; based = K.based; inside = L.inside; number = L.number };
              marks = x;
              level = y;
              frame = looked_frame S p q L;
            }
