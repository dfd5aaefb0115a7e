-- The loop that lays out the regions, the first one first. `Laid` is its invariant: the rows passed stand for their regions in the
-- allocator that the definition makes of all of them, and the records from the next row's first page on are as they were.
use Prim.Native.Nat.{ℕ, zero, suc, ◌+◌, ◌-◌, ◌/◌, ◌%◌, ◌≤◌, ◌<◌, ◌^◌}
use mathlib.Core.List.{List, [], ◌∷◌, ◌++◌, map}
use mathlib.Core.Path.{◌≡◌, refl, sym, ap, ◌∙◌, subst}
use native.Mathlib.Decide.{ℕ_discrete}
use native.Mathlib.Numerals.{add-one}
use native.Mathlib.Omega.{arith}
use lib.ListN.{length, get_or, drop, set, replicate, length-set}
use lib.Seq.{get_or-set_other, get_or-set_same}
use Rattle.address.specs.declared.PhysAddr.{PhysAddr}
use Rattle.definition.specs.declared.Record.{Record}
use Rattle.definition.specs.declared.Row.{Row}
use Rattle.definition.specs.Board.{Board}
use Rattle.definition.specs.Basics.{sum}
use Rattle.definition.specs.Frame.{Frames, Levels}
use Rattle.definition.specs.Allocator.{AllocationRegion, levels_of, table_pages, total}
use Rattle.definition.specs.Boot.{managed_pages, most_pages}
use Rattle.definition.specs.World.{frame_of, no_links, no_row, pages_of, used_rows, walk}
use Rattle.definition.specs.Torn.{bare_regions, regions_of}
use Rattle.record.specs.Records.{cleared}
use Rattle.list.specs.Linked.{All}
use Rattle.words.specs.Words.{Narrow, NarrowRow}
use Rattle.region.specs.Rep.{Becomes, Inside, SoundRow, blank_state, empty_row, from_of, managed, new_state, state_of}
use Rattle.region.proofs.Beginning.{blank}
use Rattle.region.proofs.Beside.{beside}
use Rattle.region.proofs.Laws.{rep_sound, rep_state}
use Rattle.region.proofs.Searching.{from_same}
use Rattle.audit.proofs.Booted.{booted_in}
use Rattle.audit.proofs.Used.{no_place}
use Rattle.allocator.proofs.Arrays.{base_first}
use Rattle.world.specs.Stands.{shift, Disjoint, Shifted, StandsRow, StandRows, base_at, region_at, row_at}
use Rattle.world.specs.Stands.StandRows.{stand_none, stand_more}
use Rattle.world.proofs.Sheets.{base_rises, managed_most}
use Rattle.boot.specs.Booting.{Lays, Ready, eight, lay_rows}
use Rattle.boot.proofs.KeptRows.{Paged, eight_long, eight_unused, used_eight}
use Rattle.boot.proofs.Laying.{disjoint, laid_many, laid_pages, laid_start, lay_at}

-- ---- where the rows' pages begin

module _ (board : Board) where
  base_next : (base : ℕ) (rows : List Row) (i : ℕ) → i < length rows → base_at board base rows (suc i)
      ≡ base_at board base rows i + managed board (row_at rows i).pages
  unfolding base_at
  base_next base [] i h = absurd (omega arith)
  base_next base (row ∷ rows) zero h = base_first board (base + managed board row.pages) rows
  base_next base (row ∷ rows) (suc i) h = base_next (base + managed board row.pages) rows i (omega arith)

  base_within
      : (base : ℕ) (rows : List Row) (i : ℕ) → i < length rows
      → base_at board base rows i + managed board (row_at rows i).pages ≤ base + managed_pages board (bare_regions board rows)
  unfolding base_at bare_regions sum managed
  base_within base [] i h = absurd (omega arith)
  base_within base (row ∷ rows) zero h = omega arith
  base_within base (row ∷ rows) (suc i) h = omega (arith, base_within (base + managed board row.pages) rows i (omega arith))

  base_end : (base : ℕ) (rows : List Row) → base_at board base rows (length rows) ≡ base + managed_pages board (bare_regions board rows)
  unfolding base_at bare_regions sum managed
  base_end base [] = omega arith
  base_end base (row ∷ rows) = omega (arith, base_end (base + managed board row.pages) rows)

  row_total : (rows : List Row) (i : ℕ) → i < length rows → (row_at rows i).pages ≤ total (bare_regions board rows)
  unfolding bare_regions sum
  row_total [] i h = absurd (omega arith)
  row_total (row ∷ rows) zero h = omega arith
  row_total (row ∷ rows) (suc i) h = omega (arith, row_total rows i (omega arith))

-- ---- a row beside a change

module _
    {board : Board} {f g : ℕ → Record} {n base : ℕ} {row r : Row} {u : Levels} (B : Becomes board f base row g n r u)
    {base2 : ℕ} (row2 : Row) (apart : (q : ℕ) → Inside board base2 row2.pages q → Inside board base row.pages q → ⊥)
  where
    state_frames : (q : ℕ) → Inside board base2 row2.pages q → (state_of g row2).frames q ≡ (state_of f row2).frames q
    unfolding state_of
    state_frames q i = ap frame_of (B.outside q (apart q i))

    state_free : SoundRow board f n base2 row2 → (state_of g row2).free ≡ (state_of f row2).free
    state_free R = ap (λ (s : Levels). s.free) (rep_state (beside B R apart))

    -- it stands for what it stood for
    stands_still : {fs : Frames} {x : AllocationRegion} → StandsRow board f n base2 row2 fs x → StandsRow board g n base2 row2 fs x
    stands_still S =
        record {
          sound = rep_sound (beside B S.sound apart);
          aligned = S.aligned;
          start = S.start;
          pages = S.pages;
          same =
              record {
                frames = λ q i. S.same.frames q i ∙ sym (state_frames q i);
                free = λ k. S.same.free k ∙ ap (λ (h : ℕ → List ℕ). map (shift (from_of board row2) base2) (h k))
                    (sym (state_free S.sound));
                inside = λ k. subst (λ (h : ℕ → List ℕ). All (λ (q : ℕ). Inside board base2 row2.pages q) (h k))
                    (sym (state_free S.sound)) (S.same.inside k);
              };
        }

-- ---- the region that is laid out

module _ {board : Board} where
  same_after
      : {f g : ℕ → Record} {n base : ℕ} {row r : Row} {u t : Levels} → Becomes board f base row g n r u
      → Shifted board (from_of board row) base row.pages u t
      → Shifted board (from_of board r) base r.pages (state_of g r) t
  same_after {g = g} {base = base} {row = row} {r = r} {u = u} {t = t} B S =
      subst (λ (a : ℕ). Shifted board a base r.pages (state_of g r) t) (sym (from_same B))
      (subst (λ (p : ℕ). Shifted board (from_of board row) base p (state_of g r) t) (sym B.pages)
      (subst (λ (s : Levels). Shifted board (from_of board row) base row.pages s t) (sym (rep_state B.rep)) S))

module _ (board : Board) where
  from_empty : (k : Row) → from_of board (empty_row k.start k.pages) ≡ from_of board k
  unfolding from_of
  from_empty k = refl

no_list : (k : ℕ) → get_or (replicate 6 no_links) k no_links ≡ no_links
no_list zero = refl
no_list (suc zero) = refl
no_list (suc (suc zero)) = refl
no_list (suc (suc (suc zero))) = refl
no_list (suc (suc (suc (suc zero)))) = refl
no_list (suc (suc (suc (suc (suc zero))))) = refl
no_list (suc (suc (suc (suc (suc (suc k)))))) = refl

empty_lists : (f : ℕ → Record) (start : PhysAddr) (pages l : ℕ) → (state_of f (empty_row start pages)).free l ≡ []
unfolding state_of pages_of walk
empty_lists f start pages l = rw (no_list l) refl

module _
    {board : Board} (ks : List Row) (D : Disjoint board ks) (i : ℕ) (h : i < length ks) (aligned : (row_at ks i).start.0 % board.page ≡ 0)
    {f g : ℕ → Record} {n base : ℕ} {r : Row}
    (small : base + managed board (row_at ks i).pages < 2 ^ 32) (fits : base + managed board (row_at ks i).pages ≤ n)
    (B : Becomes board f base (empty_row (row_at ks i).start (row_at ks i).pages) g n r
    (new_state board f base (row_at ks i).start (row_at ks i).pages))
  where
    none_free : (l : ℕ) → (blank_state board f base (row_at ks i).start (row_at ks i).pages).free l ≡ []
    none_free l = empty_lists (cleared f base (managed board (row_at ks i).pages)) (row_at ks i).start (row_at ks i).pages l

    laid_same
        : Shifted board (from_of board (empty_row (row_at ks i).start (row_at ks i).pages)) base (row_at ks i).pages
        (new_state board f base (row_at ks i).start (row_at ks i).pages)
        (levels_of (lay_rows board ks).frames (region_at (lay_rows board ks).regions i))
    laid_same =
        rw (from_empty board (row_at ks i))
        (lay_at ks D i h base (blank_state board f base (row_at ks i).start (row_at ks i).pages)
        (blank board f n base (row_at ks i).start (row_at ks i).pages small fits) none_free)

    new_stands : StandsRow board g n base r (lay_rows board ks).frames (region_at (lay_rows board ks).regions i)
    new_stands =
        record {
          sound = rep_sound B.rep;
          aligned = rw B.start aligned;
          start = laid_start board ks i h ∙ ap (λ (p : PhysAddr). p.0 / board.page) (sym B.start);
          pages = laid_pages board ks i h ∙ sym B.pages;
          same = same_after B laid_same;
        }

-- ---- rows and regions, place by place

module _ {board : Board} where
  stand_all
      : {f : ℕ → Record} {n : ℕ} {fs : Frames} (base : ℕ) (ks xs : List Row) (rs : List AllocationRegion) → length xs ≡ length ks
      → length rs ≡ length ks
      → ((j : ℕ) → j < length ks → (row_at xs j).pages ≡ (row_at ks j).pages)
      → ((j : ℕ) → j < length ks → StandsRow board f n (base_at board base ks j) (row_at xs j) fs (region_at rs j))
      → StandRows board f n fs base xs rs
  unfolding base_at
  stand_all base [] [] [] e d p S = stand_none
  stand_all base [] (x ∷ xs) rs e d p S = absurd (omega arith)
  stand_all base [] [] (r ∷ rs) e d p S = absurd (omega arith)
  stand_all base (k ∷ ks) [] rs e d p S = absurd (omega arith)
  stand_all base (k ∷ ks) (x ∷ xs) [] e d p S = absurd (omega arith)
  stand_all {f} {n} {fs} base (k ∷ ks) (x ∷ xs) (r ∷ rs) e d p S =
      stand_more (S 0 (omega arith))
      (subst (λ (m : ℕ). StandRows board f n fs (base + managed board m) xs rs) (sym (p 0 (omega arith)))
      (stand_all (base + managed board k.pages) ks xs rs (omega arith) (omega arith) (λ j h. p (suc j) (omega arith))
      (λ j h. S (suc j) (omega arith))))

-- ---- the invariant

module _ (board : Board) where
  pub record Laid (f : ℕ → Record) (ks : List Row) (g : ℕ → Record) (n : ℕ) (rows : List Row) (base i : ℕ) : Type 0 where
    pub long : length rows ≡ length ks
    pub left : (j : ℕ) → i ≤ j → row_at rows j ≡ row_at ks j
    pub stands : (j : ℕ) → j < i → StandsRow board g n (base_at board 0 ks j) (row_at rows j) (lay_rows board ks).frames
        (region_at (lay_rows board ks).regions j)
    pub narrow : (j : ℕ) → j < i → NarrowRow (row_at rows j)
    pub based : base ≡ base_at board 0 ks i
    pub outside : (q : ℕ) → base ≤ q → g q ≡ f q

module _ {board : Board} where
  -- a row that stands has its region's pages
  same_pages
      : (ks xs : List Row) {g : ℕ → Record} {n j : ℕ} → j < length ks
      → StandsRow board g n (base_at board 0 ks j) (row_at xs j) (lay_rows board ks).frames (region_at (lay_rows board ks).regions j)
      → (row_at xs j).pages ≡ (row_at ks j).pages
  same_pages ks xs {j = j} h S = sym S.pages ∙ laid_pages board ks j h

  -- a turn of the loop, on the rows ks
  module _
      {f : ℕ → Record} (ks : List Row) (D : Disjoint board ks) {g : ℕ → Record} {n : ℕ} {rows : List Row} {base i : ℕ}
      (L : Laid board f ks g n rows base i) (h : i < length ks)
      (aligned : (row_at ks i).start.0 % board.page ≡ 0)
      (small : base + managed board (row_at ks i).pages < 2 ^ 32) (fits : base + managed board (row_at ks i).pages ≤ n)
      {g2 : ℕ → Record} {r : Row} (fits_words : NarrowRow r)
      (B : Becomes board g base (empty_row (row_at ks i).start (row_at ks i).pages) g2 n r
      (new_state board g base (row_at ks i).start (row_at ks i).pages))
    where
      inside : i < length rows
      inside = omega (arith, L.long)

      abbrev At : ℕ → Row → Type 0
      At j row = StandsRow board g2 n (base_at board 0 ks j) row (lay_rows board ks).frames (region_at (lay_rows board ks).regions j)

      here : At i r
      here =
          subst (λ (b : ℕ). StandsRow board g2 n b r (lay_rows board ks).frames (region_at (lay_rows board ks).regions i)) L.based
          (new_stands ks D i h aligned small fits B)

      passed : (j : ℕ) → j < i → At j (row_at rows j)
      passed j l =
          let S = L.stands j l in
          let p = same_pages ks rows (omega arith) S in
          let b = base_rises board no_place 0 ks j i l (omega arith) in
          stands_still B (row_at rows j)
          (λ q x y. absurd (omega (arith, x.high, y.low, ap (managed board) p, b, L.based)))
          S

      stands_next : (j : ℕ) → j < i + 1 → At j (row_at (set rows i r) j)
      stands_next j l = go (ℕ_discrete j i)
        where
          go : Dec (j ≡ i) → At j (row_at (set rows i r) j)
          go (yes e) =
              subst (λ (x : ℕ). At x (row_at (set rows i r) x)) (sym e)
              (subst (λ (row : Row). At i row) (sym (get_or-set_same rows i r _ inside)) here)
          go (no d) = subst (λ (row : Row). At j row) (sym (get_or-set_other rows i j r _ d)) (passed j (omega arith))

      narrow_next : (j : ℕ) → j < i + 1 → NarrowRow (row_at (set rows i r) j)
      narrow_next j l = go (ℕ_discrete j i)
        where
          go : Dec (j ≡ i) → NarrowRow (row_at (set rows i r) j)
          go (yes e) = rw e (rw (get_or-set_same rows i r no_place inside) fits_words)
          go (no d) = rw (get_or-set_other rows i j r no_place d) (L.narrow j (omega arith))

      laid_next : Laid board f ks g2 n (set rows i r) (base + managed board (row_at ks i).pages) (i + 1)
      laid_next =
          record {
            long = length-set rows i r ∙ L.long;
            left = λ j l. get_or-set_other rows i j r _ (λ e. omega arith) ∙ L.left j (omega arith);
            stands = stands_next;
            narrow = narrow_next;
            based = ap (λ (b : ℕ). b + managed board (row_at ks i).pages) L.based ∙ sym (base_next board 0 ks i h)
                ∙ ap (base_at board 0 ks) (sym (add-one i));
            outside = λ q l. B.outside q (λ x. absurd (omega (arith, x.high))) ∙ L.outside q (omega arith);
          }

  -- the loop has ended
  module _
      {f : ℕ → Record} (ks : List Row) {g : ℕ → Record} {n : ℕ} {rows : List Row} {base : ℕ} (L : Laid board f ks g n rows base (length ks))
    where
      pages_at : (j : ℕ) → j < length ks → (row_at rows j).pages ≡ (row_at ks j).pages
      pages_at j h = same_pages ks rows h (L.stands j h)

      all_laid : Lays board f ks g n rows
      all_laid =
          record {
            long = L.long;
            pages = pages_at;
            narrow = L.narrow;
            stands = stand_all 0 ks rows (lay_rows board ks).regions L.long (laid_many board ks) pages_at L.stands;
            outside = λ q h. L.outside q (omega (arith, L.based, base_end board 0 ks));
          }

-- ---- the loop, on the rows that are kept

module _ {board : Board} (ks : List Row) (n : ℕ) (R : Ready board ks n) where
  apart : Disjoint board ks
  apart = disjoint ks R.apart

  pub laid_none : (f : ℕ → Record) → Laid board f ks f n ks 0 0
  laid_none f =
      record {
        long = refl;
        left = λ j h. refl;
        stands = λ j h. absurd (omega arith);
        narrow = λ j h. absurd (omega arith);
        based = sym (base_first board 0 ks);
        outside = λ q h. refl;
      }

  -- what is known of the row of a turn
  pub record Turn (row : Row) (base : ℕ) : Type 0 where
    pub tables : table_pages board row.pages < row.pages
    pub few : row.pages ≤ most_pages
    pub end : base + managed board row.pages ≤ most_pages
    pub fits : base + managed board row.pages ≤ n

  module _ {f g : ℕ → Record} {rows : List Row} {base i : ℕ} (L : Laid board f ks g n rows base i) (h : i < length rows) where
    within : i < length ks
    within = omega (arith, L.long)

    same : row_at rows i ≡ row_at ks i
    same = L.left i (omega arith)

    pub laid_turn : Turn (row_at rows i) base
    laid_turn =
        let w = base_within board 0 ks i within in
        let t = managed_most board (bare_regions board ks) in
        subst (λ (row : Row). Turn row base) (sym same)
        record {
          tables = (booted_in board ks i no_place R.booted within).tables;
          few = omega (arith, row_total board ks i within, R.most);
          end = omega (arith, L.based, R.most);
          fits = omega (arith, L.based, R.fits);
        }

    pub laid_on
        : {g2 : ℕ → Record} {m : ℕ} {r : Row} → m ≡ n → NarrowRow r
        → Becomes board g base (empty_row (row_at rows i).start (row_at rows i).pages) g2 m r
        (new_state board g base (row_at rows i).start (row_at rows i).pages)
        → Laid board f ks g2 n (set rows i r) (base + managed board (row_at rows i).pages) (i + 1)
    laid_on {g2} {m} {r} e narrow B =
        let T : Turn (row_at ks i) base = subst (λ (row : Row). Turn row base) same laid_turn in
        subst (λ (row : Row). Laid board f ks g2 n (set rows i r) (base + managed board row.pages) (i + 1)) (sym same)
        (laid_next ks apart L within
        (booted_in board ks i no_place R.booted within).aligned
        (omega (arith, T.end)) (omega (arith, T.fits)) narrow
        (subst (λ (row : Row). Becomes board g base (empty_row row.start row.pages) g2 n r (new_state board g base row.start row.pages))
        same
        (subst (λ (x : ℕ). Becomes board g base (empty_row (row_at rows i).start (row_at rows i).pages) g2 x r
        (new_state board g base (row_at rows i).start (row_at rows i).pages)) e B)))

  pub laid_done : {f g : ℕ → Record} {rows : List Row} {base i : ℕ} → Laid board f ks g n rows base i → i ≡ length ks
      → Lays board f ks g n rows
  laid_done {f} {g} {rows} {base} L e = all_laid ks (subst (λ (x : ℕ). Laid board f ks g n rows base x) e L)

-- ---- what words can hold

no_row_narrow : NarrowRow no_row
no_row_narrow =
    record { six = refl; narrow = λ k h. rw (no_list k) record { front = omega arith; back = omega arith; count = omega arith } }

narrow_before
    : (xs : List Row) (k : ℕ) → ((j : ℕ) → j < length xs → NarrowRow (row_at xs j)) → (i : ℕ) → i < length xs + k
    → NarrowRow (get_or (xs ++ replicate k no_row) i no_row)
narrow_before [] zero n i h = absurd (omega arith)
narrow_before [] (suc k) n zero h = no_row_narrow
narrow_before [] (suc k) n (suc i) h = narrow_before [] k (λ j l. absurd (omega arith)) i (omega arith)
narrow_before (x ∷ xs) k n zero h = n 0 (omega arith)
narrow_before (x ∷ xs) k n (suc i) h = narrow_before xs k (λ j l. n (suc j) (omega arith)) i (omega arith)

-- ---- the eight rows: those laid out, and the unused ones behind them

module _ (board : Board) where
  -- the same of eight rows, of which those in use were laid out
  pub record LaysEight (f : ℕ → Record) (rows : List Row) (g : ℕ → Record) (n : ℕ) (r : List Row) : Type 0 where
    pub eight : length r ≡ 8
    pub unused : drop (length (used_rows r)) r ≡ replicate (8 - length (used_rows r)) no_row
    pub stands : StandRows board g n (lay_rows board (used_rows rows)).frames 0 (used_rows r) (lay_rows board (used_rows rows)).regions
    pub outside : (q : ℕ) → managed_pages board (regions_of board rows) ≤ q → g q ≡ f q

module _ {board : Board} {f g : ℕ → Record} {n : ℕ} (ks xs : List Row) (paged : Paged ks) (few : length ks ≤ 8)
    (Y : Lays board f ks g n xs) where
  used_now : used_rows (eight xs) ≡ xs
  used_now = used_eight xs (λ j h z. paged j (omega (arith, Y.long)) (sym (Y.pages j (omega (arith, Y.long))) ∙ z))

  pub eight_laid : (rows : List Row) → used_rows rows ≡ ks → LaysEight board f rows g n (eight xs)
  eight_laid rows e =
      record {
        eight = eight_long xs (omega (arith, Y.long));
        unused = rw used_now (eight_unused xs);
        stands = rw (used_now, e) Y.stands;
        outside = λ q h. Y.outside q (subst (λ (l : List Row). managed_pages board (bare_regions board l) ≤ q) e h);
      }

  pub eight_narrow : Narrow (eight xs)
  unfolding eight
  eight_narrow =
      record {
        eight = eight_long xs (omega (arith, Y.long));
        narrow = λ i h. narrow_before xs (8 - length xs) (λ j l. Y.narrow j (omega (arith, Y.long))) i (omega arith);
      }
