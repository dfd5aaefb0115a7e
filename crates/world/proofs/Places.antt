-- The managed memory by its two names: a page has a page frame number and a page number, a byte an address and a place in the loan. `Runs`
-- says that pages that follow one another have numbers that do, `Lies` the same of bytes; a reader takes from here that a managed byte is
-- in a range of addresses exactly where its place is in the range of places (`lies_place`, `lies_address`), and that a frame, and what is
-- left of a region behind a page, are such runs.
use Prim.Native.Nat.{ℕ, zero, suc, ◌+◌, ◌-◌, ◌*◌, ◌/◌, ◌%◌, ◌≤◌, ◌<◌}
use mathlib.Core.Bool.{Bool, true, false, cond}
use mathlib.Core.List.{List, [], ◌∷◌}
use mathlib.Core.Option.{some, none-ne-some}
use mathlib.Core.Path.{◌≡◌, refl, sym, ap, ◌∙◌}
use native.Mathlib.Omega.{arith}
use borrow.Author.Tests.{leb-true, ltb-true, le-leb, lt-ltb}
use lib.Dec.{leb}
use lib.ListN.{length}
use Rattle.definition.specs.declared.Record.{Record}
use Rattle.definition.specs.declared.Row.{Row}
use Rattle.definition.specs.Basics.{sum}
use Rattle.definition.specs.Board.{Board}
use Rattle.definition.specs.Frame.{Frame, size}
use Rattle.definition.specs.Allocator.{AllocationRegion, first, managed as managedOf, end, contains}
use Rattle.definition.specs.Boot.{managed_pages, overlap}
use Rattle.definition.specs.Torn.{bare_regions, regions_of}
use Rattle.definition.specs.World.{bare_region, frame_of, number_in, page_number, used_rows}
use Rattle.definition.proofs.Tests.{and_left, and_right, and-true}
use Rattle.level.proofs.Sizes.{size_positive}
use Rattle.region.specs.Rep.{Inside, from_of, managed, state_of}
use Rattle.world.specs.Stands.{Disjoint, Good, base_at, region_at, row_at}
use Rattle.world.specs.Stands.Disjoint.{disjoint_more}
use Rattle.world.specs.Tables.{Sane, Spotted}
use Rattle.definition.proofs.Bytes.{address_by, offset_at, offset_on, offsets_on, page_at, page_below, page_from, pages_order, some_byte}
use Rattle.world.proofs.Numbering.{EachPage, each_first, each_rest, overlap_rest}
use Rattle.world.proofs.Sheets.{each_at, good_at}
use Rattle.world.proofs.Tables.{used_row}

module _ (board : Board) where
  -- ---- a page of a region

  module _ (r : AllocationRegion) (p : ℕ) where
    pub contains_low : contains board r p ≡ true → first board r ≤ p
    contains_low t = leb-true _ _ (and_left _ _ t)

    pub contains_high : contains board r p ≡ true → p < end board r
    contains_high t = ltb-true _ _ (and_right (leb (first board r) p) _ t)

    pub contains_true : first board r ≤ p → p < end board r → contains board r p ≡ true
    contains_true a b = and-true (le-leb (first board r) p a) (lt-ltb p (end board r) b)

    pub contains_false : (first board r ≤ p → p < end board r → ⊥) → contains board r p ≡ false
    contains_false o = go (contains board r p) refl
      where
        go : (t : Bool) → contains board r p ≡ t → t ≡ false
        go false e = refl
        go true e = absurd (o (contains_low e) (contains_high e))

  -- ---- page numbers

  -- the page p, whose number is q, is of the first region or of the rest
  pub data FirstOrRest (base : ℕ) (r : AllocationRegion) (rs : List AllocationRegion) (p q : ℕ) : Type 0 where
    in_first : first board r ≤ p → p < end board r → q ≡ page_number board base r p → FirstOrRest base r rs p q
    in_rest : number_in board (base + managedOf board r) rs p ≡ some q → FirstOrRest base r rs p q

  pub first_or_rest : (base : ℕ) (r : AllocationRegion) (rs : List AllocationRegion) (p q : ℕ) → number_in board base (r ∷ rs) p ≡ some q
      → FirstOrRest base r rs p q
  unfolding number_in
  first_or_rest base r rs p q h = go (contains board r p) refl h
    where
      go : (t : Bool) → contains board r p ≡ t
          → cond t (some (page_number board base r p)) (number_in board (base + managedOf board r) rs p) ≡ some q
          → FirstOrRest base r rs p q
      go true k e = in_first (contains_low r p k) (contains_high r p k) (cc)
      go false k e = in_rest e

  -- numbers run from `base` on, as many as there are managed pages
  pub number_between
      : (base : ℕ) (rs : List AllocationRegion) (p q : ℕ) → number_in board base rs p ≡ some q
      → (base ≤ q) × (q < base + managed_pages board rs)
  unfolding number_in sum
  number_between base [] p q h = absurd (none-ne-some q h)
  number_between base (r ∷ rs) p q h = go (first_or_rest base r rs p q h) (number_between (base + managedOf board r) rs p q)
    where
      go : FirstOrRest base r rs p q
          → (number_in board (base + managedOf board r) rs p ≡ some q
          → (base + managedOf board r ≤ q) × (q < base + managedOf board r + managed_pages board rs))
          → (base ≤ q) × (q < base + (managedOf board r + managed_pages board rs))
      go (in_first a b e) ih = (omega arith, omega arith)
      go (in_rest k) ih = let n = ih k in (omega arith, omega arith)

  -- two pages with the same number are one
  pub number_one
      : (base : ℕ) (rs : List AllocationRegion) (p t q : ℕ) → number_in board base rs p ≡ some q → number_in board base rs t ≡ some q
      → p ≡ t
  unfolding number_in
  number_one base [] p t q h k = absurd (none-ne-some q h)
  number_one base (r ∷ rs) p t q h k = go (first_or_rest base r rs p q h) (first_or_rest base r rs t q k) (number_one next rs p t q)
    where
      next : ℕ
      next = base + managedOf board r

      go : FirstOrRest base r rs p q → FirstOrRest base r rs t q
          → (number_in board next rs p ≡ some q → number_in board next rs t ≡ some q → p ≡ t) → p ≡ t
      go (in_first a b e) (in_first c d f) ih = omega arith
      go (in_first a b e) (in_rest l) ih = absurd (omega (arith, (number_between (base + managedOf board r) rs t q l).0))
      go (in_rest j) (in_first c d f) ih = absurd (omega (arith, (number_between (base + managedOf board r) rs p q j).0))
      go (in_rest j) (in_rest l) ih = ih j l

  -- ---- pages that follow one another

  -- the n pages from the page frame number p on have the page numbers from q on
  pub record Runs (rs : List AllocationRegion) (p q n : ℕ) : Type 0 where
    pub some_page : 0 < n
    pub each : (i : ℕ) → i < n → number_in board 0 rs (p + i) ≡ some (q + i)

  module _ {rs : List AllocationRegion} {p q n : ℕ} (R : Runs rs p q n) where
    pub runs_first : number_in board 0 rs p ≡ some q
    runs_first =
        let a : p + 0 ≡ p = omega arith in
        let b : q + 0 ≡ q = omega arith in
        rw (a, b) at (R.each 0 R.some_page)

    pub runs_fewer : {k : ℕ} → 0 < k → k ≤ n → Runs rs p q k
    runs_fewer h l = record { some_page = h; each = λ i b. R.each i (omega arith) }

    pub runs_end : q + n ≤ managed_pages board rs
    runs_end = omega (arith, R.some_page, (number_between 0 rs (p + (n - 1)) (q + (n - 1)) (R.each (n - 1) (omega (arith, R.some_page)))).1)

  -- P of the pages of a region and of the numbers from some number on
  record Based (P : ℕ → ℕ → Type 0) (r : AllocationRegion) : Type 0 where
    pub at : ℕ
    pub each : (i : ℕ) → i < managedOf board r → P (first board r + i) (at + i)

  each_region
      : (P : ℕ → ℕ → Type 0) (base : ℕ) (rs : List AllocationRegion) → EachPage board P base rs → overlap board rs ≡ false → (k : ℕ)
      → k < length rs
      → Based P (region_at rs k)
  each_region P base [] each e k h = absurd (omega arith)
  each_region P base (r ∷ rs) each e zero h = record { at = base; each = each_first board P base r rs each }
  each_region P base (r ∷ rs) each e (suc k) h =
      each_region P (base + managedOf board r) rs (each_rest board P base r rs each e) (overlap_rest board r rs e) k (omega arith)

  -- from a page of a region to the region's end
  pub region_runs
      : (rs : List AllocationRegion) → overlap board rs ≡ false → (k p q : ℕ) → k < length rs → contains board (region_at rs k) p ≡ true
      → number_in board 0 rs p ≡ some q → Runs rs p q (end board (region_at rs k) - p)
  region_runs rs e k p q h c m =
      let r = region_at rs k in
      let low = contains_low r p c in
      let high = contains_high r p c in
      let B = each_region (λ (x y : ℕ). number_in board 0 rs x ≡ some y) 0 rs (λ x y n. n) e k h in
      let here : first board r + (p - first board r) ≡ p = omega arith in
      let q-is : q ≡ B.at + (p - first board r) = (let n = rw here at (B.each (p - first board r) (omega arith)) in cc) in
      record {
        some_page = omega arith;
        each =
            λ i l.
            let a : first board r + (p - first board r + i) ≡ p + i = omega arith in
            let b : B.at + (p - first board r + i) ≡ q + i = omega arith in
            rw (a, b) at (B.each (p - first board r + i) (omega arith));
      }

  -- ---- bytes that follow one another

  abbrev pub managed_bytes : List AllocationRegion → ℕ
  managed_bytes rs = board.page * managed_pages board rs

  -- the len bytes from the address a on are managed, and have the places from b on: each is as far into its page as its place is, and its
  -- page has that number
  pub record Lies (rs : List AllocationRegion) (a b len : ℕ) : Type 0 where
    pub edge : a % board.page ≡ b % board.page
    pub number : (j : ℕ) → j < len → number_in board 0 rs ((a + j) / board.page) ≡ some ((b + j) / board.page)
    pub ends : b + len ≤ managed_bytes rs

  abbrev P : ℕ
  P = board.page

  -- bytes of pages that follow one another, from an offset into the first page on; a physical source a has the offset a % board.page
  pub runs_lies
      : {rs : List AllocationRegion} {p q n : ℕ} → Runs rs p q n → (off len : ℕ) → off + len ≤ board.page * n → {a b : ℕ}
      → a ≡ board.page * p + off → b ≡ board.page * q + off → Lies rs a b len
  runs_lies {p = p} {q = q} {n = n} R off len h {a} {b} d e =
      record {
        edge = ap (λ (x : ℕ). x % board.page) d ∙ offset_on P p off ∙ sym (ap (λ (x : ℕ). x % board.page) e ∙ offset_on P q off);
        number =
            λ j l.
            let some_bytes = some_byte P {x = off + j} n (omega arith) in
            let x : (a + j) / board.page ≡ p + (off + j) / board.page = page_from P some_bytes p (off + j) (omega arith) in
            let y : (b + j) / board.page ≡ q + (off + j) / board.page = page_from P some_bytes q (off + j) (omega arith) in
            rw (x, y) (R.each ((off + j) / board.page) (page_below P (omega arith)));
        ends = omega (arith, pages_order P (runs_end R));
      }

  -- the byte i of the managed page p, whose number is q, is in the range of addresses exactly where its place is in the range of places
  module _
      {rs : List AllocationRegion} {a b len : ℕ} (L : Lies rs a b len) (p q : ℕ) (h : number_in board 0 rs p ≡ some q) (i j : ℕ)
      (small : i < board.page) (short : j < len)
    where
      pub lies_place : a + j ≡ board.page * p + i → b + j ≡ board.page * q + i
      lies_place e =
          let x : (a + j) / board.page ≡ p = page_at P p i e small in
          let n = rw x at (L.number j short) in
          let y : q ≡ (b + j) / board.page = cc in
          address_by P q i (sym y) (sym (offsets_on P a b j L.edge) ∙ offset_at P p i e small)

      pub lies_address : b + j ≡ board.page * q + i → a + j ≡ board.page * p + i
      lies_address e =
          let y : (b + j) / board.page ≡ q = page_at P q i e small in
          let x : (a + j) / board.page ≡ p = number_one 0 rs ((a + j) / board.page) p q (rw y at (L.number j short)) h in
          address_by P p i x (offsets_on P a b j L.edge ∙ offset_at P q i e small)

module _ {board : Board} where
  -- ---- the pages of a row

  -- the number of a page of the row i
  row_number
      : (base : ℕ) (rows : List Row) (i p : ℕ) → Disjoint board rows → i < length rows
      → Inside board (from_of board (row_at rows i)) (row_at rows i).pages p
      → number_in board base (bare_regions board rows) p ≡ some (base_at board base rows i + (p - from_of board (row_at rows i)))
  unfolding number_in bare_regions base_at from_of managed
  row_number base [] i p D h k = absurd (omega arith)
  row_number base (row ∷ rows) zero p D h k =
      rw (contains_true board (bare_region board row) p k.low (omega (arith, k.low, k.high))) refl
  row_number base (row ∷ rows) (suc i) p (disjoint_more d ds) h k =
      rw (contains_false board (bare_region board row) p (λ l u. each_at _ d i (omega arith) p (record { low = l; high = omega arith }) k))
      (row_number (base + managed board row.pages) rows i p ds (omega arith) k)

  module _ {rows : List Row} {i base q p : ℕ} (S : Spotted board rows i base q p) where
    -- the row's region ends with its managed board pages
    pub spotted_end : end board (bare_region board (row_at rows i)) ≡ from_of board (row_at rows i) + managed board (row_at rows i).pages
    unfolding from_of managed
    spotted_end = omega (arith, S.inside.low, S.inside.high)

    -- from a page of a row to the end of the row's region
    pub spotted_runs : Disjoint board (used_rows rows)
        → Runs board (regions_of board rows) p q (end board (bare_region board (row_at rows i)) - p)
    spotted_runs D =
        let low = S.inside.low in
        let high = S.inside.high in
        let last = spotted_end in
        record {
          some_page = omega (arith, S.number);
          each =
              λ j l.
              let n = rw (used_row rows i S.used) at (row_number 0 (used_rows rows) i (p + j) D S.used) in
              n (record { low = omega (arith, S.number); high = omega arith }) ∙ ap some (omega (arith, S.number, S.based));
        }

    pub spotted_number : Disjoint board (used_rows rows) → number_in board 0 (regions_of board rows) p ≡ some q
    spotted_number D = runs_first board (spotted_runs D)

    -- the pages of a frame
    pub frame_runs
        : {f : ℕ → Record} {n : ℕ} → Sane board f n rows → (a : Frame) → frame_of (f q) ≡ some a
        → Runs board (regions_of board rows) p q (size a.level)
    unfolding state_of
    frame_runs {f} {n} N a e =
        let G : Good board f n base (row_at rows i) = rw (S.based, ← used_row rows i S.used) (good_at _ N.good i S.used) in
        let fits = (G.whole.tile q a S.inside e).ends in
        runs_fewer board (spotted_runs N.apart) (size_positive a.level) (omega (arith, spotted_end, S.number, S.inside.low))
