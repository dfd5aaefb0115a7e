-- A pass over the regions, row by row. `Gone` is what it keeps: the regions before the row i had nothing, so that all is as it was. Where they all had nothing, so has the
-- definition's pass, and where the row i has a frame, the definition's pass finds the same.
use Rattle.definition.specs.Basics.{everywhere}
use Prim.Native.Nat.{ℕ, ◌+◌, ◌≤◌, ◌<◌}
use mathlib.Core.Bool.{Bool}
use mathlib.Core.List.{List}
use mathlib.Core.Option.{none, some}
use Rattle.std.specs.Prelude.{Some, None}
use mathlib.Core.Path.{◌≡◌, refl, sym, ap, ◌∙◌, subst}
use native.Mathlib.Decide.{ℕ_discrete}
use native.Mathlib.Omega.{arith}
use lib.ListN.{length, set, length-set}
use lib.Seq.{get_or-set_same, set-get_or}
use Rattle.definition.specs.Board.{Board}
use Rattle.definition.specs.declared.Record.{Record}
use Rattle.definition.specs.declared.Row.{Row}
use Rattle.definition.specs.Frame.{Found, Levels, allocate}
use Rattle.definition.specs.Allocator.{PhysicalFrameAllocator, levels_of}
use Rattle.definition.specs.World.{used_rows}
use Rattle.region.specs.Rep.{Answers, Becomes, Search, WholeRow, from_of, managed, state_of}
use Rattle.region.proofs.Laws.{rep_state, page_in_lem, none_in}
use Rattle.region.proofs.Searching.{from_same}
use Rattle.world.specs.Stands.{Alike, Good, base_at, region_at, row_at, shift, shifted}
use Rattle.world.specs.Tables.{Sane, Table}
use Rattle.world.proofs.Allocators.{given, pass_found, pass_none}
use Rattle.world.proofs.Carrying.{alike_allocate}
use Rattle.world.proofs.Tables.{table_set, used_set}
use Rattle.allocator.specs.declared.Spot.{Spot}
use Rattle.allocator.specs.Spots.{HeldAt, InRows, PicksBy, pass_by}
use Rattle.allocator.proofs.Barren.{granted_held, nothing_granted, unchanged}
use Rattle.allocator.proofs.Arrays.{base_first, base_row, region_stands, row_good, stand_length, used_more}
use Rattle.allocator.proofs.InOrder.{base_set, row_tiled}
use Rattle.allocator.proofs.Turning.{used_most}

-- the region of the row j has nothing
abbrev pub HasNone : (ℕ → Record) → List Row → (l : ℕ) (try_zero only_zero : Bool) → ℕ → Type 0
HasNone f rows l t o j = (allocate everywhere l (state_of f (row_at rows j)) t o).page ≡ none

-- ---- one row

module _ {board : Board} where
  module _ {f : ℕ → Record} {n : ℕ} {rows : List Row} (S : Sane board f n rows) (l : ℕ) (few : l < 3) (t o : Bool) (i : ℕ) (h : i < length (used_rows rows)) where
    abbrev base : ℕ
    base = base_at board 0 (used_rows rows) i

    abbrev row : Row
    row = row_at rows i

    -- what the region has, by page numbers
    abbrev has : Found
    has = allocate everywhere l (state_of f row) t o

    -- the allocator's region has the same
    region_alike
        : {a : PhysicalFrameAllocator} → Table board f n rows a
        → Alike board (from_of board row) base row.pages (levels_of a.frames (region_at a.regions i)) has (given l t o a.frames a.regions i)
    region_alike T = alike_allocate (region_stands T i h).same (row_tiled S i h) l few t o

    region_none : {a : PhysicalFrameAllocator} → Table board f n rows a → HasNone f rows l t o i → (given l t o a.frames a.regions i).page ≡ none
    region_none T e = (region_alike T).page ∙ ap (shifted (from_of board row) base) e

    module _ {g : ℕ → Record} {m : ℕ} {r : Search} (A : Answers board f base row g m r has) where
      -- a region that has nothing stays as it was
      none_here : r.page ≡ None → (g ≡ f) × (r.row ≡ row) × HasNone f rows l t o i
      none_here e =
          let p : has.page ≡ none = sym A.found ∙ none_in r e in
          let u = unchanged (row_good S i h).sound (subst (λ (s : Levels). Becomes board f base row g m r.row s) (nothing_granted (row_tiled S i h) l few t o p) A.became) in
          (u.0, u.1, p)

-- ---- the first row that has a frame

module _ {board : Board} where
  module _ {f : ℕ → Record} {n : ℕ} {rows : List Row} (S : Sane board f n rows) (l : ℕ) (few : l < 3) (t o : Bool) where
    none_before : {a : PhysicalFrameAllocator} → Table board f n rows a → (i : ℕ) → i ≤ length (used_rows rows) → ((j : ℕ) → j < i → HasNone f rows l t o j)
        → (j : ℕ) → j < i → (given l t o a.frames a.regions j).page ≡ none
    none_before T i u b j k = region_none S l few t o j (omega arith) T (b j k)

    module _ (i : ℕ) (h : i < length (used_rows rows)) (before : (j : ℕ) → j < i → HasNone f rows l t o j) {g : ℕ → Record} {r : Search}
        (A : Answers board f (base_at board 0 (used_rows rows) i) (row_at rows i) g n r (allocate everywhere l (state_of f (row_at rows i)) t o))
        (W : WholeRow board g (base_at board 0 (used_rows rows) i) r.row) {p : ℕ} (e : r.page ≡ Some p)
      where
        abbrev first : ℕ
        first = base_at board 0 (used_rows rows) i

        abbrev place : Spot
        place = record { index = i; base = first; page = p }

        paged : (allocate everywhere l (state_of f (row_at rows i)) t o).page ≡ some p
        paged = sym A.found ∙ page_in_lem r e

        row_is : row_at (set rows i r.row) i ≡ r.row
        row_is = get_or-set_same rows i r.row _ (omega (arith, used_most rows))

        from_is : from_of board (row_at (set rows i r.row) i) ≡ from_of board (row_at rows i)
        from_is = ap (from_of board) row_is ∙ from_same A.became

        pages_is : (row_at (set rows i r.row) i).pages ≡ (row_at rows i).pages
        pages_is = ap (λ (x : Row). x.pages) row_is ∙ A.became.pages

        used_is : used_rows (set rows i r.row) ≡ set (used_rows rows) i r.row
        used_is = used_set rows i r.row h A.became.pages

        spotted : InRows board (set rows i r.row) place
        spotted =
            record {
              used = rw (used_is, length-set (used_rows rows) i r.row) h;
              based = sym (ap (λ (xs : List Row). base_at board 0 xs i) used_is ∙ base_set board 0 (used_rows rows) i r.row);
              inside = rw pages_is (granted_held (row_tiled S i h) l few t o p paged).0;
              number = refl;
            }

        held : HeldAt board g (set rows i r.row) place
        held =
            let k = granted_held (row_tiled S i h) l few t o p paged in
            record { inside = rw pages_is k.0; held = rw (row_is, rep_state A.became.rep) k.1 }

        picks_found : PicksBy board (pass_by l t o) f rows g n (record { rows = set rows i r.row; spot = Some place })
        picks_found a T =
            let q = shift (from_of board (row_at rows i)) first p in
            let L = region_alike S l few t o i h T in
            let k : (given l t o a.frames a.regions i).page ≡ some q = L.page ∙ ap (shifted (from_of board (row_at rows i)) first) paged in
            rw (pass_found l t o a.frames a.regions i q (rw (stand_length T.stands) h) (none_before T i (omega arith) before) k)
            (record {
              turned = table_set T i h A.became W L.carried;
              picked = record { page = ap (λ (x : ℕ). some (shift x first p)) (sym from_is); spot = spotted; held = held };
            })

    -- none has
    picks_none
        : ((j : ℕ) → j < length (used_rows rows) → HasNone f rows l t o j) → {rows2 : List Row} → rows2 ≡ rows
        → PicksBy board (pass_by l t o) f rows f n (record { rows = rows2; spot = None })
    picks_none b d a T =
        rw (pass_none l t o a.frames a.regions (λ j k. none_before T (length (used_rows rows)) (omega arith) b j (omega (arith, stand_length T.stands))))
        (record { turned = rw d (record { table = T; spans = refl; outside = λ q k. refl }); picked = refl })

-- ---- the loop

module _ (board : Board) where
  -- the pass is at the row i, whose first managed page has the number base, and the records are g, of m pages
  pub record Gone (f : ℕ → Record) (n : ℕ) (rows : List Row) (l : ℕ) (t o : Bool) (g : ℕ → Record) (m base i : ℕ) : Type 0 where
    pub sane : Sane board f n rows
    pub few : l < 3
    pub same : g ≡ f
    pub size : m ≡ n
    pub used : i ≤ length (used_rows rows)
    pub based : base ≡ base_at board 0 (used_rows rows) i
    pub before : (j : ℕ) → j < i → HasNone f rows l t o j

module _ {board : Board} where
  module _ {f : ℕ → Record} {n : ℕ} {rows : List Row} {l : ℕ} {t o : Bool} where
    pub gone_none : Sane board f n rows → l < 3 → Gone board f n rows l t o f n 0 0
    gone_none S h =
        record {
          sane = S;
          few = h;
          same = refl;
          size = refl;
          used = omega arith;
          based = sym (base_first board 0 (used_rows rows));
          before = λ j k. absurd (omega arith);
        }

    module _ {g : ℕ → Record} {m base i : ℕ} (G : Gone board f n rows l t o g m base i) where
      -- a row with pages is in use, and one without is behind those in use
      pub gone_here : i < 8 → ((row_at rows i).pages ≡ 0 → ⊥) → i < length (used_rows rows)
      gone_here h p = used_more rows i G.used (omega (arith, G.sane.eight)) p

      pub gone_past : (row_at rows i).pages ≡ 0 → i ≡ length (used_rows rows)
      gone_past p = go (ℕ_discrete i (length (used_rows rows)))
        where
          go : Dec (i ≡ length (used_rows rows)) → i ≡ length (used_rows rows)
          go (yes e) = e
          go (no d) = absurd (omega (arith, G.used, (row_good G.sane i (omega (arith, G.used))).tables))

      pub gone_eight : 8 ≤ i → i ≡ length (used_rows rows)
      gone_eight h = omega (arith, G.used, G.sane.eight, used_most rows)

      pub gone_all
          : i ≡ length (used_rows rows) → {rows2 : List Row} → rows2 ≡ rows
          → PicksBy board (pass_by l t o) f rows g m (record { rows = rows2; spot = None })
      gone_all e d = rw (G.same, G.size) (picks_none G.sane l G.few t o (λ j u. G.before j (omega arith)) d)

      module _ (h : i < length (used_rows rows)) where
        pub gone_good : Good board g m base (row_at rows i)
        gone_good = rw (G.same, G.size, G.based) (row_good G.sane i h)

        module _ {g2 : ℕ → Record} {m2 : ℕ} {r : Search} (A : Answers board g base (row_at rows i) g2 m2 r (allocate everywhere l (state_of g (row_at rows i)) t o)) (k : m2 ≡ m) where
          answered : Answers board f (base_at board 0 (used_rows rows) i) (row_at rows i) g2 n r (allocate everywhere l (state_of f (row_at rows i)) t o)
          answered = rw (k, G.same, G.size, G.based) at A

          -- the region had nothing, so its row is as it was
          pub gone_row : r.page ≡ None → set rows i r.row ≡ rows
          gone_row e = ap (set rows i) (none_here G.sane l G.few t o i h answered e).1 ∙ set-get_or rows i _

          pub gone_on : r.page ≡ None → Gone board f n rows l t o g2 m2 (base + managed board (row_at rows i).pages) (i + 1)
          gone_on e =
              let N = none_here G.sane l G.few t o i h answered e in
              record {
                sane = G.sane;
                few = G.few;
                same = N.0;
                size = k ∙ G.size;
                used = omega arith;
                based = ap (λ (b : ℕ). b + managed board (row_at rows i).pages) G.based ∙ sym (base_row board rows i h);
                before = λ j u. up_to N.2 j u (ℕ_discrete j i);
              }
            where
              up_to : HasNone f rows l t o i → (j : ℕ) → j < i + 1 → Dec (j ≡ i) → HasNone f rows l t o j
              up_to b j u (yes d) = rw d b
              up_to b j u (no d) = G.before j (omega arith)

          pub gone_found
              : WholeRow board g2 base r.row → {p : ℕ} → r.page ≡ Some p
              → PicksBy board (pass_by l t o) f rows g2 m2
              (record { rows = set rows i r.row; spot = Some (record { index = i; base = base; page = p }) })
          gone_found W e = rw (k, G.size, G.based) (picks_found G.sane l G.few t o i h G.before answered (rw G.based at W) e)
