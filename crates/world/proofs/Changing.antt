-- A call changes the rows and records of one region. The world then stands for the store in which that region changed alike, and every
-- other region stays sound, whole and what it stood for.
use Prim.Native.Nat.{ℕ, zero, suc, ◌+◌, ◌≤◌, ◌<◌}
use mathlib.Core.List.{List, [], ◌∷◌, map}
use mathlib.Core.Option.{none}
use mathlib.Core.Path.{◌≡◌, sym, ap, ◌∙◌, subst}
use native.Mathlib.Omega.{arith}
use lib.ListN.{length, set}
use Rattle.definition.specs.Board.{Board}
use Rattle.definition.specs.declared.Record.{Record}
use Rattle.definition.specs.declared.Row.{Row}
use Rattle.definition.specs.Frame.{Frame, Frames, Levels, size}
use Rattle.list.specs.Linked.{All}
use Rattle.definition.specs.Allocator.{AllocationRegion, levels_of, with_free}
use Rattle.definition.specs.World.{frame_of}
use Rattle.region.proofs.Beside.{beside}
use Rattle.region.proofs.Laws.{rep_sound, rep_state}
use Rattle.region.proofs.Searching.{from_same}
use Rattle.region.specs.Rep.{Becomes, Inside, Rep, SoundRow, Starts, Tile, Whole, WholeRow, from_of, managed, state_of}
use Rattle.world.specs.Stands.{
  shift,
  Shifted,
  Carried,
  StandsRow,
  StandRows,
  Good,
  GoodRows,
  base_at,
  row_at,
  region_at,
  Each,
  Parted,
  Disjoint,
}
use Rattle.world.specs.Stands.StandRows.{stand_none, stand_more}
use Rattle.world.specs.Stands.GoodRows.{good_none, good_more}
use Rattle.world.specs.Stands.Each.{each_none, each_more}
use Rattle.world.specs.Stands.Disjoint.{disjoint_more}
use Rattle.world.proofs.Carrying.{shift_in}
use Rattle.world.proofs.Sheets.{base_low, each_at}

-- ---- a region whose frames and lists stay is whole still

module _ {board : Board} where
  module _
      (s t : Levels) {first pages : ℕ} (frames : (q : ℕ) → Inside board first pages q → t.frames q ≡ s.frames q)
    where
      starts_same : (p : ℕ) → first ≤ p → Starts s (first + managed board pages) p → Starts t (first + managed board pages) p
      starts_same p a h d = rw (frames p (record { low = a; high = d })) (h d)

      tile_same
          : {from : ℕ} (p : ℕ) (a : Frame) → Inside board first pages p → Tile s from first (first + managed board pages) p a
          → Tile t from first (first + managed board pages) p a
      tile_same p a i T =
          record {
            level = T.level;
            aligned = T.aligned;
            ends = T.ends;
            clear = λ q x y. frames q (record { low = omega (arith, i.low); high = omega (arith, T.ends) }) ∙ T.clear q x y;
            next = starts_same (p + size a.level) (omega (arith, i.low)) T.next;
          }

      pub whole_same : {from : ℕ} → t.free ≡ s.free → Whole board s none from first pages → Whole board t none from first pages
      whole_same free W =
          record {
            opens = starts_same first (omega arith) W.opens;
            tile = λ p a i e. tile_same p a i (W.tile p a i (sym (frames p i) ∙ e));
            full = λ q l i h. rw (frames q i, free) (W.full q l i (rw (frames q i) at h));
          }

-- ---- beside a change

module _ {board : Board} where
  module _
      {f g : ℕ → Record} {n base : ℕ} {row r : Row} {u : Levels} (B : Becomes board f base row g n r u)
      {base2 : ℕ} (row2 : Row) (apart : (q : ℕ) → Inside board base2 row2.pages q → Inside board base row.pages q → ⊥)
    where
      beside_rep : SoundRow board f n base2 row2 → Rep board g n base2 row2 (record { frames = u.frames; free = (state_of f row2).free })
      beside_rep R = beside B R apart

      state_frames : (q : ℕ) → Inside board base2 row2.pages q → (state_of g row2).frames q ≡ (state_of f row2).frames q
      unfolding state_of
      state_frames q i = ap frame_of (B.outside q (apart q i))

      state_free : SoundRow board f n base2 row2 → (state_of g row2).free ≡ (state_of f row2).free
      state_free R = ap (λ (s : Levels). s.free) (rep_state (beside_rep R))

      pub good_beside : Good board f n base2 row2 → Good board g n base2 row2
      good_beside G =
          record {
            aligned = G.aligned;
            bounded = G.bounded;
            tables = G.tables;
            sound = rep_sound (beside_rep G.sound);
            whole = whole_same (state_of f row2) (state_of g row2) state_frames (state_free G.sound) G.whole;
          }

      pub stands_beside
          : {t t2 : Levels} {x : AllocationRegion} → Carried board (from_of board row) base row.pages t u t2 → Parted board row row2
          → StandsRow board f n base2 row2 t.frames x → StandsRow board g n base2 row2 t2.frames x
      stands_beside C parted S =
          record {
            sound = rep_sound (beside_rep S.sound);
            aligned = S.aligned;
            start = S.start;
            pages = S.pages;
            same =
                record {
                  frames = λ q i. C.outside (shift (from_of board row2) base2 q) (λ j. parted _ j (shift_in q i)) ∙ S.same.frames q i
                      ∙ sym (state_frames q i);
                  free = λ k. S.same.free k ∙ ap (λ (h : ℕ → List ℕ). map (shift (from_of board row2) base2) (h k))
                      (sym (state_free S.sound));
                  inside = λ k. subst (λ (h : ℕ → List ℕ). All (λ (q : ℕ). Inside board base2 row2.pages q) (h k))
                      (sym (state_free S.sound)) (S.same.inside k);
                };
          }

-- ---- the rows but one

module _ {board : Board} where
  module _ {f g : ℕ → Record} {n base : ℕ} {row r : Row} {u : Levels} (B : Becomes board f base row g n r u) where
    behind : {base2 : ℕ} (row2 : Row) → base + managed board row.pages ≤ base2 → (q : ℕ) → Inside board base2 row2.pages q
        → Inside board base row.pages q → ⊥
    behind row2 h q i j = absurd (omega (arith, i.low, j.high))

    before : {base2 : ℕ} (row2 : Row) → base2 + managed board row2.pages ≤ base → (q : ℕ) → Inside board base2 row2.pages q
        → Inside board base row.pages q → ⊥
    before row2 h q i j = absurd (omega (arith, i.high, j.low))

    good_rest : {base2 : ℕ} {rows : List Row} → base + managed board row.pages ≤ base2 → GoodRows board f n base2 rows
        → GoodRows board g n base2 rows
    good_rest h good_none = good_none
    good_rest h (good_more {row = row2} G Gs) = good_more (good_beside B row2 (behind row2 h) G) (good_rest (omega arith) Gs)

    stands_rest
        : {t t2 : Levels} → Carried board (from_of board row) base row.pages t u t2
        → {base2 : ℕ} {rows : List Row} {rs : List AllocationRegion}
        → base + managed board row.pages ≤ base2 → Each (λ (x : Row). Parted board row x) rows → StandRows board f n t.frames base2 rows rs
        → StandRows board g n t2.frames base2 rows rs
    stands_rest C h each_none stand_none = stand_none
    stands_rest {t = t} {t2 = t2} C {base2 = base2} h (each_more {row = row2} {rows = rows} p ps) (stand_more {r = r'} {rs = rs} S Ss) =
        stand_more (stands_beside B row2 (behind row2 h) C p S)
        (stands_rest C {base2 = base2 + managed board row2.pages} (omega arith) ps Ss)

-- ---- the row i changes

module _ {board : Board} where
  pub good_set
      : {f g : ℕ → Record} {n : ℕ} {r : Row} {u : Levels} (i base : ℕ) (rows : List Row) → i < length rows → GoodRows board f n base rows
      → Becomes board f (base_at board base rows i) (row_at rows i) g n r u → WholeRow board g (base_at board base rows i) r
      → GoodRows board g n base (set rows i r)
  unfolding base_at
  good_set {g = g} {n = n} {r = r} zero base (row ∷ rows) h (good_more G Gs) B W =
      good_more {row = r}
      (record {
        aligned = rw B.start G.aligned;
        bounded = rw (B.start, B.pages) G.bounded;
        tables = rw B.pages G.tables;
        sound = rep_sound B.rep;
        whole = W;
      })
      (subst (λ (p : ℕ). GoodRows board g n (base + managed board p) rows) (sym B.pages) (good_rest B (omega arith) Gs))
  good_set (suc i) base (row ∷ rows) h (good_more G Gs) B W =
      good_more (good_beside B row (before B row (base_low board (base + managed board row.pages) rows i)) G)
      (good_set i (base + managed board row.pages) rows (omega arith) Gs B W)
  good_set {f = f} {g = g} {n = n} {r = r} {u = u} zero base [] h _ B W = elim h [ ]
  good_set {f = f} {g = g} {n = n} {r = r} {u = u} (suc i) base [] h _ B W = elim h [ ]

  same_after
      : {f g : ℕ → Record} {n base : ℕ} {row r : Row} {u t : Levels} → Becomes board f base row g n r u
      → Shifted board (from_of board row) base row.pages u t
      → Shifted board (from_of board r) base r.pages (state_of g r) t
  same_after {g = g} {base = base} {row = row} {r = r} {u = u} {t = t} B S =
      subst (λ (a : ℕ). Shifted board a base r.pages (state_of g r) t) (sym (from_same B))
      (subst (λ (p : ℕ). Shifted board (from_of board row) base p (state_of g r) t) (sym B.pages)
      (subst (λ (s : Levels). Shifted board (from_of board row) base row.pages s t) (sym (rep_state B.rep)) S))

  -- the region that the row stood for changed alike
  pub stands_set
      : {f g : ℕ → Record} {n : ℕ} {r : Row} {fs : Frames} {u t2 : Levels} (i base : ℕ) (rows : List Row) (rs : List AllocationRegion)
      → i < length rows
      → Disjoint board rows → StandRows board f n fs base rows rs → Becomes board f (base_at board base rows i) (row_at rows i) g n r u
      → Carried board (from_of board (row_at rows i)) (base_at board base rows i) (row_at rows i).pages (levels_of fs (region_at rs i)) u t2
      → StandRows board g n t2.frames base (set rows i r) (set rs i (with_free (region_at rs i) t2.free))
  unfolding base_at
  stands_set {g = g} {n = n} {r = r} {u = u} {t2 = t2} zero base (row ∷ rows) (x ∷ rs) h (disjoint_more p ps) (stand_more S Ss) B C =
      stand_more {row = r} {r = with_free x t2.free}
      (record {
        sound = rep_sound B.rep;
        aligned = rw B.start S.aligned;
        start = rw B.start S.start;
        pages = S.pages ∙ sym B.pages;
        same = same_after B C.same;
      })
      (subst (λ (p : ℕ). StandRows board g n t2.frames (base + managed board p) rows rs) (sym B.pages) (stands_rest B C (omega arith) p Ss))
  stands_set (suc i) base (row ∷ rows) (x ∷ rs) h (disjoint_more p ps) (stand_more S Ss) B C =
      stand_more (stands_beside B row (before B row (base_low board (base + managed board row.pages) rows i)) C
      (λ q a b. each_at _ p i (omega arith) q b a) S)
      (stands_set i (base + managed board row.pages) rows rs (omega arith) ps Ss B C)
  stands_set {f = f} {g = g} {n = n} {r = r} {fs = fs} {u = u} {t2 = t2} zero base [] rs h _ _ B C = elim h [ ]
  stands_set {f = f} {g = g} {n = n} {r = r} {fs = fs} {u = u} {t2 = t2} zero base (row ∷ rows) [] h _ x17 B C = elim x17 [ ]
  stands_set {f = f} {g = g} {n = n} {r = r} {fs = fs} {u = u} {t2 = t2} (suc i) base [] rs h _ _ B C = elim h [ ]
  stands_set {f = f} {g = g} {n = n} {r = r} {fs = fs} {u = u} {t2 = t2} (suc i) base (row ∷ rows) [] h _ x18 B C = elim x18 [ ]
