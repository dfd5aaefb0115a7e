-- A region stays whole.
use Prim.Native.Nat.{ℕ, ◌+◌, ◌-◌, ◌<◌}
use mathlib.Core.Bool.{Bool, true, false}
use mathlib.Core.List.{List}
use mathlib.Core.Logic.{◌≢◌}
use mathlib.Core.Option.{Option, none, some}
use mathlib.Core.Path.{◌≡◌, refl, sym, ap, ◌∙◌, subst}
use native.Mathlib.Decide.{ℕ_discrete}
use native.Mathlib.Omega.{arith}
use Rattle.definition.specs.Board.{Board}
use Rattle.definition.proofs.Basics.{upd_all, upd_other, upd_same}
use Rattle.definition.specs.Basics.{everywhere, upd}
use Rattle.definition.specs.Frame.{Found, Frame, Levels, allocate, do_allocate, free, freed, set_allocated}
use Rattle.definition.specs.World.{level_of, slot_of}
use Rattle.definition.specs.declared.Record.{Record}
use Rattle.definition.specs.declared.Row.{Row}
use Rattle.list.specs.Linked.{In}
use Rattle.words.specs.Words.{row_of, rows_in}
use Rattle.region.specs.declared.AllocationRegion.{AllocationRegion}
use Rattle.region.specs.Lent.{WholeIn}
use Rattle.region.specs.Rep.{Becomes, Held, Inside, Starts, Tile, Whole, WholeRow, from_of, hold_at, list_up, managed}
use Rattle.region.proofs.Laws.{rep_state}
use Rattle.region.proofs.Tiling.{Kept, Fine, Ready, fine_do, none_some, up_has, up_grows}
use Rattle.region.proofs.Granting.{granted_none, granted_page}
use Rattle.region.proofs.Searching.{Reached, from_same}

-- ---- the frame at p is marked otherwise, and the lists are others

module _ {board : Board} where
  module _ {s : Levels} {loose : Option ℕ} {from first pages p : ℕ} {a : Frame} (b : Frame) (Wh : Whole board s loose from first pages) (H : s.frames p ≡ some a) (L : b.level ≡ a.level) (fr : ℕ → List ℕ) where
    abbrev t : Levels
    t = record { frames = upd s.frames p (some b); free = fr }

    abbrev end : ℕ
    end = first + managed board pages

    starts : (q : ℕ) → Starts s end q → Starts t end q
    starts q = upd_all (λ q x. Starts s end q → q < end → x ≢ none) s.frames p (some b) (λ h i w. none_some w refl) (λ q m h. h) q

    clears : (q : ℕ) → s.frames q ≡ none → t.frames q ≡ none
    clears q h = upd_other s.frames p (some b) q (λ e. none_some h (ap s.frames e ∙ H)) ∙ h

    tile_by : {q : ℕ} {c d : Frame} → d.level ≡ c.level → Tile s from first end q c → Tile t from first end q d
    tile_by {q} e T =
        record {
          level = rw e T.level;
          aligned = rw e T.aligned;
          ends = rw e T.ends;
          clear = rw e (λ r x y. clears r (T.clear r x y));
          next = rw e (starts _ T.next);
        }

    tile : (q : ℕ) (c : Frame) → Inside board first pages q → t.frames q ≡ some c → Dec (q ≡ p) → Tile t from first end q c
    tile q c i h (yes e) =
        let g : some b ≡ some c = sym (upd_same s.frames p (some b)) ∙ subst (λ (x : ℕ). t.frames x ≡ some c) e h in
        tile_by (sym (ap level_of g) ∙ L) (Wh.tile q a i (ap s.frames e ∙ H))
    tile q c i h (no m) = tile_by refl (Wh.tile q c i (sym (upd_other s.frames p (some b) q m) ∙ h))

    pub whole_marked
        : {other : Option ℕ}
        → ((q : ℕ) → other ≢ some q → Inside board first pages q → slot_of (t.frames q) < 6 → Dec (q ≡ p) → In q (fr (slot_of (t.frames q))))
        → Whole board t other from first pages
    whole_marked F = record { opens = starts first Wh.opens; tile = λ q c i h. tile q c i h (ℕ_discrete q p); full = λ q n i h. F q n i h (ℕ_discrete q p) }

-- ---- a grant

module _ {board : Board} where
  pub whole_held : {s : Levels} {from first pages p l : ℕ} → Whole board s (some p) from first pages → Ready board s first pages l p false → Whole board (hold_at s p) none from first pages
  whole_held {s} {from} {first} {pages} {p} {l} Wh y =
      rw y.here
      (whole_marked b Wh y.here refl s.free {other = none} full)
    where
      b : Frame
      b = record { level = y.frame.level; allocated = true; zeroed = y.frame.zeroed; kernel = y.frame.kernel }

      full : (q : ℕ) → none ≢ some q → Inside board first pages q → slot_of (upd s.frames p (some b) q) < 6 → Dec (q ≡ p)
          → In q (s.free (slot_of (upd s.frames p (some b) q)))
      full q n i h (yes e) =
          let g = ap slot_of (ap (upd s.frames p (some b)) e ∙ upd_same s.frames p (some b)) in
          absurd (omega arith)
      full q n i h (no m) =
          let g = upd_other s.frames p (some b) q m in
          rw g (Wh.full q (λ e. m (let d : p ≡ q = cc in sym d)) i (rw g at h))

  pub whole_allocate : {s : Levels} {from first pages : ℕ} (l : ℕ) (t o : Bool) → Kept board s first pages → Whole board s none from first pages → l < 3
      → Whole board (allocate everywhere l s t o).levels none from first pages
  unfolding allocate
  whole_allocate {s} {from} {first} {pages} l t o K Wh h = go a.page refl
    where
      a : Found
      a = do_allocate everywhere (3 - l) l s t o

      F : Fine board from first pages l a
      F = fine_do (3 - l) l t o (record { kept = K; whole = Wh }) (omega arith)

      go : (x : Option ℕ) → a.page ≡ x → Whole board (set_allocated a).levels none from first pages
      go none e = rw (granted_none a e) (subst (λ (x : Option ℕ). Whole board a.levels x from first pages) e F.good.whole)
      go (some p) e =
          rw (granted_page a p e) (whole_held (subst (λ (x : Option ℕ). Whole board a.levels x from first pages) e F.good.whole) (F.ready p e))

-- ---- a free

module _ {board : Board} where
  pub whole_free : {s : Levels} {from first pages p : ℕ} → Whole board s none from first pages → Held board s first pages p → Whole board (free s p) none from first pages
  unfolding free
  whole_free {s} {from} {first} {pages} {p} Wh H = go (s.frames p) refl
    where
      go : (x : Option Frame) → s.frames p ≡ x → Whole board (freed s p x) none from first pages
      go none e = Wh
      go (some a) e = whole_marked b Wh e refl _ {other = none} full
        where
          b : Frame
          b = record { level = a.level; allocated = false; zeroed = a.zeroed; kernel = a.kernel }

          full : (q : ℕ) → none ≢ some q → Inside board first pages q → slot_of (upd s.frames p (some b) q) < 6 → Dec (q ≡ p)
              → In q ((list_up s p a.level a.zeroed a.kernel).free (slot_of (upd s.frames p (some b) q)))
          full q n i h (yes e) =
              rw (e, upd_same s.frames p (some b)) (up_has s p a.level a.zeroed a.kernel)
          full q n i h (no m) =
              let g = upd_other s.frames p (some b) q m in
              rw g (up_grows s p a.level a.zeroed a.kernel q (slot_of (s.frames q)) (Wh.full q n i (rw g at h)))

-- ---- the row says so

module _ {board : Board} where
  pub row_whole : {f g : ℕ → Record} {first n : ℕ} {row r : Row} {s : Levels} → Becomes board f first row g n r s → Whole board s none (from_of board row) first row.pages → WholeRow board g first r
  row_whole B Wh = rw (rep_state B.rep, from_same B, B.pages) Wh

  pub reached_whole
      : {a b : AllocationRegion} {s : Levels} → Reached board a b s
      → Whole board s none (from_of board (row_of (rows_in a.words.now) a.index)) a.first (row_of (rows_in a.words.now) a.index).pages
      → WholeIn board b
  reached_whole A W = rw (A.same.first, A.same.index) (row_whole A.left.0 W)
