-- A region is laid out.
use Prim.Native.Nat.{ℕ, zero, suc, ◌+◌, ◌-◌, ◌%◌, ◌≤◌, ◌<◌, ◌^◌}
use mathlib.Core.Bool.{false}
use mathlib.Core.List.{[], ◌∷◌}
use mathlib.Core.Logic.{◌≢◌}
use mathlib.Core.Option.{none, some}
use mathlib.Core.Path.{◌≡◌, refl, sym, ap, ◌∙◌, subst}
use native.Mathlib.Decide.{ℕ_discrete, dec_lt}
use native.Mathlib.Omega.{arith}
use lib.ListN.{get_or}
use borrow.Author.Tests.{eq-eqb, ne_eqb}
use Rattle.definition.specs.Board.{Board}
use Rattle.definition.proofs.Basics.{upd_other, upd_same}
use Rattle.definition.specs.Frame.{Frame, Levels, admit_one, highest, organize, size}
use Rattle.definition.specs.World.{frame_of, level_of, no_links, slot_of}
use Rattle.definition.specs.declared.Record.{Record}
use Rattle.definition.specs.declared.Row.{Row}
use Rattle.list.proofs.Laws.{all_map, linked_empty}
use Rattle.list.specs.Linked.{In, Linked, Out}
use Rattle.list.specs.Linked.All.{all_none}
use Rattle.level.proofs.Choice.{highest_within, highest_aligned, highest_room}
use Rattle.region.specs.Rep.{Becomes, Best, Blank, Inside, Rep, SoundRow, Starts, Tile, Whole, WholeRow, from_of, list_up, managed, state_of}
use Rattle.level.proofs.Sizes.{size_positive}
use Rattle.region.proofs.Splitting.{ready, next}
use Rattle.region.proofs.Laws.{stays}
use Rattle.region.proofs.Keeping.{row_whole}
use Rattle.region.proofs.Tiling.{none_some, up_has, up_grows}

-- ---- the highest level that fits

level_small : (pfn left : ℕ) → highest 2 pfn left < 3
level_small pfn left = omega (arith, highest_within pfn left 2)

pub best : (pfn left l : ℕ) → l ≡ highest 2 pfn left → 0 < left → Best pfn left l
best pfn left l e h =
    record { is = e; small = rw e (level_small pfn left); fits = rw e (highest_room pfn left h 2); aligned = rw e (highest_aligned pfn left 2) }

-- ---- as much fuel as pages is enough

stop : (a : ℕ) (s : Levels) (page pfn left : ℕ) → left ≡ 0 → organize a s page pfn left ≡ s
unfolding organize
stop zero s page pfn left e = refl
stop (suc a) s page pfn left e = rw (eq-eqb left 0 e) refl

more : (a : ℕ) (s : Levels) (page pfn left : ℕ) → left ≢ 0
    → organize (suc a) s page pfn left
    ≡ organize a (admit_one s page (highest 2 pfn left) false) (page + size (highest 2 pfn left)) (pfn + size (highest 2 pfn left)) (left - size (highest 2 pfn left))
unfolding organize
more a s page pfn left m = rw (ne_eqb left 0 m) refl

enough : (a b : ℕ) (s : Levels) (page pfn left : ℕ) → left ≤ a → left ≤ b → organize a s page pfn left ≡ organize b s page pfn left
enough zero b s page pfn left x y = stop zero s page pfn left (omega arith) ∙ sym (stop b s page pfn left (omega arith))
enough (suc a) zero s page pfn left x y = stop (suc a) s page pfn left (omega arith) ∙ sym (stop zero s page pfn left (omega arith))
enough (suc a) (suc b) s page pfn left x y = go (enough a b) (ℕ_discrete left 0)
  where
    go : ((s : Levels) (page pfn left : ℕ) → left ≤ a → left ≤ b → organize a s page pfn left ≡ organize b s page pfn left)
        → Dec (left ≡ 0) → organize (suc a) s page pfn left ≡ organize (suc b) s page pfn left
    go ih (yes e) = stop (suc a) s page pfn left e ∙ sym (stop (suc b) s page pfn left e)
    go ih (no m) =
        let n = size_positive (highest 2 pfn left) in
        more a s page pfn left m ∙ ih _ _ _ _ (omega arith) (omega arith) ∙ sym (more b s page pfn left m)

pub lay_step : (s : Levels) (page pfn left l : ℕ) → 0 < left → Best pfn left l
    → organize left s page pfn left ≡ organize (left - size l) (admit_one s page l false) (page + size l) (pfn + size l) (left - size l)
lay_step s page pfn left l h B = rw B.is (go left refl)
  where
    go : (a : ℕ) → a ≡ left → organize left s page pfn left ≡ organize (left - size (highest 2 pfn left)) (admit_one s page (highest 2 pfn left) false) (page + size (highest 2 pfn left)) (pfn + size (highest 2 pfn left)) (left - size (highest 2 pfn left))
    go zero e = absurd (omega arith)
    go (suc a) e =
        let n = size_positive (highest 2 pfn left) in
        enough left (suc a) s page pfn left (omega arith) (omega arith) ∙ more a s page pfn left (omega arith)
        ∙ enough a (left - size (highest 2 pfn left)) _ _ _ _ (omega arith) (omega arith)

pub lay_end : (s : Levels) (page pfn left : ℕ) → left ≡ 0 → organize left s page pfn left ≡ s
lay_end s page pfn left e = stop left s page pfn left e

-- ---- the pages below x are whole

module _ (board : Board) where
  pub record Upto (s : Levels) (from first x end : ℕ) : Type 0 where
    pub below : x ≤ end
    pub blank : (q : ℕ) → x ≤ q → q < end → s.frames q ≡ none
    pub opens : Starts s x first
    pub tile : (p : ℕ) (a : Frame) → first ≤ p → p < x → s.frames p ≡ some a → Tile s from first x p a
    pub full : (q : ℕ) → first ≤ q → q < x → slot_of (s.frames q) < 6 → In q (s.free (slot_of (s.frames q)))

module _ {board : Board} where
  -- a page where no frame starts is on no list
  pub none_out : {f : ℕ → Record} {n first : ℕ} {row : Row} {s : Levels} (q : ℕ) → Rep board f n first row s → s.frames q ≡ none → (k : ℕ) → Out q (s.free k)
  none_out {s = s} q R h k = go (dec_lt k 6)
    where
      go : Dec (k < 6) → Out q (s.free k)
      go (yes d) = all_map (λ x a e. absurd (omega (arith, sym (ap slot_of h) ∙ ap (λ (y : ℕ). slot_of (s.frames y)) e ∙ a.slotted))) (R.listed k)
      go (no d) = rw (R.beyond k (omega arith)) all_none

  module _ {s : Levels} {from first x end : ℕ} (l : ℕ) (U : Upto board s from first x end) (low : first ≤ x) (h : l < 3) (fits : x + size l ≤ end) (al : (from + (x - first)) % size l ≡ 0) where
    abbrev c : Frame
    c = record { level = l; allocated = false; zeroed = false; kernel = false }

    abbrev t : Levels
    t = admit_one s x l false

    n : 0 < size l
    n = size_positive l

    here : t.frames x ≡ some c
    here = upd_same s.frames x (some c)

    there : (q : ℕ) → q ≢ x → t.frames q ≡ s.frames q
    there q m = upd_other s.frames x (some c) q m

    blank : (q : ℕ) → x < q → q < end → t.frames q ≡ none
    blank q a b = there q (omega arith) ∙ U.blank q (omega arith) b

    -- a frame starts at q
    starts : (q : ℕ) → q ≤ x → Starts s x q → Starts t (x + size l) q
    starts q a S b = go (ℕ_discrete q x)
      where
        go : Dec (q ≡ x) → t.frames q ≢ none
        go (yes e) w = none_some w (ap t.frames e ∙ here)
        go (no m) w = S (omega arith) (sym (there q m) ∙ w)

    tile : (p : ℕ) (a : Frame) → first ≤ p → p < x + size l → t.frames p ≡ some a → Dec (p < x) → Dec (p ≡ x) → Tile t from first (x + size l) p a
    tile p a i j e (yes d) k =
        let T = U.tile p a i d (sym (there p (omega arith)) ∙ e) in
        record {
          level = T.level;
          aligned = T.aligned;
          ends = omega (arith, T.ends);
          clear = λ q u v. there q (omega (arith, T.ends)) ∙ T.clear q u v;
          next = starts (p + size a.level) T.ends T.next;
        }
    tile p a i j e (no d) (yes k) =
        let g : a.level ≡ l = ap level_of (sym e ∙ ap t.frames k ∙ here) in
        record {
          level = rw g h;
          aligned = rw (g, k) al;
          ends = rw (g, k) (omega arith);
          clear = rw g (λ q u v. blank q (omega arith) (omega arith));
          next = rw (g, k) (λ b. absurd (omega arith));
        }
    tile p a i j e (no d) (no k) = absurd (none_some (blank p (omega arith) (omega arith)) e)

    full : (q : ℕ) → first ≤ q → q < x + size l → slot_of (t.frames q) < 6 → Dec (q < x) → Dec (q ≡ x) → In q (t.free (slot_of (t.frames q)))
    full q i j b (yes d) k =
        let g = there q (omega arith) in
        rw g (up_grows s x l false false q (slot_of (s.frames q)) (U.full q i d (rw g at b)))
    full q i j b (no d) (yes k) = rw (k, here) (up_has s x l false false)
    full q i j b (no d) (no k) = let g = ap slot_of (blank q (omega arith) (omega arith)) in absurd (omega arith)

    pub upto_more : Upto board t from first (x + size l) end
    upto_more =
        record {
          below = fits;
          blank = λ q a b. blank q (omega (arith, n)) b;
          opens = starts first low U.opens;
          tile = λ p a i j e. tile p a i j e (dec_lt p x) (ℕ_discrete p x);
          full = λ q i j b. full q i j b (dec_lt q x) (ℕ_discrete q x);
        }

  pub upto_none : {s : Levels} {from first pages : ℕ} → Blank board s first pages → Upto board s from first first (first + managed board pages)
  upto_none B =
      record {
        below = omega arith;
        blank = λ q a b. B q (record { low = a; high = b });
        opens = λ b. absurd (omega arith);
        tile = λ p a i j e. absurd (omega arith);
        full = λ q i j b. absurd (omega arith);
      }

  pub upto_whole : {s : Levels} {from first pages x : ℕ} → Upto board s from first x (first + managed board pages) → x ≡ first + managed board pages → Whole board s none from first pages
  upto_whole {s} {from} {first} {pages} U e =
      let V1 = subst (λ (y : ℕ). Upto board s from first y (first + managed board pages)) e U in
      record {
        opens = V1.opens;
        tile = λ p a i h. V1.tile p a i.low i.high h;
        full = λ q m i h. V1.full q i.low i.high h;
      }

-- ---- the loop

module _ (board : Board) where
  pub record Laid (f : ℕ → Record) (first : ℕ) (row : Row) (from count : ℕ) (g : ℕ → Record) (n : ℕ) (r : Row) (at : ℕ) : Type 0 where
    pub u : Levels
    pub became : Becomes board f first row g n r u
    pub laid : organize (count - at) u (first + at) (from + at) (count - at) ≡ organize count (state_of f row) first from count
    pub upto : Upto board u from first (first + at) (first + count)

module _ {board : Board} where
  pub laid_none
      : {f : ℕ → Record} {n first : ℕ} {row : Row} (from count : ℕ) → SoundRow board f n first row → count ≡ managed board row.pages
      → Blank board (state_of f row) first row.pages → Laid board f first row from count f n row 0
  laid_none {f} {n} {first} {row} from count R e b =
      let x : count - 0 ≡ count = omega arith in
      let y : first + 0 ≡ first = omega arith in
      let z : from + 0 ≡ from = omega arith in
      record { u = state_of f row; became = stays R; laid = rw (x, y, z) refl; upto = rw (y, e) (upto_none b) }

  module _
      {f g : ℕ → Record} {n first : ℕ} {row r : Row} {from count at : ℕ} (L : Laid board f first row from count g n r at) (h : at < count) (l : ℕ)
      (D : Best (from + at) (count - at) l)
    where
      pub laid_asks
          : count ≡ managed board row.pages
          → SoundRow board g n first r × (((l < 3) × Inside board first r.pages (first + at)) × ((k : ℕ) → Out (first + at) ((state_of g r).free k)))
      laid_asks e =
          ready L.became D.small (record { low = omega arith; high = omega (arith, e) })
          (none_out (first + at) L.became.rep (L.upto.blank (first + at) (omega arith) (omega arith)))

      pub laid_step
          : {h1 : ℕ → Record} {m : ℕ} {t : Row} → Becomes board g first r h1 m t (list_up (state_of g r) (first + at) l false false)
          → Laid board f first row from count h1 m t (at + size l)
      laid_step C =
          let x : count - (at + size l) ≡ count - at - size l = omega arith in
          let y : first + (at + size l) ≡ first + at + size l = omega arith in
          let z : from + (at + size l) ≡ from + at + size l = omega arith in
          let w : from + (first + at - first) ≡ from + at = omega arith in
          record {
            u = admit_one L.u (first + at) l false;
            became = next L.became (first + at) l false false C;
            laid = rw (x, y, z) (sym (lay_step L.u (first + at) (from + at) (count - at) l (omega arith) D) ∙ L.laid);
            upto = rw y (upto_more l L.upto (omega arith) D.small (omega (arith, D.fits)) (rw w D.aligned));
          }

  pub laid_done
      : {f g : ℕ → Record} {n first : ℕ} {row r : Row} {from count at : ℕ} → Laid board f first row from count g n r at → at ≡ count
      → count ≡ managed board row.pages → from ≡ from_of board row
      → Becomes board f first row g n r (organize count (state_of f row) first from count) × WholeRow board g first r
  laid_done {f} {g} {n} {first} {row} {r} {from} {count} {at} L a e d =
      let k = sym (lay_end L.u (first + at) (from + at) (count - at) (omega arith)) ∙ L.laid in
      let U : Upto board L.u from first (first + at) (first + managed board row.pages) = subst (λ (c : ℕ). Upto board L.u from first (first + at) (first + c)) e L.upto in
      let W1 : Whole board L.u none from first row.pages = upto_whole U (omega (arith, a, e)) in
      (subst (λ (s : Levels). Becomes board f first row g n r s) k L.became, row_whole L.became (subst (λ (x : ℕ). Whole board L.u none x first row.pages) d W1))

-- ---- before

module _ {board : Board} where
  -- records that are all zero in the region, and a row of empty lists, stand for a region with no frame yet
  pub blank_rep
      : (f : ℕ → Record) (n first : ℕ) (row : Row) → first + managed board row.pages < 2 ^ 32 → first + managed board row.pages ≤ n
      → ((q : ℕ) → Inside board first row.pages q → f q ≡ record { marks = 0; level = 0; earlier = 0; later = 0 })
      → row.lists ≡ no_links ∷ no_links ∷ no_links ∷ no_links ∷ no_links ∷ no_links ∷ []
      → Rep board f n first row (record { frames = λ q. frame_of (f q); free = λ k. [] })
  unfolding frame_of
  blank_rep f n first row a b z e =
      record {
        small = a;
        fits = b;
        six = rw e refl;
        lists = λ k h. rw e (empty k h);
        beyond = λ k h. refl;
        listed = λ k. all_none;
        framed = λ q. refl;
        marks = λ q i. rw (z q i) refl;
        level = λ q i. rw (z q i) refl;
        loose = λ q i o. rw (z q i) (record { earlier = refl; later = refl });
      }
    where
      empty : (k : ℕ) → k < 6 → Linked f n (get_or (no_links ∷ no_links ∷ no_links ∷ no_links ∷ no_links ∷ no_links ∷ []) k no_links) []
      empty zero h = linked_empty f n
      empty (suc zero) h = linked_empty f n
      empty (suc (suc zero)) h = linked_empty f n
      empty (suc (suc (suc zero))) h = linked_empty f n
      empty (suc (suc (suc (suc zero)))) h = linked_empty f n
      empty (suc (suc (suc (suc (suc zero))))) h = linked_empty f n
      empty (suc (suc (suc (suc (suc (suc k)))))) h = absurd (omega arith)
