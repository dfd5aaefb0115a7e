-- An accepted boot begins with the invariant: each kept region is laid out in frames from its first managed page to its end, all of them listed and dirty. The
-- regions come in from the last to the first, so the layout of one is stated over whatever stands behind it.
use Prim.Native.Nat.{ℕ, zero, suc, ◌+◌, ◌-◌, ◌%◌, ◌≤◌}
use native.Mathlib.Omega.{arith}
use mathlib.Core.Bool.{Bool, true, false, cond, ◌&&◌, false≢true}
use mathlib.Core.List.{List, [], ◌∷◌, ◌++◌}
use mathlib.Core.Path.{◌≡◌, refl, sym, ap, ◌∙◌}
use lib.Dec.{leb, ltb, eqb}
use borrow.Author.Tests.{leb-true, ltb-true, eqb-true, eqb-false, lt-ltb}
use Rattle.definition.specs.declared.MemoryRegion.{MemoryRegion}
use Rattle.definition.specs.Board.{Board}
use Rattle.definition.specs.Basics.{sum, any, bit}
use Rattle.definition.specs.Frame.{Frames, Levels, size, slot, admit_one, highest, organize}
use Rattle.definition.specs.Allocator.{
  AllocationRegion,
  PhysicalFrameAllocator,
  table_pages,
  is_usable,
  nr_pages,
  is_kept,
  first,
  managed,
  end,
  contains,
  empty_region,
  levels_of,
  admit_region,
  new_allocator,
  total,
}
use Rattle.definition.specs.Boot.{kept_regions, managed_pages, shares, overlap, boot}
use Rattle.definition.specs.Store.{Memory}
use Rattle.definition.specs.Book.{empty_book}
use Rattle.bookkeeping.specs.Blocks.{Block, on_list, region_blocks, listed, holding, spans, manages, home, between, lies, emptied, tables}
use Rattle.bookkeeping.specs.Blocks.All.{all_none, all_more}
use Rattle.bookkeeping.proofs.Blocks.{sum_append, size_pos, spans_more, spans_none, Fine, fine_same, fine_over, fine_home, grow}
use Rattle.bookkeeping.proofs.Frames.{clean_upd}
use Rattle.bookkeeping.proofs.Lists.{new_frame, pushed, upd_beyond}
use Rattle.bookkeeping.proofs.Search.{between_one, between_facts, between_in, alien, Sits}
use Rattle.bookkeeping.proofs.Invariant.{Blank, Sound, room_of, Agree, and-true, or-false}

-- ---- the level that fits

pub record Fits (p left l : ℕ) : Type 0 where
  pub low : l ≤ 2
  pub aligned : p % size l ≡ 0
  pub room : size l ≤ left

highest_fits : (l p left : ℕ) → l ≤ 2 → 1 ≤ left → Fits p left (highest l p left)
unfolding highest
highest_fits zero p left h i = record { low = omega arith; aligned = omega arith; room = omega arith }
highest_fits (suc l) p left h i = go (eqb (p % size (suc l)) 0) refl (leb (size (suc l)) left) refl (highest_fits l p left (omega arith) i)
  where
    go
        : (t : Bool) → eqb (p % size (suc l)) 0 ≡ t → (u : Bool) → leb (size (suc l)) left ≡ u → Fits p left (highest l p left)
        → Fits p left (cond (t && u) (suc l) (highest l p left))
    go true e true f j = record { low = h; aligned = eqb-true (p % size (suc l)) 0 e; room = leb-true (size (suc l)) left f }
    go true e false f j = j
    go false e u f j = j

-- ---- one region laid out

module _ (room : ℕ → ℕ → ℕ) (rest : List Block) (low high : ℕ) (Z : ℕ → Type 0) (roomy : (c n : ℕ) → low ≤ c → c + n ≤ high → 1 ≤ room c n) where
  Sitting : (ℕ → ℕ) → ℕ → Levels → Type 0
  Sitting fit pages s = Sits fit room pages rest low high Z s

  sits_home : (fit fit' : ℕ → ℕ) (pages pages' : ℕ) (s : Levels) → ((q : ℕ) → fit q ≡ fit' q) → pages ≡ pages' → Sitting fit pages s → Sitting fit' pages' s
  unfolding Sitting
  sits_home fit fit' pages pages' s e d h = record { fine = fine_home e d h.fine; own = h.own; beyond = h.beyond; clean = h.clean }

  admit_sits
      : (fit : ℕ → ℕ) (pages : ℕ) (s : Levels) (p left l : ℕ) → ((q : ℕ) → fit q + spans p (size l) q ≤ 1) → low ≤ p → p + left ≤ high → Fits p left l
      → Sitting fit pages s → Sitting (λ q. fit q + spans p (size l) q) (pages + size l) (admit_one s p l false)
  unfolding Sitting sum
  admit_sits fit pages s p left l o a e f h =
      record {
        fine = fine_same (λ w. simp sum_append (omega (arith, pushed w s.free l false p f.low)))
            (grow p (new_frame l false) f.low f.aligned (roomy p (size l) a (omega (arith, f.room))) o h.fine);
        own = omega (arith, h.own, pushed (alien low high) s.free l false p f.low, between_in low high p (size l) a (omega (arith, f.room)));
        beyond = upd_beyond s.free l false (s.free (slot l false) ++ (p ∷ [])) f.low h.beyond;
        clean = clean_upd Z s.frames p (new_frame l false) (λ z q i. absurd (false≢true z)) h.clean;
      }

  Lays : ℕ → Type 0
  Lays fuel =
      (fit : ℕ → ℕ) (pages : ℕ) (s : Levels) (p left : ℕ) → left ≤ fuel → ((q : ℕ) → fit q + spans p left q ≤ 1) → low ≤ p → p + left ≤ high
      → Sitting fit pages s → Sitting (λ q. fit q + spans p left q) (pages + left) (organize fuel s p p left)

  lay_one
      : (fuel : ℕ) → Lays fuel → (fit : ℕ → ℕ) (pages : ℕ) (s : Levels) (p left l : ℕ) → left ≤ suc fuel → ((q : ℕ) → fit q + spans p left q ≤ 1) → low ≤ p
      → p + left ≤ high → Fits p left l → Sitting fit pages s
      → Sitting (λ q. fit q + spans p left q) (pages + left) (organize fuel (admit_one s p l false) (p + size l) (p + size l) (left - size l))
  unfolding Lays
  lay_one fuel more fit pages s p left l h o a e f i =
      sits_home _ (λ q. fit q + spans p left q) _ (pages + left) _ (λ q. omega (arith, halves q)) (omega (arith, f.room))
      (more (λ q. fit q + spans p (size l) q) (pages + size l) (admit_one s p l false) (p + size l) (left - size l) (omega (arith, size_pos l, f.room))
      (λ q. omega (arith, halves q, o q)) (omega arith) (omega (arith, f.room))
      (admit_sits fit pages s p left l (λ q. omega (arith, halves q, o q)) a e f i))
    where
      halves : (q : ℕ) → spans p (size l) q + spans (p + size l) (left - size l) q ≡ spans p left q
      halves q = let e : size l + (left - size l) ≡ left = omega (arith, f.room) in rw e at (spans_more p (size l) (left - size l) q)

  lays : (fuel : ℕ) → Lays fuel
  unfolding organize Lays
  lays zero fit pages s p left h o a e i =
      let z : left ≡ 0 = omega arith in
      sits_home fit (λ q. fit q + spans p left q) pages (pages + left) s (λ q. rw z (omega (arith, spans_none p q))) (omega arith) i
  lays (suc fuel) fit pages s p left h o a e i = go (eqb left 0) refl (lay_one fuel (lays fuel) fit pages s p left (highest 2 p left) h o a e)
    where
      go
          : (t : Bool) → eqb left 0 ≡ t
          → (Fits p left (highest 2 p left) → Sitting fit pages s
          → Sitting (λ q. fit q + spans p left q) (pages + left)
          (organize fuel (admit_one s p (highest 2 p left) false) (p + size (highest 2 p left)) (p + size (highest 2 p left))
          (left - size (highest 2 p left))))
          → Sitting (λ q. fit q + spans p left q) (pages + left)
          (cond t s (organize fuel (admit_one s p (highest 2 p left) false) (p + size (highest 2 p left)) (p + size (highest 2 p left))
          (left - size (highest 2 p left))))
      go true k more =
          let z : left ≡ 0 = eqb-true left 0 k in
          sits_home fit (λ q. fit q + spans p left q) pages (pages + left) s (λ q. rw z (omega (arith, spans_none p q))) (omega arith) i
      go false k more = let z : left ≡ 0 → ⊥ = eqb-false left 0 k in more (highest_fits 2 p left (omega arith) (positive left z)) i
        where
          positive : (n : ℕ) → (n ≡ 0 → ⊥) → 1 ≤ n
          positive zero z = absurd (z refl)
          positive (suc n) z = omega arith

-- ---- regions that share no page

module _ (b : Board) where
  apart_two : (r t : AllocationRegion) → shares b r t ≡ false → (q : ℕ) → manages b q r + manages b q t ≤ 1
  apart_two r t e q = go (contains b r q) refl (contains b t q) refl
    where
      go : (u : Bool) → contains b r q ≡ u → (v : Bool) → contains b t q ≡ v → bit u + bit v ≤ 1
      go true i true j =
          let x = and-true (leb (first b r) q) (ltb q (end b r)) i in
          let y = and-true (leb (first b t) q) (ltb q (end b t)) j in
          let x0 = leb-true (first b r) q x.0 in
          let x1 = ltb-true q (end b r) x.1 in
          let y0 = leb-true (first b t) q y.0 in
          let y1 = ltb-true q (end b t) y.1 in
          absurd (false≢true (sym e ∙ rw (lt-ltb r.start (end b t) (omega arith), lt-ltb t.start (end b r) (omega arith))))
      go true i false j = omega arith
      go false i true j = omega arith
      go false i false j = omega arith

  apart_any : (r : AllocationRegion) (rs : List AllocationRegion) → any (shares b r) rs ≡ false → (q : ℕ) → manages b q r ≡ 1 → home b rs q ≡ 0
  unfolding any home sum
  apart_any r [] e q h = refl
  apart_any r (t ∷ rs) e q h =
      let i = or-false (shares b r t) (any (shares b r) rs) e in omega (arith, apart_two r t i.0 q, apart_any r rs i.1 q h)

  bit_most : (t : Bool) → bit t ≤ 1
  bit_most true = omega arith
  bit_most false = omega arith

  pub home_once : (rs : List AllocationRegion) → overlap b rs ≡ false → (q : ℕ) → home b rs q ≤ 1
  unfolding overlap home sum
  home_once [] e q = omega arith
  home_once (r ∷ rs) e q =
      let i = or-false (any (shares b r) rs) (overlap b rs) e in go (contains b r q) refl (home_once rs i.1 q) (apart_any r rs i.0 q)
    where
      go : (t : Bool) → contains b r q ≡ t → home b rs q ≤ 1 → (manages b q r ≡ 1 → home b rs q ≡ 0) → bit t + home b rs q ≤ 1
      go true e h k = omega (arith, k (rw e))
      go false e h k = omega arith

  overlap_rest : (r : AllocationRegion) (rs : List AllocationRegion) → overlap b (r ∷ rs) ≡ false → overlap b rs ≡ false
  unfolding overlap
  overlap_rest r rs e = (or-false (any (shares b r) rs) (overlap b rs) e).1

  -- ---- room in a region is room in a part of it

  between_part : (low high a m c n : ℕ) → a ≤ c → c + n ≤ a + m → between low high a m ≤ between low high c n
  between_part low high a m c n i j = go (between low high a m) refl
    where
      go : (x : ℕ) → between low high a m ≡ x → x ≤ between low high c n
      go zero e = omega arith
      go (suc zero) e = let x = between_facts low high a m e in omega (arith, between_in low high c n (omega (arith, x.0)) (omega (arith, x.1)))
      go (suc (suc x)) e = absurd (omega (arith, between_one low high a m))

  pub lies_parts : (rs : List AllocationRegion) (a m c n : ℕ) → a ≤ c → c + n ≤ a + m → lies b rs a m ≤ lies b rs c n
  unfolding lies sum
  lies_parts [] a m c n i j = omega arith
  lies_parts (r ∷ rs) a m c n i j = omega (arith, between_part (first b r) (end b r) a m c n i j, lies_parts rs a m c n i j)

  lies_more : (r : AllocationRegion) (rs : List AllocationRegion) (p n : ℕ) → lies b rs p n ≤ lies b (r ∷ rs) p n
  unfolding lies sum
  lies_more r rs p n = omega arith

  fine_room
      : {fit : ℕ → ℕ} {pages : ℕ} {fs : Frames} {xs : List Block} (r : AllocationRegion) (rs : List AllocationRegion) → Fine fit (lies b rs) pages fs xs
      → Fine fit (lies b (r ∷ rs)) pages fs xs
  fine_room r rs h = fine_over (λ q. refl) (λ p n i. lies_more r rs p n) (lies_parts (r ∷ rs)) refl h

  -- ---- a kept region

  pub manages_spans : (r : AllocationRegion) → tables b r ≤ r.pages → (q : ℕ) → manages b q r ≡ spans (first b r) (managed b r) q
  unfolding spans
  manages_spans r h q = let e : end b r ≡ first b r + managed b r = omega arith in ap (λ n. bit (leb (first b r) q && ltb q n)) e

  -- the region's own room
  own_room : (r : AllocationRegion) (rs : List AllocationRegion) (c n : ℕ) → first b r ≤ c → c + n ≤ end b r → 1 ≤ lies b (r ∷ rs) c n
  unfolding lies sum
  own_room r rs c n i j = omega (arith, between_in (first b r) (end b r) c n i j)

  -- the region that an entry makes, laid out before those behind it
  admit_sound
      : (mem : Memory) (m : MemoryRegion) (rs : List AllocationRegion) (a : PhysicalFrameAllocator) → tables b (empty_region b m) ≤ (empty_region b m).pages
      → ((q : ℕ) → home b (empty_region b m ∷ rs) q ≤ 1) → Sound b (lies b rs) rs a mem []
      → Sound b (lies b (empty_region b m ∷ rs)) (empty_region b m ∷ rs) (admit_region b (empty_region b m) a) mem []
  unfolding home lies sum listed emptied holding region_blocks on_list Lays Sitting
  admit_sound mem m rs a t o h =
      record {
        shape = rw h.shape;
        fine = fine_home (λ q. omega (arith, manages_spans r t q)) (omega arith) (fine_same (λ w. simp sum_append (omega arith)) x.fine);
        own = omega (arith, x.own, h.own);
        beyond = all_more x.beyond h.beyond;
        clean = x.clean;
      }
    where
      r : AllocationRegion
      r = empty_region b m

      s : Levels
      s = levels_of a.frames (empty_region b m)

      x
          : Sits (λ q. home b rs q + spans (first b r) (managed b r) q) (lies b (empty_region b m ∷ rs)) (managed_pages b rs + managed b r)
          (listed a.regions ++ [])
          (first b r) (end b r) (Blank b mem) (organize (managed b r) s (first b r) (first b r) (managed b r))
      x =
          lays (lies b (empty_region b m ∷ rs)) (listed a.regions ++ []) (first b r) (end b r) (Blank b mem) (own_room r rs) (managed b r) (home b rs)
          (managed_pages b rs) s
          (first b r) (managed b r) (omega arith) (λ q. omega (arith, o q, manages_spans r t q)) (omega arith) (omega arith)
          (record { fine = fine_same (λ w. simp sum_append (omega arith)) (fine_room r rs h.fine); own = refl; beyond = λ k j. refl; clean = h.clean })

  -- ---- all of them

  kept_tables : (m : MemoryRegion) → is_kept b m ≡ true → tables b (empty_region b m) ≤ (empty_region b m).pages
  kept_tables m e =
      let x = and-true (is_usable m.kind) (ltb 1 (nr_pages b m) && ltb (table_pages b (nr_pages b m)) (nr_pages b m)) e in
      let y = and-true (ltb 1 (nr_pages b m)) (ltb (table_pages b (nr_pages b m)) (nr_pages b m)) x.1 in
      omega (arith, ltb-true (table_pages b (nr_pages b m)) (nr_pages b m) y.1)

  pub map_sums : (map : List MemoryRegion) → managed_pages b (kept_regions b map) + sum (tables b) (kept_regions b map) ≡ total (kept_regions b map)
  unfolding kept_regions sum
  map_sums [] = refl
  map_sums (m ∷ ms) = go (is_kept b m) refl (map_sums ms)
    where
      go
          : (t : Bool) → is_kept b m ≡ t → managed_pages b (kept_regions b ms) + sum (tables b) (kept_regions b ms) ≡ total (kept_regions b ms)
          → let rs = cond t (empty_region b m ∷ kept_regions b ms) (kept_regions b ms) in managed_pages b rs + sum (tables b) rs ≡ total rs
      go true e h = omega (arith, kept_tables m e)
      go false e h = h

  empty_sound : (mem : Memory) → Sound b (lies b []) [] (new_allocator b []) mem []
  unfolding new_allocator home lies sum listed emptied holding
  empty_sound mem =
      record {
        shape = refl;
        fine = record { once = λ q. omega arith; parts = lies_parts []; tiles = λ q. refl; marks = λ q w. refl; right = refl; adds = refl };
        own = refl;
        beyond = all_none;
        clean = λ p f e z q i. absurd (let y : ◌≡◌ {A = ℕ} 0 1 = cc in omega arith);
      }

  map_sound
      : (mem : Memory) (map : List MemoryRegion) → overlap b (kept_regions b map) ≡ false
      → Sound b (lies b (kept_regions b map)) (kept_regions b map) (new_allocator b map) mem []
  unfolding new_allocator kept_regions
  map_sound mem [] e = empty_sound mem
  map_sound mem (m ∷ ms) e = go (is_kept b m) refl e (λ i. map_sound mem ms i)
    where
      go
          : (t : Bool) → is_kept b m ≡ t → overlap b (cond t (empty_region b m ∷ kept_regions b ms) (kept_regions b ms)) ≡ false
          → (overlap b (kept_regions b ms) ≡ false → Sound b (lies b (kept_regions b ms)) (kept_regions b ms) (new_allocator b ms) mem [])
          → let rs = cond t (empty_region b m ∷ kept_regions b ms) (kept_regions b ms) in
          Sound b (lies b rs) rs (cond t (admit_region b (empty_region b m) (new_allocator b ms)) (new_allocator b ms)) mem []
      go true k e h =
          admit_sound mem m (kept_regions b ms) (new_allocator b ms) (kept_tables m k) (home_once (empty_region b m ∷ kept_regions b ms) e)
          (h (overlap_rest (empty_region b m) (kept_regions b ms) e))
      go false k e h = h e

  pub total_emptied : (rs : List AllocationRegion) → total (emptied rs) ≡ total rs
  unfolding emptied sum
  total_emptied [] = refl
  total_emptied (r ∷ rs) = rw (total_emptied rs)

  pub boot_agree
      : (map : List MemoryRegion) (mem : Memory) (room : ℕ) → overlap b (kept_regions b map) ≡ false
      → Agree b (kept_regions b map) (boot b map mem room) (empty_book (kept_regions b map))
  unfolding boot holding sum room_of
  boot_agree map mem room e =
      record {
        sound = x;
        counted = record {
          idle = omega (arith, same, map_sums map, simp sum_append at x.fine.adds);
          kernel = refl;
          page = refl;
          total = same;
          waiting = refl;
        };
        regions = refl;
        queue = refl;
        room = omega arith;
        rounds = omega arith;
        freed = omega arith;
      }
    where
      x : Sound b (lies b (kept_regions b map)) (kept_regions b map) (new_allocator b map) mem []
      x = map_sound mem map e

      same : total (new_allocator b map).regions ≡ total (kept_regions b map)
      same = sym (total_emptied (new_allocator b map).regions) ∙ ap total x.shape
