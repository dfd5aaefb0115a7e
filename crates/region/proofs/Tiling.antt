-- The definition keeps the frames of a region side by side, and its lists to free frames.
use Prim.Native.Nat.{ℕ, zero, suc, ◌+◌, ◌-◌, ◌*◌, ◌%◌, ◌≤◌, ◌<◌}
use mathlib.Core.Bool.{Bool, true, false}
use mathlib.Core.List.{List, [], ◌∷◌, ◌++◌}
use mathlib.Core.Logic.{◌≢◌}
use mathlib.Core.Option.{Option, none, some}
use mathlib.Core.Path.{◌≡◌, refl, sym, ap, ◌∙◌, subst}
use native.Mathlib.Decide.{ℕ_discrete, dec_lt}
use native.Mathlib.Nat.{mul-le-mul_right, suc-mul}
use native.Mathlib.Omega.{arith}
use Rattle.definition.specs.Board.{Board}
use Rattle.definition.proofs.Basics.{upd_all, upd_other, upd_same}
use Rattle.definition.specs.Basics.{everywhere, upd}
use Rattle.definition.specs.Frame.{Found, Frame, Levels, children, do_allocate, is_zeroed, kept, level_allocate, nothing, or_else, pop_from, size, slot, split, then_split}
use Rattle.definition.specs.World.{level_of, slot_of}
use Rattle.definition.specs.declared.Record.{Record}
use Rattle.definition.specs.declared.Row.{Row}
use Rattle.list.proofs.Laws.{all_append, all_head, all_left, all_map, all_right, all_zip, distinct_snoc, distinct_unsnoc, in_left, in_snoc, out_last}
use Rattle.list.specs.Linked.{All, Distinct, In, Out}
use Rattle.list.specs.Linked.All.{all_more, all_none}
use Rattle.list.specs.Linked.Distinct.{distinct_none}
use Rattle.region.specs.Rep.{Inside, Listed, Rep, Splits, Starts, Tile, Whole, list_up, managed}
use mathlib.Core.Bool.{cond}
use Rattle.region.proofs.Laws.{pop_from_none, pop_from_some, or_page, or_none_lem}
use Rattle.region.proofs.Splitting.{child_ends, child_after, child_inside, child_out, page_inside, page_out}

module _ (board : Board) where
  -- what the lists of a state keep to
  pub record Kept (s : Levels) (first pages : ℕ) : Type 0 where
    pub beyond : (k : ℕ) → 6 ≤ k → s.free k ≡ []
    pub listed : (k : ℕ) → All (λ (q : ℕ). Listed board s.frames first pages k q) (s.free k)
    pub distinct : (k : ℕ) → Distinct (s.free k)

module _ {board : Board} where
  pub rep_kept : {f : ℕ → Record} {n first : ℕ} {row : Row} {s : Levels} → Rep board f n first row s → Kept board s first row.pages
  rep_kept {s = s} R = record { beyond = R.beyond; listed = R.listed; distinct = λ k. at k (dec_lt k 6) }
    where
      at : (k : ℕ) → Dec (k < 6) → Distinct (s.free k)
      at k (yes h) = (R.lists k h).distinct
      at k (no m) = rw (R.beyond k (omega arith)) distinct_none

module _ (board : Board) where
  pub record Good (s : Levels) (loose : Option ℕ) (from first pages : ℕ) : Type 0 where
    pub kept : Kept board s first pages
    pub whole : Whole board s loose from first pages

  -- a frame of the level l at p, held or not, on no list
  pub record Ready (s : Levels) (first pages l p : ℕ) (held : Bool) : Type 0 where
    pub frame : Frame
    pub here : s.frames p ≡ some frame
    pub level : frame.level ≡ l
    pub held_so : frame.allocated ≡ held
    pub inside : Inside board first pages p
    pub out : (k : ℕ) → Out p (s.free k)

  pub record Fine (from first pages l : ℕ) (a : Found) : Type 0 where
    pub good : Good a.levels a.page from first pages
    pub ready : (p : ℕ) → a.page ≡ some p → Ready a.levels first pages l p false

-- ---- one page is listed

slot_small : (l : ℕ) (z : Bool) → l < 3 → slot l z < 6
slot_small l true h = omega arith
slot_small l false h = omega arith

module _ {board : Board} where
  module _ {s : Levels} {first pages p : ℕ} (l : ℕ) (z k : Bool) (K : Kept board s first pages) (h : l < 3) (i : Inside board first pages p) (o : (j : ℕ) → Out p (s.free j)) where
    abbrev x : Option Frame
    x = some (record { level = l; allocated = false; zeroed = z; kernel = k })

    still : (j : ℕ) → All (λ (q : ℕ). Listed board (upd s.frames p x) first pages j q) (s.free j)
    still j = all_zip (λ q a b. record { slotted = rw (upd_other s.frames p x q (λ e. b (sym e))) a.slotted; inside = a.inside }) (K.listed j) (o j)

    abbrev t : Levels
    t = list_up s p l z k

    listed : (j : ℕ) → Dec (j ≡ slot l z) → All (λ (q : ℕ). Listed board t.frames first pages j q) (t.free j)
    listed j (yes e) =
        rw (e, upd_same s.free (slot l z) (s.free (slot l z) ++ (p ∷ [])))
        (all_append (still (slot l z)) (all_more (record { slotted = rw (upd_same s.frames p x) refl; inside = i }) all_none))
    listed j (no m) = rw (upd_other s.free (slot l z) (s.free (slot l z) ++ (p ∷ [])) j m) (still j)

    distinct : (j : ℕ) → Dec (j ≡ slot l z) → Distinct (t.free j)
    distinct j (yes e) =
        rw (e, upd_same s.free (slot l z) (s.free (slot l z) ++ (p ∷ []))) (distinct_snoc (K.distinct (slot l z)) (o (slot l z)))
    distinct j (no m) = rw (upd_other s.free (slot l z) (s.free (slot l z) ++ (p ∷ [])) j m) (K.distinct j)

    pub kept_up : Kept board t first pages
    kept_up =
        record {
          beyond = λ j a. upd_other s.free (slot l z) (s.free (slot l z) ++ (p ∷ [])) j (omega (arith, slot_small l z h)) ∙ K.beyond j a;
          listed = λ j. listed j (ℕ_discrete j (slot l z));
          distinct = λ j. distinct j (ℕ_discrete j (slot l z));
        }

-- ---- a split

module _ {board : Board} where
  module _ {s : Levels} {first pages page l : ℕ} (K : Kept board s first pages) (S : Splits board s first pages page l) (z : Bool) where
    kept_children : (i : ℕ) → i ≤ 511 → Kept board (children i s page l z) first pages
    unfolding children
    kept_children zero h = K
    kept_children (suc i) h =
        kept_up l z false (kept_children i (omega arith)) (omega (arith, S.small)) (child_inside S z (suc i) (omega arith)) (child_out S z i (omega arith))

    pub kept_parts : Kept board (list_up (children 511 s page l z) page l z false) first pages
    kept_parts = kept_up l z false (kept_children 511 (omega arith)) (omega (arith, S.small)) (page_inside S z) (page_out S z)

module _ (s : Levels) (page l : ℕ) (c : Frame) where
  -- which frame starts at q after the children from a to i are made
  pub data At (fr : ℕ → Option Frame) (a i q : ℕ) : Type 0 where
    hit : (j : ℕ) → a ≤ j → j ≤ i → q ≡ page + j * size l → fr q ≡ some c → At fr a i q
    miss : ((j : ℕ) → a ≤ j → j ≤ i → q ≢ page + j * size l) → fr q ≡ s.frames q → At fr a i q

  at_children : (i q : ℕ) → At (kept i s.frames page l c) 1 i q
  unfolding kept
  at_children zero q = miss (λ j a b. absurd (omega arith)) refl
  at_children (suc i) q = step (at_children i q) (ℕ_discrete q (page + suc i * size l))
    where
      step : At (kept i s.frames page l c) 1 i q → Dec (q ≡ page + suc i * size l) → At (kept (suc i) s.frames page l c) 1 (suc i) q
      step w (yes e) = hit (suc i) (omega arith) (omega arith) e (rw e (upd_same (kept i s.frames page l c) (page + suc i * size l) (some c)))
      step (hit j a b e u) (no m) = hit j a (omega arith) e (upd_other (kept i s.frames page l c) (page + suc i * size l) (some c) q m ∙ u)
      step (miss v u) (no m) =
          miss (λ j a b. other j a b (ℕ_discrete j (suc i))) (upd_other (kept i s.frames page l c) (page + suc i * size l) (some c) q m ∙ u)
        where
          other : (j : ℕ) → 1 ≤ j → j ≤ suc i → Dec (j ≡ suc i) → q ≢ page + j * size l
          other j a b (yes e) = rw e m
          other j a b (no d) = v j a (omega arith)

  abbrev pub all_parts : ℕ → Option Frame
  all_parts = upd (kept 511 s.frames page l c) page (some c)

  pub at_parts : (q : ℕ) → At all_parts 0 511 q
  at_parts q = step (at_children 511 q) (ℕ_discrete q page)
    where
      step : At (kept 511 s.frames page l c) 1 511 q → Dec (q ≡ page) → At all_parts 0 511 q
      step v (yes e) = hit 0 (omega arith) (omega arith) (omega arith) (rw e (upd_same (kept 511 s.frames page l c) page (some c)))
      step (hit j a b e u) (no m) = hit j (omega arith) b e (upd_other (kept 511 s.frames page l c) page (some c) q m ∙ u)
      step (miss v u) (no m) = miss (λ j a b. other j b (ℕ_discrete j 0)) (upd_other (kept 511 s.frames page l c) page (some c) q m ∙ u)
        where
          other : (j : ℕ) → j ≤ 511 → Dec (j ≡ 0) → q ≢ page + j * size l
          other j b (yes e) = rw e (λ f. m (omega arith))
          other j b (no d) = v j (omega arith) b

-- the frames of a split
abbrev pub child : ℕ → Bool → Frame
child l z = record { level = l; allocated = false; zeroed = z; kernel = false }

children_frames : (i : ℕ) (s : Levels) (page l : ℕ) (z : Bool) → (children i s page l z).frames ≡ kept i s.frames page l (child l z)
unfolding children kept
children_frames zero s page l z = refl
children_frames (suc i) s page l z =
    ap (λ (fr : ℕ → Option Frame). upd fr (page + suc i * size l) (some (child l z))) (children_frames i s page l z)

pub none_some : {x : Option Frame} {a : Frame} → x ≡ none → x ≡ some a → ⊥
none_some p q = let z : ◌≡◌ {A = ℕ} 0 1 = cc in omega arith

-- the lists of a split

pub up_has : (s : Levels) (p l : ℕ) (z k : Bool) → In p ((list_up s p l z k).free (slot l z))
up_has s p l z k = rw (upd_same s.free (slot l z) (s.free (slot l z) ++ (p ∷ []))) (λ o. out_last (s.free (slot l z)) o refl)

pub up_grows : (s : Levels) (p l : ℕ) (z k : Bool) (q j : ℕ) → In q (s.free j) → In q ((list_up s p l z k).free j)
up_grows s p l z k q j i =
    upd_all (λ j xs. In q (s.free j) → In q xs) s.free (slot l z) (s.free (slot l z) ++ (p ∷ [])) (in_left (s.free (slot l z)) (p ∷ [])) (λ j m h. h) j i

module _ (s : Levels) (page l : ℕ) (z : Bool) where
  children_grow : (i q j : ℕ) → In q (s.free j) → In q ((children i s page l z).free j)
  unfolding children
  children_grow zero q j h = h
  children_grow (suc i) q j h = up_grows (children i s page l z) (page + suc i * size l) l z false q j (children_grow i q j h)

  children_has : (i j : ℕ) → 1 ≤ j → j ≤ i → In (page + j * size l) ((children i s page l z).free (slot l z))
  unfolding children
  children_has zero j a b = absurd (omega arith)
  children_has (suc i) j a b = go (children_has i j a) (ℕ_discrete j (suc i))
    where
      go : (j ≤ i → In (page + j * size l) ((children i s page l z).free (slot l z))) → Dec (j ≡ suc i)
          → In (page + j * size l) ((children (suc i) s page l z).free (slot l z))
      go ih (yes e) = rw e (up_has (children i s page l z) (page + suc i * size l) l z false)
      go ih (no d) = up_grows (children i s page l z) (page + suc i * size l) l z false (page + j * size l) (slot l z) (ih (omega arith))

child_aligned : (x j l : ℕ) → l < 2 → x % size (l + 1) ≡ 0 → (x + j * size l) % size l ≡ 0
child_aligned x j zero h e = omega arith
child_aligned x j (suc zero) h e = omega arith
child_aligned x j (suc (suc l)) h e = absurd (omega arith)

module _ {board : Board} where
  module _
      {s : Levels} {from first pages page l : ℕ} {a0 : Frame} {lo : Option ℕ} (c : Frame) (cl : c.level ≡ l) (fr : ℕ → List ℕ) (Wh : Whole board s lo from first pages) (S : Splits board s first pages page l)
      (H : s.frames page ≡ some a0) (L : (from + (page - first)) % size (l + 1) ≡ 0)
      (C : (q : ℕ) → page < q → q < page + 512 * size l → s.frames q ≡ none) (N : Starts s (first + managed board pages) (page + 512 * size l))
    where
      abbrev v : Levels
      v = record { frames = all_parts s page l c; free = fr }

      abbrev end : ℕ
      end = first + managed board pages

      -- no frame starts inside a child
      inner : (j q : ℕ) → j ≤ 511 → page + j * size l < q → q < page + j * size l + size l → At s page l c v.frames 0 511 q → v.frames q ≡ none
      inner j q b x y (hit i k d e u) = absurd (go (dec_lt j i))
        where
          go : Dec (j < i) → ⊥
          go (yes t) = omega (arith, child_after i j (size l) t)
          go (no t) = omega (arith, mul-le-mul_right {m = i} {n = j} (size l) (omega arith))
      inner j q b x y (miss n u) = u ∙ C q (omega arith) (omega (arith, child_ends j (size l) (omega arith)))

      -- no child starts inside another frame
      outer : (p q : ℕ) (a : Frame) → p ≢ page → s.frames p ≡ some a → Tile s from first end p a → p < q → q < p + size a.level
          → At s page l c v.frames 0 511 q → v.frames q ≡ none
      outer p q a n h T x y (miss m u) = u ∙ T.clear q x y
      outer p q a n h T x y (hit i k d e u) = absurd (go (dec_lt p page))
        where
          go : Dec (p < page) → ⊥
          go (yes t) = none_some (T.clear page t (omega arith)) H
          go (no t) = none_some (C p (omega arith) (omega (arith, child_ends i (size l) (omega arith)))) h

      -- a frame starts wherever one did, and at each child
      stays : (q : ℕ) → Starts s end q → Starts v end q
      stays q h b = go (at_parts s page l c q)
        where
          go : At s page l c v.frames 0 511 q → v.frames q ≢ none
          go (hit i k d e u) w = none_some w u
          go (miss m u) w = h b (sym u ∙ w)

      child_next : (j : ℕ) → j ≤ 511 → Starts v end (page + j * size l + size l)
      child_next j d b = go (ℕ_discrete j 511) (at_parts s page l c (page + j * size l + size l))
        where
          go : Dec (j ≡ 511) → At s page l c v.frames 0 511 (page + j * size l + size l) → v.frames (page + j * size l + size l) ≢ none
          go g (hit i k d e u) = λ w. none_some w u
          go (yes g) (miss m u) =
              let k : page + j * size l + size l ≡ page + 512 * size l = rw g (omega arith) in
              stays _ (rw k N) b
          go (no g) (miss m u) = absurd (m (suc j) (omega arith) (omega arith) (omega (arith, suc-mul j (size l))))

      tile : (p : ℕ) (a : Frame) → Inside board first pages p → v.frames p ≡ some a → At s page l c v.frames 0 511 p → Tile v from first end p a
      tile p a i h (hit j w d e u) =
          let g : some a ≡ some c = sym h ∙ u in
          let k : a.level ≡ l = ap level_of g ∙ cl in
          let x : from + (p - first) ≡ from + (page - first) + j * size l = omega (arith, S.low) in
          record {
            level = omega (arith, S.small);
            aligned = rw (k, x) (child_aligned (from + (page - first)) j l S.small L);
            ends = rw k (omega (arith, S.high, child_ends j (size l) (omega arith)));
            clear = rw k (λ q x y. inner j q d (omega arith) (omega arith) (at_parts s page l c q));
            next = rw (k, e) (child_next j d);
          }
      tile p a i h (miss m u) =
          let b : s.frames p ≡ some a = sym u ∙ h in
          let T = Wh.tile p a i b in
          record {
            level = T.level;
            aligned = T.aligned;
            ends = T.ends;
            clear = λ q x y. outer p q a (λ e. m 0 (omega arith) (omega arith) (omega arith)) b T x y (at_parts s page l c q);
            next = stays (p + size a.level) T.next;
          }

      pub whole_parts
          : {other : Option ℕ} → ((q : ℕ) → other ≢ some q → Inside board first pages q → slot_of (v.frames q) < 6 → At s page l c v.frames 0 511 q → In q (fr (slot_of (v.frames q))))
          → Whole board v other from first pages
      whole_parts F =
          record {
            opens = stays first Wh.opens;
            tile = λ p a i h. tile p a i h (at_parts s page l c p);
            full = λ q n i h. F q n i h (at_parts s page l c q);
          }

  module _ {s : Levels} {from first pages page : ℕ} (l : ℕ) (z : Bool) (Wh : Whole board s (some page) from first pages) where
    abbrev u : Levels
    u = list_up (children 511 s page l z) page l z false

    pub full_parts
        : (q : ℕ) → Inside board first pages q → slot_of (all_parts s page l (child l z) q) < 6 → At s page l (child l z) (all_parts s page l (child l z)) 0 511 q
        → In q (u.free (slot_of (all_parts s page l (child l z) q)))
    full_parts q i h (hit j a b e w) = rw w (go (ℕ_discrete j 0))
      where
        go : Dec (j ≡ 0) → In q (u.free (slot l z))
        go (yes g) = let k : q ≡ page = rw (e, g) (omega arith) in rw k (up_has (children 511 s page l z) page l z false)
        go (no g) = rw e (up_grows (children 511 s page l z) page l z false (page + j * size l) (slot l z) (children_has s page l z 511 j (omega arith) b))
    full_parts q i h (miss m w) =
        rw w
        (up_grows (children 511 s page l z) page l z false q (slot_of (s.frames q))
        (children_grow s page l z 511 q (slot_of (s.frames q)) (Wh.full q (λ e. m 0 (omega arith) (omega arith) (other e)) i (rw w at h))))
      where
        other : some page ≡ some q → q ≡ page + 0 * size l
        other e = let d : page ≡ q = cc in omega arith

-- ---- a free frame can be split

size_up : (l : ℕ) → l < 2 → size (l + 1) ≡ 512 * size l
size_up zero h = refl
size_up (suc zero) h = refl
size_up (suc (suc l)) h = absurd (omega arith)

module _ {board : Board} where
  module _ {s : Levels} {from first pages p : ℕ} {held : Bool} (l : ℕ) (G : Good board s (some p) from first pages) (r : Ready board s first pages (l + 1) p held) where
    T : Tile s from first (first + managed board pages) p r.frame
    T = G.whole.tile p r.frame r.inside r.here

    small : l < 2
    small = omega (arith, T.level, r.level)

    long : size r.frame.level ≡ 512 * size l
    long = ap size r.level ∙ size_up l small

    pub clear : (q : ℕ) → p < q → q < p + 512 * size l → s.frames q ≡ none
    clear q x y = T.clear q x (rw long y)

    pub splits : Splits board s first pages p l
    splits =
        record {
          small = small;
          low = r.inside.low;
          high = rw long at T.ends;
          out = λ q x y k. out q x y k (ℕ_discrete q p) (dec_lt k 6);
        }
      where
        out : (q : ℕ) → p ≤ q → q < p + 512 * size l → (k : ℕ) → Dec (q ≡ p) → Dec (k < 6) → Out q (s.free k)
        out q x y k (yes e) d = rw e (r.out k)
        out q x y k (no m) (yes d) =
            all_map
            (λ t a e. absurd (omega (arith, sym (ap slot_of (clear q (omega arith) y)) ∙ ap (λ (j : ℕ). slot_of (s.frames j)) e ∙ a.slotted)))
            (G.kept.listed k)
        out q x y k (no m) (no d) = rw (G.kept.beyond k (omega arith)) all_none

    pub aligned : (from + (p - first)) % size (l + 1) ≡ 0
    aligned = subst (λ (m : ℕ). (from + (p - first)) % size m ≡ 0) r.level T.aligned

    pub followed : Starts s (first + managed board pages) (p + 512 * size l)
    followed = subst (λ (m : ℕ). Starts s (first + managed board pages) (p + m)) long T.next

    pub good_split : Good board (split s p l) none from first pages
    unfolding split
    good_split =
        let z = is_zeroed (s.frames p) in
        record {
          kept = kept_parts G.kept splits z;
          whole =
              rw (children_frames 511 s p l z)
              (whole_parts (child l z) refl (list_up (children 511 s p l z) p l z false).free G.whole splits r.here aligned clear followed
              (λ q n i h w. full_parts l z G.whole q i h w));
        }

-- ---- a pop

data Ended (xs : List ℕ) : Type 0 where
  ended_none : xs ≡ [] → Ended xs
  ended_some : (ys : List ℕ) (p : ℕ) → xs ≡ ys ++ (p ∷ []) → Ended xs

ended : (xs : List ℕ) → Ended xs
ended [] = ended_none refl
ended (x ∷ xs) = step (ended xs)
  where
    step : Ended xs → Ended (x ∷ xs)
    step (ended_none e) = ended_some [] x (ap (λ (l : List ℕ). x ∷ l) e)
    step (ended_some ys p e) = ended_some (x ∷ ys) p (ap (λ (l : List ℕ). x ∷ l) e)

slot_level : (x : Option Frame) (l : ℕ) (z : Bool) → l < 3 → slot_of x ≡ slot l z → (a : Frame) × (x ≡ some a) × (a.level ≡ l) × (a.allocated ≡ false)
slot_level none l z h e = absurd (omega (arith, slot_small l z h))
slot_level (some a) l z h e = (a, refl, bits a.allocated a.zeroed z a.level l h e, free a.allocated a.zeroed e)
  where
    bits : (b y z : Bool) (m l : ℕ) → l < 3 → cond b 6 (slot m y) ≡ slot l z → m ≡ l
    bits true y z m l h e = absurd (omega (arith, slot_small l z h))
    bits false true true m l h e = omega arith
    bits false true false m l h e = absurd (omega arith)
    bits false false true m l h e = absurd (omega arith)
    bits false false false m l h e = omega arith

    free : (b y : Bool) → cond b 6 (slot a.level y) ≡ slot l z → b ≡ false
    free true y e = absurd (omega (arith, slot_small l z h))
    free false y e = refl

module _ {board : Board} where
  module _ {s : Levels} {from first pages : ℕ} (G : Good board s none from first pages) where
    pub fine_nothing : (l : ℕ) → Fine board from first pages l (nothing s)
    fine_nothing l = record { good = G; ready = λ p e. let z : ◌≡◌ {A = ℕ} 0 1 = cc in absurd (omega arith) }

    module _ (l : ℕ) (z : Bool) (h : l < 3) where
      abbrev k : ℕ
      k = slot l z

      module _ (ys : List ℕ) (p : ℕ) (e : s.free k ≡ ys ++ (p ∷ [])) where
        abbrev y : Levels
        y = record { frames = s.frames; free = upd s.free k ys }

        all : All (λ (q : ℕ). Listed board s.frames first pages k q) (ys ++ (p ∷ []))
        all = subst (λ (xs : List ℕ). All (λ (q : ℕ). Listed board s.frames first pages k q) xs) e (G.kept.listed k)

        last : Listed board s.frames first pages k p
        last = all_head (all_right ys all)

        apart : Distinct ys × Out p ys
        apart = distinct_unsnoc ys (subst (λ (xs : List ℕ). Distinct xs) e (G.kept.distinct k))

        good : Good board y (some p) from first pages
        good =
            record {
              kept =
                  record {
                    beyond = λ j a. upd_other s.free k ys j (omega (arith, slot_small l z h)) ∙ G.kept.beyond j a;
                    listed = upd_all (λ j xs. All (λ (q : ℕ). Listed board s.frames first pages j q) xs) s.free k ys (all_left ys _ all) (λ j m. G.kept.listed j);
                    distinct = upd_all (λ j xs. Distinct xs) s.free k ys apart.0 (λ j m. G.kept.distinct j);
                  };
              whole =
                  record {
                    opens = G.whole.opens;
                    tile = λ q a i b. let t = G.whole.tile q a i b in record { level = t.level; aligned = t.aligned; ends = t.ends; clear = t.clear; next = t.next };
                    full = λ q n i b. upd_all (λ j xs. In q (s.free j) → In q xs) s.free k ys (λ w. in_snoc ys (subst (λ (xs : List ℕ). In q xs) e w) (λ d. n (ap some (sym d)))) (λ j m w. w) (slot_of (s.frames q)) (G.whole.full q (λ d. let z : ◌≡◌ {A = ℕ} 0 1 = cc in omega arith) i b);
                  };
            }

        ready : Ready board y first pages l p false
        ready =
            let f = slot_level (s.frames p) l z h last.slotted in
            record {
              frame = f.0;
              here = f.1;
              level = f.2;
              held_so = f.3;
              inside = last.inside;
              out = upd_all (λ j xs. Out p xs) s.free k ys apart.1
                  (λ j m. all_map (λ q a d. m (sym a.slotted ∙ ap (λ (x : ℕ). slot_of (s.frames x)) (sym d) ∙ last.slotted)) (G.kept.listed j));
            }

      pub fine_pop : Fine board from first pages l (pop_from everywhere s k)
      fine_pop = go (ended (s.free k))
        where
          go : Ended (s.free k) → Fine board from first pages l (pop_from everywhere s k)
          go (ended_none e) = rw (pop_from_none s k e) (fine_nothing l)
          go (ended_some ys p e) =
              rw (pop_from_some s k ys p e)
              (record { good = good ys p e; ready = λ q u. let d : p ≡ q = cc in subst (λ (x : ℕ). Ready board (y ys p e) first pages l x false) d (ready ys p e) })

-- ---- a search

module _ {board : Board} where
  fine_or : {from first pages l : ℕ} (a b : Found) → Fine board from first pages l a → Fine board from first pages l b → Fine board from first pages l (or_else a b)
  fine_or {from} {first} {pages} {l} a b x y = go a.page refl
    where
      go : (o : Option ℕ) → a.page ≡ o → Fine board from first pages l (or_else a b)
      go none e = rw (or_none_lem a b e) y
      go (some p) e = rw (or_page a b p e) x

  pub fine_level : {s : Levels} {from first pages : ℕ} (l : ℕ) (t o : Bool) → Good board s none from first pages → l < 3 → Fine board from first pages l (level_allocate everywhere s l t o)
  unfolding level_allocate
  fine_level l t true G h = fine_pop G l true h
  fine_level l true false G h = fine_or _ _ (fine_pop G l false h) (fine_pop G l true h)
  fine_level l false false G h = fine_or _ _ (fine_pop G l false h) (fine_nothing G l)

pub parted_page : (l : ℕ) (t o : Bool) (a : Found) (p : ℕ) → a.page ≡ some p → then_split everywhere l t o a ≡ level_allocate everywhere (split a.levels p l) l t o
parted_page l t o a p e = rw e refl

pub parted_none : (l : ℕ) (t o : Bool) (a : Found) → a.page ≡ none → then_split everywhere l t o a ≡ a
parted_none l t o a e = rw e refl

module _ {board : Board} where
  pub fine_do : {s : Levels} {from first pages : ℕ} (left l : ℕ) (t o : Bool) → Good board s none from first pages → l + left ≡ 3 → Fine board from first pages l (do_allocate everywhere left l s t o)
  unfolding do_allocate
  fine_do zero l t o G h = fine_nothing G l
  fine_do {s} {from} {first} {pages} (suc left) l t o G h =
      fine_or _ _ (fine_level l t o G (omega arith)) (go (do_allocate everywhere left (l + 1) s t o).page (fine_do left (l + 1) t o G (omega arith)) refl)
    where
      go : (u : Option ℕ) → Fine board from first pages (l + 1) (do_allocate everywhere left (l + 1) s t o) → (do_allocate everywhere left (l + 1) s t o).page ≡ u
          → Fine board from first pages l (then_split everywhere l t o (do_allocate everywhere left (l + 1) s t o))
      go none F e =
          rw (parted_none l t o (do_allocate everywhere left (l + 1) s t o) e)
          (record { good = F.good; ready = λ p d. let z : ◌≡◌ {A = ℕ} 0 1 = cc in absurd (omega arith) })
      go (some p) F e = rw (parted_page l t o (do_allocate everywhere left (l + 1) s t o) p e) (fine_level l t o (good_split l (subst (λ (x : Option ℕ). Good board (do_allocate everywhere left (l + 1) s t o).levels x from first pages) e F.good) (F.ready p e)) (omega arith))
