-- The allocator of one region acts alike on a state by page numbers and on the same state by page frame numbers: each function of
-- definition's Frame keeps `Shifted`, answers the same page, and changes no frame outside the region.
use Prim.Native.Nat.{ℕ, zero, suc, ◌+◌, ◌-◌, ◌*◌, ◌≤◌, ◌<◌}
use mathlib.Core.Bool.{Bool, true, false}
use mathlib.Core.List.{List, [], ◌∷◌, ◌++◌, map, map-append}
use mathlib.Core.Option.{Option, none, some}
use mathlib.Core.Path.{◌≡◌, refl, sym, ap, ◌∙◌, subst}
use native.Mathlib.Decide.{ℕ_discrete}
use native.Mathlib.Numerals.{add-one}
use native.Mathlib.Omega.{arith}
use borrow.Author.Tests.{eq-eqb, ne_eqb}
use Rattle.definition.specs.Board.{Board}
use Rattle.definition.specs.Basics.{everywhere, Popped, or_this, pop_last, pop_back, upd}
use Rattle.definition.specs.Frame.{Found, Frame, Levels, allocate, change, changed, children, do_allocate, free, freed, is_zeroed}
use Rattle.definition.specs.Frame.{held_child, highest, kept, kept_at, level_allocate, nothing, or_else, organize, pop_from, popped, push}
use Rattle.definition.specs.Frame.{set_allocated, size, slot, split, split_and_keep, then_split, with_allocated}
use Rattle.definition.proofs.Basics.{upd_other, upd_same}
use Rattle.level.proofs.Sizes.{size_next, size_positive}
use Rattle.list.proofs.Laws.{all_append}
use Rattle.list.specs.Linked.{All}
use Rattle.list.specs.Linked.All.{all_more, all_none}
use Rattle.region.proofs.Granting.{granted_none, granted_page}
use Rattle.region.proofs.Laws.{or_none_lem, or_page}
use Rattle.region.proofs.Splitting.{child_ends}
use Rattle.region.proofs.Tiling.{Good, fine_do, parted_none, parted_page, splits}
use Rattle.region.proofs.Laying.{best}
use Rattle.region.specs.Rep.{Best, Inside, managed}
use Rattle.world.specs.Stands.{shift, Shifted, Carried, Alike, shifted}

-- ---- the numbers

module _ {board : Board} where
  shift_inj
      : (from base pages q r : ℕ) → Inside board base pages q → Inside board base pages r → shift from base q ≡ shift from base r → q ≡ r
  shift_inj from base pages q r i j e = omega (arith, i.low, j.low)

-- ---- the back of a list

pop_all : {P : ℕ → Type 0} {xs : List ℕ} → All P xs → (e : Popped) → pop_back xs ≡ some e → All P e.rest × P e.last
unfolding pop_last
pop_all all_none e d = let z : ◌≡◌ {A = ℕ} 0 1 = cc in absurd (omega arith)
pop_all {P} (all_more {x = x} {xs = xs} a rest) e d = go (pop_back xs) refl (pop_all rest)
  where
    go : (o : Option Popped) → pop_back xs ≡ o → ((u : Popped) → pop_back xs ≡ some u → All P u.rest × P u.last) → All P e.rest × P e.last
    go none h ih = let k : e ≡ record { rest = xs; last = x } = cc in rw k (rest, a)
    go (some u) h ih =
        let k : e ≡ record { rest = x ∷ u.rest; last = u.last } = cc in
        let m = ih u h in
        rw k (all_more {x = x} (a) m.0, m.1)

abbrev mapped : (ℕ → ℕ) → Option Popped → Option Popped
mapped g none = none
mapped g (some e) = some (record { rest = map g e.rest; last = g e.last })

map_behind : (g : ℕ → ℕ) (x : ℕ) (xs : List ℕ) (o : Option Popped)
    → or_this true (g x) (map g xs) (mapped g o) ≡ mapped g (or_this true x xs o)
map_behind g x xs none = refl
map_behind g x xs (some e) = refl

pop_map : (g : ℕ → ℕ) (xs : List ℕ) → pop_back (map g xs) ≡ mapped g (pop_back xs)
unfolding pop_last
pop_map g [] = refl
pop_map g (x ∷ xs) = ap (or_this true (g x) (map g xs)) (pop_map g xs) ∙ map_behind g x xs (pop_back xs)

module _ {board : Board} where
  module _ {from base pages : ℕ} where
    pub shift_in : (q : ℕ) → Inside board base pages q → Inside board from pages (shift from base q)
    shift_in q i = record { low = omega arith; high = omega (arith, i.low, i.high) }

    -- ---- one frame changes

    module _ {s t : Levels} (S : Shifted board from base pages s t) (p : ℕ) (i : Inside board base pages p) where
      frames_changed
          : (v : Option Frame) (q : ℕ) → Inside board base pages q
          → upd t.frames (shift from base p) v (shift from base q) ≡ upd s.frames p v q
      frames_changed v q j = go (ℕ_discrete q p)
        where
          go : Dec (q ≡ p) → upd t.frames (shift from base p) v (shift from base q) ≡ upd s.frames p v q
          go (yes e) = rw (e, upd_same t.frames (shift from base p) v, upd_same s.frames p v) refl
          go (no n) =
              upd_other t.frames (shift from base p) v (shift from base q) (λ e. n (shift_inj from base pages q p j i e))
              ∙ S.frames q j
              ∙ sym (upd_other s.frames p v q n)

      frames_outside : (v : Option Frame) (r : ℕ) → (Inside board from pages r → ⊥) → upd t.frames (shift from base p) v r ≡ t.frames r
      frames_outside v r o = upd_other t.frames (shift from base p) v r
          (λ e. o (subst (λ (x : ℕ). Inside board from pages x) (sym e) (shift_in p i)))

      pub carried_frame
          : (v : Option Frame)
          → Carried board from base pages t (record { frames = upd s.frames p v; free = s.free })
          (record { frames = upd t.frames (shift from base p) v; free = t.free })
      carried_frame v = record { same = record { frames = frames_changed v; free = S.free; inside = S.inside }; outside = frames_outside v }

      pub carried_change
          : (g : Frame → Frame)
          → Carried board from base pages t (record { frames = change g s.frames p; free = s.free })
          (record { frames = change g t.frames (shift from base p); free = t.free })
      carried_change g = rw (S.frames p i) (carried_frame (changed g (s.frames p)))

      pub carried_push : (f : Frame) → Carried board from base pages t (push s p f) (push t (shift from base p) f)
      carried_push f =
          record {
            same = record {
              frames = frames_changed (some f);
              free = λ k. free_at_lem k (ℕ_discrete k j);
              inside = λ k. in_at k (ℕ_discrete k j);
            };
            outside = frames_outside (some f);
          }
        where
          j : ℕ
          j = slot f.level f.zeroed

          free_at_lem : (k : ℕ) → Dec (k ≡ j) → (push t (shift from base p) f).free k ≡ map (shift from base) ((push s p f).free k)
          free_at_lem k (yes e) =
              rw (
                e,
                upd_same t.free j (t.free j ++ (shift from base p ∷ [])),
                upd_same s.free j (s.free j ++ (p ∷ [])),
                map-append (shift from base) (s.free j) (p ∷ []),
                S.free j,
              )
              refl
          free_at_lem k (no n) =
              upd_other t.free j (t.free j ++ (shift from base p ∷ [])) k n
              ∙ S.free k
              ∙ sym (ap (map (shift from base)) (upd_other s.free j (s.free j ++ (p ∷ [])) k n))

          in_at : (k : ℕ) → Dec (k ≡ j) → All (λ (q : ℕ). Inside board base pages q) ((push s p f).free k)
          in_at k (yes e) = rw (e, upd_same s.free j (s.free j ++ (p ∷ []))) (all_append (S.inside j) (all_more {x = p} i all_none))
          in_at k (no n) = rw (upd_other s.free j (s.free j ++ (p ∷ [])) k n) (S.inside k)

    pub carried_none : {s t : Levels} → Shifted board from base pages s t → Carried board from base pages t s t
    carried_none S = record { same = S; outside = λ r o. refl }

    pub carried_then : {t s1 t1 s2 t2 : Levels} → Carried board from base pages t s1 t1 → Carried board from base pages t1 s2 t2
        → Carried board from base pages t s2 t2
    carried_then A B = record { same = B.same; outside = λ r o. B.outside r o ∙ A.outside r o }

    -- ---- a pop

    pub alike_nothing : {s t : Levels} → Shifted board from base pages s t → Alike board from base pages t (nothing s) (nothing t)
    alike_nothing S = record { carried = carried_none S; page = refl; inside = λ p e. let z : ◌≡◌ {A = ℕ} 0 1 = cc in absurd (omega arith) }

    pub alike_pop : {s t : Levels} → Shifted board from base pages s t → (k : ℕ)
        → Alike board from base pages t (pop_from everywhere s k) (pop_from everywhere t k)
    unfolding pop_from
    alike_pop {s} {t} S k = rw (S.free k, pop_map (shift from base) (s.free k)) (go (pop_back (s.free k)) refl)
      where
        go : (o : Option Popped) → pop_back (s.free k) ≡ o
            → Alike board from base pages t (popped s k o) (popped t k (mapped (shift from base) o))
        go none d = alike_nothing S
        go (some e) d =
            let a = pop_all (S.inside k) e d in
            record {
              carried =
                  record {
                    same = record {
                      frames = S.frames;
                      free = λ j. free_at_lem j (ℕ_discrete j k);
                      inside = λ j. in_at a.0 j (ℕ_discrete j k);
                    };
                    outside = λ r o. refl;
                  };
              page = refl;
              inside = λ p h. let m : e.last ≡ p = cc in subst (λ (x : ℕ). Inside board base pages x) m a.1;
            }
          where
            free_at_lem : (j : ℕ) → Dec (j ≡ k) → upd t.free k (map (shift from base) e.rest) j
                ≡ map (shift from base) (upd s.free k e.rest j)
            free_at_lem j (yes h) = rw (h, upd_same t.free k (map (shift from base) e.rest), upd_same s.free k e.rest) refl
            free_at_lem j (no n) =
                upd_other t.free k (map (shift from base) e.rest) j n ∙ S.free j
                ∙ sym (ap (map (shift from base)) (upd_other s.free k e.rest j n))

            in_at : All (λ (q : ℕ). Inside board base pages q) e.rest → (j : ℕ) → Dec (j ≡ k)
                → All (λ (q : ℕ). Inside board base pages q) (upd s.free k e.rest j)
            in_at a j (yes h) = rw (h, upd_same s.free k e.rest) a
            in_at a j (no n) = rw (upd_other s.free k e.rest j n) (S.inside j)

    -- ---- a level

    alike_or : {t : Levels} (a b a2 b2 : Found) → Alike board from base pages t a b → Alike board from base pages t a2 b2
        → Alike board from base pages t (or_else a a2) (or_else b b2)
    alike_or {t} a b a2 b2 A B = go a.page refl
      where
        go : (o : Option ℕ) → a.page ≡ o → Alike board from base pages t (or_else a a2) (or_else b b2)
        go none e = rw (or_none_lem a a2 e, or_none_lem b b2 (A.page ∙ ap (shifted from base) e)) B
        go (some p) e = rw (or_page a a2 p e, or_page b b2 (shift from base p) (A.page ∙ ap (shifted from base) e)) A

    pub alike_level : {s t : Levels} → Shifted board from base pages s t → (l : ℕ) (z o : Bool)
        → Alike board from base pages t (level_allocate everywhere s l z o) (level_allocate everywhere t l z o)
    unfolding level_allocate
    alike_level S l z true = alike_pop S (slot l true)
    alike_level {s} {t} S l true false =
        alike_or (pop_from everywhere s (slot l false)) (pop_from everywhere t (slot l false)) (pop_from everywhere s (slot l true))
        (pop_from everywhere t (slot l true)) (alike_pop S (slot l false)) (alike_pop S (slot l true))
    alike_level {s} {t} S l false false =
        alike_or (pop_from everywhere s (slot l false)) (pop_from everywhere t (slot l false)) (nothing s) (nothing t)
        (alike_pop S (slot l false)) (alike_nothing S)

    -- ---- a split

    module _ {s t : Levels} (S : Shifted board from base pages s t) (p l : ℕ) (low : base ≤ p)
        (high : p + 512 * size l ≤ base + managed board pages) where
      part_in : (i : ℕ) → i < 512 → Inside board base pages (p + i * size l)
      part_in i h = record { low = omega (arith, low); high = omega (arith, high, child_ends i (size l) h, size_positive l) }

      pub whole_in : Inside board base pages p
      whole_in = record { low = low; high = omega (arith, high, size_positive l) }

      part_at : (x : ℕ) → shift from base (p + x) ≡ shift from base p + x
      part_at x = omega (arith, low)

      carried_children : (i : ℕ) → i < 512 → (z : Bool)
          → Carried board from base pages t (children i s p l z) (children i t (shift from base p) l z)
      unfolding children
      carried_children zero h z = carried_none S
      carried_children (suc i) h z =
          let A = carried_children i (omega arith) z in
          carried_then A
          (subst
          (λ (x : ℕ). Carried board from base pages (children i t (shift from base p) l z) (children (suc i) s p l z)
          (push (children i t (shift from base p) l z) x (record { level = l; allocated = false; zeroed = z; kernel = false })))
          (part_at (suc i * size l))
          (carried_push A.same (p + suc i * size l) (part_in (suc i) h)
          (record { level = l; allocated = false; zeroed = z; kernel = false })))

      pub carried_split : Carried board from base pages t (split s p l) (split t (shift from base p) l)
      unfolding split
      carried_split =
          let z = is_zeroed (s.frames p) in
          let A = carried_children 511 (omega arith) z in
          rw (S.frames p whole_in)
          (carried_then A (carried_push A.same p whole_in (record { level = l; allocated = false; zeroed = z; kernel = false })))

      carried_kept
          : (i : ℕ) → i < 512 → (c : Frame)
          → Carried board from base pages t (record { frames = kept i s.frames p l c; free = s.free })
          (record { frames = kept i t.frames (shift from base p) l c; free = t.free })
      unfolding kept
      carried_kept zero h c = carried_none S
      carried_kept (suc i) h c =
          let A = carried_kept i (omega arith) c in
          carried_then A
          (subst
          (λ (x : ℕ). Carried board from base pages (record { frames = kept i t.frames (shift from base p) l c; free = t.free })
          (record { frames = kept (suc i) s.frames p l c; free = s.free })
          (record { frames = upd (kept i t.frames (shift from base p) l c) x (some c); free = t.free }))
          (part_at (suc i * size l))
          (carried_frame A.same (p + suc i * size l) (part_in (suc i) h) (some c)))

      pub carried_parts
          : (c : Frame)
          → Carried board from base pages t (record { frames = upd (kept 511 s.frames p l c) p (some c); free = s.free })
          (record { frames = upd (kept 511 t.frames (shift from base p) l c) (shift from base p) (some c); free = t.free })
      carried_parts c = let A = carried_kept 511 (omega arith) c in carried_then A (carried_frame A.same p whole_in (some c))

    -- ---- the search

    alike_then : {t u : Levels} {a b : Found} → {s1 : Levels} → Carried board from base pages t s1 u → Alike board from base pages u a b
        → Alike board from base pages t a b
    alike_then C A = record { carried = carried_then C A.carried; page = A.page; inside = A.inside }

    alike_parted
        : {t : Levels} (l : ℕ) (z o : Bool) (a b : Found) → Alike board from base pages t a b
        → ((p : ℕ) → a.page ≡ some p → p + 512 * size l ≤ base + managed board pages)
        → Alike board from base pages t (then_split everywhere l z o a) (then_split everywhere l z o b)
    alike_parted {t} l z o a b A fits = go a.page refl
      where
        go : (x : Option ℕ) → a.page ≡ x → Alike board from base pages t (then_split everywhere l z o a) (then_split everywhere l z o b)
        go none e = rw (parted_none l z o a e, parted_none l z o b (A.page ∙ ap (shifted from base) e)) A
        go (some p) e =
            let C = carried_then A.carried (carried_split A.carried.same p l (A.inside p e).low (fits p e)) in
            rw (parted_page l z o a p e, parted_page l z o b (shift from base p) (A.page ∙ ap (shifted from base) e))
            (alike_then C (alike_level C.same l z o))

    pub alike_do
        : {s t : Levels} → Shifted board from base pages s t → Good board s none from base pages → (left l : ℕ) → l + left ≡ 3
        → (z o : Bool)
        → Alike board from base pages t (do_allocate everywhere left l s z o) (do_allocate everywhere left l t z o)
    unfolding do_allocate
    alike_do S G zero l h z o = alike_nothing S
    alike_do {s} {t} S G (suc left) l h z o =
        let F = fine_do left (l + 1) z o G (omega arith) in
        let up = do_allocate everywhere left (l + 1) s z o in
        alike_or (level_allocate everywhere s l z o) (level_allocate everywhere t l z o) (then_split everywhere l z o up)
        (then_split everywhere l z o (do_allocate everywhere left (l + 1) t z o)) (alike_level S l z o)
        (alike_parted l z o up (do_allocate everywhere left (l + 1) t z o) (alike_do S G left (l + 1) (omega arith) z o)
        (λ p e. (splits l (subst (λ (x : Option ℕ). Good board up.levels x from base pages) e F.good) (F.ready p e)).high))

    pub alike_allocate
        : {s t : Levels} → Shifted board from base pages s t → Good board s none from base pages → (l : ℕ) → l < 3 → (z o : Bool)
        → Alike board from base pages t (allocate everywhere l s z o) (allocate everywhere l t z o)
    unfolding allocate
    alike_allocate {s} {t} S G l h z o = go (do_allocate everywhere (3 - l) l s z o) (do_allocate everywhere (3 - l) l t z o)
        (alike_do S G (3 - l) l (omega arith) z o)
      where
        go : (a b : Found) → Alike board from base pages t a b → Alike board from base pages t (set_allocated a) (set_allocated b)
        go a b A = at a.page refl
          where
            at : (x : Option ℕ) → a.page ≡ x → Alike board from base pages t (set_allocated a) (set_allocated b)
            at none e = rw (granted_none a e, granted_none b (A.page ∙ ap (shifted from base) e)) A
            at (some p) e =
                rw (granted_page a p e, granted_page b (shift from base p) (A.page ∙ ap (shifted from base) e))
                (record {
                  carried = carried_then A.carried (carried_change A.carried.same p (A.inside p e) (with_allocated true));
                  page = refl;
                  inside = λ q d. let m : p ≡ q = cc in subst (λ (x : ℕ). Inside board base pages x) m (A.inside p e);
                })

    -- ---- a free

    pub carried_free : {s t : Levels} → Shifted board from base pages s t → (p : ℕ) → Inside board base pages p
        → Carried board from base pages t (free s p) (free t (shift from base p))
    unfolding free
    carried_free {s} {t} S p i = rw (S.frames p i) (go (s.frames p))
      where
        go : (x : Option Frame) → Carried board from base pages t (freed s p x) (freed t (shift from base p) x)
        go none = carried_none S
        go (some f) = carried_push S p i (with_allocated false f)

    -- ---- split_and_keep

    module _ {s t : Levels} (S : Shifted board from base pages s t) (p : ℕ) (i : Inside board base pages p) where
      abbrev Keeps : Option Frame → Type 0
      Keeps x =
          Carried board from base pages t (record { frames = kept_at s.frames p x; free = s.free })
          (record { frames = kept_at t.frames (shift from base p) x; free = t.free })

      keeps : (f : Frame) (l : ℕ) → f.level ≡ l → p + size l ≤ base + managed board pages → Keeps (some f)
      keeps f zero e h = rw e (carried_none S)
      keeps f (suc l) e h =
          let d : size (suc l) ≡ 512 * size l = ap size (sym (add-one l)) ∙ size_next l in
          rw e (carried_parts S p l i.low (omega (arith, h, d)) (held_child f l))

      pub carried_keep
          : ((f : Frame) → s.frames p ≡ some f → p + size f.level ≤ base + managed board pages)
          → Carried board from base pages t (record { frames = split_and_keep s.frames p; free = s.free })
          (record { frames = split_and_keep t.frames (shift from base p); free = t.free })
      unfolding split_and_keep
      carried_keep fits = rw (S.frames p i) (go (s.frames p) refl)
        where
          go : (x : Option Frame) → s.frames p ≡ x → Keeps x
          go none e = carried_none S
          go (some f) e = keeps f f.level refl (fits f e)

    -- ---- a region's layout

    pub carried_organize
        : {s t : Levels} (fuel : ℕ) → Shifted board from base pages s t → (q left : ℕ) → base ≤ q → q + left ≤ base + managed board pages
        → Carried board from base pages t (organize fuel s q (shift from base q) left)
        (organize fuel t (shift from base q) (shift from base q) left)
    unfolding organize
    carried_organize zero S q left a b = carried_none S
    carried_organize {s} {t} (suc fuel) S q left a b = go (ℕ_discrete left 0) (λ u v C. carried_organize fuel C.same)
      where
        l : ℕ
        l = highest 2 (shift from base q) left

        go : Dec (left ≡ 0)
            → ((u v : Levels) → Carried board from base pages t u v → (r rest : ℕ) → base ≤ r → r + rest ≤ base + managed board pages
            → Carried board from base pages v (organize fuel u r (shift from base r) rest)
            (organize fuel v (shift from base r) (shift from base r) rest))
            → Carried board from base pages t (organize (suc fuel) s q (shift from base q) left)
            (organize (suc fuel) t (shift from base q) (shift from base q) left)
        go (yes e) ih = rw (eq-eqb left 0 e) (carried_none S)
        go (no n) ih =
            let B : Best (shift from base q) left l = best (shift from base q) left l refl (omega arith) in
            let f : Frame = record { level = l; allocated = false; zeroed = false; kernel = false } in
            let A = carried_push S q (record { low = a; high = omega arith }) f in
            let e : shift from base (q + size l) ≡ shift from base q + size l = omega arith in
            rw (ne_eqb left 0 n)
            (carried_then A
            (subst
            (λ (x : ℕ). Carried board from base pages (push t (shift from base q) f)
            (organize fuel (push s q f) (q + size l) x (left - size l)) (organize fuel (push t (shift from base q) f) x x (left - size l)))
            e
            (ih (push s q f) (push t (shift from base q) f) A (q + size l) (left - size l) (omega arith) (omega (arith, B.fits)))))
