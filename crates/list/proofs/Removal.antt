-- A page taken out of a list, wherever it stands: its neighbours are joined, and it has none. `removed` is what the code of `remove` comes to;
-- `taken` makes it that of `pop_back`, where the page is the last.
use Prim.Native.Nat.{ℕ, ◌+◌, ◌-◌, ◌<◌}
use mathlib.Core.Bool.{cond}
use mathlib.Core.List.{List, [], ◌∷◌, ◌++◌, append-nil}
use mathlib.Core.Logic.{◌≢◌}
use mathlib.Core.Path.{◌≡◌, refl, sym, ap, ◌∙◌, subst}
use native.Mathlib.Omega.{arith}
use native.Mathlib.Decide.{ℕ_discrete}
use borrow.Author.Tests.{eq-eqb, ne_eqb}
use lib.Dec.{eqb}
use lib.ListN.{length, length-append}
use Rattle.definition.specs.declared.Record.{Record}
use Rattle.definition.specs.declared.Links.{Links}
use Rattle.definition.specs.World.{pages_of}
use Rattle.definition.proofs.Basics.{upd_same, upd_other, upd_all}
use Rattle.record.specs.Records.{with_links}
use Rattle.list.specs.Linked.{Out, In, Apart, Distinct, Seg, Linked, Sound, without, later_at, earlier_at, Removed, Taken}
use Rattle.list.specs.Linked.All.{all_none, all_more}
use Rattle.list.specs.Linked.Distinct.{distinct_none, distinct_more}
use Rattle.list.specs.Linked.Seg.{seg_none, seg_more}
use Rattle.list.proofs.Laws.{
  all_map,
  all_append,
  all_left,
  all_right,
  all_head,
  all_rest,
  apart_sym,
  distinct_unsnoc,
  seg_frame,
  seg_append,
  seg_nil,
  linked_frame,
  linked_pages,
  linked_sound,
  back_of_lem,
}
use Rattle.list.proofs.Joining.{neighbour_other, neighbour_kept, seg_first, seg_back, joined_left, joined_right}

-- ---- where p stands

record Split (p : ℕ) (xs : List ℕ) : Type 0 where
  before : List ℕ
  after : List ℕ
  same : xs ≡ before ++ (p ∷ after)

split_cons : {p x : ℕ} {xs : List ℕ} → Dec (p ≡ x) → (p ≢ x → Split p xs) → Split p (x ∷ xs)
split_cons {xs = xs} (yes e) h = record { before = []; after = xs; same = ap (λ (y : ℕ). y ∷ xs) (sym e) }
split_cons {x = x} (no n) h =
    let r = h n in
    record { before = x ∷ r.before; after = r.after; same = ap (λ (l : List ℕ). x ∷ l) r.same }

in_split : (p : ℕ) (xs : List ℕ) → In p xs → Split p xs
in_split p [] h = absurd (h all_none)
in_split p (x ∷ xs) h = split_cons (ℕ_discrete p x) (λ n. in_split p xs (λ o. h (all_more n o)))

pub without_out : {p : ℕ} {xs : List ℕ} → Out p xs → without p xs ≡ xs
unfolding without
without_out all_none = refl
without_out {p} (all_more {x = x} {xs = xs} n o) = rw (ne_eqb x p (λ e. n (sym e))) (ap (λ (l : List ℕ). x ∷ l) (without_out o))

without_split : {p : ℕ} {xs ys : List ℕ} → Out p xs → Out p ys → without p (xs ++ (p ∷ ys)) ≡ xs ++ ys
unfolding without
without_split {p} all_none u = rw (eq-eqb p p refl) (without_out u)
without_split {p} (all_more {x = x} n o) u = rw (ne_eqb x p (λ e. n (sym e))) (ap (λ (l : List ℕ). x ∷ l) (without_split o u))

distinct_rest : {x : ℕ} {xs : List ℕ} → Distinct (x ∷ xs) → Distinct xs
distinct_rest (distinct_more o d) = d

distinct_first : {x : ℕ} {xs : List ℕ} → Distinct (x ∷ xs) → Out x xs
distinct_first (distinct_more o d) = o

record Halves (xs ys : List ℕ) : Type 0 where
  left : Distinct xs
  right : Distinct ys
  apart : Apart xs ys

halves : (xs : List ℕ) {ys : List ℕ} → Distinct (xs ++ ys) → Halves xs ys
halves [] d = record { left = distinct_none; right = d; apart = all_none }
halves (x ∷ xs) (distinct_more o d) =
    let r = halves xs d in
    record { left = distinct_more (all_left xs _ o) r.left; right = r.right; apart = all_more (all_right xs o) r.apart }

distinct_join : {xs ys : List ℕ} → Distinct xs → Distinct ys → Apart xs ys → Distinct (xs ++ ys)
distinct_join distinct_none d a = d
distinct_join (distinct_more o c) d (all_more b a) = distinct_more (all_append o b) (distinct_join c d a)

-- the runs on the two sides of p
sides
    : {f : ℕ → Record} (xs : List ℕ) {p : ℕ} {ys : List ℕ} {e x b z : ℕ}
    → Seg f e x (xs ++ (p ∷ ys)) b z → Seg f e x xs (f p).earlier (p + 1) × Seg f (p + 1) (f p).later ys b z
sides [] (seg_more u v s) = (seg_none u v, s)
sides (q ∷ xs) (seg_more u v s) = let r = sides xs s in (seg_more u v r.0, r.1)

-- ---- the page p, between the pages xs and ys

module _ {f : ℕ → Record} {n : ℕ} {l : Links} (p : ℕ) (xs ys : List ℕ) (k : Linked f n l (xs ++ (p ∷ ys))) where
  abbrev e : ℕ
  e = (f p).earlier

  abbrev z : ℕ
  z = (f p).later

  left : Seg f 0 l.front xs e (p + 1)
  left = (sides xs k.chain).0

  right : Seg f (p + 1) z ys l.back 0
  right = (sides xs k.chain).1

  between : Halves xs (p ∷ ys)
  between = halves xs k.distinct

  apart : Apart xs ys
  apart = all_map (λ q o. all_rest o) between.apart

  out : Out p xs
  out = all_map (λ q a e. all_head {P = λ (x : ℕ). q ≢ x} a (sym e)) between.apart

  abbrev f1 : ℕ → Record
  f1 = later_at f e z

  abbrev f2 : ℕ → Record
  f2 = earlier_at f1 z e

  abbrev f3 : ℕ → Record
  f3 = with_links f2 p 0 0

  abbrev r : Links
  r = record { front = cond (eqb e 0) z l.front; back = cond (eqb z 0) e l.back; count = l.count - 1 }

  joined : Seg f2 0 r.front (xs ++ ys) r.back 0
  joined =
      seg_append
      (seg_frame (all_map (λ q o. neighbour_other f1 z _ q (seg_first right o)) apart) (joined_left z between.left left))
      (joined_right e (distinct_rest between.right)
      (seg_frame (all_map (λ q o. neighbour_other f e _ q (seg_back left o)) (apart_sym ys apart)) right))

  counts : l.count - 1 ≡ length (xs ++ ys)
  counts =
      let a = length-append xs ys in
      let b = length-append xs (p ∷ ys) in
      omega (arith, k.counted)

  linked : Linked f3 n r (xs ++ ys)
  linked =
      linked_frame (all_map (λ q h. upd_other f2 p _ q (λ e. h (sym e))) (all_append out (distinct_first between.right)))
      (record {
        chain = joined;
        counted = counts;
        distinct = distinct_join between.left (distinct_rest between.right) apart;
        inside = all_append (all_left xs _ k.inside) (all_rest (all_right xs k.inside));
      })

  marks_kept : (q : ℕ) → (f2 q).marks ≡ (f q).marks
  marks_kept q = neighbour_kept f1 z _ (λ r. r.marks) refl q ∙ neighbour_kept f e _ (λ r. r.marks) refl q

  level_kept : (q : ℕ) → (f2 q).level ≡ (f q).level
  level_kept q = neighbour_kept f1 z _ (λ r. r.level) refl q ∙ neighbour_kept f e _ (λ r. r.level) refl q

  before_inside : e ≢ 0 → e - 1 < n
  before_inside h = seg_back left (all_left xs _ k.inside) h

  after_inside : z ≢ 0 → z - 1 < n
  after_inside h = seg_first right (all_rest (all_right xs k.inside)) h

  here_inside : p < n
  here_inside = all_head (all_right xs k.inside)

  some : 0 < l.count
  some = let b = length-append xs (p ∷ ys) in omega (arith, k.counted)

  gone : pages_of f l ≡ xs ++ (p ∷ ys) → Removed f l p f3 n r
  gone h =
      record {
        pages = linked_pages linked ∙ sym (rw h (without_split out (distinct_first between.right)));
        sound = linked_sound linked;
        alone = upd_same f2 p _ ∙ rw (marks_kept p, level_kept p);
        others = λ q u.
            let w : Out q (xs ++ (p ∷ ys)) = rw h at u in
            upd_other f2 p _ q (all_head (all_right xs w))
            ∙ neighbour_other f1 z _ q (seg_first right (all_rest (all_right xs w)))
            ∙ neighbour_other f e _ q (seg_back left (all_left xs _ w));
        marks = upd_all (λ q r. r.marks ≡ (f q).marks) f2 p _ (marks_kept p) (λ q b. marks_kept q);
        level = upd_all (λ q r. r.level ≡ (f q).level) f2 p _ (level_kept p) (λ q b. level_kept q);
      }

-- ---- a page of the list

module _ {f : ℕ → Record} {n : ℕ} {l : Links} (p : ℕ) (k : Sound f n l) (i : In p (pages_of f l)) where
  at : Split p (pages_of f l)
  at = in_split p (pages_of f l) i

  k' : Linked f n l (at.before ++ (p ∷ at.after))
  k' = subst (λ (xs : List ℕ). Linked f n l xs) at.same k

  pub page_inside : p < n
  page_inside = here_inside p at.before at.after k'

  pub earlier_inside : (f p).earlier ≢ 0 → (f p).earlier - 1 < n
  earlier_inside = before_inside p at.before at.after k'

  pub later_inside : (f p).later ≢ 0 → (f p).later - 1 < n
  later_inside = after_inside p at.before at.after k'

  pub count_some : 0 < l.count
  count_some = some p at.before at.after k'

  pub removed
      : Removed f l p (with_links (earlier_at (later_at f (f p).earlier (f p).later) (f p).later (f p).earlier) p 0 0) n
      (record {
        front = cond (eqb (f p).earlier 0) (f p).later l.front;
        back = cond (eqb (f p).later 0) (f p).earlier l.back;
        count = l.count - 1;
      })
  removed = gone p at.before at.after k' at.same

-- ---- the last page

seg_snoc
    : {f : ℕ → Record} {e x p : ℕ} {xs : List ℕ} {b z : ℕ}
    → Seg f e x (p ∷ xs) b z → (ys : List ℕ) × (p ∷ xs ≡ ys ++ ((b - 1) ∷ []))
seg_snoc {p = p} {b = b} (seg_more u w (seg_none k l)) = let h : b - 1 ≡ p = omega arith in rw h ([], refl)
seg_snoc {p = p} (seg_more u w (seg_more k l s)) = let r = seg_snoc (seg_more k l s) in (p ∷ r.0, ap (λ (l : List ℕ). p ∷ l) r.1)

module _ {f : ℕ → Record} {n : ℕ} {l : Links} where
  last_apart : (xs : List ℕ) → Linked f n l xs → l.back ≢ 0 → xs ≡ without (l.back - 1) xs ++ ((l.back - 1) ∷ [])
  last_apart [] k e = absurd (e (seg_nil k.chain))
  last_apart (x ∷ xs) k e =
      let u = seg_snoc k.chain in
      let d : Distinct (u.0 ++ ((l.back - 1) ∷ [])) = rw u.1 at k.distinct in
      rw (u.1, without_split (distinct_unsnoc u.0 d).1 all_none, append-nil u.0)

  -- to take the last page out is to take it off the back
  pub taken : {g : ℕ → Record} {r : Links} → Sound f n l → l.back ≢ 0 → Removed f l (l.back - 1) g n r → Taken f l (l.back - 1) g n r
  taken k e a =
      record {
        pages = last_apart (pages_of f l) k e ∙ ap (λ (xs : List ℕ). xs ++ ((l.back - 1) ∷ [])) (sym a.pages);
        sound = a.sound;
        inside = back_of_lem (pages_of f l) k e k.inside;
        alone = a.alone;
        others = a.others;
        marks = a.marks;
        level = a.level;
      }
