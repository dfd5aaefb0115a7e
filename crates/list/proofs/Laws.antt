-- Laws of lists of pages over any records: of their elements, of runs linked both ways, of lists. The crates above go by these: `linked_pages` and
-- `linked_sound` pass between the pages that a caller names and those that the walk finds, and `linked_frame` keeps a list none of whose records
-- changed.
use Prim.Native.Nat.{ℕ, ◌+◌, ◌-◌, ◌<◌}
use mathlib.Core.List.{List, [], ◌∷◌, ◌++◌}
use mathlib.Core.Logic.{◌≢◌}
use mathlib.Core.Path.{◌≡◌, refl, sym, ap, ◌∙◌, subst}
use native.Mathlib.Omega.{arith}
use native.Mathlib.Decide.{ℕ_discrete}
use lib.ListN.{length}
use Rattle.definition.specs.declared.Record.{Record}
use Rattle.definition.specs.declared.Links.{Links}
use Rattle.definition.specs.World.{no_links, walk, pages_of}
use Rattle.list.specs.Linked.{All, Out, In, Apart, Distinct, Seg, Linked, Sound, Pushed}
use Rattle.list.specs.Linked.All.{all_none, all_more}
use Rattle.list.specs.Linked.Distinct.{distinct_none, distinct_more}
use Rattle.list.specs.Linked.Seg.{seg_none, seg_more}

-- ---- all

pub all_map : {P Q : ℕ → Type 0} {xs : List ℕ} → ((x : ℕ) → P x → Q x) → All P xs → All Q xs
all_map h all_none = all_none
all_map h (all_more {x = x} a rest) = all_more (h x a) (all_map h rest)

pub all_zip : {P Q R : ℕ → Type 0} {xs : List ℕ} → ((x : ℕ) → P x → Q x → R x) → All P xs → All Q xs → All R xs
all_zip h all_none all_none = all_none
all_zip h (all_more {x = x} a rest) (all_more b more) = all_more (h x a b) (all_zip h rest more)

pub all_append : {P : ℕ → Type 0} {xs ys : List ℕ} → All P xs → All P ys → All P (xs ++ ys)
all_append all_none b = b
all_append (all_more a rest) b = all_more a (all_append rest b)

pub all_left : {P : ℕ → Type 0} (xs ys : List ℕ) → All P (xs ++ ys) → All P xs
all_left [] ys a = all_none
all_left (x ∷ xs) ys (all_more a rest) = all_more a (all_left xs ys rest)

pub all_right : {P : ℕ → Type 0} (xs : List ℕ) {ys : List ℕ} → All P (xs ++ ys) → All P ys
all_right [] a = a
all_right (x ∷ xs) (all_more a rest) = all_right xs rest

pub all_head : {P : ℕ → Type 0} {x : ℕ} {xs : List ℕ} → All P (x ∷ xs) → P x
all_head (all_more a rest) = a

pub all_rest : {P : ℕ → Type 0} {x : ℕ} {xs : List ℕ} → All P (x ∷ xs) → All P xs
all_rest (all_more a rest) = rest

pub all_every : {P : ℕ → Type 0} (xs : List ℕ) → ((x : ℕ) → P x) → All P xs
all_every [] h = all_none
all_every (x ∷ xs) h = all_more (h x) (all_every xs h)

-- ---- in or out

pub out_dec : (p : ℕ) (xs : List ℕ) → Dec (Out p xs)
out_dec p [] = yes all_none
out_dec p (x ∷ xs) = step (ℕ_discrete p x) (out_dec p xs)
  where
    step : Dec (p ≡ x) → Dec (Out p xs) → Dec (Out p (x ∷ xs))
    step (yes e) d = no (λ o. all_head o e)
    step (no n) (yes o) = yes (all_more n o)
    step (no n) (no h) = no (λ o. h (all_rest o))

pub out_last : (xs : List ℕ) {p q : ℕ} → Out p (xs ++ (q ∷ [])) → p ≢ q
out_last xs o = all_head (all_right xs o)

pub in_left : {q : ℕ} (xs ys : List ℕ) → In q xs → In q (xs ++ ys)
in_left xs ys h o = h (all_left xs ys o)

pub in_snoc : {q p : ℕ} (xs : List ℕ) → In q (xs ++ (p ∷ [])) → q ≢ p → In q xs
in_snoc xs h n o = h (all_append o (all_more n all_none))

pub apart_sym : (ys : List ℕ) {xs : List ℕ} → Apart xs ys → Apart ys xs
apart_sym ys all_none = all_every ys (λ y. all_none)
apart_sym ys (all_more a rest) = all_zip (λ y b c. all_more (λ e. b (sym e)) c) a (apart_sym ys rest)

-- ---- distinct

pub distinct_snoc : {xs : List ℕ} {p : ℕ} → Distinct xs → Out p xs → Distinct (xs ++ (p ∷ []))
distinct_snoc distinct_none o = distinct_more all_none distinct_none
distinct_snoc (distinct_more a d) (all_more o os) =
    distinct_more (all_append a (all_more (λ e. o (sym e)) all_none)) (distinct_snoc d os)

pub distinct_unsnoc : (xs : List ℕ) {p : ℕ} → Distinct (xs ++ (p ∷ [])) → Distinct xs × Out p xs
distinct_unsnoc [] d = (distinct_none, all_none)
distinct_unsnoc (x ∷ xs) (distinct_more a d) =
    let r = distinct_unsnoc xs d in
    (distinct_more (all_left xs _ a) r.0, all_more (λ e. all_head (all_right xs a) (sym e)) r.1)

-- ---- runs

module _ {f : ℕ → Record} where
  pub seg_frame : {g : ℕ → Record} {e x : ℕ} {xs : List ℕ} {b z : ℕ} → All (λ (q : ℕ). g q ≡ f q) xs → Seg f e x xs b z → Seg g e x xs b z
  seg_frame all_none (seg_none u v) = seg_none u v
  seg_frame {g = g} {e = e} {x = x} {b = b} {z = z} (all_more {x = x'} {xs = xs} a rest) (seg_more u v s) =
      seg_more u (ap (λ (r : Record). r.earlier) a ∙ v) (rw (← a) at (seg_frame {e = x' + 1} rest s))

  pub seg_append : {e x : ℕ} {xs ys : List ℕ} {b m d z : ℕ} → Seg f e x xs b m → Seg f b m ys d z → Seg f e x (xs ++ ys) d z
  seg_append (seg_none u v) t = rw (u, ← v) t
  seg_append (seg_more u v s) t = seg_more u v (seg_append s t)

  pub seg_nil : {e x b z : ℕ} → Seg f e x [] b z → b ≡ e
  seg_nil (seg_none u v) = v

  pub seg_some : {e x p : ℕ} {xs : List ℕ} {b z : ℕ} → Seg f e x (p ∷ xs) b z → 0 < b
  seg_some (seg_more u v (seg_none k l)) = omega arith
  seg_some (seg_more u v (seg_more k l s)) = seg_some (seg_more k l s)

  -- what holds of each page of a run holds of the last
  pub seg_last : {P : ℕ → Type 0} {e x p : ℕ} {xs : List ℕ} {b z : ℕ} → Seg f e x (p ∷ xs) b z → All P (p ∷ xs) → P (b - 1)
  seg_last {p = p} {b = b} (seg_more u v (seg_none k l)) (all_more a rest) = let h : b - 1 ≡ p = omega arith in rw h a
  seg_last (seg_more u v (seg_more k l s)) (all_more a rest) = seg_last (seg_more k l s) rest

  pub seg_walk : {e x : ℕ} {xs : List ℕ} {b z : ℕ} → Seg f e x xs b z → walk f (length xs) x ≡ xs
  unfolding walk
  seg_walk (seg_none u v) = refl
  seg_walk {x = x} (seg_more {p = p} u v s) =
      let h : x - 1 ≡ p = omega arith in
      rw h (ap (λ (l : List ℕ). p ∷ l) (seg_walk s))

-- ---- lists

pub linked_frame
    : {f g : ℕ → Record} {n : ℕ} {l : Links} {xs : List ℕ} → All (λ (q : ℕ). g q ≡ f q) xs → Linked f n l xs → Linked g n l xs
linked_frame a k = record { chain = seg_frame a k.chain; counted = k.counted; distinct = k.distinct; inside = k.inside }

pub linked_pages : {f : ℕ → Record} {n : ℕ} {l : Links} {xs : List ℕ} → Linked f n l xs → pages_of f l ≡ xs
unfolding pages_of
linked_pages k = rw k.counted (seg_walk k.chain)

-- the list that the walk finds is sound
pub linked_sound : {f : ℕ → Record} {n : ℕ} {l : Links} {xs : List ℕ} → Linked f n l xs → Sound f n l
linked_sound k = rw (linked_pages k) k

-- the list with no page
pub linked_empty : (f : ℕ → Record) (n : ℕ) → Linked f n no_links []
linked_empty f n = record { chain = seg_none refl refl; counted = refl; distinct = distinct_none; inside = all_none }

-- the contract with a list that the caller names follows from the one with the list that the walk finds
pub pushed_linked
    : {f g : ℕ → Record} {n m : ℕ} {l r : Links} {ps xs : List ℕ} → Pushed f l ps g n r → Linked f m l xs → Linked g n r (xs ++ ps)
pushed_linked {g = g} {n = n} {r = r} {ps = ps} a k =
    subst (λ (zs : List ℕ). Linked g n r (zs ++ ps)) (linked_pages k) (subst (λ (zs : List ℕ). Linked g n r zs) a.pages a.sound)

module _ {f : ℕ → Record} {n : ℕ} {l : Links} where
  -- what holds of each page of a list holds of its back, where it has any
  pub back_of_lem : {P : ℕ → Type 0} (xs : List ℕ) → Linked f n l xs → l.back ≢ 0 → All P xs → P (l.back - 1)
  back_of_lem [] k e a = absurd (e (seg_nil k.chain))
  back_of_lem (x ∷ xs) k e a = seg_last k.chain a

  pub back_in : Sound f n l → l.back ≢ 0 → In (l.back - 1) (pages_of f l)
  back_in k e o = back_of_lem {P = λ (x : ℕ). l.back - 1 ≢ x} (pages_of f l) k e o refl

  -- a list whose back is none has no page
  pub empty : (xs : List ℕ) → Linked f n l xs → l.back ≡ 0 → xs ≡ []
  empty [] k e = refl
  empty (x ∷ xs) k e = let h = seg_some k.chain in absurd (omega arith)
