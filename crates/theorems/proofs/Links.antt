-- A list without repeats is linked by what stands before and after each of its pages: records that say so walk it both ways. A reader takes from here
-- `seg_of`, the run that `earlier_in` and `later_in` make, and `walks_of`, that the torn sheet's walk of it passes.
use Prim.Native.Nat.{ℕ, ◌+◌, ◌-◌, ◌/◌, ◌%◌, ◌≤◌, ◌<◌}
use mathlib.Core.Bool.{Bool, true, false, not, cond, ◌||◌}
use mathlib.Core.List.{List, [], ◌∷◌, map}
use mathlib.Core.Path.{◌≡◌, refl, sym, ap, subst}
use native.Mathlib.Omega.{arith}
use borrow.Author.Tests.{eq-eqb, ne_eqb, lt-ltb, le-leb, eqb-true}
use lib.Dec.{eqb}
use lib.ListN.{length}
use Rattle.definition.specs.declared.Record.{Record}
use Rattle.definition.specs.Basics.{any, bit, member}
use Rattle.definition.specs.Board.{Board}
use Rattle.definition.specs.World.{front_of, back_of, earlier_in, later_in, pages_of, links_of}
use Rattle.definition.specs.Torn.{Placed, past, walks}
use Rattle.definition.proofs.Tests.{and-true}
use Rattle.list.specs.Linked.{All, Distinct, Out, Seg}
use Rattle.list.specs.Linked.All.{all_none, all_more}
use Rattle.list.specs.Linked.Distinct.{distinct_none, distinct_more}
use Rattle.list.specs.Linked.Seg.{seg_none, seg_more}
use Rattle.list.proofs.Laws.{all_zip, seg_walk}
use Rattle.scan.proofs.Members.{or_else}
use Rattle.scan.proofs.Nodes.{Met}
use Rattle.bookkeeping.specs.Good.{times}

-- the record of q has the neighbours that the list says, behind `before`
pub record Neighbours (f : ℕ → Record) (before : ℕ) (xs : List ℕ) (q : ℕ) : Type 0 where
  pub earlier : (f q).earlier ≡ earlier_in before q xs
  pub later : (f q).later ≡ later_in q xs

pub seg_of : {f : ℕ → Record} (before : ℕ) {xs : List ℕ} → Distinct xs → All (λ (q : ℕ). Neighbours f before xs q) xs → Seg f before (front_of xs) xs (back_of before xs) 0
unfolding earlier_in later_in back_of
seg_of before distinct_none all_none = seg_none refl refl
seg_of {f} before (distinct_more {x = x} {xs = xs} o d) (all_more n more) =
    let before-it : (f x).earlier ≡ before = rw (eq-eqb x x refl) at n.earlier in
    let behind-it : (f x).later ≡ front_of xs = rw (eq-eqb x x refl) at n.later in
    seg_more refl before-it
    (subst (λ (y : ℕ). Seg f (x + 1) y xs (back_of (x + 1) xs) 0) (sym behind-it)
    (seg_of (x + 1) d (all_zip (λ q m a. record { earlier = rw (ne_eqb x q m) at a.earlier; later = rw (ne_eqb x q m) at a.later }) o more)))

-- the walk from the front finds the list
pub pages_of_lem : {f : ℕ → Record} {xs : List ℕ} → Seg f 0 (front_of xs) xs (back_of 0 xs) 0 → pages_of f (links_of xs) ≡ xs
unfolding pages_of
pages_of_lem s = seg_walk s

module _ (board : Board) where
  pub walks_of : {f : ℕ → Record} (x : Placed) {k prev at last : ℕ} {xs : List ℕ} → Seg f prev at xs last 0
      → All (λ (q : ℕ). Met f x.base (past board x) k q) xs → walks board f x k (length xs) prev at last ≡ true
  unfolding walks
  walks_of x (seg_none u v) all_none = and-true (eq-eqb _ _ u) (eq-eqb _ _ (sym v))
  walks_of {f} x (seg_more {p = p} {xs = xs} u v s) (all_more m more) =
      rw u
      (let e : p + 1 - 1 ≡ p = omega arith in
      let unheld : not (eqb ((f p).marks / 2 % 2) 1) ≡ true = rw (ne_eqb ((f p).marks / 2 % 2) 1 (omega (arith, m.unheld))) in
      rw e
      (and-true
      (and-true (lt-ltb x.base (p + 1) (omega (arith, m.low)))
      (and-true (le-leb (p + 1) (past board x) (omega (arith, m.high)))
      (and-true (eq-eqb ((f p).marks % 2) 1 m.admitted)
      (and-true unheld (and-true (eq-eqb _ _ m.class) (eq-eqb _ _ v))))))
      (walks_of x s more)))

-- ---- bounds

pub earlier_bound : (n e q : ℕ) {xs : List ℕ} → e ≤ n → All (λ (x : ℕ). x < n) xs → earlier_in e q xs ≤ n
unfolding earlier_in
earlier_bound n e q h all_none = omega arith
earlier_bound n e q h (all_more {x = x} {xs = xs} a more) = go (eqb x q) (earlier_bound n (x + 1) q (omega arith) more)
  where
    go : (t : Bool) → earlier_in (x + 1) q xs ≤ n → cond t e (earlier_in (x + 1) q xs) ≤ n
    go true i = h
    go false i = i

front_bound : (n : ℕ) {xs : List ℕ} → All (λ (x : ℕ). x < n) xs → front_of xs ≤ n
front_bound n all_none = omega arith
front_bound n (all_more a more) = omega arith

pub later_bound : (n q : ℕ) {xs : List ℕ} → All (λ (x : ℕ). x < n) xs → later_in q xs ≤ n
unfolding later_in
later_bound n q all_none = omega arith
later_bound n q (all_more {x = x} {xs = xs} a more) = go (eqb x q) (later_bound n q more)
  where
    go : (t : Bool) → later_in q xs ≤ n → cond t (front_of xs) (later_in q xs) ≤ n
    go true i = front_bound n more
    go false i = i

-- ---- a list whose pages are numbered anew

module _ (g : ℕ → ℕ) (P : ℕ → Type 0) (alone : (p q : ℕ) → P p → P q → g p ≡ g q → p ≡ q) where
  out_of : (p : ℕ) → P p → {xs : List ℕ} → All P xs → times p xs ≡ 0 → Out (g p) (map g xs)
  unfolding times
  out_of p i all_none e = all_none
  out_of p i (all_more {x = x} {xs = xs} j more) e =
      all_more (λ k. differ (alone p x i j k)) (out_of p i more (omega arith))
    where
      differ : p ≡ x → ⊥
      differ k = let b : bit (eqb p x) ≡ 1 = ap bit (eq-eqb p x k) in omega arith

  pub distinct_of : {xs : List ℕ} → All P xs → ((p : ℕ) → times p xs ≤ 1) → Distinct (map g xs)
  unfolding times
  distinct_of all_none h = distinct_none
  distinct_of (all_more {x = x} {xs = xs} i more) h =
      let b : bit (eqb x x) ≡ 1 = ap bit (eq-eqb x x refl) in
      distinct_more (out_of x i more (omega (arith, h x))) (distinct_of more (λ p. omega (arith, h p)))

pub all_numbered : (g : ℕ → ℕ) {P Q : ℕ → Type 0} {xs : List ℕ} → ((x : ℕ) → P x → Q (g x)) → All P xs → All Q (map g xs)
all_numbered g h all_none = all_none
all_numbered g h (all_more {x = x} a more) = all_more {x = g x} (h x a) (all_numbered g h more)

pub member_numbered : (g : ℕ → ℕ) (p : ℕ) (xs : List ℕ) → member p xs ≡ true → member (g p) (map g xs) ≡ true
unfolding member any
member_numbered g p [] e = e
member_numbered g p (x ∷ xs) e = go (eqb p x) refl e (member_numbered g p xs)
  where
    go : (t : Bool) → eqb p x ≡ t → t || member p xs ≡ true → (member p xs ≡ true → member (g p) (map g xs) ≡ true)
        → eqb (g p) (g x) || member (g p) (map g xs) ≡ true
    go true i j more = rw (eq-eqb (g p) (g x) (ap g (eqb-true p x i)))
    go false i j more = or_else (eqb (g p) (g x)) (member (g p) (map g xs)) (λ n. more j)
