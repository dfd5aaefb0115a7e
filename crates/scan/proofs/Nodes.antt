-- The nodes of a list: what the test of one says, and that a walk that ends well met distinct unheld frames of its list.
use Rattle.std.proofs.Common.{◌≡◌, ℕ, zero, suc, ◌-◌, ◌<◌, ◌≤◌, true, not, ◌&&◌, eqb, ltb, leb, ◌⊎◌, List, [], ◌∷◌, length, sym, refl, ap, ◌∙◌, subst, inl, inr, ⊎_elim, arith, ltb-true, lt-ltb, eq-eqb, ne_eqb, eqb-true, le-leb, leb-true}
use mathlib.Core.Bool.{and_assoc}
use mathlib.Core.List.{reverse_aux}
use borrow.Author.Tests.{eqb-false, not-true}
use Rattle.definition.specs.World.{admitted_bit, allocated_bit, is_admitted, walk}
use Rattle.definition.specs.Torn.{Records, is_held_record, class_of}
use Rattle.definition.proofs.Tests.{and_left, and_right}
use Rattle.scan.specs.Sheet.{on_at, node_at, walks_at}
use Rattle.scan.proofs.Pigeon.{Mem, Distinct, BackLinked, head_number, distinct}

pub record On (f : Records) (base past k at : ℕ) : Type 0 where
  pub low : base < at
  pub high : at ≤ past
  pub admitted : admitted_bit (f (at - 1)).marks ≡ 1
  pub unheld : allocated_bit (f (at - 1)).marks ≡ 0
  pub class : class_of (f (at - 1)) ≡ k

module _ (f : Records) (base past k : ℕ) where
  pub on_facts : (at : ℕ) → on_at f base past k at ≡ true → On f base past k at
  unfolding on_at
  on_facts at t =
      let a = and_right (ltb base at) _ t in
      let b = and_right (leb at past) _ a in
      let c = and_right (is_admitted (f (at - 1))) _ b in
      record {
        low = ltb-true base at (and_left _ _ t);
        high = leb-true at past (and_left _ _ a);
        admitted = eqb-true (admitted_bit (f (at - 1)).marks) 1 (and_left _ _ b);
        unheld =
            let h = eqb-false (allocated_bit (f (at - 1)).marks) 1 (not-true (is_held_record (f (at - 1))) (and_left _ _ c)) in
            omega arith;
        class = eqb-true (class_of (f (at - 1))) k (and_right (not (is_held_record (f (at - 1)))) _ c);
      }

  pub on_test : (at : ℕ) → On f base past k at → on_at f base past k at ≡ true
  unfolding on_at
  on_test at n =
      rw (
        lt-ltb base at n.low,
        le-leb at past n.high,
        eq-eqb (admitted_bit (f (at - 1)).marks) 1 n.admitted,
        ne_eqb (allocated_bit (f (at - 1)).marks) 1 (omega arith),
        eq-eqb (class_of (f (at - 1))) k n.class,
      )

  -- a node is on the list, behind its earlier neighbour
  pub node_on : (prev at : ℕ) → node_at f base past k prev at ≡ (on_at f base past k at && eqb (f (at - 1)).earlier prev)
  unfolding node_at on_at
  node_on prev at = simp and_assoc

  pub node_facts : (prev at : ℕ) → node_at f base past k prev at ≡ true → On f base past k at
  node_facts prev at t = on_facts at (and_left _ _ (sym (node_on prev at) ∙ t))

  pub node_back : (prev at : ℕ) → node_at f base past k prev at ≡ true → (f (at - 1)).earlier ≡ prev
  node_back prev at t = eqb-true (f (at - 1)).earlier prev (and_right (on_at f base past k at) _ (sym (node_on prev at) ∙ t))

  -- a page that a walk met
  pub record Met (x : ℕ) : Type 0 where
    pub low : base ≤ x
    pub high : x < past
    pub admitted : admitted_bit (f x).marks ≡ 1
    pub unheld : allocated_bit (f x).marks ≡ 0
    pub class : class_of (f x) ≡ k

  met : (at : ℕ) → On f base past k at → Met (at - 1)
  met at n = record { low = omega arith; high = omega arith; admitted = n.admitted; unheld = n.unheld; class = n.class }

  pub walks_met : (n prev at last : ℕ) → walks_at f base past k n prev at last ≡ true → (x : ℕ) → Mem x (walk f n at) → Met x
  unfolding walks_at walk
  walks_met zero prev at last t x m = absurd m
  walks_met (suc n) prev at last t x (inl e) =
      subst (λ (y : ℕ). Met y) (sym e) (met at (node_facts prev at (and_left _ _ t)))
  walks_met (suc n) prev at last t x (inr m) =
      walks_met n at (f (at - 1)).later last (and_right (node_at f base past k prev at) _ t) x m

  back_linked : (n prev at last : ℕ) (seen : List ℕ) → walks_at f base past k n prev at last ≡ true → prev ≡ head_number seen
      → BackLinked (λ x. (f x).earlier) seen
      → BackLinked (λ x. (f x).earlier) (reverse_aux (walk f n at) seen)
  unfolding walks_at walk
  back_linked zero prev at last seen t e l = l
  back_linked (suc n) prev at last seen t e l =
      let d = node_facts prev at (and_left _ _ t) in
      let b = node_back prev at (and_left _ _ t) in
      back_linked n at (f (at - 1)).later last ((at - 1) ∷ seen) (and_right (node_at f base past k prev at) _ t) (omega arith) (b ∙ e, l)

  pub walks_distinct : (n at last : ℕ) → walks_at f base past k n 0 at last ≡ true → Distinct (reverse_aux (walk f n at) [])
  walks_distinct n at last t = distinct (λ x. (f x).earlier) (reverse_aux (walk f n at) []) (back_linked n 0 at last [] t refl tt)

pub walk_length : (f : Records) (n at : ℕ) → length (walk f n at) ≡ n
unfolding walk
walk_length f zero at = refl
walk_length f (suc n) at = ap suc (walk_length f n (f (at - 1)).later)

pub mem_reverse : (x : ℕ) (xs seen : List ℕ) → Mem x (reverse_aux xs seen) → Mem x xs ⊎ Mem x seen
mem_reverse x [] seen m = inr m
mem_reverse x (y ∷ ys) seen m = ⊎_elim (λ k. inl (inr k)) (⊎_elim (λ e. inl (inl e)) (λ k. inr k)) (mem_reverse x ys (y ∷ seen) m)

pub mem_back : (x : ℕ) (xs : List ℕ) → Mem x (reverse_aux xs []) → Mem x xs
mem_back x xs m = ⊎_elim (λ k. k) (λ k. absurd k) (mem_reverse x xs [] m)
