-- The walk of a list from both ends. What lies between the ends is tested alike whether the next node is taken off the front or off the
-- back, on any records: rings and numbers of no page too.
use Rattle.std.proofs.Common.{
  ◌≡◌,
  ℕ,
  zero,
  suc,
  ◌-◌,
  ◌<◌,
  Bool,
  true,
  false,
  ◌&&◌,
  eqb,
  List,
  get_or,
  Some,
  None,
  sym,
  refl,
  ap,
  ◌∙◌,
  arith,
  eq-eqb,
  ne_eqb,
  eqb-true,
}
use mathlib.Core.Bool.{and-false, and_comm}
use native.Mathlib.Decide.{ℕ_discrete}
use Rattle.definition.specs.declared.Links.{Links}
use Rattle.definition.specs.World.{no_links}
use Rattle.definition.specs.Torn.{Records, is_no_links}
use Rattle.definition.proofs.Tests.{same_test, and_left, and_right, and-true}
use Rattle.scan.specs.Sheet.{Marked, kind_on, page_on, on_at, node_at, back_node_at, walks_at, list_at}
use Rattle.scan.proofs.Members.{and_pairs}
use Rattle.scan.proofs.Marks.{some_page, no_node, node_page, no_back_node, back_page}
use Rattle.scan.proofs.Nodes.{node_on}

and_swap : (a b c : Bool) → (a && (b && c)) ≡ (b && (a && c))
and_swap true b c = refl
and_swap false true c = refl
and_swap false false c = refl

eqb_swap : (a b : ℕ) → eqb a b ≡ eqb b a
eqb_swap a b = same_test (λ t. eq-eqb b a (sym (eqb-true a b t))) (λ t. eq-eqb a b (sym (eqb-true b a t)))

-- beside the test that two numbers are one, other tests may be of either
same_at : (g h : ℕ → Bool) (a b : ℕ) → (g a && (eqb a b && h a)) ≡ (g b && (eqb a b && h b))
same_at g h a b = go (ℕ_discrete a b)
  where
    go : Dec (a ≡ b) → (g a && (eqb a b && h a)) ≡ (g b && (eqb a b && h b))
    go (yes e) = rw e
    go (no n) = rw (ne_eqb a b n) (and-false (g a) ∙ sym (and-false (g b)))

module _ (f : Records) (base past k : ℕ) where
  -- n nodes, from the number `at`, behind prev, to the number last, before next
  pub between : (n prev at next last : ℕ) → Bool
  between zero prev at next last = eqb at next && eqb prev last
  between (suc n) prev at next last = node_at f base past k prev at && between n at (f (at - 1)).later next last

  pub walks_between : (n prev at last : ℕ) → walks_at f base past k n prev at last ≡ between n prev at 0 last
  unfolding walks_at between
  walks_between zero prev at last = refl
  walks_between (suc n) prev at last = ap (λ (t : Bool). node_at f base past k prev at && t) (walks_between n at (f (at - 1)).later last)

  -- the node at the back instead of the front; where there is only one, each end tests one of its neighbours and the meeting the other
  off_back : (n prev at next last : ℕ)
      → between (suc n) prev at next last ≡ (back_node_at f base past k last next && between n prev at last (f (last - 1)).earlier)
  unfolding between
  off_back zero prev at next last =
      ap (λ (t : Bool). t && (eqb (f (at - 1)).later next && eqb at last)) (node_on f base past k prev at)
      ∙ and_pairs (on_at f base past k at) (eqb (f (at - 1)).earlier prev) (eqb (f (at - 1)).later next) (eqb at last)
      ∙ ap (λ (t : Bool). back_node_at f base past k at next && t) (and_comm (eqb (f (at - 1)).earlier prev) (eqb at last))
      ∙ same_at (λ x. back_node_at f base past k x next) (λ x. eqb (f (x - 1)).earlier prev) at last
      ∙ ap (λ (t : Bool). back_node_at f base past k last next && (eqb at last && t)) (eqb_swap (f (last - 1)).earlier prev)
  off_back (suc n) prev at next last =
      ap (λ (t : Bool). node_at f base past k prev at && t) (off_back n at (f (at - 1)).later next last)
      ∙ and_swap (node_at f base past k prev at) (back_node_at f base past k last next) _

  -- by how many nodes are left: none, or some, or one for each end
  pub between_none : (n prev at next last : ℕ) → n ≡ 0 → between n prev at next last ≡ (eqb at next && eqb prev last)
  unfolding between
  between_none n prev at next last e = rw e

  front_off : (n prev at next last : ℕ) → 0 < n
      → between n prev at next last ≡ (node_at f base past k prev at && between (n - 1) at (f (at - 1)).later next last)
  unfolding between
  front_off zero prev at next last l = absurd (omega arith)
  front_off (suc n) prev at next last l = let e : suc n - 1 ≡ n = omega arith in rw e

  back_off : (n prev at next last : ℕ) → 0 < n
      → between n prev at next last ≡ (back_node_at f base past k last next && between (n - 1) prev at last (f (last - 1)).earlier)
  back_off zero prev at next last l = absurd (omega arith)
  back_off (suc n) prev at next last l = let e : suc n - 1 ≡ n = omega arith in rw e (off_back n prev at next last)

  -- by the page that the number at an end names, where no page of the region has a mark bit but those named
  module _ (marked : Marked f base past) (kind : ℕ) (e : kind ≡ kind_on k) where
    pub no_front : (n prev at next last : ℕ) → 0 < n → None ≡ page_on f base past kind at → between n prev at next last ≡ false
    no_front n prev at next last l h = front_off n prev at next last l ∙ rw (no_node f base past k marked kind e prev at h)

    pub no_back : (n prev at next last : ℕ) → 0 < n → None ≡ page_on f base past kind last → between n prev at next last ≡ false
    no_back n prev at next last l h = back_off n prev at next last l ∙ rw (no_back_node f base past k marked kind e last next h)

    front_step : (n prev at next last p : ℕ) → 0 < n → Some p ≡ page_on f base past kind at
        → between n prev at next last ≡ (eqb (f p).earlier prev && between (n - 1) at (f p).later next last)
    front_step n prev at next last p l h =
        let q = (some_page f base past kind at p h).1 in
        front_off n prev at next last l ∙ rw (node_page f base past k marked kind e prev at p h, ← q)

    back_step : (n prev at next last p : ℕ) → 0 < n → Some p ≡ page_on f base past kind last
        → between n prev at next last ≡ (eqb (f p).later next && between (n - 1) prev at last (f p).earlier)
    back_step n prev at next last p l h =
        let q = (some_page f base past kind last p h).1 in
        back_off n prev at next last l ∙ rw (back_page f base past k marked kind e last next p h, ← q)

    -- the one node that is left
    pub one_step : (n prev at next last p : ℕ) → n ≡ 1 → Some p ≡ page_on f base past kind at
        → between n prev at next last ≡ (eqb (f p).earlier prev && (eqb (f p).later next && eqb at last))
    one_step n prev at next last p l h =
        front_step n prev at next last p (omega arith) h ∙ rw (between_none (n - 1) at (f p).later next last (omega arith))

    -- a node off each end
    pub both_step : (n prev at next last p q : ℕ) → 1 < n → Some p ≡ page_on f base past kind at → Some q ≡ page_on f base past kind last
        → between n prev at next last
        ≡ (eqb (f p).earlier prev && (eqb (f q).later next && between (n - 2) at (f p).later last (f q).earlier))
    both_step n prev at next last p q l g h =
        let two : n - 1 - 1 ≡ n - 2 = omega arith in
        front_step n prev at next last p (omega arith) g
        ∙ ap (λ (t : Bool). eqb (f p).earlier prev && t) (back_step (n - 1) at (f p).later next last q (omega arith) h ∙ rw two)

-- the list k of a row's, read out by itself
module _ (f : Records) (base past : ℕ) (lists : List Links) (k : ℕ) (l : Links) (e : l ≡ get_or lists k no_links) where
  pub list_walks_lem : walks_at f base past k l.count 0 l.front l.back ≡ list_at f base past lists k
  list_walks_lem = ap (λ (x : Links). walks_at f base past k x.count 0 x.front x.back) e

  -- an empty one walks
  pub none_walks : is_no_links l ≡ true → list_at f base past lists k ≡ true
  none_walks n =
      let b = and_right (eqb l.front 0) _ n in
      let front = and_left (eqb l.front 0) _ n in
      let back = and_left (eqb l.back 0) _ b in
      sym list_walks_lem
      ∙ walks_between f base past k l.count 0 l.front l.back
      ∙ between_none f base past k l.count 0 l.front 0 l.back (eqb-true l.count 0 (and_right (eqb l.back 0) _ b))
      ∙ and-true front (eqb_swap 0 l.back ∙ back)
