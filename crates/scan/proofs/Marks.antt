-- The marks and the level of a record as one number tell the frames on a list from all others where no page of the region has a mark bit
-- but those named.
use Rattle.std.proofs.Common.{◌≡◌, ℕ, ◌-◌, ◌/◌, ◌%◌, ◌<◌, ◌≤◌, Bool, true, false, cond, eqb, ltb, Some, None, refl, sym, ◌∙◌, arith, ltb-true, lt-ltb, eq-eqb, ne_eqb, le-leb, leb-true}
use native.Mathlib.Decide.{ℕ_discrete}
use Rattle.definition.specs.Basics.{bit}
use Rattle.definition.specs.World.{level_in}
use Rattle.definition.specs.Torn.{Records}
use Rattle.definition.proofs.Tests.{same_test, and_left, and_right}
use Rattle.record.specs.Records.{of_kind}
use Rattle.record.proofs.Decoding.{by_kind, to_kind}
use Rattle.scan.specs.Sheet.{Marked, kind_on, on_kind, page_on, on_at, node_at, back_node_at}
use Rattle.scan.proofs.Nodes.{on_facts, on_test, node_on}

-- ---- the frames on a list

-- the list k is of the level k / 2, and of zeroed frames where k is odd
odd_bit : (k : ℕ) → bit (eqb (k % 2) 1) ≡ k % 2
odd_bit k = go (ℕ_discrete (k % 2) 1)
  where
    go : Dec (k % 2 ≡ 1) → bit (eqb (k % 2) 1) ≡ k % 2
    go (yes e) = rw (eq-eqb (k % 2) 1 e) (sym e)
    go (no d) = rw (ne_eqb (k % 2) 1 d) (omega arith)

module _ (f : Records) (base past : ℕ) where
  pub kind_place : (n at : ℕ) → on_kind f base past n at ≡ true → (base < at) × (at ≤ past)
  unfolding on_kind
  kind_place n at t =
      let a = and_right (ltb base at) _ t in
      (ltb-true base at (and_left _ _ t), leb-true at past (and_left _ _ a))

  pub kind_in : (n at : ℕ) → base < at → at ≤ past → on_kind f base past n at ≡ of_kind n (f (at - 1))
  unfolding on_kind
  kind_in n at l h = rw (lt-ltb base at l, le-leb at past h)

  -- the page that a number names, and where it names none
  none_page : (n at : ℕ) → None ≡ page_on f base past n at → on_kind f base past n at ≡ false
  none_page n at e = go (on_kind f base past n at) e
    where
      go : (t : Bool) → None ≡ cond t (Some (at - 1)) None → t ≡ false
      go true d = cc
      go false d = refl

  pub some_page : (n at p : ℕ) → Some p ≡ page_on f base past n at → (on_kind f base past n at ≡ true) × (p ≡ at - 1)
  some_page n at p e = go (on_kind f base past n at) e
    where
      go : (t : Bool) → Some p ≡ cond t (Some (at - 1)) None → (t ≡ true) × (p ≡ at - 1)
      go true d = (refl, cc)
      go false d = absurd (cc)

  pub page_within : (n at p : ℕ) → Some p ≡ page_on f base past n at → (base ≤ p) × (p < past)
  page_within n at p e =
      let s = some_page n at p e in
      let d = kind_place n at s.0 in
      (omega arith, omega arith)

  module _ (k : ℕ) (marked : Marked f base past) where
    kind_on_lem : (at : ℕ) → on_kind f base past (kind_on k) at ≡ on_at f base past k at
    kind_on_lem at =
        same_test
        (λ t.
        let p = kind_place (kind_on k) at t in
        let s = marked (at - 1) (omega arith) (omega arith) in
        let d = by_kind (f (at - 1)) s (k / 2) (eqb (k % 2) 1) (sym (kind_in (kind_on k) at p.0 p.1) ∙ t) in
        on_test f base past k at
        (record { low = p.0; high = p.1; admitted = d.0; unheld = d.1; class = omega (arith, d.2, d.3, odd_bit k) }))
        (λ t.
        let d = on_facts f base past k at t in
        let s = marked (at - 1) (omega arith) (omega arith) in
        let l : level_in (f (at - 1)).level ≡ k / 2 = omega (arith, d.class) in
        kind_in (kind_on k) at d.low d.high
        ∙ to_kind (f (at - 1)) s (k / 2) (eqb (k % 2) 1) d.admitted d.unheld l (omega (arith, d.class, odd_bit k)))

    module _ (n : ℕ) (e : n ≡ kind_on k) where
      on_same : (at : ℕ) → on_at f base past k at ≡ on_kind f base past n at
      on_same at = rw e (sym (kind_on_lem at))

      -- a node at the front, by the page that its number names
      pub no_node : (prev at : ℕ) → None ≡ page_on f base past n at → node_at f base past k prev at ≡ false
      no_node prev at h = node_on f base past k prev at ∙ rw (on_same at, none_page n at h)

      pub node_page : (prev at p : ℕ) → Some p ≡ page_on f base past n at → node_at f base past k prev at ≡ eqb (f p).earlier prev
      node_page prev at p h = let s = some_page n at p h in node_on f base past k prev at ∙ rw (on_same at, s.0, s.1)

      -- and one at the back
      pub no_back_node : (at next : ℕ) → None ≡ page_on f base past n at → back_node_at f base past k at next ≡ false
      no_back_node at next h = rw (on_same at, none_page n at h)

      pub back_page : (at next p : ℕ) → Some p ≡ page_on f base past n at → back_node_at f base past k at next ≡ eqb (f p).later next
      back_page at next p h = let s = some_page n at p h in rw (on_same at, s.0, s.1)
