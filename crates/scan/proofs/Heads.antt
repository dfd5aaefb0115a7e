-- The heads of a region: what the test of one says, how stepping from one leads to the next, and that each page of a tiled region is a head
-- or inside of one.
use Rattle.std.proofs.Common.{◌≡◌, ℕ, zero, suc, ◌+◌, ◌-◌, ◌%◌, ◌<◌, ◌≤◌, Bool, true, false, cond, ◌&&◌, eqb, ltb, leb, ◌⊎◌, List, [], ◌∷◌, Some, None, sym, refl, ap, ◌∙◌, subst, inl, inr, ⊎_elim, arith, ltb-true, lt-ltb, eqb-true, le-leb, leb-true}
use native.Mathlib.Decide.{ℕ_discrete, dec_le, dec_lt}
use borrow.Author.Tests.{lt-leb}
use Rattle.std.proofs.lemmas.Bool.Decides.{nat_tests}
use Rattle.definition.specs.declared.Record.{Record}
use Rattle.definition.specs.Basics.{all, range}
use Rattle.definition.specs.Frame.{size, levels}
use Rattle.definition.specs.World.{admitted_bit, admitted_in, named_marks, level_in, is_admitted}
use Rattle.definition.specs.Torn.{Records, is_blank, pages_of_record, heads_from}
use Rattle.definition.proofs.Tests.{and_left, and_right, range_in}
use Rattle.level.proofs.Sizes.{size_positive}
use Rattle.scan.specs.Sheet.{head_at, head_pages, heads_of, tiled_at, Marked}
use Rattle.scan.proofs.Pigeon.{Mem, Distinct}
use Rattle.scan.proofs.Members.{all_in}

-- ---- one head

pub record Head (f : Records) (from base past h : ℕ) : Type 0 where
  pub admitted : admitted_bit (f h).marks ≡ 1
  pub known : (f h).marks < named_marks
  pub level : level_in (f h).level < levels
  pub aligned : (from + (h - base)) % size (level_in (f h).level) ≡ 0
  pub fits : h + size (level_in (f h).level) ≤ past
  pub inside : (q : ℕ) → h < q → q < h + size (level_in (f h).level) → is_blank (f q) ≡ true

module _ (f : Records) (from base past h : ℕ) where
  pub head_facts : head_at f from base past h ≡ true → Head f from base past h
  unfolding head_at
  head_facts t =
      let a = and_right (is_admitted (f h)) _ t in
      let b = and_right (ltb (f h).marks named_marks) _ a in
      let c = and_right (ltb (level_in (f h).level) levels) _ b in
      let d = and_right (eqb ((from + (h - base)) % size (level_in (f h).level)) 0) _ c in
      let e = and_right (leb (h + size (level_in (f h).level)) past) _ d in
      record {
        admitted = eqb-true (admitted_bit (f h).marks) 1 (and_left _ _ t);
        known = ltb-true (f h).marks named_marks (and_left _ _ a);
        level = ltb-true (level_in (f h).level) levels (and_left _ _ b);
        aligned = eqb-true ((from + (h - base)) % size (level_in (f h).level)) 0 (and_left _ _ c);
        fits = leb-true (h + size (level_in (f h).level)) past (and_left _ _ d);
        inside = λ q l k. range_in (λ q. is_blank (f q)) (h + 1) (size (level_in (f h).level) - 1) e q (omega arith) (omega arith);
      }

  -- a frame of one page has nothing inside
  pub head_small : admitted_bit (f h).marks ≡ 1 → (f h).marks < named_marks → level_in (f h).level ≡ 0 → h < past
      → head_at f from base past h ≡ true
  unfolding head_at all range
  head_small a k z l =
      let one : size (level_in (f h).level) ≡ 1 = ap size z in
      rw one (grind (arith, nat_tests))

  -- ---- its pages

  -- by what was read: the marks m and the level l of p pages
  pub head_read : (m l p : ℕ) → m ≡ (f h).marks → l ≡ level_in (f h).level → p ≡ size l
      → head_pages f from base past h
      ≡ cond
      (admitted_in m
      && (ltb m named_marks
      && (ltb l levels
      && (eqb ((from + (h - base)) % p) 0 && (leb (h + p) past && all (λ q. is_blank (f q)) (range (h + 1) (p - 1)))))))
      (Some p) None
  unfolding head_pages head_at
  head_read m l p em el ep = rw (ep, em, el)

  pub none_pages : None ≡ head_pages f from base past h → head_at f from base past h ≡ false
  unfolding head_pages
  none_pages e = go (head_at f from base past h) e
    where
      go : (t : Bool) → None ≡ cond t (Some (size (level_in (f h).level))) None → t ≡ false
      go true d = cc
      go false d = refl

  pub some_pages : (p : ℕ) → Some p ≡ head_pages f from base past h
      → (head_at f from base past h ≡ true) × (p ≡ size (level_in (f h).level))
  unfolding head_pages
  some_pages p e = go (head_at f from base past h) e
    where
      go : (t : Bool) → Some p ≡ cond t (Some (size (level_in (f h).level))) None → (t ≡ true) × (p ≡ size (level_in (f h).level))
      go true d = (refl, cc)
      go false d = absurd (cc)

  -- they are of the region
  pub pages_within : (p : ℕ) → Some p ≡ head_pages f from base past h → (0 < p) × (h + p ≤ past)
  pages_within p e =
      let q = some_pages p e in
      let d = head_facts q.0 in
      (omega (arith, q.1, size_positive (level_in (f h).level)), omega (arith, q.1, d.fits))

pub pages_small : (r : Record) → level_in r.level < levels → pages_of_record r ≡ size (level_in r.level)
pages_small r l = rw (lt-ltb (level_in r.level) levels l)

pages_positive : (r : Record) → 0 < pages_of_record r
pages_positive r = go (ltb (level_in r.level) levels)
  where
    go : (t : Bool) → 0 < cond t (size (level_in r.level)) 1
    go true = size_positive (level_in r.level)
    go false = omega arith

-- ---- stepping

module _ (f : Records) (past : ℕ) where
  heads_stop : (n at : ℕ) → past ≤ at → heads_from f n at past ≡ []
  unfolding heads_from
  heads_stop zero at h = refl
  heads_stop (suc n) at h = rw (le-leb past at h)

  heads_go : (n at : ℕ) → at < past → heads_from f (suc n) at past ≡ at ∷ heads_from f n (at + pages_of_record (f at)) past
  unfolding heads_from
  heads_go n at h = rw (lt-leb past at h)

  fuel : (m n at : ℕ) → past - at ≤ m → past - at ≤ n → heads_from f m at past ≡ heads_from f n at past
  fuel zero n at a b = heads_stop zero at (omega arith) ∙ sym (heads_stop n at (omega arith))
  fuel (suc m) zero at a b = heads_stop (suc m) at (omega arith) ∙ sym (heads_stop zero at (omega arith))
  fuel (suc m) (suc n) at a b = go (dec_le past at) (λ c d. fuel m n (at + pages_of_record (f at)) c d)
    where
      next : ℕ
      next = at + pages_of_record (f at)

      go : Dec (past ≤ at) → (past - next ≤ m → past - next ≤ n → heads_from f m next past ≡ heads_from f n next past)
          → heads_from f (suc m) at past ≡ heads_from f (suc n) at past
      go (yes h) more = heads_stop (suc m) at h ∙ sym (heads_stop (suc n) at h)
      go (no h) more =
          let p = pages_positive (f at) in
          heads_go m at (omega arith) ∙ ap (λ (l : List ℕ). at ∷ l) (more (omega arith) (omega arith)) ∙ sym (heads_go n at (omega arith))

  pub heads_end : (at : ℕ) → past ≤ at → heads_from f (past - at) at past ≡ []
  heads_end at h = heads_stop (past - at) at h

  pub heads_step : (at s : ℕ) → at < past → s ≡ pages_of_record (f at)
      → heads_from f (past - at) at past ≡ at ∷ heads_from f (past - (at + s)) (at + s) past
  heads_step at s h e =
      let p = pages_positive (f at) in
      let n = past - at - 1 in
      let k : past - at ≡ suc n = omega arith in
      let next = at + pages_of_record (f at) in
      rw (k, e) (heads_go n at h ∙ ap (λ (l : List ℕ). at ∷ l) (fuel n (past - next) next (omega arith) (omega arith)))

  -- hs are met by stepping from `at`
  abbrev pub Steps : ℕ → List ℕ → Type 0
  Steps at [] = past ≤ at
  Steps at (h ∷ hs) = (h ≡ at) × (at < past) × Steps (at + pages_of_record (f at)) hs

  pub steps_of : (n at : ℕ) → past - at ≤ n → Steps at (heads_from f n at past)
  steps_of zero at h = subst (λ (l : List ℕ). Steps at l) (sym (heads_stop zero at (omega arith))) (omega arith)
  steps_of (suc n) at h = go (dec_le past at) (λ k. steps_of n (at + pages_of_record (f at)) k)
    where
      next : ℕ
      next = at + pages_of_record (f at)

      go : Dec (past ≤ at) → (past - next ≤ n → Steps next (heads_from f n next past)) → Steps at (heads_from f (suc n) at past)
      go (yes k) more = subst (λ (l : List ℕ). Steps at l) (sym (heads_stop (suc n) at k)) k
      go (no k) more =
          let p = pages_positive (f at) in
          subst (λ (l : List ℕ). Steps at l) (sym (heads_go n at (omega arith))) (refl, omega arith, more (omega arith))

  steps_low : (at x : ℕ) (hs : List ℕ) → Steps at hs → Mem x hs → at ≤ x
  steps_low at x [] t m = absurd m
  steps_low at x (h ∷ hs) t (inl e) = omega (arith, t.0)
  steps_low at x (h ∷ hs) t (inr m) = omega (arith, steps_low (at + pages_of_record (f at)) x hs t.2 m)

  pub steps_distinct : (at : ℕ) (hs : List ℕ) → Steps at hs → Distinct hs
  steps_distinct at [] t = tt
  steps_distinct at (h ∷ hs) t =
      let next = at + pages_of_record (f at) in
      (λ m. omega (arith, t.0, pages_positive (f at), steps_low next h hs t.2 m), steps_distinct next hs t.2)

-- ---- tiled

blank_marks : (r : Record) → is_blank r ≡ true → r.marks ≡ 0
blank_marks r t = eqb-true r.marks 0 (and_left _ _ t)

module _ (f : Records) (from base past : ℕ) where
  -- each page is a head, or inside of one
  head_or_blank : (at x : ℕ) (hs : List ℕ) → Steps f past at hs → all (head_at f from base past) hs ≡ true
      → at ≤ x → x < past → Mem x hs ⊎ (is_blank (f x) ≡ true)
  unfolding all
  head_or_blank at x [] s t l u = absurd (omega arith)
  head_or_blank at x (h ∷ hs) s t l u =
      go (ℕ_discrete x at) (dec_lt x (at + pages_of_record (f at)))
      (λ k. head_or_blank (at + pages_of_record (f at)) x hs s.2 (and_right (head_at f from base past h) _ t) k u)
    where
      first : Head f from base past at
      first = head_facts f from base past at (subst (λ (y : ℕ). head_at f from base past y ≡ true) s.0 (and_left _ _ t))

      go : Dec (x ≡ at) → Dec (x < at + pages_of_record (f at)) → (at + pages_of_record (f at) ≤ x → Mem x hs ⊎ (is_blank (f x) ≡ true))
          → Mem x (h ∷ hs) ⊎ (is_blank (f x) ≡ true)
      go (yes e) d more = inl (inl (omega (arith, s.0)))
      go (no n) (yes k) more = let p = pages_small (f at) first.level in inr (first.inside x (omega arith) (omega arith))
      go (no n) (no k) more = ⊎_elim (λ m. inl (inr m)) (λ b. inr b) (more (omega arith))

  pub admitted_head : (at x : ℕ) (hs : List ℕ) → Steps f past at hs → all (head_at f from base past) hs ≡ true
      → at ≤ x → x < past → admitted_bit (f x).marks ≡ 1 → Mem x hs
  admitted_head at x hs s t l u a =
      ⊎_elim (λ m. m) (λ b. absurd (omega (arith, blank_marks (f x) b))) (head_or_blank at x hs s t l u)

  pub tiled_marked : tiled_at f from base past ≡ true → Marked f base past
  unfolding tiled_at
  tiled_marked t x l u =
      let hs = heads_of f base past in
      ⊎_elim
      (λ m. (head_facts f from base past x (all_in (head_at f from base past) hs t x m)).known)
      (λ b. omega (arith, blank_marks (f x) b))
      (head_or_blank base x hs (steps_of f past (past - base) base (omega arith)) t l u)
