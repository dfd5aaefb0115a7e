-- Words that are zeros: a row read of words is an unused one just where its eleven words are, and a level's lists are empty just where their
-- three words are. Of the rows from one on those in use decide, as the rows behind them are unused.
use Prim.Native.Nat.{ℕ, zero, suc, ◌+◌, ◌*◌, ◌-◌, min, ◌≤◌, ◌<◌}
use mathlib.Core.Bool.{Bool, true, false, ◌&&◌}
use mathlib.Core.List.{List, [], ◌∷◌}
use mathlib.Core.Path.{◌≡◌, refl, sym, ap, ap₂, ◌∙◌}
use borrow.Author.Tests.{eqb-true, eq-eqb}
use native.Mathlib.Nat.{add-zero, zero-add, sub-zero}
use native.Mathlib.Omega.{arith}
use native.Mathlib.Decide.{dec_lt}
use lib.Dec.{eqb}
use lib.ListN.{length, get_or, take, drop, replicate, length-take, get_or-replicate}
use lib.Seq.{get_or-take, get_or-drop}
use Rattle.std.proofs.Math.Bool.{and_assoc}
use Rattle.std.specs.List.{fold, list_all, range_with_len}
use Rattle.definition.specs.declared.Links.{Links}
use Rattle.definition.specs.declared.Row.{Row}
use Rattle.definition.specs.Basics.{all}
use Rattle.definition.specs.Torn.{is_no_links, is_no_row}
use Rattle.definition.specs.World.{no_links, no_row}
use Rattle.definition.proofs.Tests.{same_test, and_left, and_right, and-true}
use Rattle.words.specs.Words.{InUse, is_zero, word_in, first_in, second_in, pair_words, list_in, row_in, rows_from, rows_in, row_of, row_words, used_in}
use Rattle.words.proofs.Reading.{pair_again, pair_same, row_same, row_used, row_unused, word_again}
use Rattle.words.proofs.Places.{place, list_place}

-- ---- words that are zeros

pub zeros_folded : (t : Bool) (xs : List ℕ) → fold (λ zeros w. zeros && is_zero w) t xs ≡ (t && all is_zero xs)
unfolding all
zeros_folded true [] = refl
zeros_folded false [] = refl
zeros_folded t (x ∷ xs) = zeros_folded (t && is_zero x) xs ∙ and_assoc t (is_zero x) (all is_zero xs)

each_zero : (xs : List ℕ) → all is_zero xs ≡ true → (k : ℕ) → get_or xs k 0 ≡ 0
unfolding all
each_zero [] e k = refl
each_zero (x ∷ xs) e zero = eqb-true x 0 (and_left _ _ e)
each_zero (x ∷ xs) e (suc k) = each_zero xs (and_right (is_zero x) _ e) k

all_zeros : (xs : List ℕ) → ((k : ℕ) → k < length xs → get_or xs k 0 ≡ 0) → all is_zero xs ≡ true
unfolding all
all_zeros [] h = refl
all_zeros (x ∷ xs) h = and-true (eq-eqb x 0 (h 0 (omega arith))) (all_zeros xs (λ k l. h (suc k) (omega (arith, l))))

-- of the n words from a place on
module _ (ws : List ℕ) (at n : ℕ) where
  part : (k : ℕ) → k < n → get_or (take n (drop at ws)) k 0 ≡ word_in ws (at + k)
  part k l = get_or-take n (drop at ws) k 0 l ∙ get_or-drop at ws k 0

  zeros_in : all is_zero (take n (drop at ws)) ≡ true → (k : ℕ) → k < n → word_in ws (at + k) ≡ 0
  zeros_in e k l = sym (part k l) ∙ each_zero (take n (drop at ws)) e k

  in_zeros : ((k : ℕ) → k < n → word_in ws (at + k) ≡ 0) → all is_zero (take n (drop at ws)) ≡ true
  in_zeros h =
      all_zeros (take n (drop at ws)) (λ k l.
      let m : k < n = omega (arith, l, length-take n (drop at ws)) in part k m ∙ h k m)

no_links_lem : (l : Links) → is_no_links l ≡ true → l ≡ no_links
no_links_lem l e =
    let f : l.front ≡ 0 = eqb-true _ _ (and_left _ _ e) in
    let r = and_right (eqb l.front 0) _ e in
    let b : l.back ≡ 0 = eqb-true _ _ (and_left _ _ r) in
    let n : l.count ≡ 0 = eqb-true _ _ (and_right (eqb l.back 0) _ r) in
    rw (f, b, n) refl

no_lists : (ls : List Links) → all is_no_links ls ≡ true → (k : ℕ) → get_or ls k no_links ≡ no_links
unfolding all
no_lists [] e k = refl
no_lists (l ∷ ls) e zero = no_links_lem l (and_left _ _ e)
no_lists (l ∷ ls) e (suc k) = no_lists ls (and_right (is_no_links l) _ e) k

-- two lists in three words
three_zeros : (ws : List ℕ) (at : ℕ) → all is_zero (take 3 (drop at ws)) ≡ (is_no_links (first_in ws at) && is_no_links (second_in ws at))
three_zeros ws at =
    same_test
    (λ e. let p = pair_same ws [] at 0 (zeros_in ws at 3 e) in ap₂ (λ (a b : Links). is_no_links a && is_no_links b) p.0 p.1)
    (λ e.
    let a : first_in ws at ≡ no_links = no_links_lem _ (and_left _ _ e) in
    let b : second_in ws at ≡ no_links = no_links_lem _ (and_right (is_no_links (first_in ws at)) _ e) in
    in_zeros ws at 3 (word (sym (pair_again ws at) ∙ ap₂ pair_words a b)))
  where
    word : word_in ws at ∷ word_in ws (at + 1) ∷ word_in ws (at + 2) ∷ [] ≡ replicate 3 0 → (k : ℕ) → k < 3 → word_in ws (at + k) ≡ 0
    word e zero l = rw (add-zero at) (ap (λ (xs : List ℕ). get_or xs 0 0) e)
    word e (suc zero) l = ap (λ (xs : List ℕ). get_or xs 1 0) e
    word e (suc (suc zero)) l = ap (λ (xs : List ℕ). get_or xs 2 0) e
    word e (suc (suc (suc k))) l = absurd (omega (arith, l))

pub bare : (ws : List ℕ) (i level : ℕ) → InUse ws i → level < 3
    → all is_zero (take 3 (drop (place i level) ws))
    ≡ (is_no_links (list_in (row_of (rows_in ws) i) (2 * level)) && is_no_links (list_in (row_of (rows_in ws) i) (2 * level + 1)))
bare ws i level u l = let e = list_place ws i level u l in rw (e.0, e.1) (three_zeros ws (place i level))

-- an unused row's words
no_words : (row : Row) → is_no_row row ≡ true → row_words row ≡ replicate 11 0
unfolding row_words
no_words row e =
    let r = and_right (eqb row.start.0 0) _ e in
    let s : row.start.0 ≡ 0 = eqb-true _ _ (and_left _ _ e) in
    let p : row.pages ≡ 0 = eqb-true _ _ (and_left _ _ r) in
    let n : (k : ℕ) → get_or row.lists k no_links ≡ no_links = no_lists row.lists (and_right (eqb row.pages 0) _ r) in
    rw (s, p, n 0, n 1, n 2, n 3, n 4, n 5) refl

-- no word is read as 0
no_row_of_none : is_no_row (row_in [] 0) ≡ true
unfolding row_in all
no_row_of_none = refl

module _ (ws : List ℕ) (at : ℕ) where
  word : is_no_row (row_in ws at) ≡ true → (k : ℕ) → k < 11 → word_in ws (at + k) ≡ 0
  word e k l = sym (word_again ws at k l) ∙ ap (λ (xs : List ℕ). get_or xs k 0) (no_words (row_in ws at) e) ∙ get_or-replicate 11 k 0 0 l

  pub unused : all is_zero (take 11 (drop at ws)) ≡ is_no_row (row_in ws at)
  unused = same_test (λ e. rw (row_same ws [] at 0 (zeros_in ws at 11 e)) no_row_of_none) (λ e. in_zeros ws at 11 (word e))

-- ---- the rows from one on

no_row_lem : is_no_row no_row ≡ true
unfolding all
no_row_lem = refl

module _ (ws : List ℕ) where
  rows_behind : (i n k : ℕ) → drop k (rows_from ws i n) ≡ rows_from ws (i + k) (n - k)
  unfolding rows_from
  rows_behind i n zero = rw (add-zero i, sub-zero n) refl
  rows_behind i zero (suc k) = let e : 0 - suc k ≡ 0 = omega arith in rw e refl
  rows_behind i (suc n) (suc k) =
      let e : i + suc k ≡ i + 1 + k = omega arith in
      let m : suc n - suc k ≡ n - k = omega arith in
      rw (e, m) (rows_behind (i + 1) n k)

  -- none of them is in use
  rows_unused : (i n : ℕ) → (0 < n → used_in ws ≤ i) → all is_no_row (rows_from ws i n) ≡ true
  unfolding rows_from all
  rows_unused i zero h = refl
  rows_unused i (suc n) h =
      let u : used_in ws ≤ i = h (omega arith) in
      rw (row_unused ws i u) (and-true no_row_lem (rows_unused (i + 1) n (λ l. omega arith)))

  abbrev is_unused : ℕ → Bool
  is_unused i = is_no_row (row_in ws (1 + 11 * i))

  -- n rows in use, and m behind them
  unused_run : (i n m : ℕ) → i + n ≤ used_in ws → (0 < m → used_in ws ≤ i + n)
      → all is_no_row (rows_from ws i (n + m)) ≡ list_all is_unused (range_with_len i n)
  unfolding rows_from all
  unused_run i zero m u h = let e : zero + m ≡ m = omega arith in rw e (rows_unused i m (λ l. omega (arith, h l)))
  unused_run i (suc n) m u h =
      let e : suc n + m ≡ suc (n + m) = omega arith in
      let t = unused_run (i + 1) n m (omega (arith, u)) (λ l. omega (arith, h l)) in
      rw (e, row_used ws i (omega (arith, u))) (ap (λ (t : Bool). is_unused i && t) t)

  -- the rows from `first` on: those in use decide
  pub unused_behind : (first : ℕ) → first ≤ 8
      → list_all is_unused (range_with_len first (min (used_in ws) 8 - first)) ≡ all is_no_row (drop first (rows_in ws))
  unused_behind first h =
      rw (rows_behind 0 8 first, zero-add first) (go (dec_lt (used_in ws) first))
    where
      go : Dec (used_in ws < first)
          → list_all is_unused (range_with_len first (min (used_in ws) 8 - first)) ≡ all is_no_row (rows_from ws first (8 - first))
      go (yes l) =
          let n : min (used_in ws) 8 - first ≡ 0 = omega arith in
          rw n (sym (rows_unused first (8 - first) (λ k. omega (arith, l))))
      go (no l) =
          let n : ℕ = min (used_in ws) 8 - first in
          let e : 8 - first ≡ n + (8 - first - n) = omega arith in
          rw e (sym (unused_run first n (8 - first - n) (omega arith) (λ k. omega (arith, k))))
