-- Laws of the parts between separators: where the first one ends and what is left behind it, and how many lines there are.
use Prim.Native.Nat.{ℕ, suc, ◌+◌, ◌-◌, ◌≤◌, ◌<◌}
use mathlib.Core.Bool.{Bool, true, false, cond}
use mathlib.Core.List.{List, [], ◌∷◌, ◌++◌}
use mathlib.Core.Path.{◌≡◌, refl, sym, ap, subst, ◌∙◌}
use native.Mathlib.Omega.{arith}
use native.Mathlib.Numerals.{add-one}
use lib.Dec.{eqb, ltb}
use lib.ListN.{length, get_or, take, drop}
use borrow.Author.Tests.{ltb-true, ltb-false}
use Rattle.std.specs.Prelude.{Some, None}
use Rattle.std.specs.declared.slice.Split.{Split}
use denote.Param.Members.{Mut, Called}
use denote.Ref.{Bor}
use Rattle.std.specs.Bool.{MatchBool}
use Rattle.std.specs.Slice.Iter.{split_steps}
use Rattle.std.proofs.lemmas.Fn.{always_returns_same}
use Rattle.std.specs.List.{All, IsFirstMatchOrLen, position, position_or_len, slice_split, onto_first, count_by}
use Rattle.std.proofs.lemmas.Grind.{common_steps}
use Rattle.std.proofs.lemmas.List.Splits.{slice_split_none, slice_split_at}
use Rattle.std.proofs.lemmas.List.Sums.{sum_by-cons}
use Rattle.std.proofs.lemmas.Option.{cond_some, none-some, unwrap_or-slice_get}
use Rattle.definition.specs.Script.{joined, parts_by, fields, lines}

abbrev pub is_sep : ℕ → ℕ → Bool
is_sep sep b = eqb b sep

-- ---- the first part and the others

abbrev First : ℕ → List (List ℕ) → List ℕ → Type 0
First sep last s =
    let n = position_or_len (is_sep sep) s in n < length s → parts_by sep last s ≡ take n s ∷ parts_by sep last (drop (n + 1) s)

first_go : (sep : ℕ) (last : List (List ℕ)) (b : ℕ) (s : List ℕ) (t : Bool) → eqb b sep ≡ t → First sep last s → First sep last (b ∷ s)
unfolding parts_by
first_go sep last b s true e ih h = rw e refl
first_go sep last b s false e ih h =
    let n : ℕ = position_or_len (is_sep sep) s in
    let q : 1 + n ≡ suc n = omega arith in
    let l : n < length s = tighter n (length s) (rw e at h) in
    rw (e, ih l, q, add-one n, add-one (suc n)) refl
  where
    tighter : (n k : ℕ) → 1 + n < suc k → n < k
    tighter n k l = omega arith

first : (sep : ℕ) (last : List (List ℕ)) (s : List ℕ) → First sep last s
first sep last [] h = absurd (omega arith)
first sep last (b ∷ s) h = first_go sep last b s (eqb b sep) refl (first sep last s) h

abbrev Only : ℕ → List (List ℕ) → List ℕ → Type 0
Only sep last s = length s ≤ position_or_len (is_sep sep) s → 0 < length s → parts_by sep last s ≡ s ∷ []

only_go : (sep : ℕ) (last : List (List ℕ)) → ((b : ℕ) → joined false b last ≡ (b ∷ []) ∷ []) → (b : ℕ) (s : List ℕ) (t : Bool)
    → eqb b sep ≡ t → Only sep last s → Only sep last (b ∷ s)
unfolding parts_by
only_go sep last j b s true e ih q h = absurd (none (length s) (rw e at q))
  where
    none : (k : ℕ) → suc k ≤ 0 → ⊥
    none k l = omega arith
only_go sep last j b [] false e ih q h = rw e (j b)
only_go sep last j b (x ∷ s) false e ih q h =
    rw (e, ih (tighter (length (x ∷ s)) (position_or_len (is_sep sep) (x ∷ s)) (rw e at q)) (omega arith)) refl
  where
    tighter : (k n : ℕ) → suc k ≤ 1 + n → k ≤ n
    tighter k n l = omega arith

only : (sep : ℕ) (last : List (List ℕ)) → ((b : ℕ) → joined false b last ≡ (b ∷ []) ∷ []) → (s : List ℕ) → Only sep last s
only sep last j [] q h = absurd (omega arith)
only sep last j (b ∷ s) q h = only_go sep last j b s (eqb b sep) refl (only sep last j s) q h

-- ---- the same of what `position` answers
module _ (sep : ℕ) (s : List ℕ) where
  pub first_part : (last : List (List ℕ)) (i : ℕ) → Some i ≡ position (is_sep sep) s
      → (i < length s) × (parts_by sep last s ≡ take i s ∷ parts_by sep last (drop (i + 1) s))
  first_part last i e =
      let n : ℕ = position_or_len (is_sep sep) s in
      let c = cond_some (ltb n (length s)) n i (sym e) in
      let h : n < length s = ltb-true n (length s) c.0 in
      subst (λ (k : ℕ). (k < length s) × (parts_by sep last s ≡ take k s ∷ parts_by sep last (drop (k + 1) s))) c.1 (h, first sep last s h)

  past : None ≡ position (is_sep sep) s → length s ≤ position_or_len (is_sep sep) s
  past e = let n : ℕ = position_or_len (is_sep sep) s in ltb-false n (length s) (go (ltb n (length s)) n e)
    where
      go : (t : Bool) (n : ℕ) → None ≡ cond t (Some n) None → t ≡ false
      go true n e = absurd (none-some n e)
      go false n e = refl

  pub last_line : None ≡ position (is_sep sep) s → 0 < length s → parts_by sep [] s ≡ s ∷ []
  last_line e h = only sep [] (λ x. refl) s (past e) h

pub last_field : (sep : ℕ) (s : List ℕ) → None ≡ position (is_sep sep) s → parts_by sep ([] ∷ []) s ≡ s ∷ []
unfolding parts_by
last_field sep [] e = refl
last_field sep (b ∷ s) e = only sep ([] ∷ []) (λ x. refl) (b ∷ s) (past sep (b ∷ s) e) (omega arith)

-- ---- fields are what `split` gives

pub fields_split : (s : List ℕ) → fields s ≡ slice_split (is_sep 44) s
unfolding parts_by
fields_split [] = refl
fields_split (b ∷ s) = rw (fields_split s) (go (eqb b 44) (slice_split (is_sep 44) s))
  where
    go : (t : Bool) (ps : List (List ℕ)) → joined t b ps ≡ cond t ([] ∷ ps) (onto_first b ps)
    go true ps = refl
    go false [] = refl
    go false (p ∷ ps) = refl

-- what an iterator of `split` has left
abbrev pub left : Split ℕ (Unit {0}) → List (List ℕ)
left t = cond t.done [] (slice_split (is_sep 44) t.rest.now)

split_part : (p : ℕ → Bool) (xs x rest : List ℕ) (done : Bool) → MatchBool done (xs ≡ x) ((y : ℕ) × (xs ≡ x ++ (y ∷ rest)))
    → IsFirstMatchOrLen p xs (length x) → slice_split p xs ≡ x ∷ cond done [] (slice_split p rest)
split_part p xs x rest true e h = ap (slice_split p) e ∙ slice_split_none p x (λ k d l. rw e at (h.0 k d (omega arith) l))
split_part p xs x rest false e h =
    let front : All (λ z. p z ≡ false) x = λ k d l. let a = h.0 k d (omega arith) l in let b = e.1 in grind (arith, common_steps) in
    let hit : p e.0 ≡ true = let b = e.1 in let a = h.1 (grind (arith, common_steps)) e.0 in grind (arith, common_steps) in
    ap (slice_split p) e.1 ∙ slice_split_at p x e.0 rest front hit

-- one field more, where the closure g tests for a comma
pub left_more : (g : Mut (Unit {0}) (Bor ℕ × Unit {0}) Bool) (s t : Split ℕ (Unit {0})) (x : Bor (List ℕ)) → split_steps g s (Some x) t
    → ((a : Bor ℕ × Unit {0}) (r : Bool) (q : Unit {0}) → Called g s.pred a r q → (r ≡ is_sep 44 a.0.now) × (q ≡ s.pred))
    → left s ≡ x.now ∷ left t
left_more g s t x h tests =
    let k = h.2 (is_sep 44) (always_returns_same g (λ a r. r ≡ is_sep 44 a.0.now) s.pred tests) in
    rw h.0 (split_part (is_sep 44) s.rest.now x.now t.rest.now t.done h.1 k.1)

-- ---- how many lines there are: one for each line feed, and one more where the last lacks it

-- what stands last, or a line feed where there is nothing
abbrev pub last_of : List ℕ → ℕ
last_of s = get_or s (length s - 1) 10

abbrev pub open_lines : List ℕ → ℕ
open_lines s = cond (eqb (last_of s) 10) 0 1

-- the count of the front, and that of what is behind it
count_go : (t u : Bool) (b n k : ℕ) (ps : List (List ℕ)) (x : ℕ) → length (joined u x ps) ≡ n + k
    → length (joined t b (joined u x ps)) ≡ cond t 1 0 + n + k
count_go true u b n k ps x h = omega arith
count_go false true b n k ps x h = omega arith
count_go false false b n k [] x h = omega arith
count_go false false b n k (p ∷ ps) x h = omega arith

count_one : (t : Bool) (b : ℕ) → length (joined t b []) ≡ 0 + cond t 1 0 + cond t 0 1
count_one true b = refl
count_one false b = refl

pub lines_count : (s : List ℕ) → length (lines s) ≡ count_by (is_sep 10) s + open_lines s
unfolding parts_by
lines_count [] = refl
lines_count (b ∷ []) = count_one (eqb b 10) b
lines_count (b ∷ x ∷ s) =
    let p : suc (suc (length s)) - 1 ≡ suc (length s) = omega arith in
    let q : suc (length s) - 1 ≡ length s = omega arith in
    let n =
    count_go (eqb b 10) (eqb x 10) b (count_by (is_sep 10) (x ∷ s)) (open_lines (x ∷ s)) (parts_by 10 [] s) x (lines_count (x ∷ s)) in
    let m = sum_by-cons (λ (y : ℕ). cond (eqb y 10) 1 0) b (x ∷ s) in
    rw p (rw q at (n ∙ ap (λ (k : ℕ). k + open_lines (x ∷ s)) (sym m)))

pub ruleset counted = (lines_count, unwrap_or-slice_get)
