-- A test of every byte of a run of records is one of every record: a record is four zeros where its sixteen bytes are.
use Prim.Native.Nat.{ℕ, zero, suc, max, ◌+◌, ◌-◌, ◌*◌, ◌/◌, ◌≤◌, ◌<◌}
use mathlib.Core.Bool.{true}
use mathlib.Core.List.{List, [], ◌∷◌}
use mathlib.Core.Path.{◌≡◌, refl, ◌∙◌}
use native.Mathlib.Omega.{arith}
use borrow.Author.Tests.{eq-eqb, eqb-true}
use lib.Dec.{eqb}
use lib.ListN.{length, get_or, take, drop, length-take, length-drop}
use lib.Seq.{get_or-take, get_or-drop}
use Rattle.std.specs.List.{fold}
use Rattle.definition.specs.declared.Record.{Record}
use Rattle.definition.specs.Basics.{all, range}
use Rattle.definition.specs.Torn.{is_blank}
use Rattle.definition.specs.World.{word_at, record_at}
use Rattle.definition.proofs.Tests.{same_test, and_left, and_right, range_in, in_range}
use Rattle.record.proofs.Records.{quarters}

blank_numbers : (r : Record) → is_blank r ≡ true → (r.marks ≡ 0) × (r.level ≡ 0) × (r.earlier ≡ 0) × (r.later ≡ 0)
blank_numbers r t =
    let u = and_right (eqb r.marks 0) _ t in
    let v = and_right (eqb r.level 0) _ u in (
      eqb-true r.marks 0 (and_left _ _ t),
      eqb-true r.level 0 (and_left _ _ u),
      eqb-true r.earlier 0 (and_left _ _ v),
      eqb-true r.later 0 (and_right (eqb r.earlier 0) _ v),
    )

-- ---- the largest of some bytes

-- no byte is larger
larger : (xs : List ℕ) (m : ℕ) → m ≤ fold max m xs
larger [] m = omega arith
larger (x ∷ xs) m = omega (arith, larger xs (max m x))

no_larger : (xs : List ℕ) (m i : ℕ) → i < length xs → get_or xs i 0 ≤ fold max m xs
no_larger [] m i h = absurd (omega (arith, h))
no_larger (x ∷ xs) m zero h = omega (arith, larger xs (max m x))
no_larger (x ∷ xs) m (suc i) h = no_larger xs (max m x) i (omega (arith, h))

-- it is 0 where all are
largest_zero : (xs : List ℕ) → ((i : ℕ) → i < length xs → get_or xs i 0 ≡ 0) → fold max 0 xs ≡ 0
largest_zero [] h = refl
largest_zero (x ∷ xs) h = let e : x ≡ 0 = h 0 (omega arith) in rw e (largest_zero xs (λ i k. h (suc i) (omega (arith, k))))

module _ (bs : List ℕ) where
  word : (q w : ℕ) → ((i : ℕ) → q * 16 ≤ i → i < q * 16 + 16 → get_or bs i 0 ≡ 0) → q * 4 ≤ w → w < q * 4 + 4 → eqb (word_at bs w) 0 ≡ true
  unfolding word_at
  word q w h a b =
      eq-eqb (word_at bs w) 0
      (omega (
        arith,
        h (w * 4) (omega arith) (omega arith),
        h (w * 4 + 1) (omega arith) (omega arith),
        h (w * 4 + 2) (omega arith) (omega arith),
        h (w * 4 + 3) (omega arith) (omega arith),
      ))

  blank : (q : ℕ) → ((i : ℕ) → q * 16 ≤ i → i < q * 16 + 16 → get_or bs i 0 ≡ 0) → is_blank (record_at bs q) ≡ true
  unfolding record_at
  blank q h =
      rw (
        word q (q * 4) h (omega arith) (omega arith),
        word q (q * 4 + 1) h (omega arith) (omega arith),
        word q (q * 4 + 2) h (omega arith) (omega arith),
        word q (q * 4 + 3) h (omega arith) (omega arith),
      )

  module _ (first count : ℕ) (blanks : (q : ℕ) → first ≤ q → q < first + count → is_blank (record_at bs q) ≡ true) where
    words : (w : ℕ) → first * 4 ≤ w → w < (first + count) * 4 → word_at bs w ≡ 0
    unfolding record_at
    words = quarters (λ w. first * 4 ≤ w → w < (first + count) * 4 → word_at bs w ≡ 0) (λ p. (
      λ a b. (blank_numbers (record_at bs p) (blanks p (omega arith) (omega arith))).0,
      λ a b. (blank_numbers (record_at bs p) (blanks p (omega arith) (omega arith))).1,
      λ a b. (blank_numbers (record_at bs p) (blanks p (omega arith) (omega arith))).2,
      λ a b. (blank_numbers (record_at bs p) (blanks p (omega arith) (omega arith))).3,
    ))

    bytes : (i : ℕ) → first * 16 ≤ i → i < (first + count) * 16 → get_or bs i 0 ≡ 0
    unfolding word_at
    bytes = quarters (λ i. first * 16 ≤ i → i < (first + count) * 16 → get_or bs i 0 ≡ 0) (λ w. (
      λ a b. let t = words w (omega arith) (omega arith) in omega arith,
      λ a b. let t = words w (omega arith) (omega arith) in omega arith,
      λ a b. let t = words w (omega arith) (omega arith) in omega arith,
      λ a b. let t = words w (omega arith) (omega arith) in omega arith,
    ))

  pub largest_blank : (first count : ℕ) → first + count ≤ length bs / 16
      → let at = first * 16 in let e = (first + count) * 16 in
      eqb (fold max 0 (take (e - at) (drop at bs))) 0 ≡ all (λ q. is_blank (record_at bs q)) (range first count)
  largest_blank first count h =
      let at = first * 16 in
      let n = (first + count) * 16 - at in
      let xs = take n (drop at bs) in
      let long : length xs ≡ count * 16 = simp (length-take, length-drop) (omega arith) in
      let here : (i : ℕ) → i < count * 16 → get_or xs i 0 ≡ get_or bs (at + i) 0 =
      λ i k. get_or-take n (drop at bs) i 0 (omega (arith, k)) ∙ get_or-drop at bs i 0 in
      same_test
      (λ e. in_range (λ q. is_blank (record_at bs q)) first count (λ q a b. blank q (λ i c d.
      let j = i - at in
      let p : at + j ≡ i = omega (arith, a, b, c, d) in
      let k : j < count * 16 = omega (arith, a, b, c, d) in
      let z = eqb-true (fold max 0 xs) 0 e in
      omega (arith, no_larger xs 0 j (omega (arith, k, long)), z, (rw p at (here j k))))))
      (λ e. eq-eqb (fold max 0 xs) 0 (largest_zero xs (λ i k.
      here i (omega (arith, k, long))
      ∙ bytes first count (range_in (λ q. is_blank (record_at bs q)) first count e) (at + i) (omega arith) (omega (arith, k, long)))))
