-- A number below 2^64 is a power of two exactly if one of its bits is set. And a size rounded up to a power of two stays below a larger one
-- exactly if it is at most the difference.
use Prim.Native.Nat.{ℕ, zero, suc, ◌+◌, ◌-◌, ◌*◌, ◌/◌, ◌%◌, ◌^◌, ◌≤◌, ◌<◌}
use mathlib.Core.Bool.{Bool, true, false, false≢true, or-true, ◌||◌}
use mathlib.Core.Logic.{◌⊎◌, inl, inr}
use mathlib.Core.Path.{◌≡◌, refl, sym, ap, ◌∙◌}
use native.Mathlib.Decide.{dec_le}
use native.Mathlib.Nat.{add-zero, zero-add, mul-le-mul_right, lt_of_mul-lt-mul_right, div-add-mod', div-lt_iff_lt-mul, mod-lt, eq-zero-or-pos, pow-suc, sub-add_cancel, suc-mul}
use native.Mathlib.Omega.{arith}
use lib.Count.{ones, ones_step, ones_cat}
use lib.Dec.{eqb, ltb, lit<}
use lib.Pow.{pow-add, pow_pos, pow_mono}
use borrow.Author.Tests.{eq-eqb, eqb-true, lt-ltb, le-ltb}
use Rattle.address.proofs.Rounding.{up_no_less, up_least}
use Rattle.definition.specs.Basics.{any, range}
use Rattle.definition.specs.Calls.{is_power_of_two, round_up}

-- ---- a test that holds somewhere in a range, and where

any_holds : (test : ℕ → Bool) (start count i : ℕ) → i < count → test (start + i) ≡ true → any test (range start count) ≡ true
unfolding any range
any_holds test start zero i h e = absurd (omega arith)
any_holds test start (suc n) zero h e = let here : test start ≡ true = rw add-zero at e in rw here
any_holds test start (suc n) (suc i) h e =
    let same : start + suc i ≡ start + 1 + i = omega arith in
    rw (any_holds test (start + 1) n i (omega arith) (rw same at e)) (or-true (test start))

abbrev Where : (ℕ → Bool) → (start count : ℕ) → Type 0
Where test start count = (i : ℕ) × (i < count) × (test (start + i) ≡ true)

any_where : (test : ℕ → Bool) (start count : ℕ) → any test (range start count) ≡ true → Where test start count
unfolding any range
any_where test start zero e = absurd (false≢true e)
any_where test start (suc n) e = go (test start) refl (any_where test (start + 1) n) e
  where
    go : (t : Bool) → test start ≡ t → (any test (range (start + 1) n) ≡ true → Where test (start + 1) n)
        → (t || any test (range (start + 1) n)) ≡ true → Where test start (suc n)
    go true here later both = (0, omega arith, rw add-zero here)
    go false here later both =
        let w = later both in
        let same : start + 1 + w.0 ≡ start + suc w.0 = omega arith in
        (suc w.0, omega (arith, w.1), rw same at w.2)

-- ---- one bit

half_below : (d n : ℕ) → n < 2 ^ suc d → n / 2 < 2 ^ d
half_below d n h = (div-lt_iff_lt-mul (lit< tt)).1 (rw pow-suc at h)

no_bit : (d n : ℕ) → n < 2 ^ d → ones n ≡ 0 → n ≡ 0
no_bit zero n h e = omega arith
no_bit (suc d) n h e =
    let step = ones_step n in
    let half : n / 2 < 2 ^ d = half_below d n h in
    omega (arith, step, div-add-mod' n 2, no_bit d (n / 2) half (omega arith))

abbrev Power : (d n : ℕ) → Type 0
Power d n = (k : ℕ) × (k < d) × (n ≡ 2 ^ k)

one_bit : (d n : ℕ) → n < 2 ^ d → ones n ≡ 1 → Power d n
unfolding ones
one_bit zero n h e = let none : n ≡ 0 = omega arith in let z : ones 0 ≡ 1 = rw none at e in absurd (omega arith)
one_bit (suc d) n h e = go (one_bit d (n / 2) (half_below d n h)) (eq-zero-or-pos (n % 2))
  where
    go : (ones (n / 2) ≡ 1 → Power d (n / 2)) → (n % 2 ≡ zero) ⊎ (zero < n % 2) → Power (suc d) n
    go later (inl even) =
        let w = later (omega (arith, ones_step n)) in
        (suc w.0, omega (arith, w.1), omega (arith, w.2, div-add-mod' n 2))
    go later (inr odd) =
        let none : n / 2 ≡ 0 = no_bit d (n / 2) (half_below d n h) (omega (arith, ones_step n)) in
        (0, omega arith, omega (arith, div-add-mod' n 2, mod-lt n {m = 2} (lit< tt)))

bit_of_power : (k : ℕ) → ones (2 ^ k) ≡ 1
unfolding ones
bit_of_power k =
    let alone : 1 * 2 ^ k + 0 ≡ 2 ^ k = omega arith in
    rw alone at (ones_cat k 1 0 (pow_pos k))

power_of : (n : ℕ) → is_power_of_two n ≡ true → Power 64 n
power_of n e =
    let w = any_where (λ k. eqb n (2 ^ k)) 0 64 e in
    (w.0, w.1, eqb-true n (2 ^ w.0) (rw zero-add at w.2))

-- the test of the code
pub one_bit_is_power : (n : ℕ) → n < 2 ^ 64 → eqb (ones n) 1 ≡ is_power_of_two n
one_bit_is_power n h = go (eqb (ones n) 1) refl (is_power_of_two n) refl
  where
    go : (t : Bool) → eqb (ones n) 1 ≡ t → (u : Bool) → is_power_of_two n ≡ u → t ≡ u
    go true e true p = refl
    go false e false p = refl
    go true e false p =
        let w = one_bit 64 n h (eqb-true (ones n) 1 e) in
        sym (any_holds (λ k. eqb n (2 ^ k)) 0 64 w.0 w.1 (rw zero-add (eq-eqb n (2 ^ w.0) w.2))) ∙ p
    go false e true p = let w = power_of n p in sym e ∙ eq-eqb (ones n) 1 (ap ones w.2 ∙ bit_of_power w.0)

-- ---- rounding up to a power

-- a size rounded up to 2^k is over 2^e - 1 where the size is over 2^e - 2^k
pub rounded_over : (e k size : ℕ) → k ≤ e → ltb (2 ^ e - 1) (round_up size (2 ^ k)) ≡ ltb (2 ^ e - 2 ^ k) size
rounded_over e k size h = go (dec_le size (2 ^ e - 2 ^ k))
  where
    whole : 2 ^ e ≡ (2 ^ (e - k) - 1) * 2 ^ k + 2 ^ k
    whole =
        let above : 2 ^ (e - k) ≡ suc (2 ^ (e - k) - 1) = omega (arith, pow_pos (e - k)) in
        sym (ap (λ (i : ℕ). 2 ^ i) (sub-add_cancel h)) ∙ pow-add 2 (e - k) k
        ∙ ap (λ (q : ℕ). q * 2 ^ k) above ∙ suc-mul (2 ^ (e - k) - 1) (2 ^ k)

    go : Dec (size ≤ 2 ^ e - 2 ^ k) → ltb (2 ^ e - 1) (round_up size (2 ^ k)) ≡ ltb (2 ^ e - 2 ^ k) size
    go (yes s) =
        let within = up_least size (2 ^ k) (pow_pos k) (2 ^ (e - k) - 1) (omega (arith, whole)) in
        le-ltb (2 ^ e - 1) (round_up size (2 ^ k)) (omega (arith, whole, pow_pos k)) ∙ sym (le-ltb (2 ^ e - 2 ^ k) size s)
    go (no s) =
        let q = 2 ^ (e - k) - 1 in
        let more : q < (size + (2 ^ k - 1)) / 2 ^ k = lt_of_mul-lt-mul_right (2 ^ k) (omega (arith, whole, up_no_less size (2 ^ k) (pow_pos k))) in
        let up : 2 ^ e ≤ round_up size (2 ^ k) = omega (arith, whole, suc-mul q (2 ^ k), mul-le-mul_right (2 ^ k) more) in
        lt-ltb (2 ^ e - 1) (round_up size (2 ^ k)) (omega (arith, pow_pos e)) ∙ sym (lt-ltb (2 ^ e - 2 ^ k) size (omega arith))

-- ---- what the code tests

pub power_within : (n : ℕ) → is_power_of_two n ≡ true → n ≤ 2 ^ 63
power_within n p =
    let w = power_of n p in
    let small : w.0 ≤ 63 = omega (arith, w.1) in
    rw w.2 (pow_mono small)

pub size_over : (size align : ℕ) → is_power_of_two align ≡ true → ltb (2 ^ 63 - 1) (round_up size align) ≡ ltb (2 ^ 63 - align) size
size_over size align p = let w = power_of align p in rw w.2 (rounded_over 63 w.0 size (omega (arith, w.1)))
