-- Laws of decimal digits: definition's are those that std prints, and a number below 2 ^ 64 has at most 20.
use Prim.Native.Nat.{ℕ, zero, suc, ◌+◌, ◌*◌, ◌/◌, ◌%◌, ◌^◌, ◌≤◌, ◌<◌}
use mathlib.Core.Bool.{Bool, true, false, cond}
use mathlib.Core.List.{List, [], ◌∷◌, ◌++◌}
use mathlib.Core.Path.{◌≡◌, refl, sym}
use native.Mathlib.Omega.{arith}
use Rattle.std.proofs.Math.Nat.{pow-suc}
use lib.Dec.{ltb}
use lib.ListN.{length, length-append}
use borrow.Author.Tests.{ltb-true, ltb-false}
use Rattle.std.specs.Fmt.{decimal}
use Rattle.std.proofs.lemmas.Fmt.{decimal_digit, decimal_step}
use Rattle.definition.specs.Text.{last_digits, digits_of}

some_more : (k n : ℕ) → 10 ≤ n → n < 10 ^ suc k → 0 < k
some_more zero n l h = absurd (omega arith)
some_more (suc k) n l h = omega arith

printed : (k n : ℕ) → n < 10 ^ k → 0 < k → n < 2 ^ 64 → last_digits k n ≡ decimal n
unfolding last_digits
printed zero n h z s = absurd (omega arith)
printed (suc k) n h z s = go (ltb n 10) refl (λ l. let p : 10 ^ suc k ≡ 10 ^ k * 10 = pow-suc 10 k in
    printed k (n / 10) (omega arith) (some_more k n l h) (omega arith))
  where
    go : (t : Bool) → ltb n 10 ≡ t → (10 ≤ n → last_digits k (n / 10) ≡ decimal (n / 10))
        → cond t [] (last_digits k (n / 10)) ++ ((48 + n % 10) ∷ []) ≡ decimal n
    go true e ih =
        let l = ltb-true n 10 e in
        let m : n % 10 ≡ n = omega arith in
        rw m (sym (decimal_digit n l))
    go false e ih = let l = ltb-false n 10 e in rw (ih l) (sym (decimal_step n l s))

pub digits_decimal : (n : ℕ) → n < 2 ^ 64 → decimal n ≡ digits_of n
digits_decimal n h = sym (printed 20 n (omega arith) (omega arith) h)

shorter : (t : Bool) (l m : List ℕ) (k : ℕ) → length l ≤ k → length m ≡ 1 → length (cond t [] l ++ m) ≤ suc k
shorter true l m k h e = omega arith
shorter false l m k h e = rw (length-append l m) (omega arith)

at_most : (k n : ℕ) → length (last_digits k n) ≤ k
unfolding last_digits
at_most zero n = omega arith
at_most (suc k) n = shorter (ltb n 10) (last_digits k (n / 10)) ((48 + n % 10) ∷ []) k (at_most k (n / 10)) refl

pub length_digits : (n : ℕ) → length (digits_of n) ≤ 20
length_digits n = at_most 20 n
