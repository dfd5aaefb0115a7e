-- The marks that are put together, taken apart again; and the marks and the number of the level as one number: that it tells an unheld frame from all other
-- records that have no mark bits but those named.
use Prim.Native.Nat.{ℕ, zero, suc, ◌+◌, ◌*◌, ◌/◌, ◌%◌, ◌^◌, ◌<◌}
use mathlib.Core.Bool.{Bool, true, false, not, ◌||◌}
use mathlib.Core.Logic.{◌⊎◌, inl, inr}
use mathlib.Core.Path.{◌≡◌, refl}
use native.Mathlib.Omega.{arith}
use native.Mathlib.Decide.{ℕ_discrete, dec_lt}
use borrow.Author.Tests.{eq-eqb, ne_eqb, eqb-true, eqb-false, ltb-true, not-true}
use native.Mathlib.Nat.{zero-mul, one-mul}
use lib.Bits.{bit_and}
use lib.Dec.{eqb, ltb}
use Rattle.std.proofs.lemmas.Nat.{pow_pos}
use Rattle.std.proofs.lemmas.Nat.Bits.{and_pow, bit_at-lt}
use Rattle.definition.specs.declared.Record.{Record}
use Rattle.definition.specs.Basics.{bit}
use Rattle.definition.specs.World.{admitted_bit, allocated_bit, zeroed_bit, admitted_in, allocated_in, zeroed_in, kernel_in, named_marks, marks_with, level_in, is_admitted}
use Rattle.definition.specs.Torn.{is_held_record}
use Rattle.definition.proofs.Tests.{and_left, and_right}
use Rattle.record.specs.Records.{kind_of, free_kind, of_kind, free_page}

-- ---- the marks

-- a mark is set where the number has any bit of the mark
pub mark_test : (n k : ℕ) → not (eqb (bit_and n (2 ^ k)) 0) ≡ eqb (n / 2 ^ k % 2) 1
mark_test n k = rw (and_pow n k) (go (n / 2 ^ k % 2) (bit_at-lt n k))
  where
    go : (b : ℕ) → b < 2 → not (eqb (b * 2 ^ k) 0) ≡ eqb b 1
    go zero h = rw (zero-mul (2 ^ k)) refl
    go (suc zero) h = rw (one-mul (2 ^ k), ne_eqb (2 ^ k) 0 (λ e. omega (arith, e, pow_pos k))) refl
    go (suc (suc b)) h = absurd (omega (arith, h))

-- put together and taken apart
pub marks_with_lem : (a z k : Bool)
    → (admitted_in (marks_with a z k) ≡ true) × (allocated_in (marks_with a z k) ≡ a) × (zeroed_in (marks_with a z k) ≡ z) × (kernel_in (marks_with a z k) ≡ k)
marks_with_lem true true true = (refl, refl, refl, refl)
marks_with_lem true true false = (refl, refl, refl, refl)
marks_with_lem true false true = (refl, refl, refl, refl)
marks_with_lem true false false = (refl, refl, refl, refl)
marks_with_lem false true true = (refl, refl, refl, refl)
marks_with_lem false true false = (refl, refl, refl, refl)
marks_with_lem false false true = (refl, refl, refl, refl)
marks_with_lem false false false = (refl, refl, refl, refl)

-- ---- an unheld frame of one page

module _ (r : Record) where
  pub free_facts : free_page r ≡ true → (admitted_bit r.marks ≡ 1) × (allocated_bit r.marks ≡ 0) × (r.marks < named_marks) × (level_in r.level ≡ 0)
  free_facts t =
      let a = and_right (is_admitted r) _ t in
      let b = and_right (not (is_held_record r)) _ a in
      let h = eqb-false (allocated_bit r.marks) 1 (not-true (is_held_record r) (and_left _ _ a)) in (
        eqb-true (admitted_bit r.marks) 1 (and_left _ _ t),
        omega arith,
        ltb-true r.marks named_marks (and_left _ _ b),
        eqb-true (level_in r.level) 0 (and_right (ltb r.marks named_marks) _ b),
      )

-- ---- the unheld frames of a level

-- the number is that, with KERNEL or without
kind_is : (x n : ℕ) → (eqb x n || eqb x (n + 8)) ≡ true → (x ≡ n) ⊎ (x ≡ n + 8)
kind_is x n t = go (ℕ_discrete x n)
  where
    go : Dec (x ≡ n) → (x ≡ n) ⊎ (x ≡ n + 8)
    go (yes e) = inl e
    go (no d) = let f : eqb x n ≡ false = ne_eqb x n d in inr (eqb-true x (n + 8) (rw f at t))

is_kind : (x n : ℕ) → (x ≡ n) ⊎ (x ≡ n + 8) → (eqb x n || eqb x (n + 8)) ≡ true
is_kind x n (inl e) = rw (eq-eqb x n e)
is_kind x n (inr e) = let f : eqb x n ≡ false = ne_eqb x n (omega arith) in rw (f, eq-eqb x (n + 8) e)

bit_least : (z : Bool) → bit z < 2
bit_least true = omega arith
bit_least false = omega arith

module _ (r : Record) (small : r.marks < named_marks) (l : ℕ) (z : Bool) where
  pub by_kind : of_kind (free_kind l z) r ≡ true
      → (admitted_bit r.marks ≡ 1) × (allocated_bit r.marks ≡ 0) × (level_in r.level ≡ l) × (zeroed_bit r.marks ≡ bit z)
  by_kind t = go (kind_is (kind_of r) (free_kind l z) t) (bit_least z)
    where
      go : (kind_of r ≡ free_kind l z) ⊎ (kind_of r ≡ free_kind l z + 8) → bit z < 2
          → (admitted_bit r.marks ≡ 1) × (allocated_bit r.marks ≡ 0) × (level_in r.level ≡ l) × (zeroed_bit r.marks ≡ bit z)
      go (inl e) b = let d : level_in r.level ≡ l = omega arith in (omega arith, omega arith, d, omega arith)
      go (inr e) b = let d : level_in r.level ≡ l = omega arith in (omega arith, omega arith, d, omega arith)

  pub to_kind : admitted_bit r.marks ≡ 1 → allocated_bit r.marks ≡ 0 → level_in r.level ≡ l → zeroed_bit r.marks ≡ bit z
      → of_kind (free_kind l z) r ≡ true
  to_kind a u e q = is_kind (kind_of r) (free_kind l z) (go (dec_lt r.marks 8))
    where
      go : Dec (r.marks < 8) → (kind_of r ≡ free_kind l z) ⊎ (kind_of r ≡ free_kind l z + 8)
      go (yes h) = inl (omega arith)
      go (no h) = inr (omega arith)
