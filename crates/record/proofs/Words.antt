-- From bytes to 32-bit numbers, and from these to records: four bytes written in a number's place are that number, and a number that is another changes
-- one field of one record.
use Prim.Native.Nat.{ℕ, zero, suc, ◌+◌, ◌*◌, ◌/◌, ◌%◌, ◌≤◌, ◌<◌, ◌^◌}
use mathlib.Core.Bool.{cond}
use mathlib.Core.List.{List}
use mathlib.Core.Logic.{◌≢◌}
use mathlib.Core.Path.{◌≡◌, refl, sym, ap, ◌∙◌, fun_ext}
use native.Mathlib.Omega.{arith}
use native.Mathlib.Nat.{add-zero}
use native.Mathlib.Decide.{ℕ_discrete}
use borrow.Author.Tests.{eq-eqb, ne_eqb}
use lib.Dec.{eqb}
use lib.ListN.{length, get_or}
use Rattle.definition.specs.Basics.{upd}
use Rattle.definition.specs.World.{word_at, record_at, word_bytes}
use Rattle.definition.proofs.Basics.{upd_same, upd_other}
use Rattle.record.specs.Records.{with_bytes, number_at, changed}
use Rattle.record.proofs.Bytes.{with_in, with_out}

module _ (bs cs : List ℕ) where
  -- a number goes by its four bytes, a record by its four numbers
  pub word_same : (w : ℕ) → ((i : ℕ) → w * 4 ≤ i → i < w * 4 + 4 → get_or cs i 0 ≡ get_or bs i 0) → word_at cs w ≡ word_at bs w
  unfolding word_at
  word_same w h =
      rw (
        h (w * 4) (omega arith) (omega arith),
        h (w * 4 + 1) (omega arith) (omega arith),
        h (w * 4 + 2) (omega arith) (omega arith),
        h (w * 4 + 3) (omega arith) (omega arith),
      )

  pub record_same : (p : ℕ) → ((w : ℕ) → p * 4 ≤ w → w < p * 4 + 4 → word_at cs w ≡ word_at bs w) → record_at cs p ≡ record_at bs p
  unfolding record_at
  record_same p h =
      rw (
        h (p * 4) (omega arith) (omega arith),
        h (p * 4 + 1) (omega arith) (omega arith),
        h (p * 4 + 2) (omega arith) (omega arith),
        h (p * 4 + 3) (omega arith) (omega arith),
      )

-- ---- a number

value : (v : ℕ) → v < 2 ^ 32 → v % 256 + v / 256 % 256 * 256 + v / 65536 % 256 * 65536 + v / 16777216 % 256 * 16777216 ≡ v
value v h = let top : v / 16777216 % 256 ≡ v / 16777216 = omega arith in omega arith

module _ (bs : List ℕ) (w v : ℕ) (h : w < length bs / 4) (fits : v < 2 ^ 32) where
  abbrev cs : List ℕ
  cs = with_bytes bs (w * 4) (word_bytes v)

  inside : w * 4 + 4 ≤ length bs
  inside = omega arith

  byte : (i : ℕ) → i < 4 → get_or cs (w * 4 + i) 0 ≡ get_or (word_bytes v) i 0
  byte i k = with_in bs (w * 4) (word_bytes v) inside i k

  first : get_or cs (w * 4) 0 ≡ v % 256
  first = let e : w * 4 + 0 ≡ w * 4 = omega arith in rw e at (byte 0 (omega arith))

  same : word_at cs w ≡ v
  unfolding word_at
  same = rw (first, byte 1 (omega arith), byte 2 (omega arith), byte 3 (omega arith)) (value v fits)

  other : (q : ℕ) → q ≢ w → word_at cs q ≡ word_at bs q
  other q n = word_same bs cs q (λ i a b. with_out bs (w * 4) (word_bytes v) inside i (λ c d. omega arith))

  pub put_words : word_at cs ≡ upd (word_at bs) w v
  put_words = fun_ext (λ q. at q (ℕ_discrete q w))
    where
      at : (q : ℕ) → Dec (q ≡ w) → word_at cs q ≡ upd (word_at bs) w v q
      at q (yes e) = rw e (same ∙ sym (upd_same (word_at bs) w v))
      at q (no n) = other q n ∙ sym (upd_other (word_at bs) w v q n)

-- ---- a record

-- a number of the record by its place among all numbers
pub number_word : (bs : List ℕ) (p i : ℕ) → i < 4 → number_at i (record_at bs p) ≡ word_at bs (p * 4 + i)
unfolding record_at
number_word bs p zero h = rw (add-zero (p * 4)) refl
number_word bs p (suc zero) h = refl
number_word bs p (suc (suc zero)) h = refl
number_word bs p (suc (suc (suc zero))) h = refl
number_word bs p (suc (suc (suc (suc i)))) h = absurd (omega (arith, h))

module _ (bs cs : List ℕ) (p i v w : ℕ) (h : i < 4) (place : w ≡ p * 4 + i) (e : word_at cs ≡ upd (word_at bs) w v) where
  away : (m : ℕ) → m ≢ w → word_at cs m ≡ word_at bs m
  away m n = ap (λ (f : ℕ → ℕ). f m) e ∙ upd_other (word_at bs) w v m n

  near : (m j : ℕ) → m ≡ p * 4 + j → word_at cs m ≡ cond (eqb i j) v (word_at bs m)
  near m j k = go (ℕ_discrete i j)
    where
      go : Dec (i ≡ j) → word_at cs m ≡ cond (eqb i j) v (word_at bs m)
      go (yes q) =
          let m≡w : m ≡ w = omega arith in
          rw (eq-eqb i j q, m≡w) (ap (λ (f : ℕ → ℕ). f w) e ∙ upd_same (word_at bs) w v)
      go (no q) = rw (ne_eqb i j q) (away m (omega arith))

  pub word_set : record_at cs ≡ upd (record_at bs) p (changed i v (record_at bs p))
  unfolding record_at
  word_set = fun_ext (λ q. at q (ℕ_discrete q p))
    where
      at : (q : ℕ) → Dec (q ≡ p) → record_at cs q ≡ upd (record_at bs) p (changed i v (record_at bs p)) q
      at q (yes g) =
          rw (
            g,
            upd_same (record_at bs) p _,
            near (p * 4) 0 (omega arith),
            near (p * 4 + 1) 1 refl,
            near (p * 4 + 2) 2 refl,
            near (p * 4 + 3) 3 refl,
          )
      at q (no n) = record_same bs cs q (λ m a b. away m (omega arith)) ∙ sym (upd_other (record_at bs) p _ q n)
