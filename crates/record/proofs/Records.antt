-- What crates above use of records: `cleared` at a page inside and outside of what was cleared, and `records_decide`, by which what is said of all
-- records is said of every byte.
use Prim.Native.Nat.{ℕ, ◌+◌, ◌-◌, ◌*◌, ◌/◌, ◌%◌, ◌≤◌, ◌<◌}
use mathlib.Core.List.{List, []}
use mathlib.Core.Path.{◌≡◌, sym, ap, ◌∙◌, fun_ext}
use native.Mathlib.Omega.{arith}
use native.Mathlib.Decide.{ℕ_discrete, dec_le, dec_lt}
use borrow.Author.Tests.{le-leb, lt-leb, lt-ltb, le-ltb}
use lib.ListN.{length, get_or, replicate, length-replicate, get_or-replicate}
use lib.Seq.{ext_get_or}
use Rattle.definition.specs.declared.Record.{Record}
use Rattle.definition.specs.World.{word_at, record_at}
use Rattle.record.specs.Records.{pages_in, with_bytes, no_record, cleared}
use Rattle.record.proofs.Bytes.{with_in, with_out}
use Rattle.record.proofs.Words.{word_same, record_same}

-- ---- records of zeros

module _ (f : ℕ → Record) (first count q : ℕ) where
  pub cleared_in : first ≤ q → q < first + count → cleared f first count q ≡ no_record
  unfolding cleared
  cleared_in a b = rw (le-leb first q a, lt-ltb q (first + count) b)

  pub cleared_out : (first ≤ q → q < first + count → ⊥) → cleared f first count q ≡ f q
  unfolding cleared
  cleared_out n = go (dec_le first q)
    where
      go : Dec (first ≤ q) → cleared f first count q ≡ f q
      go (yes a) = rw (le-leb first q a, le-ltb q (first + count) (omega (arith, n a)))
      go (no a) = rw (lt-leb first q (omega arith))

module _ (bs : List ℕ) (first count : ℕ) (fits : first + count ≤ pages_in bs) where
  abbrev zs : List ℕ
  zs = replicate (count * 16) 0

  abbrev cs : List ℕ
  cs = with_bytes bs (first * 16) zs

  long : length zs ≡ count * 16
  long = length-replicate (count * 16) 0

  inside : first * 16 + length zs ≤ length bs
  inside = omega (arith, long)

  zero_byte_lem : (j : ℕ) → first * 16 ≤ j → j < (first + count) * 16 → get_or cs j 0 ≡ 0
  zero_byte_lem j a b =
      let i = j - first * 16 in
      let e : first * 16 + i ≡ j = omega arith in
      (rw e at (with_in bs (first * 16) zs inside i (omega (arith, long)))) ∙ get_or-replicate (count * 16) i 0 0 (omega arith)

  -- an empty loan has zeros everywhere
  here : (q : ℕ) → first ≤ q → q < first + count → record_at cs q ≡ record_at [] q
  here q a b = record_same [] cs q (λ w c d. word_same [] cs w (λ i g h. zero_byte_lem i (omega arith) (omega arith)))

  away : (q : ℕ) → (first ≤ q → q < first + count → ⊥) → record_at cs q ≡ record_at bs q
  away q n =
      record_same bs cs q
      (λ w c d. word_same bs cs w (λ i g h. with_out bs (first * 16) zs inside i (λ x y. n (omega arith) (omega (arith, long)))))

  pub clear_records : record_at cs ≡ cleared (record_at bs) first count
  unfolding record_at word_at
  clear_records = fun_ext (λ q. at q (dec_le first q) (dec_lt q (first + count)))
    where
      out : (q : ℕ) → (first ≤ q → q < first + count → ⊥) → record_at cs q ≡ cleared (record_at bs) first count q
      out q n = away q n ∙ sym (cleared_out (record_at bs) first count q n)

      at : (q : ℕ) → Dec (first ≤ q) → Dec (q < first + count) → record_at cs q ≡ cleared (record_at bs) first count q
      at q (yes a) (yes b) = here q a b ∙ sym (cleared_in (record_at bs) first count q a b)
      at q (yes a) (no b) = out q (λ x y. b y)
      at q (no a) d = out q (λ x y. a x)

-- ---- records decide bytes

pub quarters : (P : ℕ → Type 0) → ((p : ℕ) → P (p * 4) × P (p * 4 + 1) × P (p * 4 + 2) × P (p * 4 + 3)) → (m : ℕ) → P m
quarters P h m = go (ℕ_discrete (m % 4) 0) (ℕ_discrete (m % 4) 1) (ℕ_discrete (m % 4) 2)
  where
    go : Dec (m % 4 ≡ 0) → Dec (m % 4 ≡ 1) → Dec (m % 4 ≡ 2) → P m
    go (yes e) b c = let k : m ≡ m / 4 * 4 = omega arith in rw k (h (m / 4)).0
    go (no a) (yes e) c = let k : m ≡ m / 4 * 4 + 1 = omega arith in rw k (h (m / 4)).1
    go (no a) (no b) (yes e) = let k : m ≡ m / 4 * 4 + 2 = omega arith in rw k (h (m / 4)).2
    go (no a) (no b) (no c) = let k : m ≡ m / 4 * 4 + 3 = omega arith in rw k (h (m / 4)).3

module _ (bs cs : List ℕ) (small : (i : ℕ) → get_or bs i 0 < 256) (small' : (i : ℕ) → get_or cs i 0 < 256) (e : record_at bs ≡ record_at cs) where
  words : (w : ℕ) → word_at bs w ≡ word_at cs w
  unfolding record_at
  words = quarters (λ w. word_at bs w ≡ word_at cs w) (λ p. let r = ap (λ (f : ℕ → Record). f p) e in
      (ap (λ (r : Record). r.marks) r, ap (λ (r : Record). r.level) r, ap (λ (r : Record). r.earlier) r, ap (λ (r : Record). r.later) r))

  bytes : (i : ℕ) → get_or bs i 0 ≡ get_or cs i 0
  unfolding word_at
  bytes = quarters (λ i. get_or bs i 0 ≡ get_or cs i 0) (λ w. digits w (words w))
    where
      digits : (w : ℕ) → word_at bs w ≡ word_at cs w → (get_or bs (w * 4) 0 ≡ get_or cs (w * 4) 0) × (get_or bs (w * 4 + 1) 0 ≡ get_or cs (w * 4 + 1) 0)
          × (get_or bs (w * 4 + 2) 0 ≡ get_or cs (w * 4 + 2) 0) × (get_or bs (w * 4 + 3) 0 ≡ get_or cs (w * 4 + 3) 0)
      digits w h =
          let b0 = small (w * 4) in
          let b1 = small (w * 4 + 1) in
          let b2 = small (w * 4 + 2) in
          let b3 = small (w * 4 + 3) in
          let c0 = small' (w * 4) in
          let c1 = small' (w * 4 + 1) in
          let c2 = small' (w * 4 + 2) in
          let c3 = small' (w * 4 + 3) in
          (omega arith, omega arith, omega arith, omega arith)

  -- two loans of one length with the same records have the same bytes
  pub records_decide : length bs ≡ length cs → bs ≡ cs
  records_decide h = ext_get_or 0 bs cs h (λ i k. bytes i)
