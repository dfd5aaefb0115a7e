-- A part of a loan, by its first place and its length, and that parts that follow one another are one. A reader takes from here that the
-- bytes written for records, and those of a run of memory, are the very part of the loan that they were read from.
use Prim.Native.Nat.{ℕ, zero, suc, ◌+◌, ◌*◌, ◌/◌, ◌%◌, ◌≤◌, ◌<◌}
use mathlib.Core.List.{List, [], ◌∷◌, ◌++◌}
use mathlib.Core.Path.{◌≡◌, refl, sym, ap, ap₂, ◌∙◌}
use native.Mathlib.Numerals.{add-one}
use native.Mathlib.Omega.{arith}
use lib.ListN.{length, get_or, take, drop}
use lib.Seq.{drop-cons, drop-drop, take-add}
use Rattle.definition.specs.declared.Record.{Record}
use Rattle.definition.specs.Basics.{range}
use Rattle.definition.specs.Contents.{bytes_at}
use Rattle.definition.specs.Store.{Memory}
use Rattle.definition.specs.World.{word_at, record_at, word_bytes, record_bytes, pages_bytes}

-- the n elements from a place on
unfoldable pub part : List ℕ → ℕ → ℕ → List ℕ
part xs at n = take n (drop at xs)

module _ (xs : List ℕ) where
  pub part_front : (n : ℕ) → part xs 0 n ≡ take n xs
  unfolding part
  part_front n = refl

  pub part_none : (at : ℕ) → part xs at 0 ≡ []
  unfolding part
  part_none at = refl

  pub part_join
      : (at n m : ℕ) {next all : ℕ} {ys zs : List ℕ} → ys ≡ part xs at n → zs ≡ part xs next m → at + n ≡ next → n + m ≡ all
      → ys ++ zs ≡ part xs at all
  unfolding part
  part_join at n m e h j k = rw (e, h, ← j, ← k, take-add n m (drop at xs), drop-drop n at xs)

  part_cons : (at n : ℕ) → at < length xs → get_or xs at 0 ∷ part xs (at + 1) n ≡ part xs at (suc n)
  unfolding part
  part_cons at n h = rw (add-one, drop-cons xs at 0)

  part_four : (at : ℕ) → at + 4 ≤ length xs → get_or xs at 0 ∷ get_or xs (at + 1) 0 ∷ get_or xs (at + 2) 0 ∷ get_or xs (at + 3) 0 ∷ []
      ≡ part xs at 4
  part_four at h =
      let two : at + 1 + 1 ≡ at + 2 = omega arith in
      let three : at + 2 + 1 ≡ at + 3 = omega arith in
      cc (
        part_cons at 3 (omega arith),
        part_cons (at + 1) 2 (omega arith),
        part_cons (at + 2) 1 (omega arith),
        part_cons (at + 3) 0 (omega arith),
        part_none (at + 3 + 1),
      )

-- ---- two functions that agree from a and from b on, for so many places

module _ {A : Type 0} (f g : ℕ → A) (a b n : ℕ) (same : (i : ℕ) → i < suc n → f (a + i) ≡ g (b + i)) where
  at_first : f a ≡ g b
  at_first =
      let x : a + 0 ≡ a = omega arith in
      let y : b + 0 ≡ b = omega arith in
      rw (x, y) at (same 0 (omega arith))

  from_next : (i : ℕ) → i < n → f (a + 1 + i) ≡ g (b + 1 + i)
  from_next i h =
      let x : a + 1 + i ≡ a + (1 + i) = omega arith in
      let y : b + 1 + i ≡ b + (1 + i) = omega arith in
      rw (x, y) (same (1 + i) (omega arith))

-- ---- records

digits : {a b c d : ℕ} → a < 256 → b < 256 → c < 256 → d < 256 → word_bytes (a + b * 256 + c * 65536 + d * 16777216) ≡ a ∷ b ∷ c ∷ d ∷ []
digits {a} {b} {c} {d} ha hb hc hd =
    let e0 : (a + b * 256 + c * 65536 + d * 16777216) % 256 ≡ a = omega arith in
    let h1 : (a + b * 256 + c * 65536 + d * 16777216) / 256 ≡ b + c * 256 + d * 65536 = omega arith in
    let e1 : (b + c * 256 + d * 65536) % 256 ≡ b = omega arith in
    let h2 : (a + b * 256 + c * 65536 + d * 16777216) / 65536 ≡ c + d * 256 = omega arith in
    let e2 : (c + d * 256) % 256 ≡ c = omega arith in
    let h3 : (a + b * 256 + c * 65536 + d * 16777216) / 16777216 ≡ d = omega arith in
    let e3 : d % 256 ≡ d = omega arith in
    rw (e0, h1, e1, h2, e2, h3, e3)

module _ (bs : List ℕ) (small : (i : ℕ) → get_or bs i 0 < 256) where
  word_part : (w : ℕ) → w * 4 + 4 ≤ length bs → word_bytes (word_at bs w) ≡ part bs (w * 4) 4
  unfolding word_at
  word_part w h = rw (digits (small (w * 4)) (small (w * 4 + 1)) (small (w * 4 + 2)) (small (w * 4 + 3))) (part_four bs (w * 4) h)

  record_part : (q : ℕ) → 16 * q + 16 ≤ length bs → record_bytes (record_at bs q) ≡ part bs (16 * q) 16
  unfolding record_at
  record_part q h =
      let late = part_join bs ((q * 4 + 2) * 4) 4 4 (word_part (q * 4 + 2) (omega arith)) (word_part (q * 4 + 3) (omega arith))
      (omega arith) refl in
      let rest = part_join bs ((q * 4 + 1) * 4) 4 8 (word_part (q * 4 + 1) (omega arith)) late (omega arith) refl in
      part_join bs (q * 4 * 4) 4 12 (word_part (q * 4) (omega arith)) rest (omega arith) refl ∙ ap (λ (at : ℕ). part bs at 16) (omega arith)

  pub pages_part : (f : ℕ → Record) (p q n : ℕ) → 16 * (q + n) ≤ length bs → ((i : ℕ) → i < n → f (p + i) ≡ record_at bs (q + i))
      → pages_bytes f (range p n) ≡ part bs (16 * q) (16 * n)
  unfolding pages_bytes range
  pages_part f p q zero h same = sym (part_none bs (16 * q))
  pages_part f p q (suc n) h same =
      part_join bs (16 * q) 16 (16 * n)
      (ap record_bytes (at_first f (record_at bs) p q n same) ∙ record_part q (omega arith))
      (pages_part f (p + 1) (q + 1) n (omega arith) (from_next f (record_at bs) p q n same))
      (omega arith) (omega arith)

-- ---- memory

module _ (bs : List ℕ) (m : Memory) where
  byte : ℕ → ℕ
  byte i = get_or bs i 0

  pub run_part : (a b n : ℕ) → b + n ≤ length bs → ((i : ℕ) → i < n → m (a + i) ≡ get_or bs (b + i) 0) → bytes_at m a n ≡ part bs b n
  unfolding bytes_at byte
  run_part a b zero h same = sym (part_none bs b)
  run_part a b (suc n) h same =
      ap₂ (λ (x : ℕ) (xs : List ℕ). x ∷ xs) (at_first m byte a b n same)
      (run_part (a + 1) (b + 1) n (omega arith) (from_next m byte a b n same))
      ∙ part_cons bs b n (omega arith)
