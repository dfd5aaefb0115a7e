-- Laws of `with_bytes`: what stands at each place, that stores one after another are one, and that it is what a write to a part leaves.
use Prim.Native.Nat.{ℕ, ◌+◌, ◌-◌, ◌≤◌, ◌<◌}
use mathlib.Core.List.{List, [], ◌++◌, append_assoc}
use mathlib.Core.Path.{◌≡◌, refl, ap, ◌∙◌}
use native.Mathlib.Omega.{arith}
use native.Mathlib.Decide.{dec_lt}
use lib.ListN.{length, get_or, take, drop, length-append, length-take, length-drop, get_or-append, replicate, length-replicate}
use lib.Seq.{paste-zero, take-length, length-take-le, get_or-append-add, get_or-take, get_or-drop, take_at, drop_at, drop-drop}
use borrow.Rule.Slice.PartMut.{put_mid}
use Rattle.std.proofs.lemmas.Slice.{put_mid-paste}
use Rattle.record.specs.Records.{with_bytes}

module _ (bs : List ℕ) (at : ℕ) (xs : List ℕ) (fits : at + length xs ≤ length bs) where
  front : length (take at bs ++ xs) ≡ at + length xs
  front = simp (length-append, length-take) (omega arith)

  pub with_length : length (with_bytes bs at xs) ≡ length bs
  unfolding with_bytes
  with_length = simp (length-append, length-take, length-drop) (omega arith)

  pub with_in : (i : ℕ) → i < length xs → get_or (with_bytes bs at xs) (at + i) 0 ≡ get_or xs i 0
  unfolding with_bytes
  with_in i h =
      let a : length (take at bs) ≡ at = length-take-le at bs (omega arith) in
      rw (get_or-append (take at bs ++ xs) (drop (at + length xs) bs) 0 (at + i) (omega (arith, front)))
      (rw a at (get_or-append-add (take at bs) xs i 0))

  before : (j : ℕ) → j < at → get_or (with_bytes bs at xs) j 0 ≡ get_or bs j 0
  unfolding with_bytes
  before j h =
      let a : length (take at bs) ≡ at = length-take-le at bs (omega arith) in
      rw (
        get_or-append (take at bs ++ xs) (drop (at + length xs) bs) 0 j (omega (arith, front)),
        get_or-append (take at bs) xs 0 j (omega arith),
      ) (get_or-take at bs j 0 h)

  after : (j : ℕ) → at + length xs ≤ j → get_or (with_bytes bs at xs) j 0 ≡ get_or bs j 0
  unfolding with_bytes
  after j h =
      let i = j - (at + length xs) in
      let e : at + length xs + i ≡ j = omega arith in
      rw e at ((rw front at (get_or-append-add (take at bs ++ xs) (drop (at + length xs) bs) i 0)) ∙ get_or-drop (at + length xs) bs i 0)

  pub with_out : (j : ℕ) → (at ≤ j → j < at + length xs → ⊥) → get_or (with_bytes bs at xs) j 0 ≡ get_or bs j 0
  with_out j n = go (dec_lt j at) (dec_lt j (at + length xs))
    where
      go : Dec (j < at) → Dec (j < at + length xs) → get_or (with_bytes bs at xs) j 0 ≡ get_or bs j 0
      go (yes l) d = before j l
      go (no l) (yes k) = absurd (n (omega arith) k)
      go (no l) (no k) = after j (omega arith)

  -- other bytes right behind these
  pub with_then : (ys : List ℕ) → with_bytes (with_bytes bs at xs) (at + length xs) ys ≡ with_bytes bs at (xs ++ ys)
  unfolding with_bytes
  with_then ys =
      rw (
        take_at (take at bs ++ xs) (drop (at + length xs) bs) (at + length xs) front,
        ← drop-drop (length ys) (at + length xs) (take at bs ++ xs ++ drop (at + length xs) bs),
        drop_at (take at bs ++ xs) (drop (at + length xs) bs) (at + length xs) front,
        drop-drop (length ys) (at + length xs) bs,
        length-append xs ys,
      )
      (let q : at + (length xs + length ys) ≡ at + length xs + length ys = omega arith in
      rw q (ap (λ (l : List ℕ). l ++ drop (at + length xs + length ys) bs) (append_assoc (take at bs) xs ys)))

pub with_none : (bs : List ℕ) (at : ℕ) → bs ≡ with_bytes bs at []
unfolding with_bytes
with_none bs at = paste-zero bs at []

-- ---- what std's methods leave of a list of which they wrote the part from a up to e

module _ (bs : List ℕ) (a n e : ℕ) (ends : a + n ≡ e) where
  pub part_written : (xs : List ℕ) → length xs ≡ n → put_mid a (e - a) bs xs ≡ with_bytes bs a xs
  unfolding with_bytes
  part_written xs h =
      let k : e - a ≡ length xs = omega arith in
      rw k (put_mid-paste a (length xs) bs xs xs (length xs) refl refl refl ∙ rw (take-length xs) refl)

  pub part_filled : (v : ℕ) (ys : List ℕ) → e ≤ length bs → ys ≡ replicate (length (take (e - a) (drop a bs))) v
      → put_mid a (e - a) bs ys ≡ with_bytes bs a (replicate n v)
  part_filled v ys h f =
      let k : length (take (e - a) (drop a bs)) ≡ n = simp (length-take, length-drop) (omega arith) in
      rw (f, k) (part_written (replicate n v) (length-replicate n v))
