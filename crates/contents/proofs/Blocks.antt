-- Laws of `with_bytes` where a part of a list is moved within it block by block: to a lower place from its front, to a higher place from
-- its end; and that a block put at the front of another list is read there.
use Prim.Native.Nat.{ℕ, ◌+◌, ◌-◌, ◌≤◌}
use mathlib.Core.List.{List, ◌++◌, append_assoc}
use mathlib.Core.Path.{◌≡◌, refl, sym, ap, ◌∙◌}
use native.Mathlib.Omega.{arith}
use lib.ListN.{length, take, drop, length-append, length-take}
use lib.Seq.{take_at, drop_at, drop-drop, take-take, take-add, take-append-le, length-take-le}
use Rattle.std.proofs.lemmas.List.{drop-take}
use Rattle.record.specs.Records.{with_bytes}
use Rattle.record.proofs.Bytes.{with_then}
use Rattle.contents.proofs.Moves.{part_length}

-- what was written at the front of a list stands there
with_read : (bs xs : List ℕ) (n : ℕ) → length xs ≡ n → take n (with_bytes bs 0 xs) ≡ xs
unfolding with_bytes
with_read bs xs n e = take_at xs (drop (0 + length xs) bs) n e

-- a part that was put into a block, and from there back
pub block_moved : (m b : List ℕ) (to from n : ℕ) → from + n ≤ length m
    → with_bytes m to (take n (with_bytes b 0 (take (from + n - from) (drop from m)))) ≡ with_bytes m to (take n (drop from m))
block_moved m b to from n h =
    let q : from + n - from ≡ n = omega arith in
    rw (q, with_read b (take n (drop from m)) n (part_length m from n h)) refl

-- ---- what lies before the written bytes, and what lies behind them

module _ (bs : List ℕ) (at : ℕ) (xs : List ℕ) (fits : at + length xs ≤ length bs) where
  with_front : (n : ℕ) → n ≤ at → take n (with_bytes bs at xs) ≡ take n bs
  unfolding with_bytes
  with_front n h =
      let e : length (take at bs) ≡ at = length-take-le at bs (omega arith) in
      rw (
        append_assoc (take at bs) xs (drop (at + length xs) bs),
        take-append-le n (take at bs) (xs ++ drop (at + length xs) bs) (omega arith),
      )
      (take-take n at bs h)

  with_rest : (n : ℕ) → at + length xs ≤ n → drop n (with_bytes bs at xs) ≡ drop n bs
  unfolding with_bytes
  with_rest n h =
      let e : length (take at bs ++ xs) ≡ at + length xs = simp (length-append, length-take) (omega arith) in
      let d : n ≡ at + length xs + (n - (at + length xs)) = omega arith in
      rw (
        d,
        ← drop-drop (n - (at + length xs)) (at + length xs) (take at bs ++ xs ++ drop (at + length xs) bs),
        drop_at (take at bs ++ xs) (drop (at + length xs) bs) (at + length xs) e,
        drop-drop (n - (at + length xs)) (at + length xs) bs,
      )

  behind : drop at (with_bytes bs at xs) ≡ xs ++ drop (at + length xs) bs
  unfolding with_bytes
  behind =
      rw (append_assoc (take at bs) xs (drop (at + length xs) bs))
      (drop_at (take at bs) (xs ++ drop (at + length xs) bs) at (length-take-le at bs (omega arith)))

glue : (m bs : List ℕ) (at : ℕ) (xs ys : List ℕ) → take at m ≡ take at bs → drop (at + length xs) m ≡ ys ++ drop (at + length xs + length ys) bs
    → with_bytes m at xs ≡ with_bytes bs at (xs ++ ys)
unfolding with_bytes
glue m bs at xs ys e d =
    let q : at + (length xs + length ys) ≡ at + length xs + length ys = omega arith in
    rw (e, d, length-append xs ys, q) (simp append_assoc)

-- bytes right in front of others
with_before : (bs : List ℕ) (at : ℕ) (xs ys : List ℕ) → at + length xs + length ys ≤ length bs
    → with_bytes (with_bytes bs (at + length xs) ys) at xs ≡ with_bytes bs at (xs ++ ys)
with_before bs at xs ys h =
    glue (with_bytes bs (at + length xs) ys) bs at xs ys (with_front bs (at + length xs) ys h at (omega arith)) (behind bs (at + length xs) ys h)

-- a part depends on what lies up to its end
part_same : (m m' : List ℕ) (n f k : ℕ) → take n m ≡ take n m' → f + k ≤ n → take k (drop f m) ≡ take k (drop f m')
part_same m m' n f k e h =
    let t : take (f + k) m ≡ take (f + k) m' = sym (take-take (f + k) n m h) ∙ ap (take (f + k)) e ∙ take-take (f + k) n m' h in
    sym (drop-take f k m) ∙ ap (drop f) t ∙ drop-take f k m'

-- ---- a part of the list itself, moved block by block

-- to a lower place, the first i bytes first: what lies from `from + i` on is as it was
pub move_lower : (m : List ℕ) (to from i k : ℕ) → to ≤ from → from + (i + k) ≤ length m
    → let w = with_bytes m to (take i (drop from m)) in with_bytes w (to + i) (take k (drop (from + i) w)) ≡ with_bytes m to (take (i + k) (drop from m))
move_lower m to from i k le h =
    let a = take i (drop from m) in
    let e : length a ≡ i = part_length m from i (omega arith) in
    let d : drop (from + i) (with_bytes m to a) ≡ drop (from + i) m = with_rest m to a (omega arith) (from + i) (omega arith) in
    rw (d, take-add i k (drop from m), drop-drop i from m) (rw e at (with_then m to a (omega arith) (take k (drop (from + i) m))))

-- to a higher place, the last i bytes first: what lies up to `from + k` is as it was
pub move_higher : (m : List ℕ) (to from i k : ℕ) → from ≤ to → to + (k + i) ≤ length m
    → let w = with_bytes m (to + k) (take i (drop (from + k) m)) in with_bytes w to (take k (drop from w)) ≡ with_bytes m to (take (k + i) (drop from m))
move_higher m to from i k le h =
    let b = take i (drop (from + k) m) in
    let a = take k (drop from m) in
    let eb : length b ≡ i = part_length m (from + k) i (omega arith) in
    let ea : length a ≡ k = part_length m from k (omega arith) in
    let t : take (to + k) (with_bytes m (to + k) b) ≡ take (to + k) m = with_front m (to + k) b (omega arith) (to + k) (omega arith) in
    let d : take k (drop from (with_bytes m (to + k) b)) ≡ a = part_same (with_bytes m (to + k) b) m (to + k) from k t (omega arith) in
    rw (d, take-add k i (drop from m), drop-drop k from m) (rw ea at (with_before m to a b (omega arith)))
