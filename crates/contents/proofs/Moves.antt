-- `with_bytes` as what is left of a slice that was cut in two, with one side written in the other.
use Prim.Native.Nat.{ℕ, ◌+◌, ◌-◌, ◌≤◌}
use mathlib.Core.List.{List, ◌++◌, append_assoc}
use mathlib.Core.Path.{◌≡◌, refl, sym, ap, ◌∙◌}
use native.Mathlib.Omega.{arith}
use native.Mathlib.Nat.{zero-add}
use lib.ListN.{length, take, drop, length-take, length-drop}
use lib.Seq.{take-add, length-take-le, take-take, drop-append-le, drop-drop}
use Rattle.std.proofs.lemmas.List.{take-append-drop, drop-take}
use Rattle.record.specs.Records.{with_bytes}

pub part_length : (m : List ℕ) (from n : ℕ) → from + n ≤ length m → length (take n (drop from m)) ≡ n
part_length m from n h = simp (length-take, length-drop) (omega arith)

-- bytes written where they are
pub stays_written : (m : List ℕ) (from n : ℕ) → from + n ≤ length m → m ≡ with_bytes m from (take n (drop from m))
unfolding with_bytes
stays_written m from n h = rw (part_length m from n h, ← take-add from n m) (sym (take-append-drop (from + n) m))

module _ (m : List ℕ) (to from n : ℕ) where
  -- n bytes of the upper side, written in the lower one
  pub lower_written : to + n ≤ from → from + n ≤ length m
      → with_bytes (take from m) to (take n (drop from m)) ++ drop from m ≡ with_bytes m to (take n (drop from m))
  unfolding with_bytes
  lower_written h k =
      let xs = take n (drop from m) in
      let e : length xs ≡ n = part_length m from n k in
      let f : length (take from m) ≡ from = length-take-le from m (omega arith) in
      let d : drop (to + n) (take from m) ++ drop from m ≡ drop (to + n) m =
      sym (drop-append-le (to + n) (take from m) (drop from m) (omega arith)) ∙ rw (take-append-drop from m) refl in
      rw (e, take-take to from m (omega arith), append_assoc (take to m ++ xs) (drop (to + n) (take from m)) (drop from m), d) refl

  -- n bytes of the lower side, written at the front of the upper one
  pub upper_written : from + n ≤ to → to + n ≤ length m
      → take to m ++ with_bytes (drop to m) 0 (take (from + n - from) (drop from (take to m))) ≡ with_bytes m to (take n (drop from m))
  unfolding with_bytes
  upper_written h k =
      let xs = take n (drop from m) in
      let e : length xs ≡ n = part_length m from n (omega arith) in
      let q : from + n - from ≡ n = omega arith in
      let r : from + (to - from) ≡ to = omega arith in
      let x : take n (drop from (take to m)) ≡ xs =
      (rw r at (ap (take n) (drop-take from (to - from) m))) ∙ take-take n (to - from) (drop from m) (omega arith) in
      rw (q, x, e, zero-add n, drop-drop n to m, append_assoc (take to m) xs (drop (to + n) m)) refl
