-- Stores right behind one another are one `with_bytes`.
use Prim.Native.Nat.{ℕ, suc, ◌+◌, ◌≤◌}
use mathlib.Core.List.{List, [], ◌∷◌, ◌++◌, append_assoc}
use mathlib.Core.Path.{◌≡◌, refl, ◌∙◌}
use native.Mathlib.Numerals.{add-one}
use native.Mathlib.Omega.{arith}
use lib.ListN.{length, set, length-append}
use lib.Seq.{sets, sets-eq}
use Rattle.record.specs.Records.{with_bytes}
use Rattle.record.proofs.Bytes.{with_then}

pub stores : (xs ws : List ℕ) (at : ℕ) → at + length xs ≤ length ws → sets ws at xs ≡ with_bytes ws at xs
unfolding with_bytes
stores xs ws at h = sets-eq xs ws at h

module _ (ws : List ℕ) (at a b : ℕ) where
  pub two_stores : at + 2 ≤ length ws → set (set ws at a) (at + 1) b ≡ with_bytes ws at (a ∷ b ∷ [])
  two_stores h = rw add-one (stores (a ∷ b ∷ []) ws at h)

  pub three_stores : (c : ℕ) → at + 3 ≤ length ws → set (set (set ws at a) (at + 1) b) (at + 2) c ≡ with_bytes ws at (a ∷ b ∷ c ∷ [])
  three_stores c h = let e : at + 2 ≡ suc (suc at) = omega arith in rw (add-one, e) (stores (a ∷ b ∷ c ∷ []) ws at h)

  -- two stores and three runs of three words
  pub row_stores : (x y z : List ℕ) → length x ≡ 3 → length y ≡ 3 → length z ≡ 3 → at + 11 ≤ length ws
      → with_bytes (with_bytes (with_bytes (set (set ws at a) (at + 1) b) (at + 2) x) (at + 5) y) (at + 8) z
      ≡ with_bytes ws at (a ∷ b ∷ (x ++ (y ++ z)))
  row_stores x y z p q r h =
      let e : at + length (a ∷ b ∷ x) ≡ at + 5 = omega arith in
      let n : length (x ++ y) ≡ 6 = length-append x y ∙ omega arith in
      let g : at + length (a ∷ b ∷ (x ++ y)) ≡ at + 8 = omega arith in
      rw (
        two_stores (omega arith),
        with_then ws at (a ∷ b ∷ []) (omega arith) x,
        ← e,
        with_then ws at (a ∷ b ∷ x) (omega arith) y,
        ← g,
        with_then ws at (a ∷ b ∷ (x ++ y)) (omega arith) z,
        append_assoc x y z,
      ) refl
