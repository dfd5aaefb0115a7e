-- What a text that was written leaves in front of the place behind it, and what beyond.
use Prim.Native.Nat.{ℕ, ◌+◌, ◌≤◌}
use mathlib.Core.List.{List, [], ◌++◌}
use mathlib.Core.Path.{◌≡◌, ap, ◌∙◌}
use native.Mathlib.Omega.{arith}
use lib.ListN.{length, take, drop, length-append, length-take}
use lib.Seq.{take_at}
use Rattle.record.specs.Records.{with_bytes}
use Rattle.record.proofs.Bytes.{with_length, with_none}
use Rattle.text.specs.Writing.{Wrote}
use Rattle.world.proofs.Writing.{drop_with}

pub wrote_nothing : (out : List ℕ) (at : ℕ) → Wrote out at [] out at
wrote_nothing out at = record { after = omega arith; bytes = with_none out at }

module _ {out a out' : List ℕ} {at r : ℕ} (f : Wrote out at a out' r) (fits : r ≤ length out) where
  pub wrote_long : length out' ≡ length out
  wrote_long = ap length f.bytes ∙ with_length out at a (omega (arith, f.after))

  pub wrote_take : take r out' ≡ take at out ++ a
  unfolding with_bytes
  wrote_take =
      let e : length (take at out ++ a) ≡ r = simp (length-append, length-take) (omega (arith, f.after)) in
      rw f.bytes (take_at (take at out ++ a) (drop (at + length a) out) r e)

  -- nothing changed from any later place on
  pub wrote_drop : (n : ℕ) → r ≤ n → n ≤ length out → drop n out' ≡ drop n out
  wrote_drop n h l = rw f.bytes (drop_with out at n a (omega (arith, f.after)) l)
