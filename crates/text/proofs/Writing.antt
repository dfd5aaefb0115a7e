-- Laws of `Wrote`: one text after another is one text, and an equal text serves as well.
use Prim.Native.Nat.{ℕ, ◌≤◌}
use mathlib.Core.List.{List, ◌++◌}
use mathlib.Core.Path.{◌≡◌}
use native.Mathlib.Omega.{arith}
use lib.ListN.{length, length-append}
use Rattle.record.proofs.Bytes.{with_then}
use Rattle.text.specs.Writing.{Wrote}

pub wrote_then : {out a out' b out'' : List ℕ} {at r r' : ℕ} → Wrote out at a out' r → Wrote out' r b out'' r' → r ≤ length out
    → Wrote out at (a ++ b) out'' r'
wrote_then {out} {a} {out'} {b} {out''} {at} {r} {r'} f g h =
    record {
      after = rw (length-append a b) (omega (arith, f.after, g.after));
      bytes = rw (g.bytes, f.bytes, f.after) (with_then out at a (omega (arith, f.after)) b);
    }

-- the same text, said otherwise
pub wrote_as : {out a b out' : List ℕ} {at r : ℕ} → a ≡ b → Wrote out at a out' r → Wrote out at b out' r
wrote_as e w = rw e at w
