-- A call on a torn world is refused 6 and leaves it.
use Prim.Native.Nat.{ℕ, ◌<◌}
use mathlib.Core.Bool.{false}
use mathlib.Core.Path.{◌≡◌, ap}
use lib.ListN.{get_or}
use Rattle.definition.specs.Board.{Board}
use Rattle.definition.specs.Calls.{Call}
use Rattle.definition.specs.World.{World}
use Rattle.definition.specs.Torn.{Left, sound}
use Rattle.world.proofs.Calling.{torn_call}
use Rattle.std.specs.Prelude.{Err}
use Rattle.definition.specs.declared.Refusal.TheVariants.{Torn}
use Rattle.exam.specs.Promise.{Leaves, told}

abbrev pub Small : World → Type 0
Small w = (i : ℕ) → get_or w.records i 0 < 256

module _ {board : Board} where
  pub leaves_torn : (w : World) (c : Call) → sound board w ≡ false → Leaves board w c w (Err Torn)
  leaves_torn w c e =
      record {
        world = ap (λ (l : Left). l.world) (torn_call board w c e);
        answer = ap (λ (l : Left). told l.answer) (torn_call board w c e);
      }
