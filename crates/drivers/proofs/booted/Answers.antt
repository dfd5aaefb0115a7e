-- The map is the array with one entry counted.
use Prim.Native.Nat.{ℕ}
use mathlib.Core.Path.{refl, sym, ap}
use Rattle.definition.proofs.Boards.{standard_fit}
use native.Mathlib.Omega.{arith}
use Rattle.drivers.specs.Driving.{booted_world, usable}
use Rattle.drivers.proofs.booted.Goals as goal

pub boot-requires : goal.boot-requires
boot-requires c =
    record {
      fit = rw c.standard-board.ensures standard_fit;
      long = omega arith;
    }

pub returns : goal.returns
unfolding booted_world
returns c =
    let a = c.args in
    let map = ap (λ (n : ℕ). usable n a.bytes) (sym c.new-2.ensures) in
    rw (c.standard-board.ensures, c.started-counters.ensures) at (c.boot.ensures.boots_all (usable a.start a.bytes) refl map).world
