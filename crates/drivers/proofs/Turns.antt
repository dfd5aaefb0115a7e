-- The laws of a driver's loop. Its invariant is `Onward`: the turns that are left, from the world as it is, come to what all turns come to
-- from the first world. `onward` is a turn that is accepted, `stopped` one that is refused, and `ended` the end of the last turn.
use Prim.Native.Nat.{ℕ, suc, ◌+◌, ◌-◌, ◌≤◌, ◌<◌}
use mathlib.Core.Path.{◌≡◌, refl}
use native.Mathlib.Omega.{arith}
use mathlib.Core.Bool.{true, false}
use Rattle.definition.specs.Board.{standard}
use Rattle.definition.specs.Calls.{Call}
use Rattle.definition.specs.World.{World}
use Rattle.std.specs.Prelude.{is_ok}
use Rattle.exam.specs.Promise.{Answer, Leaves}
use Rattle.drivers.specs.Driving.{Driven, Drives, Turn, turn, turns}

pub leaves_turn
    : {w : World} {c : Call} {v : World} {y : Answer} → Leaves standard w c v y
    → turn c w ≡ record { world = v; answer = y }
unfolding turn
leaves_turn L = rw (L.world, L.answer) refl

pub record Onward (t : World → Turn) (times : ℕ) (first w : World) (i : ℕ) : Type 0 where
  pub same : turns t (times - i) i w ≡ turns t times 0 first

pub begun : {t : World → Turn} {times : ℕ} {w : World} → Onward t times w w 0
begun {times = times} = let e : times - 0 ≡ times = omega arith in record { same = rw e refl }

drives_as : {d : Driven} (w : World) (n : ℕ) → record { world = w; accepted = n } ≡ d → Drives d w.records w.memory n
drives_as w n e = rw (← e) (record { records = refl; memory = refl; accepted = refl })

module _ {t : World → Turn} {times : ℕ} {first w : World} {i : ℕ} (O : Onward t times first w i) where
  pub ended : times ≤ i → i ≤ times → Drives (turns t times 0 first) w.records w.memory times
  unfolding turns
  ended low high =
      let e : times - i ≡ 0 = omega arith in
      let same : i ≡ times = omega arith in
      rw same at (drives_as w i (rw e at O.same))

  module _ {v : World} {y : Answer} (h : i < times) (e : t w ≡ record { world = v; answer = y }) where
    one_more_lem : times - i ≡ suc (times - (i + 1))
    one_more_lem = omega arith

    pub onward : is_ok y ≡ true → Onward t times first v (i + 1)
    unfolding turns
    onward z = record { same = rw (one_more_lem, e, z) at O.same }

    pub stopped : is_ok y ≡ false → Drives (turns t times 0 first) v.records v.memory i
    unfolding turns
    stopped z = drives_as v i (rw (one_more_lem, e, z) at O.same)
