-- `find_level` meets its contract: no level that was tried serves.
use Prim.Native.Nat.{ℕ, ◌<◌}
use mathlib.Core.Bool.{false}
use mathlib.Core.Path.{◌≡◌}
use Rattle.definition.specs.Calls.{bytes_of_level}
use Rattle.level.specs.Level.{serves}
use Rattle.level.proofs.find_level.Given as goal

abbrev pub invariant-loop-level : goal.invariant-loop-level
invariant-loop-level l =
    (m : ℕ) → m < l.level-index → serves (bytes_of_level l.board m) l.size l.align ≡ false
