-- `contents::copy_lower` meets its contract. The loop's invariant: the first `done` bytes are moved, and the rest of memory is as it was.
use Prim.Native.Nat.{◌-◌, ◌≤◌}
use mathlib.Core.Path.{◌≡◌}
use lib.ListN.{length, take, drop}
use Rattle.record.specs.Records.{with_bytes}
use Rattle.contents.proofs.copy_lower.Given as goal

abbrev pub invariant-loop-done : goal.invariant-loop-done
invariant-loop-done l = (l.done ≤ l.len) × (length l.memory ≡ length l.initial.memory) × (length l.block ≡ 4096) × (l.memory ≡ with_bytes l.initial.memory l.to (take l.done (drop l.from l.initial.memory)))

abbrev pub decreases-loop-done : goal.decreases-loop-done
decreases-loop-done l = l.len - l.done
