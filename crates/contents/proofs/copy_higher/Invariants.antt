-- `contents::copy_higher` meets its contract. The loop's invariant: the bytes behind the first `left` are moved, and the rest of memory is as it was.
use Prim.Native.Nat.{◌+◌, ◌-◌, ◌≤◌}
use mathlib.Core.Path.{◌≡◌}
use lib.ListN.{length, take, drop}
use Rattle.record.specs.Records.{with_bytes}
use Rattle.contents.proofs.copy_higher.Given as goal

abbrev pub invariant-loop-left : goal.invariant-loop-left
invariant-loop-left l = (l.left ≤ l.len) × (length l.memory ≡ length l.initial.memory) × (length l.block ≡ 4096)
    × (l.memory ≡ with_bytes l.initial.memory (l.to + l.left) (take (l.len - l.left) (drop (l.from + l.left) l.initial.memory)))

abbrev pub decreases-loop-left : goal.decreases-loop-left
decreases-loop-left l = l.left
