-- The list is sound, and the pages popped and those left make `count`, so that no pop finds the list empty.
use Prim.Native.Nat.{ℕ, ◌+◌}
use mathlib.Core.List.{List}
use mathlib.Core.Path.{◌≡◌}
use Rattle.definition.specs.declared.Links.{Links}
use Rattle.definition.specs.World.{record_at}
use Rattle.record.specs.Records.{pages_in}
use Rattle.list.specs.Linked.{Sound}
use Rattle.leaves.proofs.pop_all.Given as goal

pub record Inv (count : ℕ) (records : List ℕ) (l : Links) (i : ℕ) : Type 0 where
  pub left : i + l.count ≡ count
  pub sound : Sound (record_at records) (pages_in records) l

abbrev pub invariant-loop-i : goal.invariant-loop-i
invariant-loop-i l = Inv l.count l.records l.l l.i
