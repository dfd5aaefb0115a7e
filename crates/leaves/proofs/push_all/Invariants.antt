-- The list is sound and has the pages below i, so that the page i is not on it yet.
use Prim.Native.Nat.{ℕ, ◌<◌}
use mathlib.Core.List.{List}
use mathlib.Core.Path.{◌≡◌}
use Rattle.definition.specs.declared.Links.{Links}
use Rattle.definition.specs.World.{record_at, pages_of}
use Rattle.record.specs.Records.{pages_in}
use Rattle.list.specs.Linked.{All, Sound}
use Rattle.leaves.proofs.push_all.Given as goal

pub record Inv (records : List ℕ) (l : Links) (i : ℕ) : Type 0 where
  pub sound : Sound (record_at records) (pages_in records) l
  pub below : All (λ (x : ℕ). x < i) (pages_of (record_at records) l)
  pub counted : l.count ≡ i

abbrev pub invariant-loop-i : goal.invariant-loop-i
invariant-loop-i l = Inv l.records l.l l.i
