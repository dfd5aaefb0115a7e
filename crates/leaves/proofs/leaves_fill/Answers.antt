-- Each turn fills the bytes that the last left, which are as many.
use mathlib.Core.Path.{refl, sym}
use native.Mathlib.Numerals.{add-one}
use Rattle.std.proofs.lemmas.Bool.{leb-true}
use Rattle.leaves.specs.Contents.{filled}
use Rattle.leaves.proofs.leaves_fill.Goals as goal

pub returns-then-not-lies-clause-memory_after : goal.returns-then-not-lies-clause-memory_after
unfolding filled
returns-then-not-lies-clause-memory_after c = refl

pub loop-i-init : goal.loop-i-init
unfolding filled
loop-i-init c = (leb-true _ _ (sym c.if-not-lies.ensures), refl)

pub loop-i-preserved : goal.loop-i-preserved
unfolding filled
loop-i-preserved c = (c.loop-i.invariant.0, rw (c.fill.ensures, c.loop-i.invariant.1, add-one) refl)
