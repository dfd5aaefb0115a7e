-- Each turn copies within the bytes that the last left, which are as many.
use mathlib.Core.Path.{refl, sym}
use native.Mathlib.Numerals.{add-one}
use Rattle.std.proofs.lemmas.Bool.{leb-true}
use Rattle.leaves.specs.Contents.{copied}
use Rattle.leaves.proofs.leaves_copy.Goals as goal

pub returns-then-not-lies-clause-memory_after : goal.returns-then-not-lies-clause-memory_after
unfolding copied
returns-then-not-lies-clause-memory_after c = refl

pub loop-init : goal.loop-init
unfolding copied
loop-init c = (leb-true _ _ (sym c.if-not-lies.ensures), leb-true _ _ (sym c.if-not-lies-2.ensures), refl)

pub loop-preserved : goal.loop-preserved
unfolding copied
loop-preserved c =
    let v = c.loop.invariant in (v.0, v.1, rw (c.copy.ensures, v.2, add-one) refl)
