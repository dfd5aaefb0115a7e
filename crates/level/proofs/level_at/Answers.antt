-- `level_at` meets its contract: it tries the levels from the highest down, as the definition does.
use mathlib.Core.Path.{sym, ◌∙◌}
use Rattle.definition.specs.Frame.{highest}
use Rattle.level.proofs.level_at.Goals as goal

pub returns-then-fits : goal.returns-then-fits
unfolding highest
returns-then-fits c = rw (sym c.fits.ensures ∙ c.if-fits.true)

pub returns-then-fits-2 : goal.returns-then-fits-2
unfolding highest
returns-then-fits-2 c = rw (sym c.fits.ensures ∙ c.if-fits.false, sym c.fits-else-fits.ensures ∙ c.if-fits-2.true)

pub returns-else-fits-2 : goal.returns-else-fits-2
unfolding highest
returns-else-fits-2 c = rw (sym c.fits.ensures ∙ c.if-fits.false, sym c.fits-else-fits.ensures ∙ c.if-fits-2.false)
