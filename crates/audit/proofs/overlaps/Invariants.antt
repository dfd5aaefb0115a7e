-- `overlaps` meets its contract. The loop's invariant: two of the rows share a page exactly if two of those that are left do.
use mathlib.Core.Path.{◌≡◌}
use lib.ListN.{drop}
use Rattle.definition.specs.Boot.{overlap}
use Rattle.definition.specs.Torn.{bare_regions}
use Rattle.audit.proofs.overlaps.Given as goal

abbrev pub invariant-loop-i : goal.invariant-loop-i
invariant-loop-i l = overlap l.board (bare_regions l.board l.rows) ≡ overlap l.board (bare_regions l.board (drop l.i l.rows))
