-- `shares_any` meets its contract: the test of each other row is that of its region.
use mathlib.Core.Path.{◌∙◌}
use borrow.Author.Rules.{rules}
use Rattle.std.proofs.lemmas.Iterator.{YieldsList-from_slice}
use Rattle.std.proofs.lemmas.Iterator.Search.{any_from_yields_List}
use Rattle.definition.specs.declared.Row.{Row}
use Rattle.definition.specs.Boot.{shares}
use Rattle.definition.specs.World.{bare_region}
use Rattle.audit.proofs.Bare.{any_regions}
use Rattle.audit.proofs.shares_any.Goals as goal

pub returns : goal.returns
returns c =
    let a = c.args in
    any_from_yields_List (λ (t : Row). shares a.board (bare_region a.board a.row) (bare_region a.board t)) _ _ c.any.result
    c.any.ensures.ran
    (YieldsList-from_slice a.others.now (cc)) (λ x b q k. search rules)
    ∙ any_regions a.board (shares a.board (bare_region a.board a.row)) a.others.now
