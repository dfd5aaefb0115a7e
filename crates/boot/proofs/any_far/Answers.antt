-- `any_far` meets its contract.
use mathlib.Core.Path.{◌∙◌}
use borrow.Author.Rules.{rules}
use Rattle.std.proofs.lemmas.Iterator.{YieldsList-from_slice}
use Rattle.std.proofs.lemmas.Iterator.Search.{any_from_yields_List}
use Rattle.definition.specs.Boot.{ends_far}
use Rattle.boot.proofs.KeptRows.{any_is}
use Rattle.boot.proofs.any_far.Goals as goal

pub returns : goal.returns
returns c =
    any_from_yields_List ends_far _ _ c.any.result c.any.ensures.ran (YieldsList-from_slice c.args.map.now (cc)) (λ x b q k. search rules)
    ∙ any_is ends_far c.args.map.now
