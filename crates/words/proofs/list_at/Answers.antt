-- `list_at` meets its contract: an even number is a level's first list, an odd one its second.
use mathlib.Core.Path.{◌∙◌}
use Rattle.words.proofs.Places.{list_numbered}
use Rattle.words.proofs.list_at.Goals as goal

pub returns : goal.returns
returns c = c.list_from.ensures ∙ list_numbered c.args.words.now c.args.i c.args.k c.requires.0 c.requires.1
