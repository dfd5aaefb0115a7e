-- Below eight the entry stands in its place; past that no entry of the first eight changed.
use Rattle.script.proofs.Turning.{enters_none, enters_place}
use Rattle.script.proofs.enter.Goals as goal

pub returns-then-count-lt8 : goal.returns-then-count-lt8
returns-then-count-lt8 c = enters_place c.args.map.now _ _ c.told-map c.if-count-lt8.true

pub returns-else-count-lt8 : goal.returns-else-count-lt8
returns-else-count-lt8 c = enters_none c.args.map.now _ _ c.told-map c.if-count-lt8.false
