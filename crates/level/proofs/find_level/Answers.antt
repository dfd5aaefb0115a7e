-- `find_level` meets its contract: the level of the turn serves, and none that was tried before does.
use mathlib.Core.Path.{sym}
use Rattle.definition.specs.Calls.{Layout}
use Rattle.level.proofs.Choice.{found_at}
use Rattle.level.proofs.Ranks.{level_in, rank_of_level}
use Rattle.level.proofs.find_level.Goals as goal

pub returns-then-suffices : goal.returns-then-suffices
returns-then-suffices c =
    λ flags.
    let y : Layout = record { size = c.args.size; align = c.args.align; flags = flags } in
    let i = c.loop-level.level-index in
    let h = c.loop-level-test.true in
    let served = rw (level_in i h, rank_of_level i h) at c.if-suffices.ensures in
    rw (level_in i h) (sym (found_at c.args.board y (sym c.if-is_bad_layout.ensures) i h (sym served) c.loop-level.invariant))
