-- `survey` meets its contract. The loop's invariant is `Surveying`: what is left decides as the whole does.
use Prim.Native.Nat.{◌-◌, ◌/◌}
use lib.ListN.{length}
use Rattle.definition.specs.World.{record_at}
use Rattle.words.specs.Words.{board_in, rows_in}
use Rattle.audit.proofs.Surveying.{Surveying}
use Rattle.audit.proofs.Lent.survey.Given as goal

abbrev pub invariant-loop-seen : goal.invariant-loop-seen
invariant-loop-seen l =
    let ws = l.self.words.now in
    let bytes = l.self.records.now in
    Surveying (board_in ws) (record_at bytes) (length bytes / 16) (rows_in ws) l.seen

abbrev pub decreases-loop-seen : goal.decreases-loop-seen
decreases-loop-seen l = 8 - l.seen.used
