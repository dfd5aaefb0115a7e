-- Each turn drops the queue's last address or frees its frame, as `Going` says of the turns so far.
use mathlib.Core.Path.{◌≡◌}
use lib.ListN.{length}
use Rattle.definition.specs.World.{record_at}
use Rattle.record.specs.Records.{pages_in}
use Rattle.words.specs.Words.{Beside, board_in}
use Rattle.exam.specs.Promise.{state_with}
use Rattle.reclaim.proofs.Reclaiming.{Going}
use Rattle.reclaim.proofs.reclaim_up_to.Given as goal

abbrev pub invariant-loop : goal.invariant-loop
invariant-loop l = Going (board_in l.initial.words) (record_at l.initial.records) (state_with l.initial.counters l.initial.words) l.queue l.limit (record_at l.records) (pages_in l.records)
    (state_with l.counters l.words)
    l.freed
    l.counter
    × (length l.records ≡ length l.initial.records)
    × (length l.words ≡ length l.initial.words)
    × Beside l.initial.words l.words
