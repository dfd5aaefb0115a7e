-- `is_listed` meets its contract. The loop's invariant: some region lists a frame of the level or above exactly if one of those that are
-- left does.
use Rattle.definition.specs.World.{record_at}
use Rattle.level.specs.Level.{rank}
use Rattle.record.specs.Records.{pages_in}
use Rattle.words.specs.Words.{board_in, rows_in}
use Rattle.allocator.proofs.Arrays.{Onward}
use Rattle.allocator.proofs.Listing.{lists_in}
use Rattle.allocator.proofs.Table.is_listed.Given as goal

abbrev pub invariant-loop-i : goal.invariant-loop-i
invariant-loop-i l =
    let t = l.self in
    Onward (board_in t.words.now) (record_at t.records.now) (pages_in t.records.now) (rows_in t.words.now) (lists_in (rank l.level)) l.i
