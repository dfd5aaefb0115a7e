-- The loop has pushed the children before i on their list, which is out of the row. It reads no board, so what became is said of every
-- board on which the region is sound and the frame is one to split.
use Rattle.std.proofs.Common.{◌≡◌, ◌-◌, length}
use Rattle.definition.specs.Board.{Board}
use Rattle.definition.specs.Frame.{children, slot}
use Rattle.definition.specs.World.{record_at}
use Rattle.record.specs.Records.{pages_in}
use Rattle.words.specs.Words.{row_of, rows_in, with_list}
use Rattle.region.specs.Rep.{Becomes, SoundRow, Splits, state_of}
use Rattle.region.proofs.AllocationRegion.split.Given as goal

abbrev pub invariant-loop-i : goal.invariant-loop-i
invariant-loop-i l =
    record {
      same : length l.records ≡ length l.initial.records;
      became
          : (board : Board) → SoundRow board (record_at l.initial.records) (pages_in l.initial.records) l.fn.self.first (row_of (rows_in l.words) l.index)
          → Splits board (state_of (record_at l.initial.records) (row_of (rows_in l.words) l.index)) l.fn.self.first (row_of (rows_in l.words) l.index).pages l.page l.level
          → Becomes board (record_at l.initial.records) l.fn.self.first (row_of (rows_in l.words) l.index) (record_at l.records) (pages_in l.records)
          (with_list (row_of (rows_in l.words) l.index) (slot l.level l.zeroed) l.l)
          (children (l.i - 1) (state_of (record_at l.initial.records) (row_of (rows_in l.words) l.index)) l.page l.level l.zeroed);
    }
