-- What a change of a held frame's ZEROED mark leaves of the records: `Remarked`.
use Rattle.std.specs.Prelude.{ℕ, ◌<◌, Bool, List, ◌≡◌, get_or, length}
use Rattle.definition.specs.declared.Row.{Row}
use Rattle.definition.specs.Board.{Board}
use Rattle.definition.specs.World.{kernel_in, record_at}
use Rattle.record.specs.Records.{pages_in}
use Rattle.words.specs.Words.{board_in, rows_in}
use Rattle.allocator.specs.declared.Seen.{Seen}
use Rattle.allocator.specs.Spots.{TurnsBy, mark_at, number_at}

module _ (board : Board) where
  -- the records became such as hold the frame that was seen with this ZEROED mark and its own KERNEL mark
  pub record Remarked (rows : List Row) (rs : List ℕ) (r : Seen) (zeroed : Bool) (rs' : List ℕ) : Type 0 where
    pub turns
        : TurnsBy board (mark_at zeroed (kernel_in r.marks) (number_at board rows r.spot))
        (record_at rs) rows (record_at rs') (pages_in rs') rows
    pub as_long : length rs' ≡ length rs
    pub bytes : (i : ℕ) → get_or rs' i 0 < 256

abbrev pub RemarkedIn : (words records : List ℕ) → Seen → Bool → (records' : List ℕ) → Type 0
RemarkedIn ws rs r zeroed rs' = Remarked (board_in ws) (rows_in ws) rs r zeroed rs'
