-- The region of the marked frame is one of a sane table, and its row stays.
use Rattle.allocator.proofs.Turning.{spot_good, spot_index, mark_turns}
use Rattle.allocator.proofs.set_marks.Goals as goal

pub row_at-row-requires : goal.row_at-row-requires
row_at-row-requires c = (c.requires.long.0, spot_index c.requires.long.1 c.requires.held_in.0)

pub set_marks-requires : goal.set_marks-requires
set_marks-requires c =
    let G = spot_good c.requires.long.1 c.requires.held_in.0 in
    rw (c.row_at-row.ensures, c.board_in-board.ensures.0) record {
      sound_row = G.sound;
      whole_row = G.whole;
      held = c.requires.held_in.1;
    }

pub returns : goal.returns
returns c =
    let e = rw (c.row_at-row.ensures, c.board_in-board.ensures.0) at c.set_marks.ensures.becomes in
    let w = rw (c.row_at-row.ensures, c.board_in-board.ensures.0) at c.set_marks.ensures.whole_row_2 in
    λ a T. mark_turns T c.args.spot c.requires.held_in.0 c.args.zeroed c.args.kernel e w
