-- The freed page's region is one of a sane table; it is freed in its row where that stands.
use Rattle.std.proofs.Common.{arith, rules}
use Rattle.words.specs.Words.{RowsBeside, board_in}
use Rattle.words.proofs.Places.{in_use}
use Rattle.region.proofs.Lending.{both_lent, lent}
use Rattle.allocator.specs.Spots.{TurnsIn, free_at, number_in}
use Rattle.allocator.proofs.Turning.{spot_good, spot_index, free_turns}
use Rattle.allocator.proofs.free.Goals as goal

pub free-requires : goal.free-requires
free-requires c =
    let i = spot_index c.requires.long.1 c.requires.held_in.0 in
    let G = spot_good c.requires.long.1 c.requires.held_in.0 in
    rw c.board_in-board.ensures.0 record {
      sound_in = ((c.requires.long.0, i, in_use c.args.words.now c.args.spot.index i (λ z. omega (arith, z, G.tables))), G.sound);
      whole_in = G.whole;
      held = c.requires.held_in.1;
    }

pub returns : goal.returns
returns c =
    let d = c.free.ensures in
    let e = rw c.board_in-board.ensures.0 at d.leaves_in in
    let w = rw (c.board_in-board.ensures.0, d.same.first, d.same.index) at d.whole_in_2 in
    let to = free_at (board_in c.args.words.now) (number_in c.args.words.now c.args.spot) in
    let t : TurnsIn to c.args.records.now c.args.words.now c.free.new.self.records.now c.free.new.self.words.now =
    rw e.1.rows (λ a T. free_turns T c.args.spot c.requires.held_in.0 e.0 w) in record {
      turns_in = both_lent (TurnsIn to c.args.records.now c.args.words.now) t (search rules) (search rules);
      rows_beside = lent (RowsBeside c.args.words.now) e.1.rest (search rules);
    }
