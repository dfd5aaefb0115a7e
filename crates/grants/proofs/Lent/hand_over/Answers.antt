-- The frame that is handed over is held, so its bytes and its record are of the table, which stays sane under other marks.
use Rattle.grants.proofs.Giving.{held_level, held_room, page_in_lem, turned_table}
use Rattle.grants.proofs.Lent.hand_over.Goals as goal

pub zero_if_asked-requires : goal.zero_if_asked-requires
zero_if_asked-requires c =
    let l = c.args.self.now in
    let S = l.table.1 in
    let I = c.requires.held_in.0 in
    let H = c.requires.held_in.1 in
    rw c.board_in-board.ensures.0 record {
      page_bound = (page_in_lem I S, held_level I S H);
      page_in_bounds = held_room I S H l.room;
    }

pub invariant_of-self : goal.invariant_of-self
invariant_of-self c =
    let l = c.args.self.now in
    let y = c.set_marks in
    record {
      table = turned_table l.words.now l.records.now y.new.records y.ensures y.auto.records l.table;
      room = rw c.zero_if_asked.auto.memory l.room;
    }
