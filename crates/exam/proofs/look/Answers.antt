-- What is seen at an address, for every allocator that the table stands for.
use Rattle.definition.specs.World.{record_at}
use Rattle.words.specs.Words.{board_in, rows_in}
use Rattle.exam.proofs.Tests.{looks_at, seen_leveled}
use Rattle.exam.proofs.look.Goals as goal

pub held-requires : goal.held-requires
held-requires c =
    let t = c.args.table in
    record {
      fit = c.board_in.ensures.1;
      leveled = seen_leveled (board_in t.words.now) (record_at t.records.now) (rows_in t.words.now) _ _ t.sane c.see-seen.ensures;
    }

pub returns : goal.returns
returns c =
    let a = c.args in
    rw (c.held.ensures, c.board_in.ensures.0) (looks_at a.table.sane a.pa.0 a.offset a.len c.see-seen.result c.see-seen.ensures)
