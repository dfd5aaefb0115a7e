-- A held frame is on no list, and stays so.
use Rattle.region.proofs.Keeping.{row_whole}
use Rattle.region.proofs.Marking.{marks_become, marks_whole}
use Rattle.region.proofs.set_marks.Goals as goal

pub returns : goal.returns
returns c =
    let m = c.held_marks-held in
    let d = c.set_marks in
    let b = marks_become c.requires.sound_row c.requires.held c.args.zeroed c.args.kernel m.result m.ensures in
    rw (d.ensures.records, d.auto.records) record {
      becomes = b;
      whole_row_2 = row_whole b (marks_whole c.requires.sound_row c.requires.held c.args.zeroed c.args.kernel c.requires.whole_row);
    }
