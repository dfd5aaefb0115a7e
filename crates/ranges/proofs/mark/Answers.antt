-- Other marks leave the table sane.
use Rattle.ranges.proofs.Marking.{marked_table}
use Rattle.ranges.proofs.mark.Goals as goal

pub returns-clause-table_in : goal.returns-clause-table_in
returns-clause-table_in c =
    let a = c.args in
    marked_table a.words.now a.records.now c.set_marks.new.records c.set_marks.auto.records c.requires.table_in c.set_marks.ensures
