-- `list_walks` meets its contract: an empty list walks, and of another `walk` says whether it does.
use Rattle.std.proofs.Common.{sym, ◌∙◌}
use Rattle.definition.specs.World.{record_at}
use Rattle.words.specs.Words.{row_of, rows_in}
use Rattle.scan.proofs.Ends.{none_walks}
use Rattle.scan.proofs.Lists.list_walks.Goals as goal

pub returns-then-eq : goal.returns-then-eq
returns-then-eq c =
    let s = c.args.self.now in
    let r = s.region.now in
    let lists = (row_of (rows_in s.words.now) s.i).lists in
    let e = c.if-eq.true in
    let l = c.list_at-links in
    e ∙ sym (none_walks (record_at r.records.now) r.base r.past lists c.args.k l.result l.ensures (sym c.eq.ensures ∙ e))
