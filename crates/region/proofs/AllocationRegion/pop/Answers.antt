-- A pop is the definition's: of an empty list it leaves all as it was, else one list and one page change.
use Rattle.definition.specs.World.{record_at}
use Rattle.list.proofs.Laws.{linked_sound}
use Rattle.list.specs.Linked.{Taken}
use Rattle.record.specs.Records.{pages_in}
use Rattle.words.specs.Words.{list_in, row_of, rows_in}
use Rattle.words.proofs.Words.{row_beside_same}
use Rattle.region.proofs.Laws.{pop_nothing, pop_page}
use Rattle.region.proofs.AllocationRegion.pop.Goals as goal

pub pop_back-requires : goal.pop_back-requires
pop_back-requires c =
    rw c.list_at-l.ensures (linked_sound (c.requires.sound_some.1.1.lists _ c.requires.k_bound))

pub returns-in_err-page-clause-finds_by : goal.returns-in_err-page-clause-finds_by
returns-in_err-page-clause-finds_by c =
    let d = c.pop_back in
    let e = rw c.list_at-l.ensures at c.in_err-page.ensures in
    λ board S. (rw (c.from_residual.ensures, e.1, d.auto.records) (pop_nothing S.1 c.requires.k_bound e.0), row_beside_same)

pub returns-clause-finds_by : goal.returns-clause-finds_by
returns-clause-finds_by c =
    let w = c.put_list in
    let v = c.in_ok-page in
    let a = c.args.self.now in
    let t : Taken (record_at a.records.now) (list_in (row_of (rows_in a.words.now) a.index) c.args.k) v.page (record_at c.pop_back.new.records) (pages_in a.records.now) v.rest =
    rw (c.pop_back.auto.records, c.list_at-l.ensures) at v.ensures in
    λ board S. (rw (w.ensures.row, c.pop_back.auto.records) (pop_page S.1 c.requires.k_bound t), w.ensures.rest)
