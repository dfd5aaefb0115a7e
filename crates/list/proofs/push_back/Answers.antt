-- `list::push_back` meets its contract: the page is put behind the old back, which, where there is one, is followed by it.
use Rattle.list.proofs.Laws.{back_of_lem}
use Rattle.list.proofs.Pushing.{pushed}
use Rattle.list.proofs.push_back.Goals as goal

pub later_at-requires : goal.later_at-requires
later_at-requires c =
    rw c.set_links.auto.records (λ e. back_of_lem _ c.requires.sound e c.requires.sound.inside)

pub returns : goal.returns
returns c =
    let m = c.later_at in
    let d = c.set_links in
    rw (c.either.ensures, m.ensures, m.auto.records, d.ensures.records, d.auto.records)
    (pushed _ _ c.args.list c.args.page c.requires.page_bound c.requires.sound c.requires.out)
