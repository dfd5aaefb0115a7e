-- `list::remove` meets its contract: the page's neighbours are joined, and it is left with none.
use Rattle.list.proofs.Removal.{page_inside, earlier_inside, later_inside, count_some, removed}
use Rattle.list.proofs.remove.Goals as goal

pub earlier-e-requires : goal.earlier-e-requires
earlier-e-requires c = page_inside c.args.page c.requires.sound c.requires.fact

pub later-z-requires : goal.later-z-requires
later-z-requires c = page_inside c.args.page c.requires.sound c.requires.fact

pub later_at-requires : goal.later_at-requires
later_at-requires c =
    rw c.earlier-e.ensures (earlier_inside c.args.page c.requires.sound c.requires.fact)

pub earlier_at-requires : goal.earlier_at-requires
earlier_at-requires c =
    rw (c.later_at.auto.records, c.later-z.ensures)
    (later_inside c.args.page c.requires.sound c.requires.fact)

pub set_links-requires : goal.set_links-requires
set_links-requires c =
    rw (c.earlier_at.auto.records, c.later_at.auto.records)
    (page_inside c.args.page c.requires.sound c.requires.fact)

pub overflow_sub-result : goal.overflow_sub-result
overflow_sub-result c =
    count_some c.args.page c.requires.sound c.requires.fact

pub returns : goal.returns
returns c =
    let d = c.set_links in
    let a = c.earlier_at in
    let m = c.later_at in
    rw (
      c.either.ensures,
      c.either-2.ensures,
      d.ensures.records,
      d.auto.records,
      a.ensures,
      a.auto.records,
      m.ensures,
      m.auto.records,
      c.later-z.ensures,
      c.earlier-e.ensures,
    )
    (removed c.args.page c.requires.sound c.requires.fact)
