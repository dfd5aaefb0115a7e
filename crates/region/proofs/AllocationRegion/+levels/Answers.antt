-- A level that has none leaves all as it was, and what the larger level found is split on return.
use Rattle.std.proofs.Common.{refl, sym, arith}
use Rattle.definition.specs.Frame.{split}
use Rattle.region.specs.Lent.{levels_in}
use Rattle.region.proofs.Keeping.{reached_whole}
use Rattle.region.proofs.Laws.{none_of, some_of}
use Rattle.region.proofs.Tiling.{parted_page}
use Rattle.region.proofs.Searching.{
  Wanted,
  above,
  asks,
  begun,
  changed,
  climbs,
  found_here,
  here,
  none_here,
  none_told,
  parts,
  past,
  some_told,
  sought,
  split_asks,
  told,
}
use Rattle.region.proofs.AllocationRegion.+levels.Goals as goal

pub do_allocate-returns-then-level-ge3-clause-seeks_by : goal.do_allocate-returns-then-level-ge3-clause-seeks_by
do_allocate-returns-then-level-ge3-clause-seeks_by t c =
    let a = c.args in
    let w : Wanted = record { level = a.level; try_zero = a.try_zero; only_zero = a.only_zero } in
    rw (past w (levels_in a.self.now) c.if-level-ge3.true)
    (λ board S W. told (record { reached = begun a.self.now S; found = refl }))

pub do_allocate-returns-then-is_some-clause-seeks_by : goal.do_allocate-returns-then-is_some-clause-seeks_by
do_allocate-returns-then-is_some-clause-seeks_by t c =
    let a = c.args in
    let w : Wanted = record { level = a.level; try_zero = a.try_zero; only_zero = a.only_zero } in
    let d = c.level_allocate-here.ensures in
    λ board S W. let e = sought (begun a.self.now S) d.same (here w) (d.finds_by board S) in
    rw (found_here w (levels_in a.self.now) c.if-level-ge3.false (some_told e (some_of _ (sym c.if-is_some.ensures)).1)) (told e)

pub do_allocate-larger-requires : goal.do_allocate-larger-requires
do_allocate-larger-requires t c =
    let a = c.args in
    let w : Wanted = record { level = a.level; try_zero = a.try_zero; only_zero = a.only_zero } in
    let n = c.requires in
    let d = c.level_allocate-here.ensures in
    let l = sought (begun a.self.now n.1) d.same (here w) (d.finds_by n.0 n.1) in
    let e = none_here w (levels_in a.self.now) l (none_of _ (sym c.if-is_some.ensures)) in
    (omega arith, (omega arith, (n.0, asks e, reached_whole e n.2)))

pub do_allocate-returns-clause-seeks_by : goal.do_allocate-returns-clause-seeks_by
do_allocate-returns-clause-seeks_by t c =
    let a = c.args in
    let w : Wanted = record { level = a.level; try_zero = a.try_zero; only_zero = a.only_zero } in
    let d = c.level_allocate-here.ensures in
    let g = c.larger.ensures in
    let dry = none_of _ (sym c.if-is_some.ensures) in
    λ board S W. let l = sought (begun a.self.now S) d.same (here w) (d.finds_by board S) in
    let e = none_here w (levels_in a.self.now) l dry in
    rw (climbs w (levels_in a.self.now) c.if-level-ge3.false (none_told l dry))
    (told (sought e g.same (λ s. parts w (above w s)) (g.seeks_by board (asks e) (reached_whole e W))))

pub larger-split-requires : goal.larger-split-requires
larger-split-requires t c =
    let a = c.args in
    let w : Wanted = record { level = a.level; try_zero = a.try_zero; only_zero = a.only_zero } in
    let n = c.requires.whole_some in
    let d = c.do_allocate.ensures in
    let u = sought (begun a.self.now n.1) d.same (above w) (d.seeks_by n.0 n.1 n.2) in
    (n.0, asks u.reached, split_asks w c.requires.level_bound n.1 n.2 (some_told u c.in_ok-page.was) u.reached)

pub larger-level_allocate-requires-clause-sound_some : goal.larger-level_allocate-requires-clause-sound_some
larger-level_allocate-requires-clause-sound_some t c =
    let a = c.args in
    let w : Wanted = record { level = a.level; try_zero = a.try_zero; only_zero = a.only_zero } in
    let n = c.requires.whole_some in
    let d = c.do_allocate.ensures in
    let g = c.split.ensures in
    let u = sought (begun a.self.now n.1) d.same (above w) (d.seeks_by n.0 n.1 n.2) in
    let k = split_asks w c.requires.level_bound n.1 n.2 (some_told u c.in_ok-page.was) u.reached in
    (n.0, asks (changed u.reached g.same (λ s. split s c.in_ok-page.page a.level) (g.splits_by n.0 (asks u.reached) k)))

pub larger-returns-clause-seeks_by : goal.larger-returns-clause-seeks_by
larger-returns-clause-seeks_by t c =
    let a = c.args in
    let w : Wanted = record { level = a.level; try_zero = a.try_zero; only_zero = a.only_zero } in
    let d = c.do_allocate.ensures in
    let g = c.split.ensures in
    let f = c.level_allocate.ensures in
    λ board S W. let u = sought (begun a.self.now S) d.same (above w) (d.seeks_by board S W) in
    let p = some_told u c.in_ok-page.was in
    let k = split_asks w c.requires.level_bound S W p u.reached in
    let e = changed u.reached g.same (λ s. split s c.in_ok-page.page a.level) (g.splits_by board (asks u.reached) k) in
    rw (parted_page a.level a.try_zero a.only_zero (above w (levels_in a.self.now)) c.in_ok-page.page p)
    (told (sought e f.same (here w) (f.finds_by board (asks e))))
