-- The frame that was found has ALLOCATED set, and the region stays whole.
use mathlib.Core.Option.{none}
use Rattle.definition.specs.Basics.{everywhere}
use Rattle.definition.specs.Frame.{Found, allocate}
use Rattle.definition.specs.World.{record_at}
use Rattle.definition.specs.declared.Row.{Row}
use Rattle.level.specs.Level.{rank}
use Rattle.level.proofs.Ranks.{rank_below}
use Rattle.record.specs.Records.{pages_in}
use Rattle.words.specs.Words.{row_of, rows_in}
use Rattle.region.specs.Lent.{levels_in}
use Rattle.region.specs.Rep.{Whole, from_of, searched}
use Rattle.region.proofs.Keeping.{row_whole, whole_allocate}
use Rattle.region.proofs.Tiling.{rep_kept}
use Rattle.region.proofs.Granting.{Grants, not_granted, grants}
use Rattle.region.proofs.AllocationRegion.allocate.Goals as goal
use Rattle.region.proofs.AllocationRegion.allocate.Goals.{In_ok-page, Start}

abbrev row : Start → Row
row s = row_of (rows_in s.args.self.now.words.now) s.args.self.now.index

abbrev answer : Start → Found
answer s = allocate everywhere (rank s.args.level) (levels_in s.args.self.now) s.args.try_zero s.args.only_zero

whole : (s : Start) → Whole s.args.board (answer s).levels none (from_of s.args.board (row s)) s.args.self.now.first (row s).pages
whole s =
    whole_allocate (rank s.args.level) s.args.try_zero s.args.only_zero (rep_kept s.requires.sound_in.1) s.requires.whole_in
    (rank_below s.args.level)

granted
    : (c : In_ok-page) → let e = c.do_allocate.new.self in
    Grants c.args.board (record_at c.args.self.now.records.now) c.args.self.now.first (row (goal.at.In_ok-page c).Start)
    (record_at e.records.now) (pages_in e.records.now)
    (searched e.words.now c.args.self.now.index c.do_allocate.result) c.in_ok-page.page (answer (goal.at.In_ok-page c).Start)
granted c =
    grants c.args.try_zero c.args.only_zero c.requires.sound_in.1 c.requires.whole_in (rank_below c.args.level)
    (rw c.index.ensures at (c.do_allocate.ensures.seeks_by c.args.board c.requires.sound_in c.requires.whole_in)).0 c.in_ok-page.was

pub returns-in_err-page : goal.returns-in_err-page
returns-in_err-page c =
    let d = c.do_allocate.ensures in
    let e = rw c.index.ensures at (d.seeks_by c.args.board c.requires.sound_in c.requires.whole_in) in
    let g =
    not_granted c.args.try_zero c.args.only_zero c.requires.sound_in.1 c.requires.whole_in (rank_below c.args.level) e.0 c.in_err-page.was
    in
    rw (c.from_residual.ensures, ← c.in_err-page.was) record {
      same = d.same;
      finds_in = (g, e.1);
      whole_in_2 = rw (d.same.first, d.same.index) (row_whole g.became (whole (goal.at.returns-in_err-page c).Start));
    }

pub marks-marks-requires : goal.marks-marks-requires
marks-marks-requires c = (granted (goal.at.marks-marks-requires c).In_ok-page).inside

pub set_allocated-held-requires : goal.set_allocated-held-requires
set_allocated-held-requires c = rw c.marks-marks.ensures (granted (goal.at.set_allocated-held-requires c).In_ok-page).free

pub set_marks-requires : goal.set_marks-requires
set_marks-requires c = (granted (goal.at.set_marks-requires c).In_ok-page).inside

pub returns-clause-finds_in : goal.returns-clause-finds_in
returns-clause-finds_in c =
    let m = c.set_marks in
    let e = rw c.index.ensures at (c.do_allocate.ensures.seeks_by c.args.board c.requires.sound_in c.requires.whole_in) in
    rw (← c.in_ok-page.was, m.ensures.records, m.auto.records, c.set_allocated-held.ensures, c.marks-marks.ensures)
    ((granted (goal.at.returns-clause-finds_in c).In_ok-page).answers, e.1)

pub returns-clause-whole_in_2 : goal.returns-clause-whole_in_2
returns-clause-whole_in_2 c =
    let m = c.set_marks in
    let d = c.do_allocate.ensures.same in
    let g = (granted (goal.at.returns-clause-whole_in_2 c).In_ok-page).answers in
    rw (m.ensures.records, c.set_allocated-held.ensures, c.marks-marks.ensures, d.first, d.index)
    (row_whole g.became (whole (goal.at.returns-clause-whole_in_2 c).Start))
