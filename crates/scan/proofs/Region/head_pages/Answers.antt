-- `head_pages` meets its contract: the tests are those of a head, by the marks and the level that were read.
use Rattle.std.proofs.Common.{ap, ◌∙◌, refl, sym, arith}
use Rattle.std.proofs.lemmas.Bool.Decides.{nat_tests}
use Rattle.definition.specs.Basics.{all, range}
use Rattle.definition.specs.World.{record_at, level_in}
use Rattle.scan.proofs.Heads.{head_read}
use Rattle.scan.proofs.Region.head_pages.Goals as goal

pub returns-then-not-is_admitted : goal.returns-then-not-is_admitted
returns-then-not-is_admitted c =
    let s = c.args.self.now in
    let m = c.marks-marks in
    grind (arith, nat_tests, head_read (record_at s.records.now) s.from s.base s.past c.args.h m.result _ _ m.ensures refl refl)

pub returns-then-level-eq0 : goal.returns-then-level-eq0
unfolding all range
returns-then-level-eq0 c =
    let s = c.args.self.now in
    let m = c.marks-marks in
    let l = sym c.if-level-eq0.true ∙ c.level_of-level.ensures ∙ ap level_in c.level.ensures in
    grind (arith, nat_tests, head_read (record_at s.records.now) s.from s.base s.past c.args.h m.result 0 1 m.ensures l refl)

pub returns-then-level-ge3 : goal.returns-then-level-ge3
returns-then-level-ge3 c =
    let s = c.args.self.now in
    let m = c.marks-marks in
    let l = c.level_of-level.ensures ∙ ap level_in c.level.ensures in
    grind (
      arith,
      nat_tests,
      head_read (record_at s.records.now) s.from s.base s.past c.args.h m.result c.level_of-level.result _ m.ensures l refl,
    )

pub returns-then-is_clear : goal.returns-then-is_clear
returns-then-is_clear c =
    let s = c.args.self.now in
    let m = c.marks-marks in
    let l = c.level_of-level.ensures ∙ ap level_in c.level.ensures in
    let p = c.pages_at-pages in
    grind (
      arith,
      nat_tests,
      head_read (record_at s.records.now) s.from s.base s.past c.args.h m.result c.level_of-level.result p.result m.ensures l p.ensures,
    )

pub returns-else-self-h-eq0 : goal.returns-else-self-h-eq0
returns-else-self-h-eq0 c =
    let s = c.args.self.now in
    let m = c.marks-marks in
    let l = c.level_of-level.ensures ∙ ap level_in c.level.ensures in
    let p = c.pages_at-pages in
    grind (
      arith,
      nat_tests,
      head_read (record_at s.records.now) s.from s.base s.past c.args.h m.result c.level_of-level.result p.result m.ensures l p.ensures,
    )
