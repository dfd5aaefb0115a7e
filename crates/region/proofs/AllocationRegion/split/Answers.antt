-- The loop has pushed the children before i on their list, which is out of the row; the push after it is child 0's, and then the list is
-- written back.
use Prim.Native.Nat.{ℕ, suc, ◌+◌, ◌-◌, ◌*◌, ◌<◌, ◌^◌}
use mathlib.Core.Bool.{true, false}
use mathlib.Core.Path.{◌≡◌, refl, sym, subst, ◌∙◌}
use native.Mathlib.Omega.{arith}
use Rattle.definition.specs.Frame.{children, size, slot}
use Rattle.definition.specs.World.{record_at}
use Rattle.words.specs.Words.{row_of, rows_in}
use Rattle.list.specs.Linked.{Out}
use Rattle.region.specs.Rep.{state_of}
use Rattle.region.proofs.Laws.{taken_out, out_asks, out_next}
use Rattle.region.proofs.Splitting.{zeroed_mark, child_inside, page_inside, child_out, page_out, split_is}
use Rattle.region.proofs.AllocationRegion.split.Goals as goal
use Rattle.region.proofs.AllocationRegion.split.Goals.{After-loop-i, At-loop-i, In-loop-i}

pub marks-requires : goal.marks-requires
marks-requires c = omega (arith, (page_inside c.requires.2 true).high, c.requires.1.1.fits)

pub loop-i-init : goal.loop-i-init
unfolding children
loop-i-init c =
    let z = c.is_zeroed-zeroed.result in
    record {
      same = refl;
      became = λ board R S. rw (c.list_at-l.ensures, c.slot-k.ensures.0) (taken_out (slot c.args.level z) R);
    }

a_list : (c : At-loop-i) → slot c.args.level c.is_zeroed-zeroed.result < 6
a_list c = let t = c.slot-k in rw t.ensures.0 at t.ensures.1

-- the child of a turn, i, is the one after those that were pushed
turn : (c : In-loop-i) → c.loop-i.i ≡ suc (c.loop-i.i - 1)
turn c = omega arith

-- the child's page is a number that fits
child_fits : (c : In-loop-i) → c.args.page + c.loop-i.i * c.pages_at-step.result < 2 ^ 32
child_fits c =
    subst (λ (m : ℕ). c.args.page + c.loop-i.i * m < 2 ^ 32) (sym c.pages_at-step.ensures)
    (omega (arith, (child_inside c.requires.2 c.is_zeroed-zeroed.result c.loop-i.i (omega arith)).high, c.requires.1.1.small))

-- the child is out of the list that it is pushed on
out
    : (c : In-loop-i) → let u = state_of (record_at c.args.self.now.records.now) (row_of (rows_in c.args.self.now.words.now) c.args.self.now.index) in
    let pushed = children (c.loop-i.i - 1) u c.args.page c.args.level c.is_zeroed-zeroed.result in
    (k : ℕ) → Out (c.args.page + c.loop-i.i * size c.args.level) (pushed.free k)
out c = rw (sym (turn c)) at (child_out c.requires.2 c.is_zeroed-zeroed.result (c.loop-i.i - 1) (omega arith))

pub admit-l-requires : goal.admit-l-requires
admit-l-requires c =
    let i = c.loop-i.i in
    let z =
    out_asks c.args.level c.is_zeroed-zeroed.result false (c.loop-i.invariant.became c.requires.0 c.requires.1.1 c.requires.2)
    (a_list (goal.at.admit-l-requires c).At-loop-i)
    (child_inside c.requires.2 c.is_zeroed-zeroed.result i (omega arith))
    (out (goal.at.admit-l-requires c).In-loop-i)
    (omega (arith, c.requires.2.small)) in
    rw c.pages_at-step.ensures record { sound = z.0; level_bound = z.1.0; out = z.1.1.0; page_bound = z.1.1.1 }

pub loop-i-preserved : goal.loop-i-preserved
unfolding children
loop-i-preserved c =
    let i = c.loop-i.i in
    let d = c.admit-l in
    let t = turn (goal.at.loop-i-preserved c).In-loop-i in
    let more : i + 1 - 1 ≡ suc (i - 1) = omega arith in
    record {
      same = omega (arith, d.auto.records);
      became = λ board R S.
          rw (more, sym t, d.auto.records)
          (out_next c.args.level c.is_zeroed-zeroed.result false (c.loop-i.invariant.became board R S)
          (a_list (goal.at.loop-i-preserved c).At-loop-i)
          (child_inside S c.is_zeroed-zeroed.result i (omega arith))
          (rw (sym t) at (child_out S c.is_zeroed-zeroed.result (i - 1) (omega arith)))
          (rw (c.pages_at-step.ensures, d.auto.records) at d.ensures));
    }

all_pushed : (c : After-loop-i) → c.loop-i.i - 1 ≡ 511
all_pushed c = omega arith

pub admit-all-requires : goal.admit-all-requires
admit-all-requires c =
    let e = all_pushed (goal.at.admit-all-requires c).After-loop-i in
    let z = out_asks c.args.level c.is_zeroed-zeroed.result false (c.loop-i.invariant.became c.requires.0 c.requires.1.1 c.requires.2) (a_list (goal.at.admit-all-requires c).At-loop-i) (page_inside c.requires.2 c.is_zeroed-zeroed.result) (rw e (page_out c.requires.2 c.is_zeroed-zeroed.result))
    (omega (arith, c.requires.2.small)) in
    record { sound = z.0; level_bound = z.1.0; out = z.1.1.0; page_bound = z.1.1.1 }

pub returns-clause-splits_by : goal.returns-clause-splits_by
returns-clause-splits_by c =
    let d = c.admit-all in
    let p = c.put_list.ensures in
    let e = all_pushed (goal.at.returns-clause-splits_by c).After-loop-i in
    let y = rw c.marks.ensures at c.is_zeroed-zeroed.ensures in
    let u = state_of (record_at c.args.self.now.records.now) (row_of (rows_in c.args.self.now.words.now) c.args.self.now.index) in
    λ board R S. let i = page_inside S c.is_zeroed-zeroed.result in
    let w = split_is u c.args.page c.args.level c.is_zeroed-zeroed.result (c.loop-i.i - 1) e (y ∙ zeroed_mark c.args.page i R.1) in (
      rw (p.row, d.auto.records, c.slot-k.ensures.0, ← w)
          (out_next c.args.level c.is_zeroed-zeroed.result false (c.loop-i.invariant.became board R.1 S) (a_list (goal.at.returns-clause-splits_by c).At-loop-i) i (rw e (page_out S c.is_zeroed-zeroed.result)) (rw d.auto.records at d.ensures)),
      p.rest,
    )
