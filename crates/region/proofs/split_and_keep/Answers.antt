-- The loop has stored the children before i, the first at the frame's own page.
use Prim.Native.Nat.{ℕ, ◌+◌, ◌-◌, ◌*◌, ◌<◌}
use mathlib.Core.Bool.{true}
use mathlib.Core.Path.{◌≡◌, refl, ap, ◌∙◌}
use native.Mathlib.Numerals.{add-one}
use native.Mathlib.Omega.{arith}
use Rattle.definition.specs.Frame.{size}
use Rattle.definition.specs.World.{record_at}
use Rattle.definition.specs.declared.Record.{Record}
use Rattle.region.specs.Rep.{Inside, Splits, state_of}
use Rattle.region.proofs.Laws.{stays}
use Rattle.region.proofs.Splitting.{child_inside}
use Rattle.region.proofs.Holding.{held_frame_lem, keep_same, keep_splits, keep_last, keep_whole, many_from, many_next}
use Rattle.region.proofs.Keeping.{row_whole}
use Rattle.region.proofs.split_and_keep.Goals as goal
use Rattle.region.proofs.split_and_keep.Goals.{Else-old-eq0, In-loop-i}

pub returns-then-old-eq0 : goal.returns-then-old-eq0
returns-then-old-eq0 c =
    let o = c.level_of-old.ensures ∙ ap (λ (r : Record). r.level) c.load-r.ensures in
    let F = held_frame_lem c.requires.held in
    let e = keep_same c.requires.sound_row c.requires.whole_row c.requires.held F.0 F.1 F.2 (omega (arith, o, c.if-old-eq0.true)) in record {
      becomes = rw e (stays c.requires.sound_row);
      whole_row_2 = c.requires.whole_row;
    }

-- the level that the code read
level_is : (c : Else-old-eq0) → c.level_of-old.result ≡ (record_at c.args.records.now c.args.page).level
level_is c = c.level_of-old.ensures ∙ ap (λ (r : Record). r.level) c.load-r.ensures

-- the level of the children, which is one below that of the frame
abbrev child_level : Else-old-eq0 → ℕ
child_level c = (record_at c.args.records.now c.args.page).level - 1

above : (c : Else-old-eq0) → (record_at c.args.records.now c.args.page).level ≡ child_level c + 1
above c = omega (arith, level_is c, c.if-old-eq0.false)

parts
    : (c : Else-old-eq0)
    → Splits c.args.board (state_of (record_at c.args.records.now) c.args.row) c.args.first c.args.row.pages c.args.page (child_level c)
parts c =
    let F = held_frame_lem c.requires.held in
    keep_splits c.requires.sound_row c.requires.whole_row c.requires.held F.0 F.1 F.2 (child_level c) (above c)

small : (c : Else-old-eq0) → c.level_of-old.result - 1 < 2
small c = omega (arith, (parts c).small, level_is c)

pub pages_at-step-requires : goal.pages_at-step-requires
pages_at-step-requires c = omega (arith, small (goal.at.pages_at-step-requires c).Else-old-eq0)

pub level_word-word-requires : goal.level_word-word-requires
level_word-word-requires c = omega (arith, small (goal.at.level_word-word-requires c).Else-old-eq0)

pub loop-i-init : goal.loop-i-init
unfolding many_from
loop-i-init c = record { same = refl; stored = refl }

-- the children are as far apart as one has pages
step_is : (c : In-loop-i) → c.pages_at-step.result ≡ size (child_level (goal.at.In-loop-i c).Else-old-eq0)
step_is c = c.pages_at-step.ensures ∙ ap (λ (l : ℕ). size (l - 1)) (level_is (goal.at.In-loop-i c).Else-old-eq0)

-- the child of a turn is a page of the region
inside : (c : In-loop-i) → Inside c.args.board c.args.first c.args.row.pages (c.args.page + c.loop-i.i * c.pages_at-step.result)
inside c = rw (step_is c) (child_inside (parts (goal.at.In-loop-i c).Else-old-eq0) true c.loop-i.i (omega arith))

pub overflow_mul-i : goal.overflow_mul-i
overflow_mul-i c = omega (arith, (inside (goal.at.overflow_mul-i c).In-loop-i).high, c.requires.sound_row.small)

pub overflow_add-page : goal.overflow_add-page
overflow_add-page c = omega (arith, (inside (goal.at.overflow_add-page c).In-loop-i).high, c.requires.sound_row.small)

pub store-requires : goal.store-requires
store-requires c =
    omega (arith, (inside (goal.at.store-requires c).In-loop-i).high, c.requires.sound_row.fits, c.loop-i.invariant.same)

pub loop-i-preserved : goal.loop-i-preserved
loop-i-preserved c =
    let k = c.loop-i in
    let d = c.store in
    record {
      same = omega (arith, d.auto.records, k.invariant.same);
      stored = rw add-one (rw (k.invariant.stored) at d.ensures.records ∙ many_next k.i _ c.args.page c.pages_at-step.result _);
    }

pub returns : goal.returns
returns c =
    let F = held_frame_lem c.requires.held in
    let e = (goal.at.returns c).Else-old-eq0 in
    let k = c.loop-i in
    let all : k.i ≡ 512 = omega arith in
    let b = keep_last c.requires.sound_row c.requires.whole_row c.requires.held F.0 F.1 F.2 (child_level e) (above e) in
    rw (k.invariant.same, k.invariant.stored, all, c.level_word-word.ensures, c.pages_at-step.ensures, level_is e, c.load-r.ensures)
    record {
      becomes = b;
      whole_row_2 =
          row_whole b (keep_whole c.requires.sound_row c.requires.whole_row c.requires.held F.0 F.1 F.2 (child_level e) (above e));
    }
