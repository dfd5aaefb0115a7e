-- The search of one level is a pop of the one list asked for, or of the dirty one and then the zeroed one.
use mathlib.Core.Bool.{not}
use mathlib.Core.Logic.{inl, inr}
use mathlib.Core.Path.{ap, ◌∙◌}
use Rattle.definition.specs.Board.{Board}
use Rattle.definition.specs.Frame.{Levels, level_allocate}
use Rattle.words.proofs.Words.{in_use_then, row_beside_then}
use Rattle.region.specs.Lent.{SoundIn, levels_in}
use Rattle.region.proofs.Laws.{rep_sound, level_page, level_none, level_zeroed, after_none, none_of}
use Rattle.region.proofs.AllocationRegion.level_allocate.Goals as goal
use Rattle.region.proofs.AllocationRegion.level_allocate.Goals.{Then-is_none, Start}

abbrev levels : Start → Levels
levels s = levels_in s.args.self.now

pub returns-then-only_zero-clause-finds_by : goal.returns-then-only_zero-clause-finds_by
unfolding level_allocate
returns-then-only_zero-clause-finds_by c =
    λ board S. let e = rw c.slot.ensures.0 at (c.pop.ensures.finds_by board S) in
    (rw c.if-only_zero.true e.0, e.1)

-- where the dirty list has none, all is as it was, and the next pop can be asked
after : (b : Then-is_none) → (board : Board) → SoundIn board b.args.self.now → SoundIn board b.pop-dirty.new.self
after b board S =
    let d = b.pop-dirty.ensures in
    let e = rw b.slot-2.ensures.0 at (d.finds_by board S) in
    rw (d.same.first, d.same.index) (
      in_use_then d.same.wide e.1.rest S.0,
      rep_sound (after_none (levels (goal.at.Then-is_none b).Start) b.args.level e.0 (none_of _ b.if-is_none.ensures)).rep,
    )

pub pop-requires-then-try_zero-clause-sound_some : goal.pop-requires-then-try_zero-clause-sound_some
pop-requires-then-try_zero-clause-sound_some c =
    let x = c.requires.sound_some in
    (x.0, after (goal.at.pop-requires-then-try_zero-clause-sound_some c).Then-is_none x.0 x.1)

pub returns-then-try_zero-clause-finds_by : goal.returns-then-try_zero-clause-finds_by
returns-then-try_zero-clause-finds_by c =
    λ board S. let d = c.pop-dirty.ensures in
    let e = rw c.slot-2.ensures.0 at (d.finds_by board S) in
    let n = after (goal.at.returns-then-try_zero-clause-finds_by c).Then-is_none board S in
    let h = rw (c.slot-then-try_zero.ensures.0, d.same.first, d.same.index) at (c.pop-then-try_zero.ensures.finds_by board n) in (
      rw (c.if-only_zero.false, c.if-try_zero.true)
          (level_zeroed (levels (goal.at.returns-then-try_zero-clause-finds_by c).Start) c.args.level e.0 (none_of _ c.if-is_none.ensures) h.0),
      row_beside_then e.1 h.1,
    )

pub returns-clause-finds_by : goal.returns-clause-finds_by
returns-clause-finds_by c =
    λ board S. let e = rw c.slot-2.ensures.0 at (c.pop-dirty.ensures.finds_by board S) in
    let u = levels (goal.at.returns-clause-finds_by c).Start in (
      rw c.if-only_zero.false (elim c.else-is_none.either [
        | inl h ↦ rw h.1 (level_none u c.args.level e.0 (none_of _ (c.is_none.ensures ∙ ap not h.0)))
        | inr h ↦ level_page u c.args.level e.0 c.args.try_zero (c.is_none.ensures ∙ ap not h)
      ]),
      e.1,
    )
