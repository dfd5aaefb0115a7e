-- `audit` meets its contract. Its tests together are the sheet, as `Sheets` says.
use Prim.Native.Nat.{◌*◌}
use mathlib.Core.Bool.{Bool, not, ◌&&◌}
use mathlib.Core.Path.{◌≡◌, sym, ap, ◌∙◌}
use native.Mathlib.Omega.{arith}
use borrow.Author.Tests.{le-leb, lt-leb, lt-ltb}
use lib.Dec.{leb}
use Rattle.definition.specs.Board.{Board}
use Rattle.definition.specs.Boot.{overlap}
use Rattle.definition.specs.Torn.{regions_of}
use Rattle.words.specs.Words.{board_in, rows_in, queued_in, pass_in}
use Rattle.audit.specs.Sheet.{counts_as}
use Rattle.audit.proofs.Arrays.{words_shaped}
use Rattle.audit.proofs.Bare.{overlap_none}
use Rattle.audit.proofs.Onward.{and_then, and_else}
use Rattle.audit.proofs.Sheets.{Given, torn_survey, others_decide}
use Rattle.audit.proofs.audit.Goals as goal
use Rattle.audit.proofs.audit.Goals.{
  Start,
  In-Some,
  Joined-board-seen,
  then-seen-le1048576+then-seen-lt2,
  then-seen-le1048576+else-seen-lt2,
  else-seen-le1048576,
  then-not-used_overlap,
  else-not-used_overlap,
  then-board-seen,
  else-board-seen,
}

abbrev given : Start → Given
given s =
    record {
      rows = rows_in s.args.words.now;
      counters = s.args.counters;
      queued = queued_in s.args.words.now;
      pass = pass_in s.args.words.now;
      records = s.args.records.now;
      memory_len = s.args.memory_len;
      queue_len = s.args.queue_len;
    }

abbrev board : Start → Board
board s = board_in s.args.words.now

pub returns-in_default : goal.returns-in_default
returns-in_default c =
    let s = (goal.at.returns-in_default c).Start in
    torn_survey (board s) (given s) (words_shaped (board s) c.args.words.now) (sym c.in_default.ensures.exact)

few : (c : Joined-board-seen) → let b = board_in c.args.words.now in
    c.if-seen-le1048576.value ≡ (leb c.in-Some.seen.total 1048576 && not (overlap b (regions_of b (rows_in c.args.words.now))))
few c =
    let b = board_in c.args.words.now in
    let rows = rows_in c.args.words.now in
    let seen = c.in-Some.seen in
    elim c.if-seen-le1048576.branch [
      | then-seen-le1048576+then-seen-lt2 w ↦ and_then (le-leb seen.total 1048576 w.if-seen-le1048576.true)
          (w.value-is ∙ lt-ltb seen.used 2 w.if-seen-lt2.true
          ∙ sym (ap not (overlap_none b rows (omega (arith, w.if-seen-lt2.true, c.in-Some.ensures.found.used)))))
      | then-seen-le1048576+else-seen-lt2 w ↦ and_then (le-leb seen.total 1048576 w.if-seen-le1048576.true)
          (w.value-is ∙ ap not w.used_overlap.ensures)
      | else-seen-le1048576 w ↦ and_else _ (lt-leb seen.total 1048576 w.if-seen-le1048576.false) w.value-is
    ]

memory : (c : Joined-board-seen) → let b = board_in c.args.words.now in
    c.if-not-used_overlap.value ≡ (c.if-seen-le1048576.value && leb (b.page * c.in-Some.seen.managed) c.args.memory_len)
memory c =
    elim c.if-not-used_overlap.branch [
      | then-not-used_overlap w ↦ and_then w.if-not-used_overlap.true
          (w.value-is ∙ ap (λ (b : Board). leb (b.page * c.in-Some.seen.managed) c.args.memory_len) c.board_in-board.ensures.0)
      | else-not-used_overlap w ↦ and_else _ w.if-not-used_overlap.false w.value-is
    ]

counts : (c : Joined-board-seen) → c.if-board-seen.value ≡ (c.if-not-used_overlap.value && counts_as c.args.counters c.in-Some.seen)
counts c =
    elim c.if-board-seen.branch [
      | then-board-seen w ↦ and_then w.if-board-seen.true (w.value-is ∙ w.counted.ensures)
      | else-board-seen w ↦ and_else _ w.if-board-seen.false w.value-is
    ]

-- the tests up to that of the counters
tests : (c : Joined-board-seen) → let seen = c.in-Some.seen in
    let b = board_in c.args.words.now in
    c.if-board-seen.value
    ≡ (((leb seen.total 1048576 && not (overlap b (regions_of b (rows_in c.args.words.now))))
    && leb (b.page * seen.managed) c.args.memory_len)
    && counts_as c.args.counters seen)
tests c =
    let seen = c.in-Some.seen in
    let b = board_in c.args.words.now in
    counts c ∙ ap (λ (t : Bool). t && counts_as c.args.counters seen)
    (memory c ∙ ap (λ (t : Bool). t && leb (b.page * seen.managed) c.args.memory_len) (few c))

pub returns-then-counted : goal.returns-then-counted
returns-then-counted c =
    let s = (goal.at.returns-then-counted c).Start in
    let e = tests (goal.at.returns-then-counted c).Joined-board-seen in
    let surveyed = c.in-Some.ensures in
    others_decide (board s) (given s) (words_shaped (board s) c.args.words.now) (sym surveyed.exact) c.in-Some.seen surveyed.found
    c.within.result
    (and_then (sym e ∙ c.if-counted.true) (rw (c.board_in-board.ensures.0, c.queued_in.ensures, c.pass_in.ensures) at c.within.ensures))

pub returns-else-counted : goal.returns-else-counted
returns-else-counted c =
    let s = (goal.at.returns-else-counted c).Start in
    let e = tests (goal.at.returns-else-counted c).Joined-board-seen in
    let surveyed = c.in-Some.ensures in
    others_decide (board s) (given s) (words_shaped (board s) c.args.words.now) (sym surveyed.exact) c.in-Some.seen surveyed.found
    c.if-board-seen.value
    (and_else _ (sym e ∙ c.if-counted.false) e)
