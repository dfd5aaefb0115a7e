-- The store's rest, the pass's end or its next round. What the pass may be at most (`PassIn`, and a fit board) keeps its sums far from the
-- end of their words.
use Prim.Native.Nat.{◌≤◌}
use mathlib.Core.Path.{◌≡◌, sym, ap, ◌∙◌}
use native.Mathlib.Nat.{mul-le-mul}
use native.Mathlib.Omega.{arith}
use Rattle.definition.specs.declared.Pass.{Pass}
use Rattle.definition.specs.Board.{Board}
use Rattle.definition.specs.Tracker.{should_reclaim}
use Rattle.definition.specs.World.{record_at}
use Rattle.record.specs.Records.{pages_in}
use Rattle.words.specs.Words.{board_in, Long, pass_in}
use Rattle.words.proofs.Words.{beside_then, fit_in}
use Rattle.exam.specs.Promise.{state_with}
use Rattle.exam.proofs.Making.{bytes_small}
use Rattle.reclaim.specs.Rounds.{Reclaims}
use Rattle.reclaim.proofs.Rounding.{round_ends, round_few, round_goes_on, round_rests}
use Rattle.reclaim.proofs.round.Goals as goal
use Rattle.reclaim.proofs.round.Goals.{After-pass_in-before, After-reclaim_up_to-freed, After-should_reclaim}

-- ---- what is known at the places on the way

-- the test, by the board of the words
weighed
    : (r : After-should_reclaim)
    → let a = r.args in
    r.should_reclaim.result ≡ should_reclaim (board_in a.words.now) a.counters.now
weighed r = rw (← r.board_in-board.ensures.0) r.should_reclaim.ensures

-- a fit board has at most 5,000 rounds in a pass, of at most 1,000 frees
rounds_here : (p : After-pass_in-before) → (pass_in p.args.words.now).rounds ≤ 5001
rounds_here p = omega (arith, p.requires.pass_in.rounds, (fit_in p.args.words.now).rounds_most)

few_rounds : (p : After-pass_in-before) → p.pass_in-before.result.rounds ≤ 5001
few_rounds p = omega (arith, ap (λ (x : Pass). x.rounds) p.pass_in-before.ensures, rounds_here p)

few_freed : (p : After-pass_in-before) → p.pass_in-before.result.freed ≤ 5001000
few_freed p =
    omega (
      arith,
      ap (λ (x : Pass). x.freed) p.pass_in-before.ensures,
      p.requires.pass_in.freed,
      mul-le-mul (fit_in p.args.words.now).frees_most (rounds_here p),
    )

-- the frees of the round, as many as the board of the words allows
frees_here
    : (x : After-reclaim_up_to-freed)
    → let a = x.args in
    let y = x.reclaim_up_to-freed in
    let b = board_in a.words.now in
    Reclaims b (record_at a.records.now) (state_with a.counters.now a.words.now) a.queue.now b.per_round
    (record_at y.new.records)
    (pages_in y.new.records)
    (record { state = state_with y.new.counters y.new.words; freed = y.result })
frees_here x = rw x.board_in-board.ensures.0 at x.reclaim_up_to-freed.ensures.reclaims

-- the words are as many as they were
words_here : (x : After-reclaim_up_to-freed) → Long x.reclaim_up_to-freed.new.words
words_here x = omega (arith, x.requires.table_in.0, x.reclaim_up_to-freed.auto.words)

pub returns-then-not-should_reclaim : goal.returns-then-not-should_reclaim
returns-then-not-should_reclaim c =
    let y = c.end_pass in
    let a = c.args in
    record {
      rounds = λ m s H.
          round_rests (state_with a.counters.now a.words.now) a.records.now m a.queue.now H
          (sym (weighed (goal.at.returns-then-not-should_reclaim c).After-should_reclaim) ∙ c.if-not-should_reclaim.true)
          (state_with y.new.counters y.new.words)
          y.result
          (rw c.pass_in-before.ensures at y.ensures.ends_pass);
      beside = y.ensures.beside;
    }

pub overflow_add-pass : goal.overflow_add-pass
overflow_add-pass c = omega (arith, few_rounds (goal.at.overflow_add-pass c).After-pass_in-before)

pub overflow_add-pass-2 : goal.overflow_add-pass-2
overflow_add-pass-2 c =
    let y = c.reclaim_up_to-freed in
    let a = c.args in
    omega (
      arith,
      few_freed (goal.at.overflow_add-pass-2 c).After-pass_in-before,
      round_few a.records.now y.new.records y.auto.records (board_in a.words.now).per_round c.requires.table_in.1
          c.requires.pass_in.queued
          (frees_here (goal.at.overflow_add-pass-2 c).After-reclaim_up_to-freed),
    )

pub returns-then-board-before : goal.returns-then-board-before
returns-then-board-before c =
    let y = c.end_pass-then-board-before in
    let x = c.reclaim_up_to-freed in
    let a = c.args in
    record {
      rounds = λ m s H.
          round_ends (state_with a.counters.now a.words.now) a.records.now m a.queue.now H x.new.records x.auto.records
          (bytes_small x.new.records c.slice_known-4-1.given)
          (sym (weighed (goal.at.returns-then-board-before c).After-should_reclaim) ∙ c.if-not-should_reclaim.false)
          (record { state = state_with x.new.counters x.new.words; freed = x.result })
          (frees_here (goal.at.returns-then-board-before c).After-reclaim_up_to-freed)
          (omega (
            arith,
            ap (λ (b : Board). b.max_rounds) c.board_in-board.ensures.0,
            c.if-board-before.true,
            ap (λ (b : Pass). b.rounds) c.pass_in-before.ensures,
          ))
          (state_with y.new.counters y.new.words)
          y.result
          (rw c.pass_in-before.ensures at y.ensures.ends_pass);
      beside = beside_then x.ensures.beside y.ensures.beside;
    }

pub returns : goal.returns
returns c =
    let P = c.put_pass.ensures in
    let x = c.reclaim_up_to-freed in
    let a = c.args in
    record {
      rounds = λ m s H.
          rw (c.reported.ensures, P.rows, P.queued, P.pass, c.pass_in-before.ensures)
          (round_goes_on (state_with a.counters.now a.words.now) a.records.now m a.queue.now H x.new.records
          x.auto.records
          (bytes_small x.new.records c.slice_known-4-1.given)
          (sym (weighed (goal.at.returns c).After-should_reclaim) ∙ c.if-not-should_reclaim.false)
          (record { state = state_with x.new.counters x.new.words; freed = x.result })
          (frees_here (goal.at.returns c).After-reclaim_up_to-freed)
          (omega (
            arith,
            ap (λ (b : Board). b.max_rounds) c.board_in-board.ensures.0,
            c.if-board-before.false,
            ap (λ (b : Pass). b.rounds) c.pass_in-before.ensures,
          )));
      beside = beside_then x.ensures.beside P.beside;
    }
