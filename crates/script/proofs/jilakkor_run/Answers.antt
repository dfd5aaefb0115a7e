-- With room enough all lines are run; with one byte too little, nothing is. Words of zeros have no row in use: they are eight unused rows,
-- an empty queue and no pass.
use mathlib.Core.Path.{◌≡◌, refl}
use native.Mathlib.Omega.{arith}
use Rattle.std.proofs.Common.{rules}
use lib.ListN.{replicate}
use Rattle.definition.specs.Boot.{counters_at_boot}
use Rattle.exam.specs.Promise.{state_with}
use Rattle.words.specs.Words.{state_words, rows_from}
use Rattle.script.specs.Running.{unbooted}
use Rattle.script.proofs.Going.{ran_all, ran_none}
use Rattle.script.proofs.jilakkor_run.Goals as goal
use Rattle.script.proofs.jilakkor_run.Goals.{
  then-answer-lt512-via-then-answer-lt512,
  then-answer-lt512-via-else-answer-lt512+then-answer-count_lines,
}

zeros : state_with (counters_at_boot 0) (replicate state_words 0) ≡ unbooted
unfolding rows_from
zeros = refl

pub run_all-requires-clause-fresh : goal.run_all-requires-clause-fresh
run_all-requires-clause-fresh c = record { count = refl; booted = refl; state = rw c.started.ensures zeros }

pub returns-then-answer-lt512 : goal.returns-then-answer-lt512
returns-then-answer-lt512 c =
    ran_none _ _ _
    (elim c.then-answer-lt512.branch [
      | then-answer-lt512-via-then-answer-lt512 w ↦ omega arith
      | then-answer-lt512-via-else-answer-lt512+then-answer-count_lines w ↦ omega (arith, w.count_lines.ensures)
    ])

pub returns : goal.returns
returns c =
    ran_all (omega (arith, c.count_lines.ensures)) c.run_all.ensures.ran_all (search rules) (search rules) (search rules) (search rules)
