-- As `serve_write_with`: the counters are read out of the words, and nothing of them changes.
use mathlib.Core.Bool.{true, false}
use mathlib.Core.Path.{◌≡◌, sym, ◌∙◌}
use Rattle.service.specs.Serving.{Lent, is_lent}
use Rattle.service.proofs.Serving.{kept_in_words, lent_words, serves_torn}
use Rattle.service.proofs.serve_write.Goals as goal
use Rattle.service.proofs.serve_write.Goals.{Else-not-is_lent, Start, Then-not-is_lent}

-- the loans as they were given, and that they are a state's
abbrev loans : Start → Lent
loans s =
    record {
      words = s.args.words.now;
      records = s.args.records.now;
      memory = s.args.memory.now;
      queue = s.args.queue.now;
      answer = s.args.answer.now;
    }

lent : (c : Else-not-is_lent) → is_lent (loans (goal.at.Else-not-is_lent c).Start) ≡ true
lent c = sym c.is_lent.ensures ∙ c.if-not-is_lent.false

torn : (c : Then-not-is_lent) → is_lent (loans (goal.at.Then-not-is_lent c).Start) ≡ false
torn c = sym c.is_lent.ensures ∙ c.if-not-is_lent.true

pub returns-then-not-is_lent : goal.returns-then-not-is_lent
returns-then-not-is_lent c = serves_torn _ (loans (goal.at.returns-then-not-is_lent c).Start) (torn c)

pub counters_in-counters-requires : goal.counters_in-counters-requires
counters_in-counters-requires c = lent_words (loans (goal.at.counters_in-counters-requires c).Start) (lent c)

pub returns : goal.returns
returns c =
    kept_in_words _ (loans (goal.at.returns c).Start) (lent (goal.at.returns c).Else-not-is_lent)
    (rw c.counters_in-counters.ensures at c.serve_write_with.ensures)
