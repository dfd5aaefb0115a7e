-- As `serve_write`, with no form over lent counters between: what `find` promises is told of the words.
use mathlib.Core.Bool.{true, false}
use mathlib.Core.Path.{◌≡◌, refl, sym, ◌∙◌}
use Rattle.words.specs.Words.{counters_in}
use Rattle.words.proofs.Words.{beside_same}
use Rattle.service.specs.Serving.{Lent, is_lent}
use Rattle.service.proofs.Serving.{kept_in_words, lent_words, lent_room, serves_torn, serves_with, told_code}
use Rattle.service.proofs.serve_find.Goals as goal
use Rattle.service.proofs.serve_find.Goals.{Else-not-is_lent, Start, Then-not-is_lent}

-- the loans as they were given, and that they are a state's
abbrev loans : Start → Lent
loans s =
    record {
      words = s.args.words.now;
      records = s.args.records.now;
      memory = s.args.memory.now;
      queue = s.args.queue.now;
      answer = s.args.answer.now;
    }

lent : (c : Else-not-is_lent) → is_lent (loans (goal.at.Else-not-is_lent c).Start) ≡ true
lent c = sym c.is_lent.ensures ∙ c.if-not-is_lent.false

torn : (c : Then-not-is_lent) → is_lent (loans (goal.at.Then-not-is_lent c).Start) ≡ false
torn c = sym c.is_lent.ensures ∙ c.if-not-is_lent.true

pub returns-then-not-is_lent : goal.returns-then-not-is_lent
returns-then-not-is_lent c = serves_torn _ (loans (goal.at.returns-then-not-is_lent c).Start) (torn c)

pub counters_in-counters-requires : goal.counters_in-counters-requires
counters_in-counters-requires c = lent_words (loans (goal.at.counters_in-counters-requires c).Start) (lent c)

pub invariant_of-loans : goal.invariant_of-loans
invariant_of-loans c =
    let l = loans (goal.at.invariant_of-loans c).Start in
    record { long = lent_words l (lent (goal.at.invariant_of-loans c).Else-not-is_lent) }

pub tell-requires : goal.tell-requires
tell-requires c =
    let l = loans (goal.at.tell-requires c).Start in
    lent_room l (lent (goal.at.tell-requires c).Else-not-is_lent)

pub returns : goal.returns
returns c =
    let else_not_is_lent = (goal.at.returns c).Else-not-is_lent in
    let l = loans (goal.at.returns c).Start in
    kept_in_words _ l (lent else_not_is_lent)
    (serves_with l (counters_in l.words) (rw c.counters_in-counters.ensures at c.find-y.ensures) c.tell.ensures.1
    (told_code _ c.tell.ensures.0) (lent else_not_is_lent) refl beside_same)
