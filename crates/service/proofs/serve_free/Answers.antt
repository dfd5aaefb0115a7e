-- As `serve`, with no dispatch between: what `free` promises is told of the words, with the counters written over them.
use mathlib.Core.Bool.{true, false}
use mathlib.Core.Path.{◌≡◌, refl, sym, ◌∙◌}
use native.Mathlib.Omega.{arith}
use Rattle.words.specs.Words.{counters_in}
use Rattle.service.specs.Serving.{Lent, is_lent}
use Rattle.service.proofs.Serving.{lent_words, lent_room, made_in_words, serves_torn, serves_with, told_code}
use Rattle.service.proofs.serve_free.Goals as goal
use Rattle.service.proofs.serve_free.Goals.{Else-not-is_lent, Start, Then-not-is_lent}

-- the loans as they were given, and that they are a state's
abbrev loans : Start → Lent
loans s =
    record {
      words = s.args.words.now;
      records = s.args.records.now;
      memory = s.args.memory.now;
      queue = s.args.queue.now;
      answer = s.args.answer.now;
    }

lent : (c : Else-not-is_lent) → is_lent (loans (goal.at.Else-not-is_lent c).Start) ≡ true
lent c = sym c.is_lent.ensures ∙ c.if-not-is_lent.false

torn : (c : Then-not-is_lent) → is_lent (loans (goal.at.Then-not-is_lent c).Start) ≡ false
torn c = sym c.is_lent.ensures ∙ c.if-not-is_lent.true

pub returns-then-not-is_lent : goal.returns-then-not-is_lent
returns-then-not-is_lent c = serves_torn _ (loans (goal.at.returns-then-not-is_lent c).Start) (torn c)

pub counters_in-counters-requires : goal.counters_in-counters-requires
counters_in-counters-requires c = lent_words (loans (goal.at.counters_in-counters-requires c).Start)
    (lent (goal.at.counters_in-counters-requires c).Else-not-is_lent)

pub free-y-requires : goal.free-y-requires
free-y-requires c =
    let l = loans (goal.at.free-y-requires c).Start in
    lent_words l (lent (goal.at.free-y-requires c).Else-not-is_lent)

pub put_counters-requires : goal.put_counters-requires
put_counters-requires c =
    let l = loans (goal.at.put_counters-requires c).Start in
    omega (arith, c.free-y.auto.words, lent_words l (lent (goal.at.put_counters-requires c).Else-not-is_lent))

pub tell-requires : goal.tell-requires
tell-requires c =
    let l = loans (goal.at.tell-requires c).Start in
    lent_room l (lent (goal.at.tell-requires c).Else-not-is_lent)

pub returns : goal.returns
returns c =
    let else_not_is_lent = (goal.at.returns c).Else-not-is_lent in
    let l = loans (goal.at.returns c).Start in
    made_in_words _ l (lent else_not_is_lent)
    (serves_with l (counters_in l.words) (rw c.counters_in-counters.ensures at c.free-y.ensures.leaves) c.tell.ensures.1
    (told_code _ c.tell.ensures.0) (lent else_not_is_lent) c.free-y.auto.words c.free-y.ensures.beside)
    ∙ rw c.put_counters.ensures refl
