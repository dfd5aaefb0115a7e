-- As `serve_with`, of `write`, which only reads the words.
use mathlib.Core.Bool.{true}
use mathlib.Core.Path.{◌≡◌, refl, sym, ◌∙◌}
use Rattle.words.proofs.Words.{beside_same}
use Rattle.service.specs.Serving.{Lent, is_lent}
use Rattle.service.proofs.Serving.{lent_room, lent_words, serves_with, serves_with_torn, told_code}
use Rattle.service.proofs.serve_write_with.Goals as goal
use Rattle.service.proofs.serve_write_with.Goals.{Else-not-is_lent, Start}

-- the loans as they were given, and that they are a state's
abbrev loans : Start → Lent
loans s =
    record {
      words = s.args.words.now;
      records = s.args.records.now;
      memory = s.args.memory.now;
      queue = s.args.queue.now;
      answer = s.args.answer.now;
    }

lent : (c : Else-not-is_lent) → is_lent (loans (goal.at.Else-not-is_lent c).Start) ≡ true
lent c = sym c.is_lent.ensures ∙ c.if-not-is_lent.false

pub returns-then-not-is_lent : goal.returns-then-not-is_lent
returns-then-not-is_lent c =
    let s = (goal.at.returns-then-not-is_lent c).Start in
    serves_with_torn _ (loans s) s.args.counters (sym c.is_lent.ensures ∙ c.if-not-is_lent.true)

pub write-y-requires : goal.write-y-requires
write-y-requires c = lent_words (loans (goal.at.write-y-requires c).Start) (lent (goal.at.write-y-requires c).Else-not-is_lent)

pub tell-requires : goal.tell-requires
tell-requires c = lent_room (loans (goal.at.tell-requires c).Start) (lent (goal.at.tell-requires c).Else-not-is_lent)

pub returns : goal.returns
returns c =
    let s = (goal.at.returns c).Start in
    serves_with (loans s) s.args.counters c.write-y.ensures c.tell.ensures.1 (told_code _ c.tell.ensures.0)
    (lent (goal.at.returns c).Else-not-is_lent) refl beside_same
