-- Loans that are too short are refused by the map or as 5; else `boot` promises what it leaves of them, and its answer is told.
use mathlib.Core.Bool.{true}
use mathlib.Core.Path.{◌≡◌, ap, sym, ◌∙◌}
use Rattle.definition.proofs.Boards.{standard_fit}
use Rattle.definition.specs.Refusal.{number_of}
use Rattle.service.specs.Serving.{Lent, is_roomy}
use Rattle.service.proofs.Serving.{boots, boots_with_short, roomy_room, roomy_words, told_code}
use Rattle.service.proofs.serve_boot_with.Goals as goal
use Rattle.service.proofs.serve_boot_with.Goals.{Else-not-is_roomy, Start}

-- the loans as they were given, and that they are a state's
abbrev loans : Start → Lent
loans s =
    record {
      words = s.args.words.now;
      records = s.args.records.now;
      memory = s.args.memory.now;
      queue = s.args.queue.now;
      answer = s.args.answer.now;
    }

roomy : (c : Else-not-is_roomy) → is_roomy (loans (goal.at.Else-not-is_roomy c).Start) ≡ true
roomy c = sym c.is_roomy.ensures ∙ c.if-not-is_roomy.false

pub returns-then-not-is_roomy : goal.returns-then-not-is_roomy
returns-then-not-is_roomy c =
    λ ms e f.
    let s = (goal.at.returns-then-not-is_roomy c).Start in
    boots_with_short ms (loans s) s.args.counters.now (sym c.is_roomy.ensures ∙ c.if-not-is_roomy.true)
    (ap number_of (c.short_boot.ensures ms e f))

pub boot-y-requires : goal.boot-y-requires
boot-y-requires c =
    record {
      fit = rw c.standard-board.ensures standard_fit;
      long = roomy_words (loans (goal.at.boot-y-requires c).Start) (roomy (goal.at.boot-y-requires c).Else-not-is_roomy);
    }

pub tell-requires : goal.tell-requires
tell-requires c = roomy_room (loans (goal.at.tell-requires c).Start) (roomy (goal.at.tell-requires c).Else-not-is_roomy)

pub returns : goal.returns
returns c =
    λ ms e f.
    let b = rw c.standard-board.ensures at (c.boot-y.ensures.boots_all ms e f) in
    let s = (goal.at.returns c).Start in
    boots ms (loans s) s.args.counters.now (roomy (goal.at.returns c).Else-not-is_roomy) b c.boot-y.ensures.boots_over c.tell.ensures.1
    (told_code _ c.tell.ensures.0)
