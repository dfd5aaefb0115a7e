-- As `serve_read_with`: the counters are read out of the words.
use mathlib.Core.Bool.{true, false}
use mathlib.Core.Path.{◌≡◌, ap, sym, ◌∙◌}
use Rattle.service.specs.Serving.{Lent, Served, is_lent, world_in}
use Rattle.service.proofs.Serving.{lent_words, places_in_words, places_refused, serves_torn}
use Rattle.service.proofs.serve_read.Goals as goal
use Rattle.service.proofs.serve_read.Goals.{Else-not-is_lent, Start, Then-not-is_lent}

-- the loans as they were given, and that they are a state's
abbrev loans : Start → Lent
loans s =
    record {
      words = s.args.words.now;
      records = s.args.records.now;
      memory = s.args.memory.now;
      queue = s.args.queue.now;
      answer = s.args.answer.now;
    }

lent : (c : Else-not-is_lent) → is_lent (loans (goal.at.Else-not-is_lent c).Start) ≡ true
lent c = sym c.is_lent.ensures ∙ c.if-not-is_lent.false

torn : (c : Then-not-is_lent) → is_lent (loans (goal.at.Then-not-is_lent c).Start) ≡ false
torn c = sym c.is_lent.ensures ∙ c.if-not-is_lent.true

pub returns-then-not-is_lent : goal.returns-then-not-is_lent
returns-then-not-is_lent c =
    let s = (goal.at.returns-then-not-is_lent c).Start in
    places_refused s.args.pa.0 s.args.offset s.args.len (loans s) (world_in (loans s))
    (ap (λ (x : Served). x.number) (serves_torn _ (loans s) (torn c)))

pub counters_in-counters-requires : goal.counters_in-counters-requires
counters_in-counters-requires c = lent_words (loans (goal.at.counters_in-counters-requires c).Start) (lent c)

pub returns : goal.returns
returns c =
    let s = (goal.at.returns c).Start in
    places_in_words s.args.pa.0 s.args.offset s.args.len (loans s) (lent (goal.at.returns c).Else-not-is_lent)
    (rw c.counters_in-counters.ensures at c.serve_read_with.ensures)
