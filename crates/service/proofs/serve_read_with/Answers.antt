-- The place that `read_place` finds is told in front of the answer, and nothing else changes.
use mathlib.Core.Bool.{true}
use mathlib.Core.Path.{◌≡◌, ap, sym, ◌∙◌}
use Rattle.std.proofs.lemmas.Result.{err_from_is_err_and}
use Rattle.service.specs.Serving.{Lent, Counted, is_lent, world_with}
use Rattle.service.proofs.Serving.{lent_room, lent_words, places, places_not, places_refused, serves_with_torn}
use Rattle.service.proofs.serve_read_with.Goals as goal
use Rattle.service.proofs.serve_read_with.Goals.{Else-not-is_lent, Start}

-- the loans as they were given, and that they are a state's
abbrev loans : Start → Lent
loans s =
    record {
      words = s.args.words.now;
      records = s.args.records.now;
      memory = s.args.memory.now;
      queue = s.args.queue.now;
      answer = s.args.answer.now;
    }

lent : (c : Else-not-is_lent) → is_lent (loans (goal.at.Else-not-is_lent c).Start) ≡ true
lent c = sym c.is_lent.ensures ∙ c.if-not-is_lent.false

pub returns-then-not-is_lent : goal.returns-then-not-is_lent
returns-then-not-is_lent c =
    let s = (goal.at.returns-then-not-is_lent c).Start in
    let k = s.args.counters in
    places_refused s.args.pa.0 s.args.offset s.args.len (loans s) (world_with k (loans s))
    (ap (λ (x : Counted). x.served.number)
    (serves_with_torn _ (loans s) k (sym c.is_lent.ensures ∙ c.if-not-is_lent.true)))

pub invariant_of-loans : goal.invariant_of-loans
invariant_of-loans c =
    let l = loans (goal.at.invariant_of-loans c).Start in
    record { long = lent_words l (lent (goal.at.invariant_of-loans c).Else-not-is_lent) }

pub tell-requires : goal.tell-requires
tell-requires c = lent_room (loans (goal.at.tell-requires c).Start) (lent (goal.at.tell-requires c).Else-not-is_lent)

pub returns-in_err-at : goal.returns-in_err-at
returns-in_err-at c =
    let s = (goal.at.returns-in_err-at c).Start in
    let p = err_from_is_err_and c.from_residual.result c.from_residual.ensures.1 in
    rw (p.1, p.2)
    (places_not s.args.pa.0 s.args.offset s.args.len (loans s) s.args.counters c.read_place.ensures
    (lent (goal.at.returns-in_err-at c).Else-not-is_lent) _ c.in_err-at.was)

pub returns : goal.returns
returns c =
    let s = (goal.at.returns c).Start in
    rw c.tell.ensures.0
    (places s.args.pa.0 s.args.offset s.args.len (loans s) s.args.counters c.read_place.ensures (lent (goal.at.returns c).Else-not-is_lent)
    c.in_ok-at.at c.in_ok-at.was c.tell.ensures.1)
