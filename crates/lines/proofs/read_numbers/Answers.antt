-- `read_numbers` meets its contract. The loop's invariant: the numbers of all fields are those of the fields that are left, behind those
-- read already.
use Rattle.std.proofs.Common.{◌≡◌, ◌∙◌, ap, sym, rules}
use Rattle.std.specs.Prelude.{None}
use Rattle.lines.specs.Steps.{gather, no_numbers}
use Rattle.lines.proofs.Parting.{fields_split, left, left_more}
use Rattle.lines.proofs.Gathering.{gather_end, gather_more, gather_full, gather_bad}
use Rattle.lines.proofs.read_numbers.Goals as goal

pub loop-field-init : goal.loop-field-init
loop-field-init c =
    let i = c.into_iter-field-iterator.ensures.into_iter_gives in
    let e = c.split-field-items.ensures in
    rw (i, e.done, e.rest) (ap (gather no_numbers) (fields_split c.args.s.now))

pub returns-in_err-read_number : goal.returns-in_err-read_number
returns-in_err-read_number c =
    let k = c.loop-field in
    let e = left_more _ k.field-iterator c.next.new.self c.in-Some.field c.in-Some.ensures.steps (λ a r q h. search rules) in
    let r : c.from_residual.result ≡ None = search rules in
    r ∙ sym (k.invariant ∙ rw e (gather_bad k.numbers c.in-Some.field.now (left c.next.new.self) c.in_err-read_number.ensures))

pub returns-in_err-push : goal.returns-in_err-push
returns-in_err-push c =
    let k = c.loop-field in
    let e = left_more _ k.field-iterator c.next.new.self c.in-Some.field c.in-Some.ensures.steps (λ a r q h. search rules) in
    let r : c.from_residual-in_err-push.result ≡ None = search rules in
    let p = sym c.in_err-push.ensures.room in
    r ∙ sym (k.invariant ∙ rw e (gather_full k.numbers c.in-Some.field.now (left c.next.new.self) _ c.in_ok-read_number.ensures p))

pub loop-field-preserved : goal.loop-field-preserved
loop-field-preserved c =
    let k = c.loop-field in
    let e = left_more _ k.field-iterator c.next.new.self c.in-Some.field c.in-Some.ensures.steps (λ a r q h. search rules) in
    let p = sym c.in_ok-push.ensures.room in
    k.invariant ∙ rw e (gather_more k.numbers c.in-Some.field.now (left c.next.new.self) _ c.push.new.self c.in_ok-read_number.ensures p)

pub returns : goal.returns
returns c = let k = c.loop-field in sym (k.invariant ∙ rw c.in-None.ensures.steps.0 (gather_end k.numbers))
