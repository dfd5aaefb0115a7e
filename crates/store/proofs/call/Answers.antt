-- By what the number asks for: each call as its function promises; any other number is refused 17.
use mathlib.Core.Path.{◌≡◌, refl, ap, sym, ◌∙◌}
use Rattle.std.specs.Prelude.{Ok}
use Rattle.std.proofs.lemmas.Result.{err_from_is_err_and}
use Rattle.service.specs.Serving.{loans_of}
use Rattle.store.specs.declared.Asked.TheVariants.{Known, Write, Read, Stats, Boot}
use Rattle.store.specs.Lending.{ask_of}
use Rattle.store.proofs.Asking.{serves_five}
use Rattle.store.proofs.call.Goals as goal

pub returns-in_err-ask : goal.returns-in_err-ask
returns-in_err-ask c =
    let p = err_from_is_err_and c.from_residual.result c.from_residual.ensures.1 in
    rw (sym c.try_from.ensures ∙ c.in_err-ask.was, p.1, p.2) (refl, refl)

pub returns-in-Known : goal.returns-in-Known
returns-in-Known c =
    let a = c.args in
    let l = loans_of a.words.now a.records.now a.memory.now a.queue.now a.answer.now in
    let e : ask_of a.op ≡ Ok (Known c.in-Known.ask) = sym c.try_from.ensures ∙ c.in_ok-ask.was ∙ ap Ok c.in-Known.is in
    rw e (serves_five c.in-Known.ask a.n.now c.five_in.result a.counters.now l c.five_in.ensures c.serve_with.ensures, refl)

pub returns-in-Write : goal.returns-in-Write
returns-in-Write c =
    let e : ask_of c.args.op ≡ Ok Write = sym c.try_from.ensures ∙ c.in_ok-ask.was ∙ ap Ok c.in-Write.is in
    rw e (rw (c.number_at.ensures, c.number_at-offset.ensures) at c.serve_write_with.ensures, refl)

pub returns-in-Read : goal.returns-in-Read
returns-in-Read c =
    let e : ask_of c.args.op ≡ Ok Read = sym c.try_from.ensures ∙ c.in_ok-ask.was ∙ ap Ok c.in-Read.is in
    rw e (rw (c.number_at.ensures, c.number_at-offset.ensures, c.number_at-len.ensures) at c.serve_read_with.ensures, refl, refl)

pub returns-in-Stats : goal.returns-in-Stats
returns-in-Stats c =
    let e : ask_of c.args.op ≡ Ok Stats = sym c.try_from.ensures ∙ c.in_ok-ask.was ∙ ap Ok c.in-Stats.is in
    rw e c.serve_stats_with.ensures

pub returns-in-Boot : goal.returns-in-Boot
returns-in-Boot c =
    let e : ask_of c.args.op ≡ Ok Boot = sym c.try_from.ensures ∙ c.in_ok-ask.was ∙ ap Ok c.in-Boot.is in
    rw e (c.boot_numbers.ensures, refl)
