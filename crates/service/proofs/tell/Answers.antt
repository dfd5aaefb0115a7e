-- `tell` meets its contract: two stores in front where the call was accepted, else none.
use mathlib.Core.List.{[], ◌∷◌}
use mathlib.Core.Path.{refl}
use Rattle.std.proofs.lemmas.Result.{err_from_is_err_and}
use Rattle.words.proofs.Stores.{stores}
use Rattle.service.specs.Serving.{tells}
use Rattle.service.proofs.tell.Goals as goal

pub returns-in_err-reply : goal.returns-in_err-reply
unfolding tells
returns-in_err-reply c =
    let p = err_from_is_err_and c.from_residual.result c.from_residual.ensures.1 in
    rw (p.1, p.2, c.in_err-reply.was) (refl, refl)

pub returns : goal.returns
unfolding tells
returns c =
    let y = c.in_ok-reply.reply in
    rw c.in_ok-reply.was (refl, stores (y.address ∷ y.bytes ∷ []) c.args.answer.now 0 c.requires)
