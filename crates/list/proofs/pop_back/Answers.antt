-- `list::pop_back` meets its contract: a list with a back has it as its last page, which `remove` takes out.
use mathlib.Core.Path.{refl}
use native.Mathlib.Omega.{arith}
use Rattle.list.proofs.Laws.{empty, back_in}
use Rattle.list.proofs.Removal.{taken}
use Rattle.list.proofs.pop_back.Goals as goal

pub returns-in_err-page : goal.returns-in_err-page
returns-in_err-page c = rw c.from_residual.ensures (empty _ c.requires (omega (arith, c.in_err-page.ensures)), refl)

pub remove-requires : goal.remove-requires
remove-requires c =
    record {
      sound = c.requires;
      fact = rw c.in_ok-page.ensures.1 (back_in c.requires (omega (arith, c.in_ok-page.ensures)));
    }

pub returns : goal.returns
returns c =
    let m = c.remove in
    let e = c.in_ok-page.ensures.1 in
    rw (m.auto.records, e) (taken c.requires (omega (arith, c.in_ok-page.ensures)) (rw (m.auto.records, e) at m.ensures))
