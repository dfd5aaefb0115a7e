-- `list::earlier_at` meets its contract: where the neighbour is none, nothing changes.
use native.Mathlib.Omega.{arith}
use borrow.Author.Tests.{eq-eqb, ne_eqb}
use Rattle.list.specs.Linked.{upd_neighbour}
use Rattle.list.proofs.earlier_at.Goals as goal

pub returns-in-Some : goal.returns-in-Some
unfolding upd_neighbour
returns-in-Some c =
    rw (ne_eqb c.args.c 0 (omega (arith, c.in-Some.ensures)), ← c.in-Some.ensures.1) c.set_earlier.ensures.records

pub returns-in_default : goal.returns-in_default
unfolding upd_neighbour
returns-in_default c = rw (eq-eqb c.args.c 0 (omega (arith, c.in_default.ensures)))
