-- What `given` leaves of the loans that it was lent.
use Rattle.std.proofs.Common.{rules}
use Rattle.grants.proofs.Promised.{grants_lent}
use Rattle.grants.proofs.alloc.Goals as goal

pub returns-clause-grants : goal.returns-clause-grants
returns-clause-grants c =
    let a = c.args in
    let m = c.given.new.self in
    grants_lent _ a.words.now a.records.now a.memory.now m.words.now m.records.now m.memory.now c.given.ensures.grants (search rules)
    (search rules) (search rules) (search rules) c.type_inv.records
