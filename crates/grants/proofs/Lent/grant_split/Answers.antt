-- The frame that was granted is held, so it can be split, which leaves the table sane.
use mathlib.Core.Path.{refl}
use Rattle.level.specs.Level.{rank}
use Rattle.words.proofs.Words.{board_beside}
use Rattle.grants.proofs.Giving.{gives_split, gives_whole, turned_table}
use Rattle.grants.proofs.Lent.grant_split.Goals as goal

pub returns-in_err-granted-clause-gives_by : goal.returns-in_err-granted-clause-gives_by
returns-in_err-granted-clause-gives_by c =
    rw c.from_residual.ensures (gives_whole (rank c.args.level) c.args.flags c.in_err-granted.ensures.gives_by refl)

pub invariant_of-self : goal.invariant_of-self
invariant_of-self c =
    let l = c.grant.new.self in
    let y = c.split_frame in
    record { table = turned_table l.words.now l.records.now y.new.records y.ensures y.auto.records l.table; room = l.room }

pub returns-clause-gives_by : goal.returns-clause-gives_by
returns-clause-gives_by c =
    let E = c.in_ok-granted.ensures in
    let k = c.split_frame.auto.records in
    let T = rw (board_beside E.beside, k) at c.split_frame.ensures in
    rw k (gives_split (rank c.args.level) c.args.flags E.gives_by c.in_ok-granted.granted refl T)
