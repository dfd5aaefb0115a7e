-- `put_list` meets its contract: a level's two lists are written, and the other of them is as it was.
use Prim.Native.Nat.{◌+◌, ◌*◌, ◌/◌}
use mathlib.Core.Path.{◌≡◌}
use native.Mathlib.Omega.{arith}
use Rattle.words.proofs.Beside.{first_written, second_written}
use Rattle.words.proofs.put_list.Goals as goal

pub returns-then-k-eq0 : goal.returns-then-k-eq0
returns-then-k-eq0 c =
    let k = c.args.k in
    let e : 2 * (k / 2) ≡ k = omega (arith, c.if-k-eq0.true) in
    let z = rw e at (first_written c.args.words.now c.args.i (k / 2) c.args.list c.requires.0 (omega arith) (omega arith) (omega arith)) in
    rw (c.put_pair.ensures, c.list_from-other.ensures) record { row = z.0; rest = z.1 }

pub returns-else-k-eq0 : goal.returns-else-k-eq0
returns-else-k-eq0 c =
    let k = c.args.k in
    let e : 2 * (k / 2) + 1 ≡ k = omega (arith, c.if-k-eq0.false) in
    let z = rw e at (second_written c.args.words.now c.args.i (k / 2) c.args.list c.requires.0 (omega arith) (omega arith) (omega arith)) in
    rw (c.put_pair-else-k-eq0.ensures, c.list_from-other-else-k-eq0.ensures) record { row = z.0; rest = z.1 }
