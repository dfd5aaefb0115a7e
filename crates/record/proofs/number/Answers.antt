-- `record::number` meets its contract: the sum of its four bytes, each in its place, is the number.
use Prim.Native.Nat.{◌+◌, ◌*◌}
use mathlib.Core.Path.{◌≡◌}
use native.Mathlib.Omega.{arith}
use Rattle.definition.specs.World.{word_at}
use Rattle.record.proofs.Words.{number_word}
use Rattle.record.proofs.number.Goals as goal

pub returns : goal.returns
unfolding word_at
returns c =
    let a = c.args in
    let e : (a.page * 4 + a.place) * 4 ≡ a.page * 16 + a.place * 4 = omega arith in
    rw (number_word a.records.now a.page a.place (omega arith), e) (omega arith)
