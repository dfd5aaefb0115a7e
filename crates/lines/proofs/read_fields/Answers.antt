-- `read_fields` meets its contract: a line too long, one with numbers, and one of a name alone. The op may be unknown, and a number
-- unreadable.
use Rattle.std.proofs.Common.{arith, refl}
use Rattle.std.specs.Prelude.{Some, None}
use Rattle.lines.specs.Steps.{no_numbers}
use Rattle.lines.proofs.Lines.{reads_long, reads_more, reads_last}
use Rattle.lines.proofs.read_fields.Goals as goal

pub returns-then-line-gt-LONGEST : goal.returns-then-line-gt-LONGEST
returns-then-line-gt-LONGEST c = reads_long c.args.line.now (omega arith)

pub returns-in_err-read_op-in-Some : goal.returns-in_err-read_op-in-Some
returns-in_err-read_op-in-Some c =
    let k = c.in-Some in
    reads_more c.args.line.now (omega arith) None _ c.from_residual.ensures k.comma k.ensures c.in_err-read_op-in-Some.ensures refl

pub returns-in_err-read_numbers-in-Some : goal.returns-in_err-read_numbers-in-Some
returns-in_err-read_numbers-in-Some c =
    let k = c.in-Some in
    let o = c.in_ok-read_op-in-Some in
    let e = c.from_residual-in_err-read_numbers-in-Some.ensures in
    reads_more c.args.line.now (omega arith) (Some o.field-0) None e k.comma k.ensures o.ensures c.in_err-read_numbers-in-Some.ensures

pub returns-in_ok-read_numbers-in-Some : goal.returns-in_ok-read_numbers-in-Some
returns-in_ok-read_numbers-in-Some c =
    let k = c.in-Some in
    let o = c.in_ok-read_op-in-Some in
    let n = c.in_ok-read_numbers-in-Some in
    reads_more c.args.line.now (omega arith) (Some o.field-0) (Some n.field-0) c.line_from.ensures k.comma k.ensures o.ensures n.ensures

pub returns-in_err-read_op-in-None : goal.returns-in_err-read_op-in-None
returns-in_err-read_op-in-None c =
    let e = c.from_residual-in_err-read_op-in-None.ensures in
    reads_last c.args.line.now (omega arith) None (Some no_numbers) e c.in-None.ensures c.in_err-read_op-in-None.ensures refl

pub returns-in_ok-read_op-in-None : goal.returns-in_ok-read_op-in-None
returns-in_ok-read_op-in-None c =
    let o = c.in_ok-read_op-in-None in
    reads_last c.args.line.now (omega arith) (Some o.field-0) (Some no_numbers) c.line_from-in-None.ensures c.in-None.ensures o.ensures refl
