-- `rows_in` meets its contract: each row is read by `row_at`.
use Prim.Native.Nat.{◌<◌}
use mathlib.Core.List.{[]}
use mathlib.Core.Path.{◌≡◌, sym, ◌∙◌}
use native.Mathlib.Omega.{arith}
use lib.ListN.{length, get_or}
use lib.Seq.{ext_get_or}
use Rattle.std.proofs.Common.{rules}
use Rattle.words.specs.Words.{rows_in, row_of}
use Rattle.words.proofs.Places.{length_rows}
use Rattle.words.proofs.rows_in.Goals as goal

pub returns : goal.returns
returns c =
    let ws = c.args.words.now in
    let s = c.from_fn.ensures.items in
    let long : length c.from_fn.result ≡ 8 = s.long in
    ext_get_or (row_of [] 0) c.from_fn.result (rows_in ws) (long ∙ sym (length_rows ws 0 8))
    (λ i l. let m : i < 8 = omega (arith, l, long) in
    let h = s.at i (row_of [] 0) m in
    let g : get_or c.from_fn.result i (row_of [] 0) ≡ row_of (rows_in ws) i = search rules in g)
