-- `used_overlap` meets its contract. The rows in use are those up to their number.
use mathlib.Core.List.{List}
use mathlib.Core.Path.{◌≡◌, sym, ap₂, ◌∙◌}
use native.Mathlib.Omega.{arith}
use lib.ListN.{take}
use lib.Seq.{length-take-le}
use Rattle.definition.specs.declared.Row.{Row}
use Rattle.definition.specs.Board.{Board}
use Rattle.definition.specs.Boot.{overlap}
use Rattle.definition.specs.World.{used_rows}
use Rattle.definition.specs.Torn.{bare_regions}
use Rattle.words.specs.Words.{rows_in}
use Rattle.audit.proofs.Arrays.{words_eight}
use Rattle.audit.proofs.Used.{used_front, used_most}
use Rattle.audit.proofs.Lent.used_overlap.Goals as goal

pub slice_bounds-rows-end : goal.slice_bounds-rows-end
slice_bounds-rows-end c =
    let ws = c.args.self.now.words.now in
    omega (arith, c.requires, used_most (rows_in ws), words_eight ws)

pub slice_bounds-overlaps-end : goal.slice_bounds-overlaps-end
slice_bounds-overlaps-end c =
    let rows = rows_in c.args.self.now.words.now in
    sym (rw c.rows_in-rows.ensures (length-take-le c.args.used rows (omega (arith, c.requires, used_most rows))))

pub returns : goal.returns
returns c =
    let rows = rows_in c.args.self.now.words.now in
    let e : take c.args.used c.rows_in-rows.result ≡ used_rows rows = rw (c.rows_in-rows.ensures, c.requires) (used_front rows) in
    c.overlaps.ensures ∙ ap₂ (λ (b : Board) (rs : List Row). overlap b (bare_regions b rs)) c.board_in.ensures.0 e
