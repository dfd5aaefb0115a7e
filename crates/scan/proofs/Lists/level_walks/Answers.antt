-- `level_walks` meets its contract: two empty lists walk.
use Rattle.std.proofs.Common.{◌≡◌, ℕ, ◌+◌, ◌*◌, true, refl, sym, ◌∙◌}
use Rattle.definition.specs.Torn.{is_no_links}
use Rattle.definition.specs.World.{record_at}
use Rattle.definition.proofs.Tests.{and_left, and_right, and-true}
use Rattle.words.specs.Words.{row_of, rows_in, list_in}
use Rattle.scan.specs.Sheet.{list_at}
use Rattle.scan.proofs.Ends.{none_walks}
use Rattle.scan.proofs.Lists.level_walks.Goals as goal

pub returns-then-is_bare : goal.returns-then-is_bare
returns-then-is_bare c =
    let s = c.args.self.now in
    let r = s.region.now in
    let f = record_at r.records.now in
    let row = row_of (rows_in s.words.now) s.i in
    let k = 2 * c.args.level in
    let e = c.if-is_bare.true in
    let n = sym c.is_bare.ensures ∙ e in
    let empty : (j : ℕ) → is_no_links (list_in row j) ≡ true → list_at f r.base r.past row.lists j ≡ true =
    λ j. none_walks f r.base r.past row.lists j (list_in row j) refl in
    e ∙ sym (and-true (empty k (and_left _ _ n)) (empty (k + 1) (and_right (is_no_links (list_in row k)) _ n)))
