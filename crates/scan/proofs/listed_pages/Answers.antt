-- `listed_pages` meets its contract. The loop's invariant: the pages are those of the lists passed, at most 2^50 of each.
use Rattle.std.proofs.Common.{◌≡◌, ◌+◌, arith, rules}
use Rattle.definition.specs.Basics.{sum, range}
use Rattle.scan.proofs.Pages.{sum_last, list_weight, weight_most}
use Rattle.scan.proofs.listed_pages.Goals as goal

pub loop-k-init : goal.loop-k-init
unfolding sum range
loop-k-init c = search rules

pub loop-k-preserved : goal.loop-k-preserved
loop-k-preserved c =
    let k = c.loop-k.k in
    let lists = c.args.row.lists in
    let z : 0 + k ≡ k = omega arith in
    let more = rw z at (sum_last (list_weight lists) 0 k) in
    let most = weight_most lists k (omega arith) (omega arith) in
    rw c.pages_at.ensures (omega arith, omega arith)
