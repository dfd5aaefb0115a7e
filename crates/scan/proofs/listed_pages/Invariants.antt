-- `listed_pages` meets its contract. The loop's invariant: the pages are those of the lists passed, at most 2^50 of each.
use Rattle.std.proofs.Common.{◌≡◌, ◌*◌, ◌^◌, ◌≤◌}
use Rattle.definition.specs.Basics.{sum, range}
use Rattle.scan.proofs.Pages.{list_weight}
use Rattle.scan.proofs.listed_pages.Given as goal

abbrev pub invariant-loop-k : goal.invariant-loop-k
invariant-loop-k l = (l.pages ≡ sum (list_weight l.fn.row.lists) (range 0 l.k)) × (l.pages ≤ 2 ^ 50 * l.k)
