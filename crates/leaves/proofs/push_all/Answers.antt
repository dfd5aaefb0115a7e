-- The list is sound and has the pages below i, so that the page i is not on it yet.
use mathlib.Core.Path.{refl}
use native.Mathlib.Omega.{arith}
use Rattle.definition.specs.World.{record_at}
use Rattle.list.specs.Linked.All.{all_none}
use Rattle.list.proofs.Laws.{all_map, linked_empty, linked_pages, linked_sound}
use Rattle.leaves.proofs.Counts.{count_more, below_next}
use Rattle.leaves.proofs.push_all.Goals as goal

pub loop-i-init : goal.loop-i-init
loop-i-init c =
    record {
      sound = linked_sound (linked_empty _ _);
      below = rw (linked_pages (linked_empty (record_at c.args.records.now) 0)) all_none;
      counted = refl;
    }

pub push_back-l-requires : goal.push_back-l-requires
push_back-l-requires c =
    let k = c.loop-i in record {
      sound = k.invariant.sound;
      page_bound = omega arith;
      out = all_map (λ x h. omega arith) k.invariant.below;
      page_bound_2 = (omega arith, omega (arith, k.invariant.counted));
    }

pub loop-i-preserved : goal.loop-i-preserved
loop-i-preserved c =
    let k = c.loop-i in
    let d = c.push_back-l in
    record {
      sound = d.ensures.sound;
      below = rw d.ensures.pages (below_next k.invariant.below);
      counted = omega (arith, count_more k.invariant.sound d.ensures);
    }
