-- `gather` meets its contract: each turn reads the next entry, and after the last each of the eight places is as the map has it.
use mathlib.Core.Path.{refl}
use native.Mathlib.Omega.{arith}
use lib.ListN.{get_or-replicate}
use Rattle.map.specs.Lending.{no_region}
use Rattle.map.proofs.Gathering.{filled_next, filled_all}
use Rattle.map.proofs.gather.Goals as goal

pub loop-i-init : goal.loop-i-init
loop-i-init g c = record {
  long = refl;
  read = λ k h. absurd (omega (arith, h));
  rest = λ k a b. get_or-replicate 8 k no_region no_region b;
}

pub loop-i-preserved : goal.loop-i-preserved
loop-i-preserved g c = filled_next c.loop-i.invariant c.entry.result (omega arith) c.entry.ensures

pub returns : goal.returns
returns g c ms e h = filled_all c.loop-i.invariant c.args.count (omega arith) ms e h
