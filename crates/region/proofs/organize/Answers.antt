-- The loop has laid out the pages below `at`; the rest is laid out as the definition would from there.
use native.Mathlib.Omega.{arith}
use Rattle.level.proofs.Sizes.{size_positive}
use Rattle.region.proofs.Laying.{best, laid_asks, laid_step, laid_done}
use Rattle.region.proofs.organize.Goals as goal

pub push-r-requires : goal.push-r-requires
push-r-requires c =
    let k = c.loop-at in
    let b = c.level_at-level in
    let z = laid_asks k.invariant.laid c.loop-at-test.true b.result (best _ _ _ b.ensures (omega arith)) c.requires.count_value.0 in
    record { sound_row = z.0; level_bound = z.1.0; by_index = z.1.1 }

pub pages_at-at-requires : goal.pages_at-at-requires
pages_at-at-requires c = (best _ _ _ c.level_at-level.ensures (omega arith)).small

pub overflow_add-at : goal.overflow_add-at
overflow_add-at c =
    let k = c.loop-at in
    let b = c.level_at-level in
    let B = best _ _ _ b.ensures (omega arith) in
    rw c.pages_at-at.ensures (omega (arith, B.fits, c.requires.count_value.2))

pub loop-at-smaller : goal.loop-at-smaller
loop-at-smaller c =
    let k = c.loop-at in
    let b = c.level_at-level in
    let B = best _ _ _ b.ensures (omega arith) in
    rw c.pages_at-at.ensures (omega (arith, B.fits, size_positive b.result, c.loop-at-test.true))

pub loop-at-preserved : goal.loop-at-preserved
loop-at-preserved c =
    let k = c.loop-at in
    let b = c.level_at-level in
    let B = best _ _ _ b.ensures (omega arith) in
    let d = c.push-r in
    rw c.pages_at-at.ensures
    (record {
      some = omega (arith, B.fits, c.loop-at-test.true);
      same = omega (arith, d.auto.records, k.invariant.same);
      laid = laid_step k.invariant.laid c.loop-at-test.true b.result B d.ensures;
    })

pub returns : goal.returns
returns c =
    let k = c.loop-at in
    let z = laid_done k.invariant.laid (omega arith) c.requires.count_value.0 c.requires.count_value.1 in
    record { becomes = z.0; whole_row = z.1 }
