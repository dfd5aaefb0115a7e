-- Each grant leaves the region sound and whole, as the next one requires.
use Rattle.std.proofs.Common.{rules}
use Rattle.words.proofs.Words.{in_use_then}
use Rattle.region.proofs.Laws.{rep_sound}
use Rattle.region.proofs.Lending.{both_lent}
use Rattle.leaves.proofs.grant_all.Invariants.{Inv}
use Rattle.leaves.proofs.grant_all.Goals as goal

pub loop-i-preserved : goal.loop-i-preserved
loop-i-preserved c =
    let d = c.allocate.ensures in
    let b = c.allocate.new.self in
    let t : Inv c.args.board b.records.now b.words.now =
    record {
      used = in_use_then d.same.wide d.finds_in.1.rest c.loop-i.invariant.used;
      sound = rep_sound d.finds_in.0.became.rep;
      whole = rw (d.same.first, d.same.index) at d.whole_in_2;
    }
    in
    both_lent (Inv c.args.board) t (search rules) (search rules)
