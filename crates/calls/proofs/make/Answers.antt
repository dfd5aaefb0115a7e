-- Each arm is its callee's promise, with what the callee isn't lent given to it; what is left is which op it is, and its numbers as the
-- callee takes them.
use Rattle.std.proofs.Common.{rules}
use Rattle.exam.proofs.Returning.{made_back}
use Rattle.calls.proofs.make.Goals as goal

pub returns-in-Alloc-clause-makes : goal.returns-in-Alloc-clause-makes
returns-in-Alloc-clause-makes c = rw (c.in-Alloc.is, ← c.from-flags.ensures) (c.alloc.ensures.grants c.args.queue.now)

pub returns-in-Take-clause-makes : goal.returns-in-Take-clause-makes
returns-in-Take-clause-makes c = rw (c.in-Take.is, ← c.from-flags-in-Take.ensures) (c.take.ensures.grants c.args.queue.now)

pub returns-in-Split-clause-makes : goal.returns-in-Split-clause-makes
returns-in-Split-clause-makes c = let a = c.args in rw c.in-Split.is (c.split.ensures a.counters.now a.memory.now a.queue.now)

pub returns-in-Free-clause-makes : goal.returns-in-Free-clause-makes
returns-in-Free-clause-makes c = rw c.in-Free.is (c.free.ensures.turns c.args.memory.now c.args.queue.now)

pub returns-in-Zero-clause-makes : goal.returns-in-Zero-clause-makes
returns-in-Zero-clause-makes c =
    let a = c.args in
    rw c.in-Zero.is (λ s H. made_back (c.zero.ensures.writes a.counters.now a.queue.now s H) (search rules) (search rules))

pub returns-in-Dirty-clause-makes : goal.returns-in-Dirty-clause-makes
returns-in-Dirty-clause-makes c = let a = c.args in rw c.in-Dirty.is (c.dirty.ensures a.counters.now a.memory.now a.queue.now)

pub returns-in-Find-clause-makes : goal.returns-in-Find-clause-makes
returns-in-Find-clause-makes c = let a = c.args in rw c.in-Find.is (c.find.ensures a.counters.now a.memory.now a.queue.now)

pub returns-in-Queue-clause-makes : goal.returns-in-Queue-clause-makes
returns-in-Queue-clause-makes c = rw c.in-Queue.is (c.queue.ensures.queues c.args.counters.now c.args.memory.now)

pub returns-in-Fill-clause-makes : goal.returns-in-Fill-clause-makes
returns-in-Fill-clause-makes c =
    let a = c.args in
    rw c.in-Fill.is (λ s H. made_back (c.fill.ensures.writes a.counters.now a.queue.now s H) (search rules) (search rules))

pub returns-in-Copy-clause-makes : goal.returns-in-Copy-clause-makes
returns-in-Copy-clause-makes c =
    let a = c.args in
    rw c.in-Copy.is (λ s H. made_back (c.copy.ensures.writes a.counters.now a.queue.now s H) (search rules) (search rules))

pub returns-in-Pcopy-clause-makes : goal.returns-in-Pcopy-clause-makes
returns-in-Pcopy-clause-makes c =
    let a = c.args in
    rw c.in-Pcopy.is (λ s H. made_back (c.pcopy.ensures.writes a.counters.now a.queue.now s H) (search rules) (search rules))

pub returns-in-Round-clause-makes : goal.returns-in-Round-clause-makes
returns-in-Round-clause-makes c = rw c.in-Round.is (c.round.ensures.rounds c.args.memory.now)

pub returns-in-Lend-clause-makes : goal.returns-in-Lend-clause-makes
returns-in-Lend-clause-makes c = let a = c.args in rw c.in-Lend.is (c.lend.ensures a.words.now a.records.now a.memory.now a.queue.now)

pub returns-in-Back-clause-makes : goal.returns-in-Back-clause-makes
returns-in-Back-clause-makes c = let a = c.args in rw c.in-Back.is (c.back.ensures a.words.now a.records.now a.memory.now a.queue.now)

pub returns-in-Low-clause-makes : goal.returns-in-Low-clause-makes
returns-in-Low-clause-makes c = let a = c.args in rw c.in-Low.is (c.low.ensures a.records.now a.memory.now a.queue.now)
