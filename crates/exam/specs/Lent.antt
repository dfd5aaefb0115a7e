-- What a call is lent, as the world that it holds.
use Rattle.definition.specs.World.{World}
use Rattle.exam.specs.Making.{world}
use Rattle.exam.specs.declared.loans.Loans.{Loans}

abbrev pub world_lent : Loans → World
world_lent l = world l.counters l.words.now l.records.now l.memory.now l.queue.now
