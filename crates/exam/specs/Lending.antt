-- What a call promises of the contents that it is lent (`Contents`): that they are the same loans still, and what it wrote to them.
use Rattle.std.specs.Prelude.{◌≡◌, length}
use Rattle.definition.specs.Calls.{Call}
use Rattle.exam.specs.declared.lending.Contents.{Contents}
use Rattle.exam.specs.Making.{Writes}
use Rattle.exam.specs.Promise.{Answer}

-- the loans of the second are those of the first, as long as they were, and the words, which are lent to read, are as they were
pub record Same (a b : Contents) : Type 0 where
  pub words : b.words.now ≡ a.words.now
  pub records : b.records.ghost_name ≡ a.records.ghost_name
  pub memory : b.memory.ghost_name ≡ a.memory.ghost_name
  pub long : length b.records.now ≡ length a.records.now
  pub wide : length b.memory.now ≡ length a.memory.now

-- the call c on the first leaves the second
abbrev pub WritesIn : Call → Contents → Contents → Answer → Type 0
WritesIn c a b y = Writes c a.words.now a.records.now a.memory.now b.records.now b.memory.now y
