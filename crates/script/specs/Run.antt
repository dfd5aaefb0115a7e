-- A run of the code as what is kept between lines (`running_of`), and that its loans stay the ones that it was made of (`Same`): what a run
-- leaves in them is what its maker finds there.
use Rattle.std.specs.Prelude.{◌≡◌}
use Rattle.exam.specs.Promise.{state_with}
use Rattle.script.specs.declared.Run.{Run}
use Rattle.script.specs.Running.{Running}

-- the state has the counters that are kept, and the words
abbrev pub running_of : Run → Running
running_of r =
    record {
      map = r.running.now.gathered.map;
      count = r.running.now.gathered.count;
      booted = r.running.now.booted;
      state = state_with r.running.now.counters r.words.now;
      loans = record { records = r.records.now; memory = r.memory.now; queue = r.queue.now };
      answer = r.answer.now;
      at = r.at;
    }

-- the same loans, whatever they hold
pub record Same (r r' : Run) : Type 0 where
  pub running : r'.running.ghost_name ≡ r.running.ghost_name
  pub words : r'.words.ghost_name ≡ r.words.ghost_name
  pub records : r'.records.ghost_name ≡ r.records.ghost_name
  pub memory : r'.memory.ghost_name ≡ r.memory.ghost_name
  pub queue : r'.queue.ghost_name ≡ r.queue.ghost_name
  pub answer : r'.answer.ghost_name ≡ r.answer.ghost_name
