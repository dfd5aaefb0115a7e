-- What a grant promises of the loans that it works on, as they were (`l`) and as they are left (`m`).
use Rattle.std.specs.Prelude.{ℕ, ◌<◌, Bool, ◌≡◌, get_or, length}
use Rattle.std.specs.Prelude.{Option as MayBe}
use Rattle.definition.specs.declared.FrameAllocFlags.{FrameAllocFlags}
use Rattle.definition.specs.Basics.{everywhere}
use Rattle.definition.specs.Board.{Board}
use Rattle.definition.specs.Store.{Store}
use Rattle.definition.specs.Tracker.{Granted as GrantedOf}
use Rattle.definition.specs.Calls.{Call}
use Rattle.definition.specs.World.{record_at}
use Rattle.level.specs.declared.Level.{Level}
use Rattle.level.specs.Level.{rank}
use Rattle.record.specs.Records.{pages_in}
use Rattle.words.specs.Words.{board_in}
use Rattle.exam.specs.Making.{Grants}
use Rattle.exam.specs.Promise.{Answer, State, state_with}
use Rattle.grants.specs.declared.Granted.{Granted as GrantedFrame}
use Rattle.grants.specs.declared.Lent.{Lent}
use Rattle.grants.specs.Granting.{Finds, GivesBy, Granted, granted_in}

abbrev pub board_of : Lent → Board
board_of l = board_in l.words.now

abbrev pub state_of : Lent → State
state_of l = state_with l.counters.now l.words.now

abbrev pub granted_of : MayBe GrantedFrame → Lent → Granted
granted_of o m = granted_in o m.counters.now m.words.now

-- they are the same loans, and the records are as long
pub record Same (l m : Lent) : Type 0 where
  pub counters : m.counters.ghost_name ≡ l.counters.ghost_name
  pub words : m.words.ghost_name ≡ l.words.ghost_name
  pub records : m.records.ghost_name ≡ l.records.ghost_name
  pub memory : m.memory.ghost_name ≡ l.memory.ghost_name
  pub as_long : length m.records.now ≡ length l.records.now

abbrev pub FindsIn : (l m : Lent) → MayBe GrantedFrame → Type 0
FindsIn l m o = Finds (board_of l) (state_of l) (granted_of o m)

-- what definition's grant `op` gives of the store, a frame of the level
abbrev pub GivesIn
    : (Board → (ℕ → Bool) → ℕ → FrameAllocFlags → Store → GrantedOf) → Level → FrameAllocFlags → (l m : Lent) → MayBe GrantedFrame → Type 0
GivesIn op level flags l m o =
    GivesBy (board_of l) (op (board_of l) everywhere (rank level) flags) (record_at l.records.now) (state_of l) l.memory.now
    (record_at m.records.now) (pages_in m.records.now) m.memory.now (granted_of o m)

-- what the call c promises, where the records are bytes still, as lent ones are
abbrev pub GrantsIn : Call → (l m : Lent) → Answer → Type 0
GrantsIn c l m y =
    ((i : ℕ) → get_or m.records.now i 0 < 256)
    → Grants c l.counters.now l.words.now l.records.now l.memory.now m.counters.now m.words.now m.records.now m.memory.now y
