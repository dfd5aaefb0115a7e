-- From an accepted boot on, the world of a run is one that calls left of that boot (`Reached`), and every line keeps it so
-- (`line_reached`). Such a world is sound, which is why no call of a script tests what it is lent (`reached_sure`).
use Prim.Native.Nat.{ℕ, ◌<◌}
use mathlib.Core.Bool.{Bool, true, false, false≢true}
use mathlib.Core.List.{List}
use mathlib.Core.Option.{Option, none, some}
use mathlib.Core.Path.{◌≡◌, refl, sym, ap, ◌∙◌, subst}
use lib.ListN.{get_or, length}
use Rattle.definition.specs.declared.Counters.{Counters}
use Rattle.definition.specs.declared.MemoryRegion.{MemoryRegion}
use Rattle.definition.specs.Board.{Board, Fit}
use Rattle.definition.specs.Boot.{kept_regions}
use Rattle.definition.specs.Calls.{Call}
use Rattle.definition.specs.Script.{AddRegion, BootNow, Ask, Asked, Command, RunningOn, command_on, is_accepted, line_on, started_on}
use Rattle.definition.specs.Torn.{boot_call, call, sound}
use Rattle.definition.specs.World.{World, memory_of}
use Rattle.bookkeeping.specs.Claim.{State, booted, next}
use Rattle.exam.specs.Making.{Makes, Ready, world}
use Rattle.exam.specs.Promise.{Answer, Leaves}
use Rattle.exam.proofs.Making.{leaves_made, sound_ready}
use Rattle.theorems.proofs.Runs.{Holds, boot_holds, call_holds, holds_sound}
use Rattle.words.specs.Words.{Long, board_in}
use Rattle.script.specs.Running.{Running, Stands, Sure, program_board}

module _ (board : Board) where
  -- the world v is one that calls left of an accepted boot
  pub record Reached (v : World) : Type 0 where
    pub map : List MemoryRegion
    pub first : World
    pub state : State
    pub holds : Holds board map first v state

  -- so is that of a run in which a boot was accepted
  abbrev pub ReachedIn : RunningOn → Type 0
  ReachedIn x = x.booted ≡ true → Reached x.world

module _ {board : Board} where
  pub started_reached : (w : World) → ReachedIn board (started_on w)
  started_reached w e = absurd (false≢true e)

module _ {board : Board} (fit : Fit board) where
  boot_reached
      : (map : List MemoryRegion) (w : World) → is_accepted (boot_call board map w).answer ≡ true
      → Reached board (boot_call board map w).world
  boot_reached map w e =
      record {
        map = map;
        first = w;
        state = booted board map (memory_of board w.memory (kept_regions board map)) (length w.queue);
        holds = boot_holds board fit map w (λ r h. false≢true (sym (ap is_accepted h) ∙ e));
      }

  call_reached : {v : World} → Reached board v → (c : Call) → Reached board (call board v c).world
  call_reached L c = record { map = L.map; first = L.first; state = next board L.state c; holds = call_holds fit L.holds c }

  command_reached
      : (x : RunningOn) → ReachedIn board x → (name : List ℕ) (c : Command) (b : Bool) → x.booted ≡ b
      → ReachedIn board (command_on board x name c b).running
  command_reached x R name (AddRegion m) false e = λ h. absurd (false≢true h)
  command_reached x R name (AddRegion m) true e = R
  command_reached x R name BootNow false e = boot_reached x.map x.world
  command_reached x R name BootNow true e = R
  command_reached x R name (Ask c) false e = R
  command_reached x R name (Ask c) true e = λ h. call_reached (R e) c

  pub line_reached : (x : RunningOn) → ReachedIn board x → (a : Option Asked) → ReachedIn board (line_on board x a).running
  line_reached x R none = R
  line_reached x R (some a) = command_reached x R a.name a.command x.booted refl

  -- what is kept is sure, where it stands for such a run
  pub reached_sure : {r : Running} {x : RunningOn} → Stands r x → ReachedIn board x → Sure board r
  reached_sure S R e = subst (λ (w : World). sound board w ≡ true) S.world (holds_sound fit (R (S.booted ∙ e)).holds)

-- ---- a call on sound loans

pub sure_ready : (k : Counters) (ws rs m q : List ℕ) → Long ws → sound program_board (world k ws rs m q) ≡ true → Ready k ws rs m q
unfolding board_in
sure_ready k ws rs m q long t = sound_ready k ws rs m q long t

pub sure_leaves
    : (ws : List ℕ) {c : Call} {w v : World} {y : Answer} → sound program_board w ≡ true → ((i : ℕ) → get_or w.records i 0 < 256)
    → Makes (board_in ws) c w v y → Leaves program_board w c v y
unfolding board_in
sure_leaves ws t small M = leaves_made t small M
