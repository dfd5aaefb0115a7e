-- What a round leaves: `Reclaims` of its frees, for every store that the state is of, and `EndsPass` of a pass that is over.
use Rattle.std.specs.Prelude.{ℕ, ◌≤◌, List, ◌≡◌, length, take}
use Rattle.definition.specs.declared.Record.{Record}
use Rattle.definition.specs.declared.Pass.{Pass}
use Rattle.definition.specs.Board.{Board}
use Rattle.definition.specs.Store.{Store}
use Rattle.definition.specs.Tracker.{Reclaimed as ReclaimedOf, reclaim_up_to, track_reclaimed}
use Rattle.world.specs.Tables.{Table, Turned}
use Rattle.exam.specs.declared.Reply.{Reply}
use Rattle.exam.specs.Promise.{State, reply}

-- ---- a round

-- the state that a round's frees leave, and how many they were
pub record Reclaimed : Type 0 where
  pub state : State
  pub freed : ℕ

-- the pass is over: what it freed is counted, and it is told
pub record EndsPass (st : State) (p : Pass) (left : State) (y : Reply) : Type 0 where
  pub rows : left.rows ≡ st.rows
  pub counters : left.counters ≡ track_reclaimed p.freed st.counters
  pub queued : left.queued ≡ st.queued
  pub pass : left.pass ≡ record { rounds = 0; freed = 0 }
  pub answer : y ≡ reply p.rounds p.freed

module _ (board : Board) where
  -- the state and its table are of the store s, whose queue is in the first places of the loan
  pub record IsOf (f : ℕ → Record) (n : ℕ) (st : State) (places : List ℕ) (s : Store) : Type 0 where
    pub table : Table board f n st.rows s.allocator
    pub counters : s.counters ≡ st.counters
    pub queue : s.queue ≡ take st.queued places
    pub queued : st.queued ≤ length places

  -- what a round's frees leave of every store that the state is of
  pub record ReclaimsTo (f : ℕ → Record) (st : State) (places : List ℕ) (g : ℕ → Record) (n : ℕ) (r : Reclaimed) (s : Store) (x : ReclaimedOf) : Type 0 where
    pub turned : Turned board f st.rows g n r.state.rows x.store.allocator
    pub counters : x.store.counters ≡ r.state.counters
    pub queue : x.store.queue ≡ take r.state.queued places
    pub queued : r.state.queued ≤ st.queued
    pub pass : r.state.pass ≡ st.pass
    pub freed : r.freed ≡ x.freed
    pub few : r.freed ≤ 1000
    pub memory : x.store.memory ≡ s.memory
    pub kept : x.store.kept ≡ s.kept
    pub same_pass : x.store.pass ≡ s.pass

  abbrev pub Reclaims : (ℕ → Record) → State → List ℕ → ℕ → (ℕ → Record) → ℕ → Reclaimed → Type 0
  Reclaims f st places limit g n r = (s : Store) → IsOf f n st places s → ReclaimsTo f st places g n r s (reclaim_up_to board limit s)
