-- The store: all that a call reads and changes, over pages and addresses. How it lies in the lent records, rows and memory is said in World.
use Rattle.std.specs.Prelude.{ℕ, List}
use Rattle.definition.specs.declared.Counters.{Counters}
use Rattle.definition.specs.declared.Pass.{Pass}
use Rattle.definition.specs.Frame.{Frame, Frames, change}
use Rattle.definition.specs.Allocator.{PhysicalFrameAllocator}

-- bytes by physical address
abbrev pub Memory : Type 0
Memory = ℕ → ℕ

-- what a boot fixes; no call changes it
pub record Kept : Type 0 where
  -- how many addresses the queue has places for
  pub room : ℕ

pub record Store : Type 0 where
  pub allocator : PhysicalFrameAllocator
  pub memory : Memory
  pub counters : Counters
  -- addresses to reclaim, the oldest first
  pub queue : List ℕ
  pub kept : Kept
  pub pass : Pass

abbrev pub with_allocator : Store → PhysicalFrameAllocator → Store
with_allocator s a = record { allocator = a; memory = s.memory; counters = s.counters; queue = s.queue; kept = s.kept; pass = s.pass }

abbrev pub with_frames : Store → Frames → Store
with_frames s fs = with_allocator s (record { frames = fs; regions = s.allocator.regions })

abbrev pub with_memory : Store → Memory → Store
with_memory s m = record { allocator = s.allocator; memory = m; counters = s.counters; queue = s.queue; kept = s.kept; pass = s.pass }

abbrev pub with_counters : Store → Counters → Store
with_counters s c = record { allocator = s.allocator; memory = s.memory; counters = c; queue = s.queue; kept = s.kept; pass = s.pass }

abbrev pub with_queue : Store → List ℕ → Store
with_queue s q = record { allocator = s.allocator; memory = s.memory; counters = s.counters; queue = q; kept = s.kept; pass = s.pass }

abbrev pub with_pass : Store → Pass → Store
with_pass s p = record { allocator = s.allocator; memory = s.memory; counters = s.counters; queue = s.queue; kept = s.kept; pass = p }

-- a mark of the frame at a page set or cleared
abbrev pub mark : (Frame → Frame) → Store → ℕ → Store
mark g s p = with_frames s (change g s.allocator.frames p)
