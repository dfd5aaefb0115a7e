-- What a driver leaves in the loans and answers: the same turn again and again, each on the world as the last left it, until one is
-- refused. A reader takes from here what the number of a driver counts (`turns`, `Drives`), and from which world it starts
-- (`booted_world`, `held`).
use Rattle.std.specs.Prelude.{ℕ, zero, suc, ◌+◌, false, cond, List, [], ◌∷◌, Ok, Err, is_ok, ◌≡◌}
use Rattle.definition.specs.declared.MemoryRegion.{MemoryRegion}
use Rattle.definition.specs.declared.MemoryRegionKind.TheVariants.{UsableRam}
use Rattle.definition.specs.Board.{standard}
use Rattle.definition.specs.Boot.{counters_at_boot}
use Rattle.definition.specs.Calls.{Alloc, Call, Copy, Free, Layout}
use Rattle.definition.specs.Torn.{boot_call, call}
use Rattle.definition.specs.World.{World}
use Rattle.exam.specs.Promise.{Answer, state_with, told, world_of}

-- ---- a turn

-- the world that it leaves, and its answer
pub record Turn : Type 0 where
  pub world : World
  pub answer : Answer

unfoldable pub turn : Call → World → Turn
turn c w = record { world = (call standard w c).world; answer = told (call standard w c).answer }

-- the address of an answer, 0 of a refusal
abbrev pub address_in : Answer → ℕ
address_in (Ok y) = y.address
address_in (Err r) = 0

-- a frame of so many bytes, with no flags
abbrev pub plain : ℕ → Layout
plain size = record { size = size; align = size; flags = record { zeroed = false; kernel = false; wait_ok = false } }

-- the frame that a turn gave is freed; where it was refused, nothing is
abbrev pub freed_after : Turn → Turn
freed_after t = cond (is_ok t.answer) (turn (Free (address_in t.answer)) t.world) t

abbrev pub grant_and_free : World → Turn
grant_and_free w = freed_after (turn (Alloc (plain 4096)) w)

-- ---- turn after turn

pub record Driven : Type 0 where
  pub world : World
  pub accepted : ℕ

-- up to so many turns more, until one is refused, where so many were accepted before
unfoldable pub turns : (World → Turn) → (more accepted : ℕ) → World → Driven
turns t zero n w = record { world = w; accepted = n }
turns t (suc k) n w =
    cond (is_ok (t w).answer) (turns t k (n + 1) (t w).world) (record { world = (t w).world; accepted = n })

-- the loans that a driver leaves, and its answer
pub record Drives (d : Driven) (rs ms : List ℕ) (r : ℕ) : Type 0 where
  pub records : d.world.records ≡ rs
  pub memory : d.world.memory ≡ ms
  pub accepted : d.accepted ≡ r

-- ---- the worlds that they start from

-- a map with one usable entry
abbrev pub usable : (start length : ℕ) → List MemoryRegion
usable start length = record { start = record { 0 = start }; length = length; kind = UsableRam } ∷ []

-- its boot over some words, with all counters 0
unfoldable pub booted_world : (words records memory queue : List ℕ) (start length : ℕ) → World
booted_world words records memory queue start length =
    (boot_call standard (usable start length) (world_of (state_with (counters_at_boot 0) words) records memory queue)).world

-- a frame of so many bytes is held there
abbrev pub held : (words records memory queue : List ℕ) (start length size : ℕ) → Turn
held words records memory queue start length size = turn (Alloc (plain size)) (booted_world words records memory queue start length)

-- calls on the frame that a turn gave
abbrev pub on_frame : (ℕ → Call) → (times : ℕ) → Turn → Driven
on_frame c times t = turns (turn (c (address_in t.answer))) times 0 t.world

-- the same to a second frame, from the frame that a turn gave
abbrev pub to_second : (size times : ℕ) → Turn → Driven
to_second size times t = on_frame (λ a. Copy a 0 (address_in t.answer) 0 size) times (turn (Alloc (plain size)) t.world)
