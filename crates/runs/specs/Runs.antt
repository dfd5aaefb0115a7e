-- A list of calls over the words that a kernel lends, where each call gets the loans as the last left them. `Follows` ties it to the run on worlds, of which
-- theorems/specs/Demands.antt speaks: the words hold the world that this run leaves, and the numbers returned are its answers'. `Demand3Words` and `Demand2Words`
-- are the demands over what the words hold. Each call is as `served` says: a read, which promises `Places`, tells a place in the answer instead, and a call over
-- counters of their own is `served_with`; neither is spoken of here.
use Rattle.std.specs.Prelude.{ℕ, true, List, [], ◌∷◌, map, Ok, is_ok, ◌≡◌}
use Rattle.std.proofs.Math.Option.{some}
use Rattle.definition.specs.declared.MemoryRegion.{MemoryRegion}
use Rattle.definition.specs.Board.{standard}
use Rattle.definition.specs.Boot.{kept_regions}
use Rattle.definition.specs.Calls.{Call, answer_number}
use Rattle.definition.specs.Rust as Rust
use Rattle.definition.specs.Torn.{call, sound, Left, boot_call}
use Rattle.definition.specs.World.{World, decode}
use Rattle.bookkeeping.specs.Claim.{Bookkeeping}
use Rattle.theorems.specs.Demands.{Along, after_all, answers_all, book_all, boot_store}
use Rattle.words.specs.Words.{word_in}
use Rattle.exam.specs.declared.Reply.{Reply}
use Rattle.exam.specs.Promise.{told}
use Rattle.service.specs.Serving.{Lent, world_in, is_lent, served, booted}

-- the loans after a list of calls
unfoldable pub lent_after : Lent → List Call → Lent
lent_after l [] = l
lent_after l (c ∷ cs) = lent_after (served c l).lent cs

-- the numbers that they return, 0 or the refusal's
unfoldable pub numbers_after : Lent → List Call → List ℕ
numbers_after l [] = []
numbers_after l (c ∷ cs) = (served c l).number ∷ numbers_after (served c l).lent cs

-- a boot of the world that the loans hold, on the board that the library boots
abbrev pub boot_in : List MemoryRegion → Lent → Left
boot_in ms l = boot_call standard ms (world_in l)

-- the world that the loans hold after a boot, and after a list of calls behind it
abbrev pub held_booted : List MemoryRegion → Lent → World
held_booted ms l = world_in (booted ms l).lent

abbrev pub held_after : List MemoryRegion → Lent → List Call → World
held_after ms l calls = world_in (lent_after (booted ms l).lent calls)

-- ---- the run over words is the run on worlds

-- the loans are a state's, with room for an answer, and hold the world w
pub record Carries (l : Lent) (w : World) : Type 0 where
  pub world : world_in l ≡ w
  pub lent : is_lent l ≡ true

-- a call on loans that hold the world w returns 0 only where it is accepted; its address and its bytes then stand in front of the answer
pub record Tells (l : Lent) (w : World) (c : Call) : Type 0 where
  pub accepted : (served c l).number ≡ 0 → is_ok (told (call standard w c).answer) ≡ true
  pub address : (y : Reply) → told (call standard w c).answer ≡ Ok y → word_in (served c l).lent.answer 0 ≡ y.address
  pub bytes : (y : Reply) → told (call standard w c).answer ≡ Ok y → word_in (served c l).lent.answer 1 ≡ y.bytes

-- a boot over the loans l, and a list of calls behind it
pub record Follows (ms : List MemoryRegion) (l : Lent) (calls : List Call) : Type 0 where
  -- they leave what the boot and the calls leave on the world in l
  pub carries : Carries (lent_after (booted ms l).lent calls) (after_all standard ms (world_in l) calls)
  -- the calls return the numbers of the answers there
  pub numbers : numbers_after (booted ms l).lent calls ≡ map answer_number (answers_all standard ms (world_in l) calls)
  -- and so does the next call, whichever it is, tell its answer
  pub tells : (c : Call) → Tells (lent_after (booted ms l).lent calls) (after_all standard ms (world_in l) calls) c

-- ---- the demands

-- demand 3, read out of the words; the book is that of the calls' answers
pub record Demand3Words (ms : List MemoryRegion) (l : Lent) (calls : List Call) : Type 0 where
  pub regions : (book_all standard ms (world_in l) calls).regions ≡ kept_regions standard ms
  pub afterwards : Bookkeeping standard (decode standard (held_after ms l calls)) (book_all standard ms (world_in l) calls)
  pub whole : sound standard (held_after ms l calls) ≡ true
  pub along : Along standard (held_booted ms l) calls

-- demand 2: on common ground the store that the words hold is the Rust's, and so are the answers
pub record Demand2Words (ms : List MemoryRegion) (l : Lent) (calls : List Call) : Type 0 where
  pub boots : decode standard (held_booted ms l) ≡ boot_store standard ms (world_in l)
  pub alike
      : Rust.run standard (decode standard (held_booted ms l)) calls
      ≡ some (record { store = decode standard (held_after ms l calls); answers = answers_all standard ms (world_in l) calls })
