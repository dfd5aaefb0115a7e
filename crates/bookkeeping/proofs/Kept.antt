-- No call changes what is kept from boot, whatever the store (`step_kept`), and no list of calls does (`kept_stays`): a field of what one walk over the calls shows
-- (Moves).
use Prim.Native.Nat.{ℕ}
use mathlib.Core.List.{List, [], ◌∷◌}
use mathlib.Core.Path.{◌≡◌, refl, ◌∙◌}
use Rattle.definition.specs.declared.MemoryRegion.{MemoryRegion}
use Rattle.definition.specs.Board.{Board}
use Rattle.definition.specs.Boot.{boot}
use Rattle.definition.specs.Store.{Memory, Store}
use Rattle.definition.specs.Calls.{Call, step}
use Rattle.bookkeeping.specs.Claim.{State, next, after, booted, after_calls}
use Rattle.bookkeeping.proofs.Moves.{steps}

module _ (b : Board) where
  pub step_kept : (s : Store) (c : Call) → (step b s c).store.kept ≡ s.kept
  step_kept s c = (steps b s c).kept

  after_kept : (x : State) (calls : List Call) → (after b x calls).store.kept ≡ x.store.kept
  unfolding after next
  after_kept x [] = refl
  after_kept x (c ∷ cs) = after_kept (next b x c) cs ∙ step_kept x.store c

  -- what is kept after a list of calls is the boot's
  pub kept_stays : (map : List MemoryRegion) (bytes : Memory) (room : ℕ) (calls : List Call)
      → (after_calls b map bytes room calls).store.kept ≡ (boot b map bytes room).kept
  kept_stays map bytes room calls = after_kept (booted b map bytes room) calls
