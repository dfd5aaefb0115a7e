-- The order of the refusals holds each of them once, and the lines of both sheets stand in it: so the first line that is met is the earliest refusal that applies.
use Prim.Native.Nat.{ℕ, zero, suc}
use mathlib.Core.Bool.{Bool, true, ◌&&◌}
use mathlib.Core.List.{List, [], ◌∷◌}
use mathlib.Core.Option.{Option, none, some}
use mathlib.Core.Path.{◌≡◌, refl}
use lib.Dec.{ltb}
use Rattle.definition.specs.declared.MemoryRegion.{MemoryRegion}
use Rattle.definition.specs.declared.Refusal.{Refusal}
use Rattle.definition.specs.declared.Refusal.TheVariants.{
  LongMap,
  FarAddress,
  Overlap,
  TooManyPages,
  ShortLoan,
  Torn,
  BadLayout,
  NoLevel,
  NoFrame,
  MustWait,
  Outside,
  NoFrameStart,
  NotHeld,
  PastTheEnd,
  PagerLow,
  QueueFull,
  BadLine,
}
use Rattle.definition.specs.Board.{Board}
use Rattle.definition.specs.Basics.{all}
use Rattle.definition.specs.Refusal.{Test, order, place_in, rank}
use Rattle.definition.specs.Store.{Store}
use Rattle.definition.specs.Boot.{boot_sheet}
use Rattle.definition.specs.Calls.{Names, sheet}

-- what stands at a place
abbrev pub at : List Refusal → ℕ → Option Refusal
at [] n = none
at (r ∷ rs) zero = some r
at (r ∷ rs) (suc n) = at rs n

-- a refusal's rank is its place: each has one, and no two have the same
pub at_rank : (r : Refusal) → at order (rank r) ≡ some r
unfolding place_in
at_rank LongMap = refl
at_rank FarAddress = refl
at_rank Overlap = refl
at_rank TooManyPages = refl
at_rank ShortLoan = refl
at_rank Torn = refl
at_rank BadLayout = refl
at_rank NoLevel = refl
at_rank NoFrame = refl
at_rank MustWait = refl
at_rank Outside = refl
at_rank NoFrameStart = refl
at_rank NotHeld = refl
at_rank PastTheEnd = refl
at_rank PagerLow = refl
at_rank QueueFull = refl
at_rank BadLine = refl

-- each line of a sheet comes before all later ones
unfoldable pub in_order : List Test → Bool
in_order [] = true
in_order (t ∷ ts) = all (λ u. ltb (rank t.refusal) (rank u.refusal)) ts && in_order ts

pub sheet_in_order : (b : Board) (s : Store) (n : Names) → in_order (sheet b s n) ≡ true
unfolding place_in all in_order sheet
sheet_in_order b s n = refl

pub boot_in_order : (b : Board) (map : List MemoryRegion) (records memory : ℕ) → in_order (boot_sheet b map records memory) ≡ true
unfolding place_in all in_order
boot_in_order b map records memory = refl
