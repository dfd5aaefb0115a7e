-- Which refusal a call meets on a store, if any. A frame that a call names, with a range of it, and a place that it names, each have their
-- own lines of the sheet; a call that names two gives the refusal of theirs that is tried first.
use Rattle.std.specs.Prelude.{ℕ, not, List, [], ◌∷◌}
use Rattle.std.proofs.Math.Option.{Option, none, some}
use Rattle.definition.specs.declared.Refusal.{Refusal}
use Rattle.definition.specs.declared.Refusal.TheVariants.{Outside, NoFrameStart, NotHeld, PastTheEnd}
use Rattle.definition.specs.Board.{Board}
use Rattle.definition.specs.Refusal.{Test, ◌when◌, number_of, earlier_of, first_met}
use Rattle.definition.specs.Store.{Store}
use Rattle.definition.specs.Tracker.{starts_frame, is_held}
use Rattle.definition.specs.Calls.{Call, Range, outside, leaves_frame, leaves_region, names, sheet}

-- its number, as an exported function returns it: 0 where there is none
abbrev pub number_if : Option Refusal → ℕ
number_if none = 0
number_if (some r) = number_of r

abbrev pub range_of : (address offset length : ℕ) → Range
range_of a off len = record { address = a; offset = off; length = len }

-- of two refusals, if there are any, that which is tried first
abbrev pub earlier : Option Refusal → Option Refusal → Option Refusal
earlier none b = b
earlier (some r) none = some r
earlier (some r) (some t) = some (earlier_of r t)

module _ (board : Board) where
  -- the refusal that a call meets on a store
  abbrev pub refusal_of : Store → Call → Option Refusal
  refusal_of s c = first_met (sheet board s (names c))

  -- the lines of the sheet for a frame that must be held, with a range of it
  abbrev pub frame_tests : Store → Range → List Test
  frame_tests s r =
      (Outside when outside board s r)
      ∷ (NoFrameStart when not (starts_frame board s r.address))
      ∷ (NotHeld when not (is_held board s r.address))
      ∷ (PastTheEnd when leaves_frame board s r)
      ∷ []

  abbrev pub frame_refusal : Store → Range → Option Refusal
  frame_refusal s r = first_met (frame_tests s r)

  -- the lines of the sheet for a place that need only be managed
  abbrev pub place_tests : Store → Range → List Test
  place_tests s r = (Outside when outside board s r) ∷ (PastTheEnd when leaves_region board s r) ∷ []

  abbrev pub place_refusal : Store → Range → Option Refusal
  place_refusal s r = first_met (place_tests s r)
