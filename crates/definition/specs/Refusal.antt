-- 01, "The refusal sheet": the numbers of its refusals, and how the one is chosen that a call gives.
use Rattle.std.specs.Prelude.{ℕ, ◌+◌, Bool, true, false, cond, List, [], ◌∷◌, eqb, ltb}
use Rattle.std.proofs.Math.Option.{Option, none, some}
use Rattle.definition.specs.declared.Refusal.{Refusal}
use Rattle.definition.specs.declared.Refusal.TheVariants.{
  LongMap,
  FarAddress,
  Overlap,
  TooManyPages,
  ShortLoan,
  Torn,
  BadLayout,
  NoLevel,
  NoFrame,
  MustWait,
  Outside,
  NoFrameStart,
  NotHeld,
  PastTheEnd,
  PagerLow,
  QueueFull,
  BadLine,
}

abbrev pub number_of : Refusal → ℕ
number_of LongMap = 1
number_of FarAddress = 2
number_of Overlap = 3
number_of TooManyPages = 4
number_of ShortLoan = 5
number_of Torn = 6
number_of BadLayout = 7
number_of NoLevel = 8
number_of NoFrame = 9
number_of MustWait = 10
number_of Outside = 11
number_of NoFrameStart = 12
number_of NotHeld = 13
number_of PastTheEnd = 14
number_of PagerLow = 15
number_of QueueFull = 16
number_of BadLine = 17

-- The order in which the refusals are tried: of several that apply the earliest is given, whatever its number. 01's "lowest number that applies" is this order.
abbrev pub order : List Refusal
order =
    LongMap
    ∷ FarAddress
    ∷ Overlap
    ∷ TooManyPages
    ∷ ShortLoan
    ∷ Torn
    ∷ BadLayout
    ∷ NoLevel
    ∷ NoFrame
    ∷ MustWait
    ∷ Outside
    ∷ NoFrameStart
    ∷ NotHeld
    ∷ PastTheEnd
    ∷ PagerLow
    ∷ QueueFull
    ∷ BadLine
    ∷ []

-- the place of a refusal's number in an order, past its end where the number is none of its refusals'
unfoldable pub place_in : List Refusal → ℕ → ℕ
place_in [] n = 0
place_in (r ∷ rs) n = cond (eqb n (number_of r)) 0 (1 + place_in rs n)

abbrev pub rank_of : ℕ → ℕ
rank_of n = place_in order n

abbrev pub rank : Refusal → ℕ
rank r = rank_of (number_of r)

-- of two refusals that which is tried first
abbrev pub earlier_of : Refusal → Refusal → Refusal
earlier_of r t = cond (ltb (rank r) (rank t)) r t

-- a line of the sheet: a refusal and whether its condition is met
pub record Test : Type 0 where
  pub refusal : Refusal
  pub met : Bool

infix 5 ◌when◌
abbrev pub ◌when◌ : Refusal → Bool → Test
◌when◌ r t = record { refusal = r; met = t }

abbrev pub or_later : Test → Option Refusal → Option Refusal
or_later t later = elim t.met [ true ↦ some t.refusal | false ↦ later ]

-- the first line of a sheet that is met. A sheet's lines stand in the order above (proofs/Order.antt), so this is the earliest refusal that applies
unfoldable pub first_met : List Test → Option Refusal
first_met [] = none
first_met (t ∷ ts) = or_later t (first_met ts)
