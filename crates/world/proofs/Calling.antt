-- What `call` comes to on a world: torn, or done, where the world that the new store is written to is what is left.
use Prim.Native.Nat.{ℕ, ◌<◌}
use mathlib.Core.Bool.{true, false}
use mathlib.Core.Option.{Option, none, some}
use mathlib.Core.Path.{◌≡◌, refl, sym, ap}
use native.Mathlib.Omega.{arith}
use Rattle.definition.specs.declared.Refusal.{Refusal}
use Rattle.definition.specs.declared.Refusal.TheVariants.{
  LongMap,
  FarAddress,
  Overlap,
  TooManyPages,
  ShortLoan,
  Torn,
  BadLayout,
  NoLevel,
  NoFrame,
  MustWait,
  Outside,
  NoFrameStart,
  NotHeld,
  PastTheEnd,
  PagerLow,
  QueueFull,
  BadLine,
}
use Rattle.definition.specs.Board.{Board}
use Rattle.definition.specs.Refusal.{first_met, number_of}
use Rattle.definition.specs.Calls.{Call, Refused, Outcome, names, perform, sheet, step}
use Rattle.definition.specs.World.{World, decode, encode}
use Rattle.definition.specs.Torn.{call, sound}
use Rattle.world.specs.Refusals.{number_if}

module _ (board : Board) where
  pub torn_call : (w : World) (c : Call) → sound board w ≡ false → call board w c ≡ record { world = w; answer = Refused Torn }
  unfolding call
  torn_call w c e = rw e refl

  module _ (w : World) (c : Call) (t : sound board w ≡ true) where
    abbrev found : Option Refusal
    found = first_met (sheet board (decode board w) (names c))

    pub done_call
        : (o : Outcome) (v : World) → found ≡ none → perform board (decode board w) c ≡ o → encode board o.store w ≡ v
        → call board w c ≡ record { world = v; answer = o.answer }
    unfolding call step
    done_call o v e p d = rw (t, e, p) (ap (λ (x : World). record { world = x; answer = o.answer }) d)

-- ---- by numbers

pub numbered : (r : Refusal) → 0 < number_of r
numbered LongMap = omega arith
numbered FarAddress = omega arith
numbered Overlap = omega arith
numbered TooManyPages = omega arith
numbered ShortLoan = omega arith
numbered Torn = omega arith
numbered BadLayout = omega arith
numbered NoLevel = omega arith
numbered NoFrame = omega arith
numbered MustWait = omega arith
numbered Outside = omega arith
numbered NoFrameStart = omega arith
numbered NotHeld = omega arith
numbered PastTheEnd = omega arith
numbered PagerLow = omega arith
numbered QueueFull = omega arith
numbered BadLine = omega arith

-- 0 says that no line of the sheet is met, and another number which one is
pub none_met : (o : Option Refusal) → number_if o ≡ 0 → o ≡ none
none_met none e = refl
none_met (some r) e = absurd (omega (arith, numbered r))

pub one_met : (o : Option Refusal) (n : ℕ) → number_if o ≡ n → (n ≡ 0 → ⊥) → (r : Refusal) × (o ≡ some r) × (number_of r ≡ n)
one_met none n e d = absurd (d (sym e))
one_met (some r) n e d = (r, refl, e)
