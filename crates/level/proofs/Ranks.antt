-- A level and its number: each gives the other, below the count of levels.
use Prim.Native.Nat.{ℕ, zero, suc, ◌<◌}
use mathlib.Core.List.{[], ◌∷◌}
use mathlib.Core.Path.{◌≡◌, refl}
use native.Mathlib.Omega.{arith}
use lib.Dec.{lit<}
use lib.ListN.{get_or}
use Rattle.definition.specs.Frame.{levels}
use Rattle.level.specs.Level.{rank, level_at}
use Rattle.level.specs.declared.Level.{Level}
use Rattle.level.specs.declared.Level.TheVariants.{Small, Large, Huge}

pub rank_below : (l : Level) → rank l < levels
rank_below Small = lit< tt
rank_below Large = lit< tt
rank_below Huge = lit< tt

pub level_of_rank : (l : Level) → level_at (rank l) ≡ l
level_of_rank Small = refl
level_of_rank Large = refl
level_of_rank Huge = refl

pub rank_of_level : (n : ℕ) → n < levels → rank (level_at n) ≡ n
rank_of_level zero h = refl
rank_of_level (suc zero) h = refl
rank_of_level (suc (suc zero)) h = refl
rank_of_level (suc (suc (suc n))) h = absurd (omega arith)

-- the levels stand in the order of their numbers
pub level_in : (n : ℕ) → n < levels → get_or (Small ∷ Large ∷ Huge ∷ []) n Small ≡ level_at n
level_in zero h = refl
level_in (suc zero) h = refl
level_in (suc (suc zero)) h = refl
level_in (suc (suc (suc n))) h = absurd (omega arith)
