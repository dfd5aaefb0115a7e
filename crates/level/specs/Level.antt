-- What the code of this crate says in the terms of the definitions: a level's number, and the answer of a search for one.
use Rattle.std.specs.Prelude.{ℕ, zero, suc, ◌%◌, Bool, false, cond, ◌&&◌, ◌≡◌, leb, eqb, Result, Ok, Err}
use Rattle.definition.specs.Board.{Board}
use Rattle.definition.specs.Calls.{Layout, bad_layout, no_level, find_level}
use Rattle.definition.specs.declared.Refusal.{Refusal}
use Rattle.definition.specs.declared.Refusal.TheVariants.{BadLayout, NoLevel}
use Rattle.level.specs.declared.Level.{Level}
use Rattle.level.specs.declared.Level.TheVariants.{Small, Large, Huge}

abbrev pub rank : Level → ℕ
rank Small = 0
rank Large = 1
rank Huge = 2

-- the level of a number: any above 2 is taken for 2
abbrev pub level_at : ℕ → Level
level_at zero = Small
level_at (suc zero) = Large
level_at (suc (suc n)) = Huge

-- frame.rs 179: so many bytes, aligned by as many, serve a layout
abbrev pub serves : (bytes size align : ℕ) → Bool
serves bytes size align = leb size bytes && leb align bytes

-- frame.rs 320: so many pages, aligned by as many, start at a page frame number where so many are left
abbrev pub takes : (pages number left : ℕ) → Bool
takes pages number left = eqb (number % pages) 0 && leb pages left

-- the lowest refusal of 7 and 8 that is met, else the level that is found
abbrev pub found_level : Board → Layout → Result Level Refusal
found_level b y = cond (bad_layout y) (Err BadLayout) (cond (no_level b y) (Err NoLevel) (Ok (level_at (find_level b y))))

-- what it says that a level is found: neither refusal is met, and the level is the first that serves
pub record Finds (b : Board) (y : Layout) (l : Level) : Type 0 where
  pub fine : bad_layout y ≡ false
  pub within : no_level b y ≡ false
  pub number : rank l ≡ find_level b y
