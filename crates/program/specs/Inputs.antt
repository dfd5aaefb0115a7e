-- What the programs promise of an input that they read: `Holds`, that its bytes, where the reader says which they are, stand in front of
-- the slice, and that a whole input leaves none behind; and `Zeros`, of the room for it.
use Rattle.std.specs.Prelude.{ℕ, ◌<◌, List, ◌≡◌, get_or, take, Option, Result, Ok, Err}
use Rattle.std.specs.Io.KnownBytes.{Consumes, IsAtEnd}
use Rattle.program.specs.declared.InputError.{InputError}
use Rattle.program.specs.declared.InputError.TheVariants.{TooLong, Failed}

-- of a reader that had `left` to give and has `left'` now: what the slice holds of it
abbrev pub Holds : (left left' : Option (List ℕ)) → List ℕ → Result ℕ InputError → Type 0
Holds left left' buf (Ok k) = Consumes left left' (take k buf) × IsAtEnd left'
Holds left left' buf (Err TooLong) = Consumes left left' buf
Holds left left' buf (Err (Failed e)) = Unit {0}

-- n bytes, each 0. Each is told by its place, as who is given the list itself counts it
pub record Zeros (n : ℕ) (xs : List ℕ) : Type 0 where
  pub zero : (i : ℕ) → i < n → get_or xs i 1 ≡ 0
