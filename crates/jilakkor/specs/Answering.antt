-- What the script program promises of a script and of what it prints, where the reader and the writer say which bytes theirs are:
-- `Answers`.
use Rattle.std.specs.Prelude.{ℕ, ◌≤◌, ◌<◌, ◌⊎◌, List, length, Option}
use Rattle.std.specs.Io.KnownBytes.{Keeps, Appends}
use Rattle.definition.specs.Script.{lines, room}
use Rattle.program.specs.Once.{printed}

-- with an answer slice of n bytes: all that `output_of` says, or nothing where the slice is too short
pub record Prints (script : List ℕ) (n : ℕ) (out out' : Option (List ℕ)) : Type 0 where
  pub all : room script ≤ n → Appends out out' (printed script)
  pub nothing : n < room script → Keeps out out'

-- a script of at most 262,144 bytes and 8,191 lines is answered, and of any other nothing is printed
pub record Answers (script : List ℕ) (out out' : Option (List ℕ)) : Type 0 where
  pub all : length script ≤ 262144 → length (lines script) ≤ 8191 → Appends out out' (printed script)
  pub nothing : (262144 < length script) ⊎ (8191 < length (lines script)) → Keeps out out'
