-- What the programs promise of a script: `RanOnce`, the bytes that are printed for it. A reader takes from here that they are
-- definition's `output_of`, on the loans of 01's program.
use Rattle.std.specs.Prelude.{ℕ, ◌≤◌, ◌<◌, List, ◌++◌, ◌≡◌, length, take, drop, Option, Some, None, IfSome, Result, IfOk}
use Rattle.definition.specs.Board.{standard}
use Rattle.definition.specs.Cases.{program}
use Rattle.definition.specs.Script.{output_of, room}
use Rattle.program.specs.declared.InputError.{InputError}

-- what is printed for a script: "Memory is 64 KiB, with records for 16 pages, the queue 64", all of them zeros
abbrev pub printed : List ℕ → List ℕ
printed script = output_of standard program script

-- the first n of a list's bytes are n bytes
abbrev pub IsPrefixLen : ℕ → List ℕ → Type 0
IsPrefixLen n xs = (n ≤ length xs) × (n ≡ length (take n xs))

-- the answers stand at the front of the slice, whose rest is as it was, and they are never empty; None says that the slice is too short,
-- and then it is left as it was
pub record RanOnce (script out out' : List ℕ) (r : Option ℕ) : Type 0 where
  pub written : room script ≤ length out → r ≡ Some (length (printed script))
  pub text : room script ≤ length out → out' ≡ printed script ++ drop (length (printed script)) out
  pub some : IfSome r (λ n. 0 < n)
  pub too_short : length out < room script → (r ≡ None) × (out' ≡ out)
  pub within : IfSome r (λ n. IsPrefixLen n out')

-- an input that was read whole leaves room in a slice of n bytes
abbrev pub Below : ℕ → Result ℕ InputError → Type 0
Below n r = IfOk r (λ k. k < n)
