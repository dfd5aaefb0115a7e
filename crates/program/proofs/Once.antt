-- What is printed begins with the header, so 0 bytes are never an answer.
use Rattle.std.proofs.Common.{◌≡◌, ℕ, ◌<◌, List, ◌++◌, length, length-append, refl, arith}
use Rattle.definition.specs.Board.{standard}
use Rattle.definition.specs.Cases.{program}
use Rattle.definition.specs.Script.{header, lines, run_lines, started, output_of}
use Rattle.definition.specs.Text.{bytes_of}
use Rattle.program.specs.Once.{printed}

header_some : (text : List ℕ) → 0 < length (header ++ text)
unfolding bytes_of
header_some text = simp length-append (let long : length header ≡ 25 = refl in omega arith)

pub printed_some : (script : List ℕ) → 0 < length (printed script)
unfolding output_of
printed_some script = header_some (run_lines standard program started (lines script)).text
