-- Scripts with the answers that are expected of them, one after another in a file, and what a replay of the file counts. A reader takes
-- from `Replayed` what the line `N scripts, M lines, D differ` says: the file is N cases, framed, and of these D print something else than
-- the file has.
use Rattle.std.specs.Prelude.{ℕ, ◌+◌, ◌-◌, ◌*◌, ◌≤◌, ◌<◌, Bool, not, List, [], ◌∷◌, ◌++◌, ◌≡◌, length, take, drop, Result, Ok, Err}
use Rattle.definition.specs.Basics.{bit}
use Rattle.definition.specs.Cases.{Case}
use Rattle.definition.specs.Script.{lines, same_bytes}
use Rattle.definition.specs.Text.{bytes_of, digits_of}
use Rattle.program.specs.Once.{printed}
use Rattle.vectors.specs.declared.BadFraming.{BadFraming}
use Rattle.vectors.specs.declared.Heading.{Heading}
use Rattle.vectors.specs.declared.Places.{Places}
use Rattle.vectors.specs.declared.Tally.{Tally}

-- ---- the framing

-- a line of a name, with its comma, and a number
abbrev pub headed : List ℕ → ℕ → List ℕ
headed name n = name ++ (digits_of n ++ bytes_of "\n")

-- the line `script,LINES`, the script, the line `answers,BYTES`, the answers
abbrev pub framed : Case → List ℕ
framed c =
    headed (bytes_of "script,") (length (lines c.script)) ++ (c.script ++ (headed (bytes_of "answers,") (length c.output) ++ c.output))

-- ---- the count

abbrev pub agrees : Case → Bool
agrees c = same_bytes (printed c.script) c.output

-- of a list of cases, the last one first: their bytes, their lines, and how many differ
abbrev pub framed_all : List Case → List ℕ
framed_all [] = []
framed_all (c ∷ cs) = framed_all cs ++ framed c

abbrev pub lines_in : List Case → ℕ
lines_in [] = 0
lines_in (c ∷ cs) = lines_in cs + length (lines c.script)

abbrev pub differing : List Case → ℕ
differing [] = 0
differing (c ∷ cs) = differing cs + bit (not (agrees c))

pub record Replayed (file : List ℕ) (t : Tally) : Type 0 where
  pub cases : List Case
  pub bytes : file ≡ framed_all cases
  pub scripts : t.scripts ≡ length cases
  pub lines : t.lines ≡ lines_in cases
  pub differ : t.differ ≡ differing cases

-- ---- what is printed

-- a text of r bytes at the front of a slice
pub record Spelt (text out : List ℕ) (r : ℕ) : Type 0 where
  pub bytes : take r out ≡ text
  pub long : r ≡ length (take r out)
  pub within : r ≤ length out

-- "N scripts, M lines, D differ"
abbrev pub tallied : Tally → List ℕ
tallied t =
    digits_of t.scripts
    ++ (bytes_of " scripts, " ++ (digits_of t.lines ++ (bytes_of " lines, " ++ (digits_of t.differ ++ bytes_of " differ\n"))))

-- the one line at the end
abbrev pub told : Result Tally BadFraming → List ℕ
told (Ok t) = tallied t
told (Err e) = headed (bytes_of "bad framing at byte ") e.at

-- ---- on the way

-- a heading at `at`
pub record Heads (file : List ℕ) (at : ℕ) (name : List ℕ) (h : Heading) : Type 0 where
  pub bytes : drop at file ≡ headed name h.value ++ drop h.next file
  pub after : at < h.next
  pub within : h.next ≤ length file

-- the bytes from `from` to before `to`
abbrev pub part : List ℕ → (from to : ℕ) → List ℕ
part file from to = take (to - from) (drop from file)

abbrev pub case_at : List ℕ → Places → Case
case_at file p = record { script = part file p.script p.end; output = part file p.answers p.next }

-- a case at `at`
pub record Frames (file : List ℕ) (at : ℕ) (p : Places) : Type 0 where
  pub bytes : drop at file ≡ framed (case_at file p) ++ drop p.next file
  pub lines : p.lines ≡ length (lines (case_at file p).script)
  pub few : p.lines ≤ 8191
  pub after : at < p.next
  pub script : p.script ≤ p.end
  pub end : p.end ≤ length file
  pub answers : p.answers ≤ p.next
  pub within : p.next ≤ length file

-- what was replayed up to `at`; the rest keeps the numbers small
pub record Seen (file : List ℕ) (t : Tally) : Type 0 where
  pub replayed : Replayed (take t.at file) t
  pub within : t.at ≤ length file
  pub scripts : t.scripts ≤ t.at
  pub lines : t.lines ≤ 8191 * t.scripts
  pub differ : t.differ ≤ t.scripts

-- one case more
abbrev pub counted : Tally → (lines next : ℕ) → Bool → Tally
counted t lines next same =
    record { at = next; scripts = t.scripts + 1; lines = t.lines + lines; differ = t.differ + bit (not same) }
