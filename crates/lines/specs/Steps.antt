-- The steps by which a line is read, as the code takes them: the numbers one by one, an op by its name, and the test that they fit the op.
-- proofs/ relates each of them to definition's `read_numbers`, `op_named` and `asks`.
use Rattle.std.specs.Prelude.{ℕ, ◌+◌, Bool, cond, ◌&&◌, List, [], ◌∷◌, eqb, leb, ltb, set, Option, Some, None, option_and_then}
use Rattle.std.proofs.Math.Option as maybe
use Rattle.definition.specs.Script.{read_number, same_bytes, any_number}
use Rattle.lines.specs.declared.Ask.TheVariants.{
  Alloc,
  Take,
  Split,
  Free,
  Zero,
  Dirty,
  Find,
  Queue,
  Fill,
  Copy,
  Pcopy,
  Round,
  Lend,
  Back,
  Low,
}
use Rattle.lines.specs.declared.Op.{Op}
use Rattle.lines.specs.declared.Op.TheVariants.{Bad, Region, Boot, Stats, Call}
use Rattle.lines.specs.declared.Line.{Line}
use Rattle.lines.specs.declared.Numbers.{Numbers}
use Rattle.lines.specs.declared.Named.{Named}
use Rattle.lines.specs.Reading.{name_of}

-- ---- numbers

-- what the code answers, as definition says it
abbrev pub value_of : Option ℕ → maybe.Option ℕ
value_of None = maybe.none
value_of (Some n) = maybe.some n

abbrev pub zeros : List ℕ
zeros = 0 ∷ 0 ∷ 0 ∷ 0 ∷ 0 ∷ []

abbrev pub no_numbers : Numbers
no_numbers = record { count = 0; last = 0; list = zeros }

-- no op takes six
abbrev pub pushed : Numbers → ℕ → Option Numbers
pushed r n = cond (ltb r.count 5) (Some (record { count = r.count + 1; last = n; list = set r.list r.count n })) None

-- what goes on with one number more, if there is one and room for it
abbrev pub with_next : Numbers → maybe.Option ℕ → (Numbers → Option Numbers) → Option Numbers
with_next r maybe.none rest = None
with_next r (maybe.some n) rest = option_and_then rest (pushed r n)

-- the numbers that the fields spell, behind those already read, if all can be read and there are not too many
unfoldable pub gather : Numbers → List (List ℕ) → Option Numbers
gather r [] = Some r
gather r (f ∷ fs) = with_next r (read_number f) (λ next. gather next fs)

-- ---- ops

abbrev pub named : Op → ℕ → ℕ → Named
named o count most = record { op = o; count = count; most = most }

unfoldable pub all_ops : List Named
all_ops =
    named Region 3 2
    ∷ named Boot 0 0
    ∷ named (Call Alloc) 3 7
    ∷ named (Call Take) 3 7
    ∷ named (Call Split) 1 any_number
    ∷ named (Call Free) 1 any_number
    ∷ named (Call Zero) 1 any_number
    ∷ named (Call Dirty) 1 any_number
    ∷ named (Call Find) 1 any_number
    ∷ named (Call Queue) 1 any_number
    ∷ named (Call Fill) 4 255
    ∷ named (Call Copy) 5 any_number
    ∷ named (Call Pcopy) 4 any_number
    ∷ named (Call Round) 0 0
    ∷ named (Call Lend) 1 any_number
    ∷ named (Call Back) 1 any_number
    ∷ named (Call Low) 0 0
    ∷ named Stats 0 0
    ∷ []

-- the first of that name
unfoldable pub pick : List ℕ → List Named → Option Named
pick name [] = None
pick name (o ∷ os) = cond (same_bytes name (name_of o.op)) (Some o) (pick name os)

-- ---- lines

abbrev pub bad_line : Line
bad_line = record { op = Bad; numbers = zeros }

abbrev pub is_fit : Named → Numbers → Bool
is_fit o ns = eqb ns.count o.count && leb ns.last o.most

-- the op with its numbers, if they fit it
abbrev pub line_from : Named → Numbers → Option Line
line_from o ns = cond (is_fit o ns) (Some (record { op = o.op; numbers = ns.list })) None
