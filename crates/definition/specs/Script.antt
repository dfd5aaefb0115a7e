-- 01, "The script program": lines in, lines out, to the byte. A script is a list of bytes; `output_of` is what the program prints for it, and `world_after`
-- what it leaves in the loans, with every call on the bytes that the last one left.
use Rattle.std.specs.Prelude.{ℕ, zero, suc, ◌+◌, ◌-◌, ◌*◌, ◌/◌, ◌%◌, ◌^◌, Bool, true, false, cond, ◌&&◌, List, [], ◌∷◌, ◌++◌, leb, ltb, eqb, length, get_or}
use Prim.Native.String.{String}
use Rattle.std.proofs.Math.Option.{Option, none, some}
use Rattle.definition.specs.declared.MemoryRegion.{MemoryRegion}
use Rattle.definition.specs.declared.MemoryRegionKind.{MemoryRegionKind}
use Rattle.definition.specs.declared.MemoryRegionKind.TheVariants.{UsableRam, Reserved, BootloaderReserved}
use Rattle.definition.specs.declared.FrameAllocFlags.{FrameAllocFlags}
use Rattle.definition.specs.declared.Refusal.{Refusal}
use Rattle.definition.specs.declared.Refusal.TheVariants.{BadLine}
use Rattle.definition.specs.Board.{Board}
use Rattle.definition.specs.Text.{bytes_of, digits_of}
use Rattle.definition.specs.Refusal.{number_of, first_met}
use Rattle.definition.specs.Store.{Store}
use Rattle.definition.specs.Boot.{boot_sheet, kept_regions, managed_pages, boot}
use Rattle.definition.specs.Calls.{
  Layout,
  Call,
  Alloc,
  Take,
  Split,
  Free,
  Zero,
  Dirty,
  Find,
  Queue,
  Fill,
  Copy,
  Pcopy,
  Round,
  Lend,
  Back,
  Low,
  Stats,
  Answer,
  Refused,
  Done,
  Text,
  Bytes,
  Outcome,
  step,
}
use Rattle.definition.specs.Torn.{Left, call, boot_call}
use Rattle.definition.specs.World.{World, memory_of}

-- ---- lines and fields

-- a byte in front of what lies behind it: the separator ends a part, any other byte joins the part
abbrev pub joined : Bool → ℕ → List (List ℕ) → List (List ℕ)
joined true x parts = [] ∷ parts
joined false x [] = (x ∷ []) ∷ []
joined false x (p ∷ ps) = (x ∷ p) ∷ ps

-- the parts between separators; where the bytes end right after one, `last` is what follows
unfoldable pub parts_by : ℕ → List (List ℕ) → List ℕ → List (List ℕ)
parts_by sep last [] = last
parts_by sep last (x ∷ xs) = joined (eqb x sep) x (parts_by sep last xs)

-- "a line ends at a line feed, which the last may lack"
abbrev pub lines : List ℕ → List (List ℕ)
lines s = parts_by 10 [] s

-- "fields in fixed order parted by commas"
abbrev pub fields : List ℕ → List (List ℕ)
fields s = parts_by 44 ([] ∷ []) s

-- ---- "a number is one or more decimal digits", at most 2^64 − 1

abbrev pub is_digit : ℕ → Bool
is_digit x = leb 48 x && leb x 57

-- the number that goes on with these bytes after digits worth n
unfoldable pub number_from : ℕ → List ℕ → Option ℕ
number_from n [] = some n
number_from n (x ∷ xs) = cond (is_digit x && ltb (n * 10 + (x - 48)) (2 ^ 64)) (number_from (n * 10 + (x - 48)) xs) none

abbrev pub read_number : List ℕ → Option ℕ
read_number [] = none
read_number (x ∷ xs) = number_from 0 (x ∷ xs)

abbrev pub behind : Option ℕ → Option (List ℕ) → Option (List ℕ)
behind none ns = none
behind (some n) none = none
behind (some n) (some ns) = some (n ∷ ns)

unfoldable pub read_numbers : List (List ℕ) → Option (List ℕ)
read_numbers [] = some []
read_numbers (f ∷ fs) = behind (read_number f) (read_numbers fs)

-- ---- what a line asks

pub data Command : Type 0 where
  AddRegion : MemoryRegion → Command
  BootNow : Command
  Ask : Call → Command

-- an op: its name, how many numbers follow, the largest that the last may be, and what it asks with them
pub record Op : Type 0 where
  pub name : String
  pub count : ℕ
  pub most : ℕ
  pub make : (ℕ → ℕ) → Command

abbrev pub op : String → ℕ → ℕ → ((ℕ → ℕ) → Command) → Op
op name count most make = record { name = name; count = count; most = most; make = make }

abbrev pub any_number : ℕ
any_number = 2 ^ 64 - 1

-- "0 UsableRam, 1 Reserved, 2 BootloaderReserved"
abbrev pub kind_of : ℕ → MemoryRegionKind
kind_of zero = UsableRam
kind_of (suc zero) = Reserved
kind_of (suc (suc n)) = BootloaderReserved

-- "1 ZEROED + 2 KERNEL + 4 WAIT_OK"
abbrev pub flags_of : ℕ → FrameAllocFlags
flags_of n = record { zeroed = eqb (n % 2) 1; kernel = eqb (n / 2 % 2) 1; wait_ok = eqb (n / 4 % 2) 1 }

abbrev pub layout_of : (ℕ → ℕ) → Layout
layout_of x = record { size = x 0; align = x 1; flags = flags_of (x 2) }

unfoldable pub ops : List Op
ops =
    op "region" 3 2 (λ x. AddRegion (record { start = record { 0 = x 0 }; length = x 1; kind = kind_of (x 2) }))
    ∷ op "boot" 0 0 (λ x. BootNow)
    ∷ op "alloc" 3 7 (λ x. Ask (Alloc (layout_of x)))
    ∷ op "take" 3 7 (λ x. Ask (Take (layout_of x)))
    ∷ op "split" 1 any_number (λ x. Ask (Split (x 0)))
    ∷ op "free" 1 any_number (λ x. Ask (Free (x 0)))
    ∷ op "zero" 1 any_number (λ x. Ask (Zero (x 0)))
    ∷ op "dirty" 1 any_number (λ x. Ask (Dirty (x 0)))
    ∷ op "find" 1 any_number (λ x. Ask (Find (x 0)))
    ∷ op "queue" 1 any_number (λ x. Ask (Queue (x 0)))
    ∷ op "fill" 4 255 (λ x. Ask (Fill (x 0) (x 1) (x 2) (x 3)))
    ∷ op "copy" 5 any_number (λ x. Ask (Copy (x 0) (x 1) (x 2) (x 3) (x 4)))
    ∷ op "pcopy" 4 any_number (λ x. Ask (Pcopy (x 0) (x 1) (x 2) (x 3)))
    ∷ op "round" 0 0 (λ x. Ask Round)
    ∷ op "lend" 1 any_number (λ x. Ask (Lend (x 0)))
    ∷ op "back" 1 any_number (λ x. Ask (Back (x 0)))
    ∷ op "low" 0 0 (λ x. Ask Low)
    ∷ op "stats" 0 0 (λ x. Ask Stats)
    ∷ []

unfoldable pub same_bytes : List ℕ → List ℕ → Bool
same_bytes [] [] = true
same_bytes [] (y ∷ ys) = false
same_bytes (x ∷ xs) [] = false
same_bytes (x ∷ xs) (y ∷ ys) = eqb x y && same_bytes xs ys

unfoldable pub op_named : List ℕ → List Op → Option Op
op_named name [] = none
op_named name (o ∷ os) = cond (same_bytes name (bytes_of o.name)) (some o) (op_named name os)

-- what a line asks, and the op's name
pub record Asked : Type 0 where
  pub name : List ℕ
  pub command : Command

-- as many numbers as the op takes, the last not too large
abbrev pub fits : Op → List ℕ → Bool
fits o ns = eqb (length ns) o.count && leb (get_or ns (o.count - 1) 0) o.most

abbrev pub asks : Option Op → Option (List ℕ) → Option Asked
asks none ns = none
asks (some o) none = none
asks (some o) (some ns) =
    cond (fits o ns) (some (record { name = bytes_of o.name; command = o.make (λ i. get_or ns i 0) })) none

unfoldable pub of_fields : List (List ℕ) → Option Asked
of_fields [] = none
of_fields (f ∷ fs) = asks (op_named f ops) (read_numbers fs)

-- "one over 512 bytes without its line feed" can't be read
abbrev pub longest_line : ℕ
longest_line = 512

unfoldable pub read_line : List ℕ → Option Asked
read_line line = cond (leb (length line) longest_line) (of_fields (fields line)) none

-- ---- what is printed

-- "Other accepted lines print op, 0, address, bytes"
abbrev pub line_of : List ℕ → ℕ → ℕ → ℕ → List ℕ
line_of name refusal address bytes =
    name ++ (bytes_of "," ++ (digits_of refusal ++ (bytes_of "," ++ (digits_of address ++ (bytes_of "," ++ (digits_of bytes ++ bytes_of "\n"))))))

abbrev pub refusal_line : List ℕ → Refusal → List ℕ
refusal_line name r = line_of name (number_of r) 0 0

-- no op of the script reads bytes
abbrev pub answer_line : List ℕ → Answer → List ℕ
answer_line name (Refused r) = refusal_line name r
answer_line name (Done address bytes) = line_of name 0 address bytes
answer_line name (Text t) = t
answer_line name (Bytes t) = []

abbrev pub bad_line : List ℕ
bad_line = refusal_line (bytes_of "bad") BadLine

-- ---- the run

-- the entries read so far, and the store once a boot was accepted
pub record Running : Type 0 where
  pub map : List MemoryRegion
  pub store : Option Store

pub record Turn : Type 0 where
  pub running : Running
  pub text : List ℕ

abbrev pub bad : Running → Turn
bad r = record { running = r; text = bad_line }

abbrev pub boot_turn : Board → World → Running → List ℕ → Option Refusal → Turn
boot_turn b w r name (some x) = record { running = r; text = refusal_line name x }
boot_turn b w r name none =
    let rs = kept_regions b r.map in
    record {
      running = record { map = r.map; store = some (boot b r.map (memory_of b w.memory rs) (length w.queue)) };
      text = line_of name 0 0 (b.page * managed_pages b rs);
    }

abbrev pub call_turn : Running → List ℕ → Outcome → Turn
call_turn r name o = record { running = record { map = r.map; store = some o.store }; text = answer_line name o.answer }

-- a region, a boot or a call; "a `region` after an accepted boot, a second one, or a call before it prints `bad,17,0,0`"
abbrev pub turn_on : Board → World → Running → List ℕ → Command → Option Store → Turn
turn_on b w r name (AddRegion m) none = record { running = record { map = r.map ++ (m ∷ []); store = none }; text = [] }
turn_on b w r name (AddRegion m) (some s) = bad r
turn_on b w r name BootNow none =
    boot_turn b w r name (first_met (boot_sheet b r.map (length w.records) (length w.memory)))
turn_on b w r name BootNow (some s) = bad r
turn_on b w r name (Ask c) none = bad r
turn_on b w r name (Ask c) (some s) = call_turn r name (step b s c)

abbrev pub turn : Board → World → Running → Option Asked → Turn
turn b w r none = bad r
turn b w r (some a) = turn_on b w r a.name a.command r.store

pub record Printed : Type 0 where
  pub running : Running
  pub text : List ℕ

abbrev pub printed_after : Turn → (Running → Printed) → Printed
printed_after t rest = let p = rest t.running in record { running = p.running; text = t.text ++ p.text }

unfoldable pub run_lines : Board → World → Running → List (List ℕ) → Printed
run_lines b w r [] = record { running = r; text = [] }
run_lines b w r (l ∷ ls) = printed_after (turn b w r (read_line l)) (λ next. run_lines b w next ls)

abbrev pub started : Running
started = record { map = []; store = none }

abbrev pub header : List ℕ
header = bytes_of "op,refusal,address,bytes\n"

unfoldable pub output_of : Board → World → List ℕ → List ℕ
output_of b w script = header ++ (run_lines b w started (lines script)).text

-- ---- the same run over the bytes of the loans, which is what the program promises: crates/theorems proves that it prints the same

-- the entries read so far, whether a boot was accepted, and what the calls left of the world
pub record RunningOn : Type 0 where
  pub map : List MemoryRegion
  pub booted : Bool
  pub world : World

pub record TurnOn : Type 0 where
  pub running : RunningOn
  pub text : List ℕ

abbrev pub bad_on : RunningOn → TurnOn
bad_on r = record { running = r; text = bad_line }

abbrev pub is_accepted : Answer → Bool
is_accepted (Refused r) = false
is_accepted (Done address bytes) = true
is_accepted (Text t) = true
is_accepted (Bytes t) = true

abbrev pub left_on : RunningOn → List ℕ → Bool → Left → TurnOn
left_on r name booted l =
    record { running = record { map = r.map; booted = booted; world = l.world }; text = answer_line name l.answer }

abbrev pub boot_on : RunningOn → List ℕ → Left → TurnOn
boot_on r name l = left_on r name (is_accepted l.answer) l

abbrev pub command_on : Board → RunningOn → List ℕ → Command → Bool → TurnOn
command_on b r name (AddRegion m) false =
    record { running = record { map = r.map ++ (m ∷ []); booted = false; world = r.world }; text = [] }
command_on b r name (AddRegion m) true = bad_on r
command_on b r name BootNow false = boot_on r name (boot_call b r.map r.world)
command_on b r name BootNow true = bad_on r
command_on b r name (Ask c) false = bad_on r
command_on b r name (Ask c) true = left_on r name true (call b r.world c)

abbrev pub line_on : Board → RunningOn → Option Asked → TurnOn
line_on b r none = bad_on r
line_on b r (some a) = command_on b r a.name a.command r.booted

abbrev pub onwards : TurnOn → (RunningOn → TurnOn) → TurnOn
onwards t rest = let p = rest t.running in record { running = p.running; text = t.text ++ p.text }

unfoldable pub lines_on : Board → RunningOn → List (List ℕ) → TurnOn
lines_on b r [] = record { running = r; text = [] }
lines_on b r (l ∷ ls) = onwards (line_on b r (read_line l)) (λ next. lines_on b next ls)

abbrev pub started_on : World → RunningOn
started_on w = record { map = []; booted = false; world = w }

-- the run of a script from the world w, and all that it leaves there
abbrev pub run_on : Board → World → List ℕ → TurnOn
run_on b w script = lines_on b (started_on w) (lines script)

unfoldable pub world_after : Board → World → List ℕ → World
world_after b w script = (run_on b w script).running.world

-- "if the answer slice is under 512 bytes for each line plus 512"
abbrev pub room : List ℕ → ℕ
room script = 512 * length (lines script) + 512
