-- What a line of a script is read as: an op and its numbers. `Reads` says that definition's `read_line` asks the same of it; `NextLine`
-- says where a line ends and where the next one starts.
use Rattle.std.specs.Prelude.{ℕ, ◌-◌, ◌%◌, ◌≤◌, ◌<◌, List, ◌∷◌, ◌≡◌, length, get_or, take, drop}
use Rattle.std.proofs.Math.Option.{Option, none, some}
use Rattle.definition.specs.Text.{bytes_of}
use Rattle.definition.specs.Calls.{Call}
use Rattle.definition.specs.Calls as Calls
use Rattle.definition.specs.Script.{Command, AddRegion, BootNow, Asked, kind_of, layout_of, read_line, lines}
use Rattle.definition.specs.Script as Script
use Rattle.lines.specs.declared.Ask.{Ask}
use Rattle.lines.specs.declared.Ask.TheVariants.{
  Alloc,
  Take,
  Split,
  Free,
  Zero,
  Dirty,
  Find,
  Queue,
  Fill,
  Copy,
  Pcopy,
  Round,
  Lend,
  Back,
  Low,
}
use Rattle.lines.specs.declared.Op.{Op}
use Rattle.lines.specs.declared.Line.{Line}

-- ---- ops

-- an op's name, as it is read and printed; a line that can't be read prints `bad`
abbrev pub ask_name : Ask → List ℕ
ask_name Alloc = bytes_of "alloc"
ask_name Take = bytes_of "take"
ask_name Split = bytes_of "split"
ask_name Free = bytes_of "free"
ask_name Zero = bytes_of "zero"
ask_name Dirty = bytes_of "dirty"
ask_name Find = bytes_of "find"
ask_name Queue = bytes_of "queue"
ask_name Fill = bytes_of "fill"
ask_name Copy = bytes_of "copy"
ask_name Pcopy = bytes_of "pcopy"
ask_name Round = bytes_of "round"
ask_name Lend = bytes_of "lend"
ask_name Back = bytes_of "back"
ask_name Low = bytes_of "low"

abbrev pub name_of : Op → List ℕ
name_of Op.Bad = bytes_of "bad"
name_of Op.Region = bytes_of "region"
name_of Op.Boot = bytes_of "boot"
name_of Op.Stats = bytes_of "stats"
name_of (Op.Call a) = ask_name a

-- the call that an op makes of its numbers; a number that was read as a byte is one
abbrev pub call_of : Ask → (ℕ → ℕ) → Call
call_of Alloc x = Calls.Alloc (layout_of x)
call_of Take x = Calls.Take (layout_of x)
call_of Split x = Calls.Split (x 0)
call_of Free x = Calls.Free (x 0)
call_of Zero x = Calls.Zero (x 0)
call_of Dirty x = Calls.Dirty (x 0)
call_of Find x = Calls.Find (x 0)
call_of Queue x = Calls.Queue (x 0)
call_of Fill x = Calls.Fill (x 0) (x 1) (x 2) (x 3 % 256)
call_of Copy x = Calls.Copy (x 0) (x 1) (x 2) (x 3) (x 4)
call_of Pcopy x = Calls.Pcopy (x 0) (x 1) (x 2) (x 3)
call_of Round x = Calls.Round
call_of Lend x = Calls.Lend (x 0)
call_of Back x = Calls.Back (x 0)
call_of Low x = Calls.Low

abbrev pub command_of : Op → (ℕ → ℕ) → Option Command
command_of Op.Bad x = none
command_of Op.Region x = some (AddRegion (record { start = record { 0 = x 0 }; length = x 1; kind = kind_of (x 2) }))
command_of Op.Boot x = some BootNow
command_of Op.Stats x = some (Script.Ask Calls.Stats)
command_of (Op.Call a) x = some (Script.Ask (call_of a x))

abbrev pub asks_if : List ℕ → Option Command → Option Asked
asks_if name none = none
asks_if name (some c) = some (record { name = name; command = c })

-- the numbers of a line by their places
abbrev pub numbers_of : Line → ℕ → ℕ
numbers_of r i = get_or r.numbers i 0

-- what a line that was read asks
abbrev pub asks_of : Line → Option Asked
asks_of r = asks_if (name_of r.op) (command_of r.op (numbers_of r))

abbrev pub Reads : List ℕ → Line → Type 0
Reads line r = read_line line ≡ asks_of r

-- ---- lines

-- the line that starts at `at` ends at `end`, and `next` is where the one after it starts
pub record NextLine (s : List ℕ) (at end next : ℕ) : Type 0 where
  pub first : lines (drop at s) ≡ take (end - at) (drop at s) ∷ lines (drop next s)
  pub start_by : at ≤ end
  pub end_by : end ≤ length s
  pub past : at < next
  pub next_by : next ≤ length s
