-- The run of a script over the bytes of the loans is its run over stores: `Same` ties the two, every line keeps it and prints the same (`turn_same`), and so does
-- every list of lines (`lines_same`). A reader takes from here `script_printed` and `script_leaves`.
use Prim.Native.Nat.{ℕ}
use mathlib.Core.Bool.{true, false}
use mathlib.Core.List.{List, [], ◌∷◌, ◌++◌}
use mathlib.Core.Option.{Option, none, some}
use mathlib.Core.Path.{◌≡◌, refl, ap, ap₂, subst}
use native.Mathlib.Omega.{arith}
use lib.ListN.{length}
use Rattle.definition.specs.Board.{Fit}
use Rattle.definition.specs.declared.MemoryRegion.{MemoryRegion}
use Rattle.definition.specs.declared.Refusal.{Refusal}
use Rattle.definition.specs.Board.{Board}
use Rattle.definition.specs.Boot.{kept_regions, boot_sheet}
use Rattle.definition.specs.Refusal.{first_met}
use Rattle.definition.specs.Script.{
  AddRegion,
  BootNow,
  Ask,
  Command,
  Asked,
  Running,
  RunningOn,
  Turn,
  TurnOn,
  read_line,
  lines,
  boot_turn,
  turn_on,
  turn,
  run_lines,
  started,
  header,
  output_of,
  boot_on,
  command_on,
  line_on,
  lines_on,
  started_on,
  run_on,
  world_after,
  answer_line,
}
use Rattle.definition.specs.Store.{Store}
use Rattle.definition.specs.Torn as Torn
use Rattle.definition.specs.Torn.{boot_call, booted}
use Rattle.definition.specs.World.{World, memory_of}
use Rattle.bookkeeping.specs.Claim as Claim
use Rattle.bookkeeping.specs.Claim.{State, next}
use Rattle.theorems.specs.Demands.{Accepted}
use Rattle.theorems.specs.Scripts.{ScriptLeaves}
use Rattle.theorems.specs.Stands.{Stands}
use Rattle.theorems.proofs.Runs.{Holds, stands, call_is, call_holds, boot_holds}

-- ---- the two runs, line by line

module _ (board : Board) where
  -- no boot was accepted and the world is as it was, or the world stands for the store
  data Same (w : World) : Running → RunningOn → Type 0 where
    before : (map : List MemoryRegion) → Same w (record { map = map; store = none }) (record { map = map; booted = false; world = w })
    after : {map : List MemoryRegion} {v : World} {x : State} → Holds board map w v x
        → Same w (record { map = map; store = some x.store }) (record { map = map; booted = true; world = v })

  -- the run over stores got to r and printed the text, and the run over the bytes did as u says
  record Alike (w : World) (r : Running) (printed : List ℕ) (u : TurnOn) : Type 0 where
    running : Same w r u.running
    text : u.text ≡ printed

  abbrev AlikeTurn : World → Turn → TurnOn → Type 0
  AlikeTurn w t u = Alike w t.running t.text u

module _ {board : Board} (fit : Fit board) where
  boot_same : (w : World) (map : List MemoryRegion) (name : List ℕ) → AlikeTurn board w (turn_on board w (record { map = map; store = none }) name BootNow none)
      (command_on board (record { map = map; booted = false; world = w }) name BootNow false)
  unfolding boot_call
  boot_same w map name = go (first_met (boot_sheet board map (length w.records) (length w.memory))) refl
    where
      go : (o : Option Refusal) → first_met (boot_sheet board map (length w.records) (length w.memory)) ≡ o
          → AlikeTurn board w (boot_turn board w (record { map = map; store = none }) name o)
          (boot_on (record { map = map; booted = false; world = w }) name (Torn.unless_refused w o (booted board map w)))
      go none e =
          let is : boot_call board map w ≡ booted board map w = rw e in
          let ok : Accepted (boot_call board map w).answer = λ r h. let z : ◌≡◌ {A = ℕ} 0 1 = cc in omega arith in
          let x : State = Claim.booted board map (memory_of board w.memory (kept_regions board map)) (length w.queue) in
          record { running = after {x = x} (subst (λ l. Holds board map w l.world x) is (boot_holds board fit map w ok)); text = refl }
      go (some r) e = record { running = before map; text = refl }

  command_same : {w : World} {r : Running} {q : RunningOn} → Same board w r q → (name : List ℕ) (c : Command)
      → AlikeTurn board w (turn_on board w r name c r.store) (command_on board q name c q.booted)
  unfolding next
  command_same (before map) name (AddRegion m) = record { running = before (map ++ (m ∷ [])); text = refl }
  command_same {w} (before map) name BootNow = boot_same w map name
  command_same (before map) name (Ask c) = record { running = before map; text = refl }
  command_same (after H) name (AddRegion m) = record { running = after H; text = refl }
  command_same (after H) name BootNow = record { running = after H; text = refl }
  command_same (after H) name (Ask c) = record { running = after (call_holds fit H c); text = ap (λ l. answer_line name l.answer) (call_is fit H c) }

  turn_same : {w : World} {r : Running} {q : RunningOn} → Same board w r q → (a : Option Asked) → AlikeTurn board w (turn board w r a) (line_on board q a)
  turn_same S none = record { running = S; text = refl }
  turn_same S (some a) = command_same S a.name a.command

-- ---- every list of lines

module _ (board : Board) where
  abbrev AlikeAll : World → Running → RunningOn → List (List ℕ) → Type 0
  AlikeAll w r q ls = Alike board w (run_lines board w r ls).running (run_lines board w r ls).text (lines_on board q ls)

module _ {board : Board} (fit : Fit board) where
  lines_same : {w : World} {r : Running} {q : RunningOn} → Same board w r q → (ls : List (List ℕ)) → AlikeAll board w r q ls
  unfolding run_lines lines_on
  lines_same S [] = record { running = S; text = refl }
  lines_same {w = w} {r = r} {q = q} S (l ∷ ls) =
      let t = turn_same fit S (read_line l) in
      let rest = lines_same {r = (turn board w r (read_line l)).running} t.running ls in
      record { running = rest.running; text = ap₂ (λ (x y : List ℕ). x ++ y) t.text rest.text }

-- ---- what it comes to

module _ {board : Board} where
  same_before : {w : World} {r : Running} {q : RunningOn} → Same board w r q → r.store ≡ none → q.world ≡ w
  same_before (before map) e = refl
  same_before (after H) e = let z : ◌≡◌ {A = ℕ} 0 1 = cc in absurd (omega arith)

module _ {board : Board} (fit : Fit board) where
  same_after : {w : World} {r : Running} {q : RunningOn} → Same board w r q → (s : Store) → r.store ≡ some s → Stands board w q.world s
  same_after (before map) s e = let z : ◌≡◌ {A = ℕ} 0 1 = cc in absurd (omega arith)
  same_after {w} {q = q} (after {x = x} H) s e = let is : x.store ≡ s = cc in subst (λ t. Stands board w q.world t) is (stands fit H)

  run_same : (w : World) (script : List ℕ) → AlikeAll board w started (started_on w) (lines script)
  run_same w script = lines_same fit (before []) (lines script)

module _ (board : Board) (fit : Fit board) where
  pub script_printed : (w : World) (script : List ℕ) → header ++ (run_on board w script).text ≡ output_of board w script
  unfolding output_of
  script_printed w script = ap (λ (t : List ℕ). header ++ t) (run_same fit w script).text

module _ {board : Board} (fit : Fit board) where
  pub script_leaves : (w : World) (script : List ℕ) → ScriptLeaves board w script
  unfolding world_after
  script_leaves w script =
      record {
        printed = script_printed board fit w script;
        before = same_before (run_same fit w script).running;
        after = same_after fit (run_same fit w script).running;
      }
