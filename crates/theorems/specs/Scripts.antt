-- What a script prints and leaves where each of its lines gets the bytes that the last one left: `ScriptLeaves` ties that run to the run over stores. A reader
-- takes from here that 01's output, which is said over stores, is what the run over the bytes of the loans prints, and that those bytes are the store's.
use Rattle.std.specs.Prelude.{ℕ, List, ◌++◌, ◌≡◌}
use Rattle.std.proofs.Math.Option.{Option, none, some}
use Rattle.definition.specs.Board.{Board}
use Rattle.definition.specs.Script.{lines, started, run_lines, header, output_of, run_on, world_after}
use Rattle.definition.specs.Store.{Store}
use Rattle.definition.specs.World.{World}
use Rattle.theorems.specs.Stands.{Stands}

-- the store where the run over stores ends, if one of its boots was accepted
abbrev pub store_after : Board → World → List ℕ → Option Store
store_after b w script = (run_lines b w started (lines script)).running.store

pub record ScriptLeaves (b : Board) (w : World) (script : List ℕ) : Type 0 where
  -- the run over the bytes prints what the run over stores does
  pub printed : header ++ (run_on b w script).text ≡ output_of b w script
  -- without an accepted boot it changes nothing, not a byte
  pub before : store_after b w script ≡ none → world_after b w script ≡ w
  -- with one it leaves the store in bytes
  pub after : (s : Store) → store_after b w script ≡ some s → Stands b w (world_after b w script) s
