-- When the bytes of a world are a store's: `Stands`, of the world after a list of calls and of the world after a script alike.
use Rattle.std.specs.Prelude.{true, ◌≡◌, length}
use Rattle.definition.specs.Board.{Board}
use Rattle.definition.specs.Store.{Store}
use Rattle.definition.specs.Torn.{sound}
use Rattle.definition.specs.World.{World, decode, encode}

-- the world v, which came of w, is the store s in bytes
pub record Stands (b : Board) (w v : World) (s : Store) : Type 0 where
  -- writing the store into the world changes no byte of it, and reading the world gives the store; this says all of the queue, whose places behind its count
  -- keep what earlier calls left there
  pub written : encode b s v ≡ v
  pub decoded : decode b v ≡ s
  pub whole : sound b v ≡ true
  -- its records and memory are the store's, written into the loans as they were before: no byte behind the managed pages has changed
  pub records : v.records ≡ (encode b s w).records
  pub memory : v.memory ≡ (encode b s w).memory
  -- the loans are as long as they were
  pub records_long : length v.records ≡ length w.records
  pub memory_long : length v.memory ≡ length w.memory
  pub queue_long : length v.queue ≡ length w.queue
