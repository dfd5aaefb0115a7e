-- The rows in use, one after another: where the pages of each begin once a row has changed, and what a search finds in the region of the row at a place.
use Prim.Native.Nat.{ℕ, zero, suc, ◌+◌, ◌<◌}
use mathlib.Core.List.{List, [], ◌∷◌}
use mathlib.Core.Option.{none}
use mathlib.Core.Path.{◌≡◌, refl}
use lib.ListN.{length, set}
use Rattle.definition.specs.Board.{Board}
use Rattle.definition.specs.declared.Record.{Record}
use Rattle.definition.specs.declared.Row.{Row}
use Rattle.definition.specs.World.{used_rows}
use Rattle.region.specs.Rep.{from_of, managed, state_of}
use Rattle.region.proofs.Tiling.{Good as Tiled, rep_kept}
use Rattle.world.specs.Stands.{base_at, row_at}
use Rattle.world.specs.Tables.{Sane}
use Rattle.allocator.proofs.Arrays.{row_good}

module _ (board : Board) where
  -- where the pages of a row begin is said by the rows before it
  pub base_set : (base : ℕ) (rows : List Row) (i : ℕ) (r : Row) → base_at board base (set rows i r) i ≡ base_at board base rows i
  unfolding base_at
  base_set base [] i r = refl
  base_set base (row ∷ rows) zero r = refl
  base_set base (row ∷ rows) (suc i) r = base_set (base + managed board row.pages) rows i r

module _ {board : Board} where
  module _ {f : ℕ → Record} {n : ℕ} {rows : List Row} (S : Sane board f n rows) (i : ℕ) (h : i < length (used_rows rows)) where
    -- the region of the row at a place by page numbers
    pub row_tiled : Tiled board (state_of f (row_at rows i)) none (from_of board (row_at rows i)) (base_at board 0 (used_rows rows) i) (row_at rows i).pages
    row_tiled = let g = row_good S i h in record { kept = rep_kept g.sound; whole = g.whole }
