-- Rows in words, whatever the words, are eight of six lists each. So the two tests of the sheet that ask for it hold.
use Prim.Native.Nat.{ℕ, zero, suc, ◌+◌, ◌*◌}
use mathlib.Core.Bool.{Bool, true, false, cond, not, ◌&&◌}
use mathlib.Core.List.{List}
use mathlib.Core.Path.{◌≡◌, refl, ◌∙◌}
use lib.Dec.{leb, ltb}
use lib.ListN.{length, drop}
use borrow.Author.Tests.{eq-eqb}
use Rattle.definition.specs.declared.Row.{Row}
use Rattle.definition.specs.Board.{Board}
use Rattle.definition.specs.Basics.{all}
use Rattle.definition.specs.Allocator.{total}
use Rattle.definition.specs.Boot.{overlap}
use Rattle.definition.specs.World.{no_row, used_rows}
use Rattle.definition.specs.Torn.{is_no_row, regions_of, row_as_boot, six_lists, rows_as_boot}
use Rattle.definition.proofs.Tests.{and-true}
use Rattle.words.specs.Words.{used_in, row_in, rows_from, rows_in}
use Rattle.audit.proofs.Onward.{and_on}

module _ (board : Board) where
  -- what is left of the sheet's test of the rows, of which so many are in use
  abbrev pub Shaped : List Row → ℕ → Type 0
  Shaped rows used =
      rows_as_boot board rows
      ≡ (all is_no_row (drop used rows)
      && (all (row_as_boot board) (used_rows rows)
      && (not (overlap board (regions_of board rows)) && leb (total (regions_of board rows)) 1048576)))

  shaped : (rows : List Row) (used : ℕ) → used ≡ length (used_rows rows) → length rows ≡ 8 → all six_lists rows ≡ true → Shaped rows used
  unfolding rows_as_boot
  shaped rows used e eight six = rw e (and_on _ (eq-eqb (length rows) 8 eight) ∙ and_on _ six)

-- ---- in words

pub words_eight : (ws : List ℕ) → length (rows_in ws) ≡ 8
unfolding rows_from
words_eight ws = refl

words_six : (ws : List ℕ) (i n : ℕ) → all six_lists (rows_from ws i n) ≡ true
unfolding all rows_from row_in
words_six ws i zero = refl
words_six ws i (suc n) = and-true (go (ltb i (used_in ws))) (words_six ws (i + 1) n)
  where
    go : (t : Bool) → six_lists (cond t (row_in ws (1 + 11 * i)) no_row) ≡ true
    go true = refl
    go false = refl

module _ (board : Board) where
  pub words_shaped : (ws : List ℕ) → Shaped board (rows_in ws) (length (used_rows (rows_in ws)))
  words_shaped ws = shaped board (rows_in ws) (length (used_rows (rows_in ws))) refl (words_eight ws) (words_six ws 0 8)
