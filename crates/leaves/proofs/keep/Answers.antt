-- The words written are those of one row in use, whose numbers fit by its type, so that it is read of them again.
use Prim.Native.Nat.{ℕ, zero, suc, ◌<◌}
use mathlib.Core.List.{List, ◌∷◌}
use mathlib.Core.Path.{◌≡◌, refl}
use native.Mathlib.Omega.{arith}
use lib.ListN.{length, get_or, replicate, get_or-replicate}
use Rattle.definition.specs.declared.Pass.{Pass}
use Rattle.definition.specs.declared.Row.{Row}
use Rattle.definition.specs.World.{no_links, no_row}
use Rattle.record.specs.Records.{with_bytes}
use Rattle.record.proofs.Bytes.{with_length}
use Rattle.words.specs.Words.{Long, InUse, NarrowRow, kept_of, row_of, rows_in}
use Rattle.words.proofs.Words.{length_kept, used_written, rows_written}
use Rattle.words.proofs.Owned.{row_narrow}
use Rattle.leaves.proofs.keep.Goals as goal

unused_narrow : NarrowRow no_row
unused_narrow =
    record {
      six = refl;
      narrow = λ k h.
          rw (get_or-replicate 6 k no_links no_links h) (record { front = omega arith; back = omega arith; count = omega arith });
    }

-- eight rows, of which the first alone may be in use
abbrev alone : Row → List Row
alone row = row ∷ replicate 7 no_row

alone_narrow : (row : Row) → NarrowRow row → (i : ℕ) → i < 8 → NarrowRow (get_or (alone row) i no_row)
alone_narrow row n zero h = n
alone_narrow row n (suc i) h = rw (get_or-replicate 7 i no_row no_row (omega arith)) unused_narrow

module _ (ws : List ℕ) (row : Row) (h : Long ws) (n : NarrowRow row) where
  abbrev none : Pass
  none = record { rounds = 0; freed = 0 }

  abbrev after : List ℕ
  after = with_bytes ws 0 (kept_of 1 (alone row) 0 none)

  as_long : length after ≡ length ws
  as_long = with_length ws 0 (kept_of 1 (alone row) 0 none) (omega (arith, length_kept 1 (alone row) 0 none refl))

  rows_back : rows_in after ≡ alone row
  rows_back =
      rows_written ws 1 (alone row) 0 none h (omega arith) (record { eight = refl; narrow = alone_narrow row n }) refl

  kept_alone : InUse after 0 × (row_of (rows_in after) 0 ≡ row)
  kept_alone =
      ((omega (arith, as_long), omega arith, omega (arith, used_written ws 1 (alone row) 0 none h refl)), rw rows_back refl)

pub returns : goal.returns
returns c =
    rw (c.put_kept.ensures, c.empty_row-unused.ensures, c.new.ensures)
    (kept_alone c.args.words.now c.args.row c.requires (row_narrow c.args.row _ c.well_formed.1.0))
