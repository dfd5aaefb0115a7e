-- What owning the rows tells of them, by their type alone: there are eight, each has six lists, and the numbers of a list are below 2^32.
use Prim.Native.Nat.{ℕ, zero, suc, ◌<◌}
use mathlib.Core.List.{List, [], ◌∷◌}
use mathlib.Core.Path.{◌≡◌}
use native.Mathlib.Omega.{arith}
use lib.ListN.{length, get_or}
use mir.Val.{Val}
use denote.Laws.{Is}
use denote.Shadow.{shadow}
use denote.Array.{Array, each}
use Rattle.definition.specs.declared.Links.{Links}
use Rattle.definition.specs.declared.Row.{Row}
use Rattle.definition.specs.World.{no_links, no_row}
use Rattle.definition.specs.contracts.Links as L
use Rattle.definition.specs.contracts.Row as R
use Rattle.words.specs.Words.{NarrowLinks, NarrowRow, Narrow}

pub rows_eight : (rows : List Row) (vs : List Val) → Is (Array R.the_row 8) rows vs → length rows ≡ 8
rows_eight rows vs p = p.1.0.1

each_links
    : (ls : List Links) (vs : List Val) → shadow (each Links (L.the_row).own_val ls vs)
    → (k : ℕ) → k < length ls → NarrowLinks (get_or ls k no_links)
each_links [] vs p k h = absurd (omega arith)
each_links (l ∷ ls) [] p k h = absurd p
each_links (l ∷ ls) (v ∷ vs) p zero h =
    record {
      front = p.0.1.1.0.1;
      back = p.0.1.1.1.0.1;
      count = p.0.1.1.1.1.0.1;
    }
each_links (l ∷ ls) (v ∷ vs) p (suc k) h = each_links ls vs p.1 k (omega arith)

-- the lists are a row's third field
pub row_narrow : (row : Row) (vs : List Val) → Is R.the_row row vs → NarrowRow row
row_narrow row vs p =
    let lists = p.1.1.1.1.0 in
    let six : length row.lists ≡ 6 = lists.1.0.1 in
    record {
      six = six;
      narrow = λ k h. each_links row.lists lists.0 lists.1.1 k (omega arith);
    }

each_row
    : (rows : List Row) (vs : List Val) → shadow (each Row (R.the_row).own_val rows vs) → (i : ℕ) → i < length rows
    → NarrowRow (get_or rows i no_row)
each_row [] vs p i h = absurd (omega arith)
each_row (row ∷ rows) [] p i h = absurd p
each_row (row ∷ rows) (v ∷ vs) p zero h = row_narrow row (v ∷ []) p.0
each_row (row ∷ rows) (v ∷ vs) p (suc i) h = each_row rows vs p.1 i (omega arith)

pub rows_narrow : (rows : List Row) (vs : List Val) → Is (Array R.the_row 8) rows vs → Narrow rows
rows_narrow rows vs p =
    let eight : length rows ≡ 8 = rows_eight rows vs p in
    record {
      eight = eight;
      narrow = λ i h. each_row rows p.0 p.1.1 i (omega arith);
    }
