-- A table is sane in one way at most, as no part of the torn sheet's conditions holds in two ways. A struct's ghost field asks that of
-- its fact.
use Rattle.std.specs.Prelude.{ℕ, ◌+◌, List, [], ◌∷◌, refl}
use native.Mathlib.Nat.{ℕ_set}
use native.Mathlib.Bridge.{le_prop}
use mathlib.Core.Bool.{Bool-set}
use mathlib.Core.List.{is_set as List-set}
use mathlib.Core.Option.{is_set as Option-set}
use Rattle.definition.specs.declared.Record.{Record}
use Rattle.definition.specs.declared.Row.{Row}
use Rattle.definition.specs.Board.{Board}
use Rattle.list.specs.Linked.{All, Distinct, Seg}
use Rattle.list.specs.Linked.All.{all_none, all_more}
use Rattle.list.specs.Linked.Distinct.{distinct_none, distinct_more}
use Rattle.list.specs.Linked.Seg.{seg_none, seg_more}
use Rattle.region.specs.Rep.{managed}
use Rattle.world.specs.Stands.{Disjoint, Each, Good, GoodRows}
use Rattle.world.specs.Stands.Disjoint.{disjoint_none, disjoint_more}
use Rattle.world.specs.Stands.Each.{each_none, each_more}
use Rattle.world.specs.Stands.GoodRows.{good_none, good_more}
use Rattle.world.specs.Tables.{Sane}
use Rattle.exam.specs.Making.{TableIn}

ruleset sets = (le_prop, ℕ_set, Bool-set, List-set, Option-set)

-- ---- lists of pages

all_prop : {P : ℕ → Type 0} → ((x : ℕ) → IsProp (P x)) → (xs : List ℕ) → IsProp (All P xs)
all_prop h [] all_none all_none = refl
all_prop h (x ∷ xs) (all_more a ds) (all_more b es) = λ i. all_more (h x a b i) (all_prop h xs ds es i)

distinct_prop : (xs : List ℕ) → IsProp (Distinct xs)
distinct_prop [] distinct_none distinct_none = refl
distinct_prop (x ∷ xs) (distinct_more a ds) (distinct_more b es) =
    λ i. distinct_more (all_prop (λ y. hlevel) xs a b i) (distinct_prop xs ds es i)

module _ {f : ℕ → Record} where
  seg_prop : (e x : ℕ) (xs : List ℕ) (b z : ℕ) → IsProp (Seg f e x xs b z)
  seg_prop e x [] b z (seg_none p q) (seg_none r s) = λ i. seg_none (ℕ_set _ _ p r i) (ℕ_set _ _ q s i)
  seg_prop e x (p ∷ ps) b z (seg_more h k s) (seg_more m n t) =
      λ i. seg_more (ℕ_set _ _ h m i) (ℕ_set _ _ k n i) (seg_prop (p + 1) (f p).later ps b z s t i)

-- ---- rows

each_prop : {P : Row → Type 0} → ((row : Row) → IsProp (P row)) → (rows : List Row) → IsProp (Each P rows)
each_prop h [] each_none each_none = refl
each_prop h (row ∷ rows) (each_more a ds) (each_more b es) = λ i. each_more (h row a b i) (each_prop h rows ds es i)

module _ {board : Board} where
  disjoint_prop : (rows : List Row) → IsProp (Disjoint board rows)
  disjoint_prop [] disjoint_none disjoint_none = refl
  disjoint_prop (row ∷ rows) (disjoint_more a ds) (disjoint_more b es) =
      λ i. disjoint_more (each_prop (λ t. hlevel) rows a b i) (disjoint_prop rows ds es i)

  module _ {f : ℕ → Record} {n : ℕ} where
    good_prop : (base : ℕ) (row : Row) → IsProp (Good board f n base row)
    good_prop base row = hlevel (all_prop, distinct_prop, seg_prop, sets)

    good_rows_prop : (base : ℕ) (rows : List Row) → IsProp (GoodRows board f n base rows)
    good_rows_prop base [] good_none good_none = refl
    good_rows_prop base (row ∷ rows) (good_more a ds) (good_more b es) =
        λ i. good_more (good_prop base row a b i) (good_rows_prop (base + managed board row.pages) rows ds es i)

    sane_prop : (rows : List Row) → IsProp (Sane board f n rows)
    sane_prop rows = hlevel (good_rows_prop, disjoint_prop, sets)

pub table_in_prop : (words records : List ℕ) → IsProp (TableIn words records)
table_in_prop ws rs = hlevel (sane_prop, sets)
