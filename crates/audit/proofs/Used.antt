-- The rows in use are the first of the rows, up to the first that has no pages: each stands at its place, and they end where their number
-- says. And how their number is counted.
use Prim.Native.Nat.{ℕ, zero, suc, ◌+◌, ◌≤◌, ◌<◌}
use mathlib.Core.Bool.{Bool, true, false, cond}
use mathlib.Core.List.{List, [], ◌∷◌}
use mathlib.Core.Path.{◌≡◌, refl, ap, ◌∙◌}
use native.Mathlib.Omega.{arith}
use lib.Dec.{eqb}
use lib.ListN.{length, get_or, take, drop}
use borrow.Author.Tests.{eq-eqb, ne_eqb}
use Rattle.definition.specs.declared.Row.{Row}
use Rattle.definition.specs.World.{used_rows}
use Rattle.audit.specs.Sheet.{row_at}
use Rattle.audit.proofs.Onward.{drop_at}

-- what a place past the end reads as
abbrev pub no_place : Row
no_place = record { start = record { 0 = 0 }; pages = 0; lists = [] }

used_get : (rows : List Row) (i : ℕ) → i < length (used_rows rows) → get_or (used_rows rows) i no_place ≡ row_at rows i
unfolding used_rows
used_get [] i h = refl
used_get (r ∷ rs) i h = go (eqb r.pages 0) i h (λ j k. used_get rs j k)
  where
    go : (t : Bool) (i : ℕ) → i < length (cond t [] (r ∷ used_rows rs))
        → ((j : ℕ) → j < length (used_rows rs) → get_or (used_rows rs) j no_place ≡ row_at rs j)
        → get_or (cond t [] (r ∷ used_rows rs)) i no_place ≡ row_at (r ∷ rs) i
    go true i k more = absurd (omega arith)
    go false zero k more = refl
    go false (suc j) k more = more j (omega arith)

pub used_at : (rows : List Row) (i : ℕ) → i < length (used_rows rows) → drop i (used_rows rows)
    ≡ row_at rows i ∷ drop (i + 1) (used_rows rows)
used_at rows i h =
    drop_at (used_rows rows) i no_place h ∙ ap (λ (r : Row). r ∷ drop (i + 1) (used_rows rows)) (used_get rows i h)

pub used_most : (rows : List Row) → length (used_rows rows) ≤ length rows
unfolding used_rows
used_most [] = omega arith
used_most (r ∷ rs) = go (eqb r.pages 0) (used_most rs)
  where
    go : (t : Bool) → length (used_rows rs) ≤ length rs → length (cond t [] (r ∷ used_rows rs)) ≤ length (r ∷ rs)
    go true h = omega arith
    go false h = omega arith

-- they are the rows up to their number
pub used_front : (rows : List Row) → take (length (used_rows rows)) rows ≡ used_rows rows
unfolding used_rows
used_front [] = refl
used_front (r ∷ rs) = go (eqb r.pages 0) (used_front rs)
  where
    go : (t : Bool) → take (length (used_rows rs)) rs ≡ used_rows rs → take (length (cond t [] (r ∷ used_rows rs))) (r ∷ rs)
        ≡ cond t [] (r ∷ used_rows rs)
    go true h = refl
    go false h = ap (λ (l : List Row). r ∷ l) h

-- ---- their number, counted from what is left of the rows

module _ {xs ys : List Row} {r : Row} (e : xs ≡ r ∷ ys) where
  pub used_on : (r.pages ≡ 0 → ⊥) → length (used_rows xs) ≡ length (used_rows ys) + 1
  unfolding used_rows
  used_on h =
      ap (λ (l : List Row). length (used_rows l)) e
      ∙ ap (λ (t : Bool). length (cond t [] (r ∷ used_rows ys))) (ne_eqb r.pages 0 h)
      ∙ omega arith

  pub used_off : r.pages ≡ 0 → length (used_rows xs) ≡ 0
  unfolding used_rows
  used_off h =
      ap (λ (l : List Row). length (used_rows l)) e ∙ ap (λ (t : Bool). length (cond t [] (r ∷ used_rows ys))) (eq-eqb r.pages 0 h)
