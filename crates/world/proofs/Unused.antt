-- The rows behind those in use. Where the torn sheet's tests pass they are `no_row`, each of them, and as many as are left of eight.
use Prim.Native.Nat.{ℕ, zero, suc, ◌-◌}
use mathlib.Core.Bool.{Bool, true}
use mathlib.Core.List.{List, [], ◌∷◌}
use mathlib.Core.Path.{◌≡◌, refl, ap, ap₂, ◌∙◌}
use borrow.Author.Tests.{eqb-true}
use lib.Dec.{eqb}
use lib.ListN.{length, drop, replicate, length-drop}
use Rattle.definition.specs.declared.Links.{Links}
use Rattle.definition.specs.declared.Row.{Row}
use Rattle.definition.specs.Basics.{all}
use Rattle.definition.specs.Boot.{most_rows}
use Rattle.definition.specs.Torn.{is_no_links, is_no_row, six_lists}
use Rattle.definition.specs.World.{no_links, no_row, used_rows}
use Rattle.definition.proofs.Tests.{and_left, and_right}
use Rattle.world.proofs.Shifting.{row_same}

-- what passes both tests is v
module _ {A : Type 0} (t u : A → Bool) (v : A) (is : (x : A) → t x ≡ true → u x ≡ true → x ≡ v) where
  all_same : (xs : List A) → all t xs ≡ true → all u xs ≡ true → xs ≡ replicate (length xs) v
  unfolding all
  all_same [] e h = refl
  all_same (x ∷ xs) e h =
      ap₂ (λ (y : A) (ys : List A). y ∷ ys) (is x (and_left _ _ e) (and_left _ _ h))
      (all_same xs (and_right (t x) _ e) (and_right (u x) _ h))

all_drop : {A : Type 0} (t : A → Bool) (n : ℕ) (xs : List A) → all t xs ≡ true → all t (drop n xs) ≡ true
unfolding all
all_drop t zero xs e = e
all_drop t (suc n) [] e = e
all_drop t (suc n) (x ∷ xs) e = all_drop t n xs (and_right (t x) _ e)

no_links_lem : (l : Links) → is_no_links l ≡ true → l ≡ no_links
no_links_lem l e =
    let h = and_right (eqb l.front 0) _ e in
    same (eqb-true _ _ (and_left _ _ e)) (eqb-true _ _ (and_left _ _ h)) (eqb-true _ _ (and_right (eqb l.back 0) _ h))
  where
    same : {a b c d e f : ℕ} → a ≡ b → c ≡ d → e ≡ f
        → ◌≡◌ {A = Links} (record { front = a; back = c; count = e }) (record { front = b; back = d; count = f })
    same p q r = cc

no_row_lem : (row : Row) → six_lists row ≡ true → is_no_row row ≡ true → row ≡ no_row
no_row_lem row six e =
    let h = and_right (eqb row.start.0 0) _ e in
    let l : all is_no_links row.lists ≡ true = and_right (eqb row.pages 0) _ h in
    let n : length row.lists ≡ 6 = eqb-true _ _ six in
    row_same (eqb-true _ _ (and_left _ _ e)) (eqb-true _ _ (and_left _ _ h))
    (all_same is_no_links is_no_links no_links (λ x a b. no_links_lem x a) row.lists l l ∙ ap (λ (k : ℕ). replicate k no_links) n)

pub unused_rows
    : (rows : List Row) → length rows ≡ most_rows → all six_lists rows ≡ true → all is_no_row (drop (length (used_rows rows)) rows) ≡ true
    → drop (length (used_rows rows)) rows ≡ replicate (most_rows - length (used_rows rows)) no_row
unused_rows rows eight six blank =
    let used = length (used_rows rows) in
    all_same six_lists is_no_row no_row no_row_lem (drop used rows) (all_drop six_lists used rows six) blank
    ∙ ap (λ (n : ℕ). replicate n no_row) (length-drop used rows ∙ ap (λ (n : ℕ). n - used) eight)
