-- How the count of a list goes with its pages: a push makes it one more, a pop one less, and a list with no page has 0.
use Prim.Native.Nat.{ℕ, ◌+◌, ◌<◌}
use mathlib.Core.List.{List, [], ◌∷◌, ◌++◌}
use mathlib.Core.Path.{◌≡◌, ap, ◌∙◌}
use native.Mathlib.Omega.{arith}
use lib.ListN.{length, length-append}
use Rattle.definition.specs.declared.Record.{Record}
use Rattle.definition.specs.declared.Links.{Links}
use Rattle.definition.specs.World.{pages_of}
use Rattle.list.specs.Linked.{All, Sound, Pushed, Taken}
use Rattle.list.specs.Linked.All.{all_none, all_more}
use Rattle.list.proofs.Laws.{all_map, all_append}

module _ {f : ℕ → Record} {n : ℕ} {l : Links} (S : Sound f n l) where
  pub count_none : pages_of f l ≡ [] → l.count ≡ 0
  count_none e = S.counted ∙ ap (λ (xs : List ℕ). length xs) e

  pub count_more : {g : ℕ → Record} {m p : ℕ} {r : Links} → Pushed f l (p ∷ []) g m r → r.count ≡ l.count + 1
  count_more {p = p} P =
      let e = ap (λ (xs : List ℕ). length xs) P.pages ∙ length-append (pages_of f l) (p ∷ []) in
      omega (arith, e, P.sound.counted, S.counted)

  pub count_less : {g : ℕ → Record} {m p : ℕ} {r : Links} → Taken f l p g m r → l.count ≡ r.count + 1
  count_less {g = g} {p = p} {r = r} T =
      let e = ap (λ (xs : List ℕ). length xs) T.pages ∙ length-append (pages_of g r) (p ∷ []) in
      omega (arith, e, T.sound.counted, S.counted)

-- pages below i, with i, are below i + 1
pub below_next : {i : ℕ} {xs : List ℕ} → All (λ (x : ℕ). x < i) xs → All (λ (x : ℕ). x < i + 1) (xs ++ (i ∷ []))
below_next {i} a = all_append (all_map (λ x h. omega arith) a) (all_more {x = i} (omega arith) all_none)
