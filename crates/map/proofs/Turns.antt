-- What is gathered is what the entries make one after the other, each put at its place: the turns in which it was defined before (`by_turns`).
use Prim.Native.Nat.{ℕ, suc, ◌+◌, ◌≤◌, ◌<◌}
use mathlib.Core.Bool.{Bool, true, false, cond}
use mathlib.Core.List.{List, [], ◌∷◌, ◌++◌, append_assoc, append-nil}
use mathlib.Core.Path.{◌≡◌, refl, ap, sym, ◌∙◌}
use native.Mathlib.Omega.{arith}
use native.Mathlib.Numerals.{add-one}
use borrow.Author.Tests.{lt-ltb, ltb-true, ltb-false}
use lib.Dec.{ltb}
use lib.ListN.{length, get_or, take, set, replicate, length-set, length-take, get_or-eq_default, get_or-replicate}
use lib.Seq.{ext_get_or, get_or-set_other, get_or-take, take-suc-set}
use Rattle.definition.specs.declared.MemoryRegion.{MemoryRegion}
use Rattle.boot.specs.declared.Gathered.{Gathered}
use Rattle.map.specs.Lending.{no_region, gathered}
use Rattle.map.proofs.Gathering.{gathered_at, gathered_long}

abbrev pub nothing : ℕ → Gathered
nothing n = record { map = replicate 8 no_region; count = n }

abbrev pub entered : Gathered → ℕ → MemoryRegion → Gathered
entered g i m = record { map = cond (ltb i 8) (set g.map i m) g.map; count = g.count }

unfoldable pub entered_all : List MemoryRegion → ℕ → Gathered → Gathered
entered_all [] i g = g
entered_all (m ∷ ms) i g = entered_all ms (i + 1) (entered g i m)

entered_count : (xs : List MemoryRegion) (i : ℕ) (g : Gathered) → (entered_all xs i g).count ≡ g.count
unfolding entered_all
entered_count [] i g = refl
entered_count (x ∷ xs) i g = entered_count xs (i + 1) (entered g i x)

placed : (g : Gathered) (i : ℕ) (x : MemoryRegion) → suc i ≤ 8 → (entered g i x).map ≡ set g.map i x
placed g i x h = rw (lt-ltb i 8 h) refl

entered_front : (xs : List MemoryRegion) (i : ℕ) (g : Gathered) → length g.map ≡ 8 → i + length xs ≤ 8
    → take (i + length xs) (entered_all xs i g).map ≡ take i g.map ++ xs
unfolding entered_all
entered_front [] i g l h =
    let e : i + 0 ≡ i = omega arith in
    rw e (sym (append-nil (take i g.map)))
entered_front (x ∷ xs) i g l h =
    let p = placed g i x (omega arith) in
    let long : length (entered g i x).map ≡ 8 = rw p (length-set g.map i x ∙ l) in
    let e : i + suc (length xs) ≡ i + 1 + length xs = omega arith in
    let t : take (i + 1) (set g.map i x) ≡ take i g.map ++ (x ∷ []) = rw (add-one i) (take-suc-set g.map i x (omega arith)) in
    rw e (entered_front xs (i + 1) (entered g i x) long (omega arith) ∙ ap (λ ms. ms ++ xs) (ap (take (i + 1)) p ∙ t) ∙ append_assoc (take i g.map) (x ∷ []) xs)

entered_long : (xs : List MemoryRegion) (i : ℕ) (g : Gathered) → length g.map ≡ 8 → i + length xs ≤ 8 → length (entered_all xs i g).map ≡ 8
unfolding entered_all
entered_long [] i g l h = l
entered_long (x ∷ xs) i g l h =
    entered_long xs (i + 1) (entered g i x) (rw (placed g i x (omega arith)) (length-set g.map i x ∙ l)) (omega arith)

entered_tail : (xs : List MemoryRegion) (i k : ℕ) (g : Gathered) → i + length xs ≤ 8 → i + length xs ≤ k
    → get_or (entered_all xs i g).map k no_region ≡ get_or g.map k no_region
unfolding entered_all
entered_tail [] i k g l h = refl
entered_tail (x ∷ xs) i k g l h =
    entered_tail xs (i + 1) k (entered g i x) (omega arith) (omega arith)
    ∙ ap (λ (ms : List MemoryRegion). get_or ms k no_region) (placed g i x (omega arith))
    ∙ get_or-set_other g.map i k x no_region (λ z. absurd (omega (arith, z)))

abbrev pair : List MemoryRegion → ℕ → Gathered
pair x n = record { map = x; count = n }

module _ (ms : List MemoryRegion) where
  abbrev turns : Gathered
  turns = entered_all (take 8 ms) 0 (nothing (length ms))

  fits : 0 + length (take 8 ms) ≤ 8
  fits = omega (arith, length-take 8 ms)

  at_turn : (k : ℕ) (y : Bool) → ltb k (length (take 8 ms)) ≡ y → k < 8 → get_or turns.map k no_region ≡ get_or ms k no_region
  at_turn k true e h =
      let n = length (take 8 ms) in
      let b = ltb-true k n e in
      let z : 0 + n ≡ n = omega arith in
      let f : take n turns.map ≡ take 8 ms = rw z at (entered_front (take 8 ms) 0 (nothing (length ms)) refl fits) in
      sym (get_or-take n turns.map k no_region b) ∙ ap (λ (l : List MemoryRegion). get_or l k no_region) f ∙ get_or-take 8 ms k no_region h
  at_turn k false e h =
      let b = ltb-false k (length (take 8 ms)) e in
      entered_tail (take 8 ms) 0 k (nothing (length ms)) fits (omega (arith, b)) ∙ get_or-replicate 8 k no_region no_region h
      ∙ sym (get_or-eq_default ms no_region (omega (arith, b, length-take 8 ms)))

  same_map : turns.map ≡ (gathered ms).map
  same_map =
      let l = entered_long (take 8 ms) 0 (nothing (length ms)) refl fits in
      ext_get_or no_region turns.map (gathered ms).map (l ∙ sym (gathered_long ms))
      (λ k h. let s : k < 8 = omega (arith, l) in at_turn k (ltb k (length (take 8 ms))) refl s ∙ sym (gathered_at ms k s))

  pub by_turns : gathered ms ≡ turns
  by_turns = sym (ap (λ (x : List MemoryRegion). pair x turns.count) same_map ∙ ap (λ (n : ℕ). pair (gathered ms).map n) (entered_count (take 8 ms) 0 (nothing (length ms))))
