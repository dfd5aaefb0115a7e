-- What is gathered of a lent map: the array's first entries are the map's first eight, and the count is the map's length.
use Prim.Native.Nat.{ℕ, zero, suc, ◌+◌, ◌≤◌, ◌<◌, min}
use mathlib.Core.Bool.{Bool, true, false}
use mathlib.Core.List.{List, [], ◌∷◌, ◌++◌}
use mathlib.Core.Path.{◌≡◌, refl, ap, sym, subst, ◌∙◌}
use native.Mathlib.Omega.{arith}
use borrow.Author.Count.{below_more}
use borrow.Author.Tests.{ltb-true, ltb-false}
use lib.Dec.{ltb}
use lib.ListN.{length, get_or, take, set, replicate, length-append, length-set, get_or-eq_default}
use lib.Seq.{ext_get_or, get_or-set_other, get_or-set_same, get_or-take, length-take-le, take-nil}
use Rattle.definition.specs.declared.MemoryRegion.{MemoryRegion}
use Rattle.boot.specs.declared.Gathered.{Gathered}
use Rattle.map.specs.Lending.{no_region, gathered}

-- ---- a list with unused entries behind it

unused_at : (k i : ℕ) → get_or (replicate k no_region) i no_region ≡ no_region
unused_at zero i = refl
unused_at (suc k) zero = refl
unused_at (suc k) (suc i) = unused_at k i

padded_at : (ms : List MemoryRegion) (k i : ℕ) → get_or (ms ++ replicate k no_region) i no_region ≡ get_or ms i no_region
padded_at [] k i = unused_at k i
padded_at (m ∷ ms) k zero = refl
padded_at (m ∷ ms) k (suc i) = padded_at ms k i

padded_front : (ms ns : List MemoryRegion) (n : ℕ) → take n ms ≡ take (length ms) (take n (ms ++ ns))
padded_front [] ns n = take-nil n
padded_front (m ∷ ms) ns zero = refl
padded_front (m ∷ ms) ns (suc n) = ap (λ (l : List MemoryRegion). m ∷ l) (padded_front ms ns n)

-- ---- the map

module _ (ms : List MemoryRegion) where
  pub gathered_long : length (gathered ms).map ≡ 8
  gathered_long = length-take-le 8 (ms ++ replicate 8 no_region) (rw (length-append ms (replicate 8 no_region)) (omega arith))

  pub gathered_at : (i : ℕ) → i < 8 → get_or (gathered ms).map i no_region ≡ get_or ms i no_region
  gathered_at i h = get_or-take 8 (ms ++ replicate 8 no_region) i no_region h ∙ padded_at ms 8 i

  pub gathered_front : take 8 ms ≡ take (gathered ms).count (gathered ms).map
  gathered_front = padded_front ms (replicate 8 no_region) 8

-- ---- an entry a turn

-- the first i of the eight places are read, of entries of which `gives` says what may be read at a place, and the others are unused
pub record Filled (gives : ℕ → MemoryRegion → Type 0) (i : ℕ) (xs : List MemoryRegion) : Type 0 where
  pub long : length xs ≡ 8
  pub read : (k : ℕ) → k < i → gives k (get_or xs k no_region)
  pub rest : (k : ℕ) → i ≤ k → k < 8 → get_or xs k no_region ≡ no_region

module _ {gives : ℕ → MemoryRegion → Type 0} {i : ℕ} {xs : List MemoryRegion} (F : Filled gives i xs) where
  pub filled_next : (m : MemoryRegion) → i < 8 → gives i m → Filled gives (i + 1) (set xs i m)
  filled_next m h e =
      let l = F.long in
      record {
        long = length-set xs i m ∙ F.long;
        read = below_more (λ (k : ℕ). gives k (get_or (set xs i m) k no_region)) i
            (λ k b. subst (gives k) (sym (get_or-set_other xs i k m no_region (λ z. absurd (omega (arith, b, z))))) (F.read k b))
            (subst (gives i) (sym (get_or-set_same xs i m no_region (omega (arith, l)))) e);
        rest = λ k a b. get_or-set_other xs i k m no_region (λ z. absurd (omega (arith, a, z))) ∙ F.rest k (omega (arith, a)) b;
      }

  module _ (count : ℕ) (ends : i ≡ min count 8) (ms : List MemoryRegion) (long : length ms ≡ count)
      (same : (k : ℕ) (m : MemoryRegion) → k < 8 → k < count → gives k m → m ≡ get_or ms k no_region) where
    at_place : (k : ℕ) (y : Bool) → ltb k count ≡ y → k < 8 → get_or xs k no_region ≡ get_or ms k no_region
    at_place k true e h =
        let b = ltb-true k count e in
        same k (get_or xs k no_region) h b (F.read k (omega (arith, ends)))
    at_place k false e h =
        let b = ltb-false k count e in
        F.rest k (omega (arith, ends)) h ∙ sym (get_or-eq_default ms no_region (omega (arith, long)))

    pub filled_all : ◌≡◌ {A = Gathered} (record { map = xs; count = count }) (gathered ms)
    filled_all =
        let e : xs ≡ (gathered ms).map =
        ext_get_or no_region xs (gathered ms).map (F.long ∙ sym (gathered_long ms))
        (λ k h. let small : k < 8 = omega (arith, F.long) in at_place k (ltb k count) refl small ∙ sym (gathered_at ms k small)) in
        rw (e, sym long) refl
