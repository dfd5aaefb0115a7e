-- A lent map, of entries or of numbers, place by place: what a boot over the regions reads there.
use Prim.Native.Nat.{ℕ, zero, suc, ◌+◌, ◌/◌, ◌<◌}
use mathlib.Core.List.{List, [], ◌∷◌, map}
use mathlib.Core.Path.{◌≡◌, refl, ap, ◌∙◌}
use native.Mathlib.Omega.{arith}
use lib.ListN.{length, get_or, length-map}
use Rattle.map.specs.Lending.{no_region}
use Rattle.store.specs.declared.Entry.{Entry}
use Rattle.store.specs.Lending.{no_entry, region_of, entry_in, entries_from, entries_of}

pub entry_at : (d : Entry) (es : List Entry) (i : ℕ) → i < length es → get_or (map region_of es) i no_region ≡ region_of (get_or es i d)
entry_at d [] i h = absurd (omega arith)
entry_at d (e ∷ es) zero h = refl
entry_at d (e ∷ es) (suc i) h = entry_at d es i (omega arith)

-- ---- a map that is lent as numbers

entries_long : (ns : List ℕ) (i n : ℕ) → length (entries_from ns i n) ≡ n
unfolding entries_from
entries_long ns i zero = refl
entries_long ns i (suc n) = ap suc (entries_long ns (i + 1) n)

entries_at : (ns : List ℕ) (i n j : ℕ) → j < n → get_or (entries_from ns i n) j no_entry ≡ entry_in ns (i + j)
unfolding entries_from
entries_at ns i zero j h = absurd (omega arith)
entries_at ns i (suc n) zero h = let e : i + 0 ≡ i = omega arith in rw e refl
entries_at ns i (suc n) (suc j) h = let e : i + suc j ≡ i + 1 + j = omega arith in rw e (entries_at ns (i + 1) n j (omega arith))

module _ (ns : List ℕ) where
  pub numbers_long : length (map region_of (entries_of ns)) ≡ length ns / 3
  numbers_long = length-map (entries_of ns) region_of ∙ entries_long ns 0 (length ns / 3)

  pub number_at : (i : ℕ) → i < length ns / 3 → get_or (map region_of (entries_of ns)) i no_region ≡ region_of (entry_in ns i)
  number_at i h =
      let z : 0 + i ≡ i = omega arith in
      entry_at no_entry (entries_of ns) i (rw (entries_long ns 0 (length ns / 3)) h)
      ∙ ap region_of (rw z at (entries_at ns 0 (length ns / 3) i h))
