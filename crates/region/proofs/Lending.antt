-- What stands behind a region's loans at its end stands behind those that its caller lent it.
use Prim.Native.Nat.{ℕ}
use mathlib.Core.List.{List}
use mathlib.Core.Path.{◌≡◌}

pub lent : (P : List ℕ → Type 0) {x y : List ℕ} → P x → y ≡ x → P y
lent P p e = rw e p

pub both_lent : (P : (bytes ws : List ℕ) → Type 0) {x y u v : List ℕ} → P x u → y ≡ x → v ≡ u → P y v
both_lent P p e f = rw (e, f) p
