-- Laws of a function that is changed at one place.
use Prim.Native.Nat.{ℕ}
use mathlib.Core.Path.{◌≡◌, refl, fun_ext}
use native.Mathlib.Decide.{ℕ_discrete}
use borrow.Author.Tests.{eq-eqb, ne_eqb}
use Rattle.definition.specs.Basics.{upd}

pub upd_same : {A : Type 0} (f : ℕ → A) (p : ℕ) (v : A) → upd f p v p ≡ v
unfolding upd
upd_same f p v = rw (eq-eqb p p refl)

pub upd_other : {A : Type 0} (f : ℕ → A) (p : ℕ) (v : A) (q : ℕ) → (q ≡ p → ⊥) → upd f p v q ≡ f q
unfolding upd
upd_other f p v q h = rw (ne_eqb q p h)

pub upd_upd : {A : Type 0} (f : ℕ → A) (p : ℕ) (u v : A) → upd (upd f p u) p v ≡ upd f p v
upd_upd f p u v = fun_ext (λ q. at q (ℕ_discrete q p))
  where
    at : (q : ℕ) → Dec (q ≡ p) → upd (upd f p u) p v q ≡ upd f p v q
    at q (yes e) = rw e (simp upd_same)
    at q (no n) = simp upd_other

-- a fact of every place after an update: at the place, and at each other
pub upd_all : {A : Type 0} (P : ℕ → A → Type 0) (f : ℕ → A) (p : ℕ) (v : A) → P p v → ((q : ℕ) → (q ≡ p → ⊥) → P q (f q)) → (q : ℕ) → P q (upd f p v q)
upd_all P f p v h k q = at (ℕ_discrete q p)
  where
    at : Dec (q ≡ p) → P q (upd f p v q)
    at (yes e) = rw (e, upd_same f p v) h
    at (no n) = rw (upd_other f p v q n) (k q n)
