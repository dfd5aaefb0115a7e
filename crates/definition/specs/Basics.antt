-- What the definitions lean on: a function changed at one place, and tests and sums over lists.
use Rattle.std.specs.Prelude.{ℕ, zero, suc, ◌+◌, Bool, true, false, cond, ◌&&◌, ◌||◌, List, [], ◌∷◌, eqb}
use Rattle.std.proofs.Math.Option.{Option, none, some}

-- f but for v at p
unfoldable pub upd : {A : Type 0} → (ℕ → A) → ℕ → A → ℕ → A
upd f p v q = cond (eqb q p) v (f q)

unfoldable pub any : {A : Type 0} → (A → Bool) → List A → Bool
any test [] = false
any test (x ∷ xs) = test x || any test xs

unfoldable pub all : {A : Type 0} → (A → Bool) → List A → Bool
all test [] = true
all test (x ∷ xs) = test x && all test xs

unfoldable pub sum : {A : Type 0} → (A → ℕ) → List A → ℕ
sum weight [] = 0
sum weight (x ∷ xs) = weight x + sum weight xs

abbrev pub is_some : {A : Type 0} → Option A → Bool
is_some none = false
is_some (some x) = true

-- count numbers from start on
unfoldable pub range : ℕ → ℕ → List ℕ
range start zero = []
range start (suc count) = start ∷ range (start + 1) count

unfoldable pub member : ℕ → List ℕ → Bool
member x xs = any (eqb x) xs

abbrev pub bit : Bool → ℕ
bit true = 1
bit false = 0

-- a list without its last element, and that element
pub record Popped : Type 0 where
  pub rest : List ℕ
  pub last : ℕ

-- the last behind x, or else x itself where that passes the test
abbrev pub or_this : Bool → ℕ → List ℕ → Option Popped → Option Popped
or_this test x xs (some e) = some (record { rest = x ∷ e.rest; last = e.last })
or_this true x xs none = some (record { rest = xs; last = x })
or_this false x xs none = none

-- the last that passes the test, taken out
unfoldable pub pop_last : (ℕ → Bool) → List ℕ → Option Popped
pop_last among [] = none
pop_last among (x ∷ xs) = or_this (among x) x xs (pop_last among xs)

-- the test that each number passes
abbrev pub everywhere : ℕ → Bool
everywhere p = true

abbrev pub pop_back : List ℕ → Option Popped
pop_back xs = pop_last everywhere xs
