-- Texts as bytes, and numbers as decimal digits.
use Rattle.std.specs.Prelude.{ℕ, zero, suc, ◌+◌, ◌/◌, ◌%◌, cond, List, [], ◌∷◌, ◌++◌, ltb}
use Prim.Native.Char.{code}
use Prim.Native.String.{String}
use Prim.Native.String as S

unfoldable pub bytes_of : String → List ℕ
bytes_of S.[] = []
bytes_of (S.◌∷◌ c s) = code c ∷ bytes_of s

-- the last k decimal digits of n, without leading zeros
unfoldable pub last_digits : ℕ → ℕ → List ℕ
last_digits zero n = []
last_digits (suc k) n = cond (ltb n 10) [] (last_digits k (n / 10)) ++ ((48 + n % 10) ∷ [])

-- a number below 2^64 has at most 20
abbrev pub digits_of : ℕ → List ℕ
digits_of n = last_digits 20 n
