-- What the drivers over contents leave in the memory: a range filled or copied turn after turn, each on the bytes that the last turn left.
use Rattle.std.specs.Prelude.{ℕ, zero, suc, ◌+◌, ◌%◌, Bool, cond, List, leb, length, take, drop, replicate}
use Rattle.record.specs.Records.{with_bytes}

-- so many bytes from a place on lie in the memory
abbrev pub inside : List ℕ → (at len : ℕ) → Bool
inside ms at len = leb (at + len) (length ms)

-- the turns of a driver, none where a range does not fit
abbrev pub turns_if : Bool → ℕ → ℕ
turns_if fits times = cond fits times 0

-- the byte of a turn is its number's lowest
unfoldable pub filled : (at len times : ℕ) → List ℕ → List ℕ
filled at len zero ms = ms
filled at len (suc n) ms = with_bytes (filled at len n ms) at (replicate len (n % 256))

unfoldable pub copied : (to from len times : ℕ) → List ℕ → List ℕ
copied to from len zero ms = ms
copied to from len (suc n) ms = with_bytes (copied to from len n ms) to (take len (drop from (copied to from len n ms)))
