-- What writing a text into a lent slice leaves. Every other byte of the slice stays as it was.
use Rattle.std.specs.Prelude.{ℕ, ◌+◌, List, ◌≡◌, length}
use Rattle.record.specs.Records.{with_bytes}

-- `out`, with `text` from `at` on, is `out'`, and `r` is the place behind the text
pub record Wrote (out : List ℕ) (at : ℕ) (text out' : List ℕ) (r : ℕ) : Type 0 where
  pub after : r ≡ at + length text
  pub bytes : out' ≡ with_bytes out at text
