-- The numbers that a board fixes, and what must hold of them. Every definition takes a board as an argument, and every proof is of any board that is fit; `standard`
-- has the Rust's numbers.
use Rattle.std.specs.Prelude.{◌≤◌, ◌⊎◌, ◌≡◌}
use Rattle.definition.specs.declared.Board.{Board as BoardOf}

abbrev pub Board : Type 0
Board = BoardOf

abbrev pub standard : Board
standard = record { page = 4096; record_bytes = 32; kernel_multiple = 2; idle_divisor = 2; per_round = 100; max_rounds = 1000 }

-- the ranges of the five numbers are 02's, slip 5, and the page sizes 02's, slip 14
pub record Fit (b : Board) : Type 0 where
  pub sized : (b.page ≡ 4096) ⊎ ((b.page ≡ 16384) ⊎ (b.page ≡ 65536))
  pub record_least : 1 ≤ b.record_bytes
  pub record_most : b.record_bytes ≤ 8192
  pub multiple_least : 1 ≤ b.kernel_multiple
  pub multiple_most : b.kernel_multiple ≤ 16
  pub divisor_least : 1 ≤ b.idle_divisor
  pub divisor_most : b.idle_divisor ≤ 16
  pub frees_least : 1 ≤ b.per_round
  pub frees_most : b.per_round ≤ 1000
  pub rounds_most : b.max_rounds ≤ 5000
