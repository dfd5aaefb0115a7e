-- What a fit board's page size comes to, and that the Rust's numbers are fit: the one place where a proof looks at them.
use Prim.Native.Nat.{◌≤◌, ◌<◌}
use mathlib.Core.Logic.{⊎_elim, inl}
use mathlib.Core.Path.{refl}
use native.Mathlib.Omega.{arith}
use Rattle.definition.specs.Board.{Board, Fit, standard}

module _ {b : Board} (fit : Fit b) where
  pub page_least : 4096 ≤ b.page
  page_least = ⊎_elim (λ e. omega (arith, e)) (λ f. ⊎_elim (λ e. omega (arith, e)) (λ e. omega (arith, e)) f) fit.sized

  pub page_positive : 0 < b.page
  page_positive = omega (arith, page_least)

  pub page_most : b.page ≤ 65536
  page_most = ⊎_elim (λ e. omega (arith, e)) (λ f. ⊎_elim (λ e. omega (arith, e)) (λ e. omega (arith, e)) f) fit.sized

pub standard_fit : Fit standard
standard_fit =
    record {
      sized = inl refl;
      record_least = omega arith;
      record_most = omega arith;
      multiple_least = omega arith;
      multiple_most = omega arith;
      divisor_least = omega arith;
      divisor_most = omega arith;
      frees_least = omega arith;
      frees_most = omega arith;
      rounds_most = omega arith;
    }
