-- The map's refusal, or 5 where it meets none.
use mathlib.Core.Path.{refl}
use Rattle.definition.proofs.Boards.{standard_fit}
use Rattle.service.proofs.short_boot.Goals as goal

pub admit_map-requires : goal.admit_map-requires
admit_map-requires c = rw c.standard.ensures standard_fit

pub returns-in-Ok : goal.returns-in-Ok
returns-in-Ok c =
    λ ms e f.
    let n = rw c.standard.ensures at (c.in-Ok.ensures.refusal ms (record { long = e; front = f })) in
    rw (← n) refl

pub returns-in-Err : goal.returns-in-Err
returns-in-Err c =
    λ ms e f.
    let n = rw c.standard.ensures at (c.in-Err.ensures.refusal ms (record { long = e; front = f })) in
    rw (← n) refl
