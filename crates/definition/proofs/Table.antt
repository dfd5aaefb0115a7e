-- Table T holds of the definitions: T1 to T12, and the runs that show 01's slips.
use Prim.Native.Nat.{ℕ}
use mathlib.Core.List.{[], ◌∷◌, ◌++◌, map}
use mathlib.Core.Option.{none}
use mathlib.Core.Path.{◌≡◌, refl, ap, ap₂, ◌∙◌}
use lib.ListN.{length, take}
use Rattle.definition.specs.Board.{standard}
use Rattle.definition.specs.Frame.{highest, organize}
use Rattle.definition.specs.Allocator.{AllocationRegion, new_allocator, laid_out, levels_of}
use Rattle.definition.specs.Boot.{kept_regions, managed_pages, boot, boot_with}
use Rattle.definition.specs.Store.{Store}
use Rattle.definition.specs.Calls.{run}
use Rattle.definition.specs.Compute.{everything}
use Rattle.definition.specs.Table.{Row, Seen, seen, seen_after, usable, row, table_t, slips}
use Rattle.definition.proofs.Fuel.{more, left_after, spare_fuel}

-- ---- T12. Its fuel is its 520192 managed pages, too much to compute with, and 505 steps lay them out

abbrev pub t12 : Row
t12 = row (usable 0 0x80000000) [] 520192 [] 524288 (0 ∷ 504 ∷ 1 ∷ [])

-- its region, and what a boot leaves that lays it out with so much fuel
abbrev region : AllocationRegion
region = record { start = 0; pages = 524288; free = λ k. [] }

abbrev booted_with : ℕ → Store
booted_with fuel = boot_with (laid_out region [] (organize fuel (levels_of (λ p. none) region) 4096 4096 520192)) (λ a. 0) 64

booted_fully : boot standard t12.map (λ a. 0) 64 ≡ booted_with 520192
unfolding boot new_allocator
booted_fully = refl

enough : left_after 505 4096 520192 ≡ 0
unfolding left_after highest
enough = refl

booted : boot standard t12.map (λ a. 0) 64 ≡ booted_with 505
unfolding more
booted =
    booted_fully
    ∙ ap (λ s. boot_with (laid_out region [] s) (λ a. 0) 64) (spare_fuel 505 519687 (levels_of (λ p. none) region) 4096 4096 520192 enough)

abbrev seen_from : Store → Seen
seen_from s = seen_after (managed_pages standard (kept_regions standard t12.map)) (length t12.wanted.answers) (run standard s t12.calls)

seen_lem : seen_from (booted_with 505) ≡ t12.wanted
unfolding everything
seen_lem = refl

pub t12_lem : seen t12 ≡ t12.wanted
t12_lem = ap seen_from booted ∙ seen_lem

-- ---- the table

above_t12 : map seen (take 12 table_t) ≡ map (λ (w : Row). w.wanted) (take 12 table_t)
unfolding everything
above_t12 = refl

pub table_t_lem : map seen table_t ≡ map (λ (w : Row). w.wanted) table_t
table_t_lem = ap₂ (λ xs x. xs ++ x ∷ []) above_t12 t12_lem

pub slips_caught : map seen slips ≡ map (λ (w : Row). w.wanted) slips
unfolding everything
slips_caught = refl
