-- The refusals of a map that is given as an array of eight entries and a number: those of every map that the array begins.
use Prim.Native.Nat.{ℕ, ◌/◌, ◌≤◌, ◌<◌}
use mathlib.Core.Bool.{true, false}
use mathlib.Core.List.{List}
use mathlib.Core.Path.{◌≡◌, sym, ap, ◌∙◌}
use native.Mathlib.Omega.{arith}
use lib.ListN.{length, take}
use lib.Seq.{length-take-le, take_all}
use Rattle.definition.specs.declared.MemoryRegion.{MemoryRegion}
use Rattle.definition.specs.declared.Row.{Row}
use Rattle.definition.specs.Board.{Board}
use Rattle.definition.specs.Basics.{any}
use Rattle.definition.specs.Boot.{boot_sheet, ends_far, kept_regions}
use Rattle.definition.specs.Refusal.{first_met}
use Rattle.definition.specs.Torn.{regions_of}
use Rattle.definition.specs.World.{used_rows}
use Rattle.audit.proofs.Regions.{loans_fit}
use Rattle.audit.proofs.Used.{used_front}
use Rattle.definition.specs.Board.{Fit}
use Rattle.std.specs.Prelude.{Result, Ok}
use mathlib.Core.Option.{none, some}
use Rattle.definition.specs.declared.Refusal.{Refusal}
use Rattle.definition.specs.declared.Refusal.TheVariants.{LongMap, FarAddress}
use Rattle.exam.specs.Promise.{refusal_in}
use Rattle.boot.specs.declared.Kept.{Kept}
use Rattle.boot.specs.Booting.{Admits, Keeps, KeptOf, Mapped, Ready, RowsKept, eight, kept_rows, rows_admitted}
use Rattle.boot.proofs.KeptRows.{kept_alone, kept_front, kept_ready, kept_spans, kept_used, mapped_all}
use Rattle.boot.proofs.Sheet.{Admitted, admitted, far_map, long_map, near_map}

module _ {map : List MemoryRegion} {count : ℕ} {ms : List MemoryRegion} (M : Mapped map count ms) where
  pub given_long
      : (board : Board) (records memory : ℕ) → 8 < count → some LongMap ≡ first_met (boot_sheet board ms records memory)
  given_long board records memory h = sym (long_map board ms records memory (omega (arith, M.long)))

  module _ (few : count ≤ 8) where
    all_given : take count map ≡ ms
    all_given = mapped_all map count ms M few

    pub given_far
        : (board : Board) (records memory : ℕ) → any ends_far (take count map) ≡ true
        → some FarAddress ≡ first_met (boot_sheet board ms records memory)
    given_far board records memory f = sym (far_map board ms records memory (omega (arith, M.long)) (ap (any ends_far) (sym all_given) ∙ f))

    pub given_near : any ends_far (take count map) ≡ false → any ends_far ms ≡ false
    given_near near = ap (any ends_far) (sym all_given) ∙ near

    module _ {board : Board} (r : Kept) (K : Keeps board (take count map) r) where
      pub given_kept : r.rows ≡ eight (kept_rows board ms)
      given_kept = K.rows ∙ ap (λ (l : List MemoryRegion). eight (kept_rows board l)) all_given

      module _ (fit : Fit board) (near : any ends_far (take count map) ≡ false) where
        pub given_spans : regions_of board r.rows ≡ kept_regions board ms
        given_spans = rw given_kept (kept_spans fit ms (given_near near))

        pub given_rows : (records memory : ℕ) → refusal_in (rows_admitted board r.rows records memory)
            ≡ first_met (boot_sheet board ms records memory)
        given_rows records memory = sym (near_map board ms records memory (omega (arith, M.long)) (given_near near) r.rows given_spans)

        -- of the rows alone
        pub given_used
            : (records memory : ℕ)
            → refusal_in (rows_admitted board (take r.used r.rows) records memory) ≡ first_met (boot_sheet board ms records memory)
        given_used records memory =
            ap (λ (rows : List Row). refusal_in (rows_admitted board rows records memory))
            (kept_front fit (take count map) near r K ∙ ap (kept_rows board) all_given)
            ∙ sym (near_map board ms records memory (omega (arith, M.long)) (given_near near) (kept_rows board ms)
            (kept_alone fit ms (given_near near)))

-- ---- a map that is not refused

module _
    {board : Board} (fit : Fit board) (map : List MemoryRegion) (count records memory : ℕ) (eight_long : length map ≡ 8)
    {x : Result Kept Refusal} (E : Admits board map count records memory x) (k : Kept) (e : x ≡ Ok k)
  where
    abbrev of_map : KeptOf board map count k
    of_map = E.kept k e

    pub accepted_sheet : (ms : List MemoryRegion) → Mapped map count ms → first_met (boot_sheet board ms records memory) ≡ none
    accepted_sheet ms M = sym (E.refusal ms M) ∙ ap refusal_in e

    itself : Mapped map count (take count map)
    itself =
        let few = of_map.few in
        let l = length-take-le count map (omega arith) in
        record { long = l; front = take_all 8 (take count map) (omega (arith, l)) }

    pub accepted_admitted : Admitted board k.rows records memory
    accepted_admitted =
        let K = of_map in
        admitted board k.rows records memory
        (given_rows itself K.few k K.keeps fit K.near records memory ∙ accepted_sheet (take count map) itself)

    pub accepted_kept : RowsKept board k.rows k.used
    accepted_kept = kept_ready fit (take count map) of_map.near k of_map.keeps

    -- the rows in use are those that are kept
    pub accepted_used : used_rows k.rows ≡ kept_rows board (take count map)
    accepted_used = rw of_map.keeps.rows (kept_used fit (take count map) of_map.near)

    pub accepted_ready : Ready board (take k.used k.rows) (records / 16)
    accepted_ready =
        let A = accepted_admitted in
        let e : take k.used k.rows ≡ used_rows k.rows = rw accepted_kept.many (used_front k.rows) in
        rw e
        (record {
          booted = accepted_kept.booted;
          apart = A.apart;
          most = A.most;
          fits = loans_fit board k.rows records memory A.long;
        })
