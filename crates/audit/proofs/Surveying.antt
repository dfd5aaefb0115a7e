-- The survey of the rows in use. At each of them what is left decides as the whole does, and what was counted with what is left is the
-- whole: `Surveying` says so, and a turn keeps it or refuses the rows. Where those in use end, the unused ones behind them decide.
use Prim.Native.Nat.{ℕ, ◌+◌, ◌≤◌, ◌<◌}
use mathlib.Core.Bool.{Bool, true, false, ◌&&◌, false≢true, and-true as and-true-right}
use mathlib.Core.List.{List, [], ◌∷◌}
use mathlib.Core.Path.{◌≡◌, refl, sym, ap, ◌∙◌}
use native.Mathlib.Omega.{arith}
use borrow.Author.Tests.{le-leb, leb-true}
use lib.Dec.{leb}
use lib.ListN.{length, drop}
use Rattle.std.specs.Prelude.{Some, None}
use Rattle.std.specs.Bool.{then_some}
use Rattle.definition.specs.declared.Row.{Row}
use Rattle.definition.specs.Board.{Board, Fit}
use Rattle.definition.specs.Basics.{all, sum}
use Rattle.definition.specs.Allocator.{total}
use Rattle.definition.specs.Boot.{managed_pages}
use Rattle.definition.specs.World.{used_rows}
use Rattle.definition.specs.Torn.{Records, is_no_row, bare_regions, regions_of, row_as_boot, placed, placed_from}
use Rattle.definition.proofs.Tests.{and_left, and_right, and-true}
use Rattle.scan.specs.Sheet.{held_row, whole_row, placed_at}
use Rattle.scan.proofs.Members.{refuse}
use Rattle.scan.proofs.Rows.{held_rows, whole_rows}
use Rattle.audit.specs.declared.Surveyed.{Surveyed}
use Rattle.audit.specs.Sheet.{row_at, whole_regions, Few, row_test, Visited, survey_test, Found, Surveys}
use Rattle.audit.proofs.Onward.{drop_at, drop_past, all_on, all_first, sum_on}
use Rattle.audit.proofs.Used.{no_place, used_at, used_on, used_off}
use Rattle.audit.proofs.Booted.{booted, few_pages, used_booted}
use Rattle.audit.proofs.Bare.{total_on}
use Rattle.audit.proofs.Counting.{left_of, left_more, left_none, managed_row, managed_all, idle_row, idle_all}

module _ {board : Board} where
  pub visited_torn : {f : Records} {n : ℕ} {row : Row} {s : Surveyed} → row_test board f n s.managed row ≡ false
      → Visited board f n row s None
  visited_torn d = record { exact = sym d; added = tt }

module _ (board : Board) where
  module _ (f : Records) (n : ℕ) (rows : List Row) where
    abbrev used : List Row
    used = used_rows rows

    pub record Surveying (s : Surveyed) : Type 0 where
      pub few : Few s
      pub eight : length rows ≡ 8
      pub high : s.used ≤ 8
      pub fits : s.managed ≤ n
      pub booted : all (row_as_boot board) used ≡ all (row_as_boot board) (drop s.used used)
      pub totals : total (regions_of board rows) ≡ s.total + total (bare_regions board (drop s.used used))
      pub manages : s.managed + left_of (managed_row board) rows s.used ≡ managed_pages board (regions_of board rows)
      pub whole : all (whole_row board f) (placed board rows) ≡ all (whole_row board f) (placed_from board s.managed (drop s.used used))
      pub pages : sum (held_row board false f) (placed board rows) ≡ s.page + sum (held_row board false f)
          (placed_from board s.managed (drop s.used used))
      pub kernels : sum (held_row board true f) (placed board rows) ≡ s.kernel + sum (held_row board true f)
          (placed_from board s.managed (drop s.used used))
      pub idles : left_of (idle_row board) rows 0 + s.page + s.kernel ≡ s.total + left_of (idle_row board) rows s.used
      pub count : length used ≡ s.used + length (used_rows (drop s.used rows))

    pub survey_none : length rows ≡ 8 → Surveying (record { used = 0; total = 0; managed = 0; page = 0; kernel = 0 })
    survey_none e =
        record {
          few = record { totals = omega arith; manages = omega arith; holds = omega arith };
          eight = e;
          high = omega arith;
          fits = omega arith;
          booted = refl;
          totals = omega arith;
          manages = omega (arith, managed_all board rows);
          whole = refl;
          pages = omega arith;
          kernels = omega arith;
          idles = omega arith;
          count = omega arith;
        }

    module _ (s : Surveyed) (v : Surveying s) where
      -- ---- a row in use

      module _ (h : s.used < 8) (p : (row_at rows s.used).pages ≡ 0 → ⊥) where
        row : Row
        row = row_at rows s.used

        at : drop s.used rows ≡ row ∷ drop (s.used + 1) rows
        unfolding row
        at = drop_at rows s.used no_place (omega (arith, v.eight))

        counts : length used ≡ s.used + 1 + length (used_rows (drop (s.used + 1) rows))
        unfolding row
        counts = omega (arith, v.count, used_on at p)

        inside : s.used < length used
        inside = omega (arith, counts)

        first_left : drop s.used used ≡ row ∷ drop (s.used + 1) used
        unfolding row
        first_left = used_at rows s.used inside

        next : placed_from board s.managed (drop s.used used)
            ≡ placed_at s.managed row ∷ placed_from board (s.managed + managed_row board row) (drop (s.used + 1) used)
        unfolding placed_from
        next = ap (placed_from board s.managed) first_left

        pub torn_row : Visited board f n (row_at rows s.used) s None → Surveys board f n rows None
        unfolding row whole_regions
        torn_row seen =
            let refused : survey_test board f n rows ≡ true → ⊥ = λ t.
            let b = and_right (all is_no_row (drop (length used) rows)) _ t in
            let g = and_right (all (row_as_boot board) used) _ b in
            let most = leb-true (managed_pages board (regions_of board rows)) n (and_left _ _ g) in
            let room : s.managed + managed_row board row ≤ n = omega (arith, v.manages, left_more (managed_row board) rows s.used inside) in
            let w = sym v.whole ∙ whole_rows board f (placed board rows)
            ∙ and_right (leb (managed_pages board (regions_of board rows)) n) _ g in
            false≢true
            (seen.exact
            ∙ and-true (used_booted board rows s.used (and_left _ _ b) inside)
            (and-true (le-leb _ _ room) (all_first (whole_row board f) next w))) in
            record { exact = refuse refused; found = tt }

        pub past_row : Fit board → (r : Surveyed) → Visited board f n (row_at rows s.used) s (Some r) → Surveying r
        unfolding row
        past_row fit r seen =
            let a = seen.added in
            let tests = sym seen.exact in
            let b = booted board row (and_left _ _ tests) in
            let few = few_pages fit b in
            let others = and_right (row_as_boot board row) _ tests in
            let managed-left = left_more (managed_row board) rows s.used inside in
            let idle-left = left_more (idle_row board) rows s.used inside in
            record {
              few =
                  record {
                    totals = omega (arith, v.few.totals, a.used, a.total, few);
                    manages = omega (arith, v.few.manages, a.manages, a.total);
                    holds = omega (arith, v.few.holds, a.manages, a.page, a.kernel, a.pages);
                  };
              eight = v.eight;
              high = omega (arith, a.used);
              fits = omega (arith, a.manages, leb-true (s.managed + managed_row board row) n (and_left _ _ others));
              booted = rw a.used (v.booted ∙ all_on (row_as_boot board) first_left (and_left _ _ tests));
              totals = rw a.used (omega (arith, v.totals, a.total, total_on board first_left));
              manages = rw a.used (omega (arith, v.manages, a.manages, managed-left));
              whole = rw (a.used, a.manages) (v.whole ∙ all_on (whole_row board f) next
                  (and_right (leb (s.managed + managed_row board row) n) _ others));
              pages = rw (a.used, a.manages) (omega (arith, v.pages, a.page, sum_on (held_row board false f) next));
              kernels = rw (a.used, a.manages) (omega (arith, v.kernels, a.kernel, sum_on (held_row board true f) next));
              idles = rw a.used (omega (arith, v.idles, a.total, a.page, a.kernel, a.pages, b.tables, idle-left));
              count = rw a.used counts;
            }

      -- ---- the end of those in use

      module _ (ends : length used ≡ s.used) where
        none : drop s.used used ≡ []
        none = drop_past used s.used (omega (arith, ends))

        none_placed : placed_from board s.managed (drop s.used used) ≡ []
        unfolding placed_from
        none_placed = ap (placed_from board s.managed) none

        none_held : (kernel : Bool) → sum (held_row board kernel f) (placed_from board s.managed (drop s.used used)) ≡ 0
        unfolding sum
        none_held kernel = ap (sum (held_row board kernel f)) none_placed

        none_total : total (bare_regions board (drop s.used used)) ≡ 0
        unfolding sum bare_regions
        none_total = ap (λ (l : List Row). total (bare_regions board l)) none

        none_left : (w : Row → ℕ) → left_of w rows s.used ≡ 0
        none_left w = left_none w rows s.used (omega (arith, ends))

        manages_all : s.managed ≡ managed_pages board (regions_of board rows)
        manages_all = omega (arith, v.manages, none_left (managed_row board))

        -- all tests of the rows in use are passed, so that those behind them decide
        rest_decides : all is_no_row (drop s.used rows) ≡ survey_test board f n rows
        unfolding whole_regions all
        rest_decides =
            let passed =
            and-true
            (v.booted ∙ ap (all (row_as_boot board)) none)
            (and-true
            (le-leb (managed_pages board (regions_of board rows)) n (omega (arith, v.fits, manages_all)))
            (sym (whole_rows board f (placed board rows)) ∙ v.whole ∙ ap (all (whole_row board f)) none_placed)) in
            ap (λ (k : ℕ). all is_no_row (drop k rows)) (sym ends)
            ∙ sym (and-true-right _)
            ∙ ap (λ (t : Bool). all is_no_row (drop (length used) rows) && t) (sym passed)

        found : Found board f rows s
        found =
            record {
              few = v.few;
              used = sym ends;
              total = omega (arith, v.totals, none_total);
              manages = manages_all;
              page = omega (arith, v.pages, none_held false, held_rows board f (placed board rows) false);
              kernel = omega (arith, v.kernels, none_held true, held_rows board f (placed board rows) true);
              idle = omega (arith, v.idles, none_left (idle_row board), idle_all board rows);
            }

        pub surveys : (t : Bool) → t ≡ all is_no_row (drop s.used rows) → Surveys board f n rows (then_some t s)
        surveys true e = record { exact = e ∙ rest_decides; found = found }
        surveys false e = record { exact = e ∙ rest_decides; found = tt }

      -- they end at a row that has no pages, or with the last one
      pub ends_before : s.used < 8 → (row_at rows s.used).pages ≡ 0 → length used ≡ s.used
      ends_before h z = omega (arith, v.count, used_off (drop_at rows s.used no_place (omega (arith, v.eight))) z)

      pub ends_last : 8 ≤ s.used → length used ≡ s.used
      unfolding used_rows
      ends_last h = omega (arith, v.count, ap (λ (l : List Row). length (used_rows l)) (drop_past rows s.used (omega (arith, v.eight))))
