-- The torn sheet as one test and as a record of its sentences say the same. The audit's tests, in an order of their own, are that one test,
-- whatever the bytes of the memory and the places of the queue.
use Prim.Native.Nat.{ℕ, ◌*◌, ◌/◌}
use mathlib.Core.Bool.{Bool, true, false, not, ◌&&◌, false≢true}
use mathlib.Core.List.{List}
use mathlib.Core.Path.{◌≡◌, refl, sym, ap, ap₂, ◌∙◌}
use native.Mathlib.Omega.{arith}
use borrow.Author.Tests.{le-leb, leb-true}
use lib.Dec.{leb}
use lib.ListN.{length, drop}
use Rattle.definition.specs.declared.Row.{Row}
use Rattle.definition.specs.declared.Counters.{Counters}
use Rattle.definition.specs.declared.Pass.{Pass}
use Rattle.definition.specs.Board.{Board}
use Rattle.definition.specs.Basics.{all}
use Rattle.definition.specs.Allocator.{AllocationRegion, total}
use Rattle.definition.specs.Boot.{managed_pages, overlap}
use Rattle.definition.specs.World.{World, record_at, used_rows}
use Rattle.definition.specs.Torn.{
  Placed,
  Records,
  records_of,
  is_no_row,
  regions_of,
  row_as_boot,
  rows_as_boot,
  loans_long,
  placed,
  tiled,
  held_alone,
  lists_walk,
  unheld_listed,
  idle_counts,
  total_counts,
  kernel_counts,
  page_counts,
  none_waiting,
  queue_within,
  pass_within,
  Sound,
  sound,
}
use Rattle.definition.proofs.Tests.{and_left, and_right, and-true}
use Rattle.scan.proofs.Members.{refuse}
use Rattle.audit.specs.declared.Surveyed.{Surveyed}
use Rattle.audit.specs.Sheet.{whole_regions, survey_test, Found, counts_as, Exact}
use Rattle.audit.proofs.Onward.{and_on}
use Rattle.audit.proofs.Regions.{loans_fit}

-- ---- the test and the record

module _ (b : Board) (w : World) where
  abbrev f : Records
  f = records_of w

  abbrev xs : List Placed
  xs = placed b w.rows

  pub sound_is : sound b w ≡ true → Sound b w
  unfolding sound
  sound_is t =
      let loans = and_right (rows_as_boot b w.rows) _ t in
      let tiling = and_right (loans_long b w.rows (length w.records) (length w.memory)) _ loans in
      let alone = and_right (tiled b f xs) _ tiling in
      let lists = and_right (held_alone b f xs) _ alone in
      let listed = and_right (lists_walk b f xs) _ lists in
      let idle = and_right (unheld_listed b f xs) _ listed in
      let totals = and_right (idle_counts b w.rows w.counters) _ idle in
      let kernel = and_right (total_counts b w.rows w.counters) _ totals in
      let page = and_right (kernel_counts b f w.rows w.counters) _ kernel in
      let waiting = and_right (page_counts b f w.rows w.counters) _ page in
      let queue = and_right (none_waiting w.counters) _ waiting in
      record {
        rows = and_left _ _ t;
        loans = and_left _ _ loans;
        tiling = and_left _ _ tiling;
        alone = and_left _ _ alone;
        lists = and_left _ _ lists;
        listed = and_left _ _ listed;
        idle = and_left _ _ idle;
        totals = and_left _ _ totals;
        kernel = and_left _ _ kernel;
        page = and_left _ _ page;
        waiting = and_left _ _ waiting;
        queue = and_left _ _ queue;
        pass = and_right (queue_within w.queued (length w.queue)) _ queue;
      }

  pub is_sound : Sound b w → sound b w ≡ true
  unfolding sound
  is_sound s =
      rw (
        s.rows,
        s.loans,
        s.tiling,
        s.alone,
        s.lists,
        s.listed,
        s.idle,
        s.totals,
        s.kernel,
        s.page,
        s.waiting,
        s.queue,
        s.pass,
      )

-- ---- the audit's tests

and_four : (a b c d e : Bool) → (a && (b && (c && (d && e)))) ≡ ((a && (b && (c && d))) && e)
and_four true true true true e = refl
and_four true true true false e = refl
and_four true true false d e = refl
and_four true false c d e = refl
and_four false b c d e = refl

-- behind the loans the sheet has four tests of the regions, four of the counters, and the rest
and_eight : (a b c d e f g h r : Bool)
    → (a && (b && (c && (d && (e && (f && (g && (h && r)))))))) ≡ ((a && (b && (c && d))) && ((e && (f && (g && h))) && r))
and_eight a b c d e f g h r = and_four a b c d _ ∙ ap (λ (t : Bool). (a && (b && (c && d))) && t) (and_four e f g h r)

-- the tests that are made behind the survey, in the sheet's order and in the audit's
in_order : (apart few memory counts rest : Bool)
    → ((apart && few) && (memory && (counts && rest))) ≡ ((((few && apart) && memory) && counts) && rest)
in_order true true true counts rest = refl
in_order true true false counts rest = refl
in_order true false memory counts rest = refl
in_order false true memory counts rest = refl
in_order false false memory counts rest = refl

-- what an audit is given
pub record Given : Type 0 where
  pub rows : List Row
  pub counters : Counters
  pub queued : ℕ
  pub pass : Pass
  pub records : List ℕ
  pub memory_len : ℕ
  pub queue_len : ℕ

module _ (board : Board) where
  module _ (g : Given) where
    abbrev records : Records
    records = record_at g.records

    abbrev regions : List Placed
    regions = placed board g.rows

    abbrev pub rows_test : Bool
    rows_test = rows_as_boot board g.rows

    abbrev pub loans_test : Bool
    loans_test = loans_long board g.rows (length g.records) g.memory_len

    abbrev regions_test : Bool
    regions_test = whole_regions board records regions

    abbrev counts_test : Bool
    counts_test =
        idle_counts board g.rows g.counters
        && (total_counts board g.rows g.counters
        && (kernel_counts board records g.rows g.counters && page_counts board records g.rows g.counters))

    abbrev pub rest_test : Bool
    rest_test = none_waiting g.counters && (queue_within g.queued g.queue_len && pass_within board g.pass)

    abbrev five : Bool
    five = rows_test && (loans_test && (regions_test && (counts_test && rest_test)))

    abbrev pub Answers : Bool → Type 0
    Answers r = Exact board g.rows g.counters g.queued g.pass g.records g.memory_len g.queue_len r

    exact : (r : Bool) → r ≡ five → Answers r
    unfolding sound whole_regions
    exact r e memory queue m q =
        e
        ∙ sym
        (rw (m, q)
        (ap
        (λ (t : Bool). rows_test && (loans_test && t))
        (and_eight
        (tiled board records regions)
        (held_alone board records regions)
        (lists_walk board records regions)
        (unheld_listed board records regions)
        (idle_counts board g.rows g.counters)
        (total_counts board g.rows g.counters)
        (kernel_counts board records g.rows g.counters)
        (page_counts board records g.rows g.counters)
        rest_test)))

    torn : (five ≡ true → ⊥) → Answers false
    torn n = exact false (refuse n)

    abbrev regions_in : List AllocationRegion
    regions_in = regions_of board g.rows

    abbrev surveyed : Bool
    surveyed = survey_test board records (length g.records / 16) g.rows

    abbrev unused_test : Bool
    unused_test = all is_no_row (drop (length (used_rows g.rows)) g.rows)

    abbrev boot_test : Bool
    boot_test = all (row_as_boot board) (used_rows g.rows)

    abbrev records_test : Bool
    records_test = leb (managed_pages board regions_in) (length g.records / 16)

    -- two rows share no page, and there are few enough
    abbrev last_test : Bool
    last_test = not (overlap board regions_in) && leb (total regions_in) 1048576

    -- where there are eight rows of six lists, as their type says, the sheet's test of the rows has four parts, of which the survey makes
    -- two
    module _ (shape : rows_test ≡ (unused_test && (boot_test && last_test))) where
      last_two : rows_test ≡ true → last_test ≡ true
      last_two t = and_right boot_test last_test (and_right unused_test (boot_test && last_test) (sym shape ∙ t))

      pub torn_survey : surveyed ≡ false → Answers false
      torn_survey e =
          torn (λ t.
          let r : (unused_test && (boot_test && last_test)) ≡ true = sym shape ∙ and_left _ _ t in
          let l = and_right rows_test _ t in
          let m = loans_fit board g.rows (length g.records) g.memory_len (and_left _ _ l) in
          let b = and_left boot_test last_test (and_right unused_test (boot_test && last_test) r) in
          let w = and_left regions_test _ (and_right loans_test _ l) in
          let fit : records_test ≡ true = le-leb (managed_pages board regions_in) (length g.records / 16) m in
          false≢true
          (sym e
          ∙ and-true {a = unused_test} (and_left unused_test (boot_test && last_test) r)
          (and-true {a = boot_test} b (and-true {a = records_test} fit w))))

      -- where the survey has passed, the other tests decide
      module _ (s : surveyed ≡ true) where
        -- what it has passed behind the unused rows
        others : (boot_test && (records_test && regions_test)) ≡ true
        others = and_right unused_test _ s

        rows_left : rows_test ≡ last_test
        rows_left = shape ∙ and_on _ (and_left unused_test _ s) ∙ and_on _ (and_left boot_test _ others)

        loans_left : loans_test ≡ leb (board.page * managed_pages board regions_in) g.memory_len
        unfolding loans_long
        loans_left =
            let m = leb-true (managed_pages board regions_in) (length g.records / 16)
            (and_left records_test _ (and_right boot_test _ others)) in
            and_on _ (le-leb (16 * managed_pages board regions_in) (length g.records) (omega arith))

        regions_pass : regions_test ≡ true
        regions_pass = and_right records_test _ (and_right boot_test _ others)

        five_left : five ≡ (last_test && (leb (board.page * managed_pages board regions_in) g.memory_len && (counts_test && rest_test)))
        five_left =
            ap (λ (t : Bool). t && (loans_test && (regions_test && (counts_test && rest_test)))) rows_left
            ∙ ap (λ (t : Bool). last_test && (t && (regions_test && (counts_test && rest_test)))) loans_left
            ∙ ap (λ (t : Bool). last_test && (leb (board.page * managed_pages board regions_in) g.memory_len
            && (t && (counts_test && rest_test)))) regions_pass

        module _ (seen : Surveyed) (h : Found board records g.rows seen) where
          counts_found : counts_as g.counters seen ≡ counts_test
          counts_found = rw (h.idle, h.total, h.kernel, h.page)

          -- the tests that are made of what the survey found
          abbrev pub found_tests : Bool
          found_tests = ((leb seen.total 1048576 && not (overlap board regions_in)) && leb (board.page * seen.managed) g.memory_len)
              && counts_as g.counters seen

          pub others_decide : (r : Bool) → r ≡ (found_tests && rest_test) → Answers r
          others_decide r e =
              exact r
              (e
              ∙ ap
              (λ (t : ℕ). (((leb t 1048576 && not (overlap board regions_in)) && leb (board.page * seen.managed) g.memory_len)
              && counts_as g.counters seen) && rest_test)
              h.total
              ∙ ap₂
              (λ (m : ℕ) (t : Bool). (((leb (total regions_in) 1048576 && not (overlap board regions_in))
              && leb (board.page * m) g.memory_len) && t) && rest_test)
              h.manages
              counts_found
              ∙ sym
              (in_order
              (not (overlap board regions_in))
              (leb (total regions_in) 1048576)
              (leb (board.page * managed_pages board regions_in) g.memory_len)
              counts_test
              rest_test)
              ∙ sym five_left)
