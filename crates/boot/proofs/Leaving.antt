-- What a boot leaves and answers: where the sheet refuses, the refusal and the world as it was (`boots_refused`); else the store that the
-- map makes, written over the world (`boots_done`), of which everything past the managed pages, the memory and the queue's places stay.
use Prim.Native.Nat.{ℕ, ◌*◌, ◌≤◌, ◌<◌}
use mathlib.Core.Bool.{false}
use mathlib.Core.List.{List, [], ◌∷◌}
use mathlib.Core.Option.{Option, none, some}
use mathlib.Core.Path.{◌≡◌, refl, sym, ap, ap₂, ◌∙◌}
use native.Mathlib.Omega.{arith}
use borrow.Author.Tests.{leb-true}
use lib.Dec.{leb}
use lib.ListN.{length, get_or}
use Rattle.definition.specs.declared.MemoryRegion.{MemoryRegion}
use Rattle.definition.specs.declared.Row.{Row}
use Rattle.definition.specs.declared.Refusal.{Refusal}
use Rattle.definition.specs.Basics.{any, sum}
use Rattle.definition.specs.Board.{Board}
use Rattle.definition.specs.Allocator.{AllocationRegion, PhysicalFrameAllocator, total}
use Rattle.definition.specs.Boot.{boot, boot_sheet, boot_with, counters_at_boot, ends_far, kept_regions, managed_pages, record_size}
use Rattle.definition.specs.Calls.{Answer as AnswerOf, Refused, Done}
use Rattle.definition.specs.Refusal.{first_met}
use Rattle.definition.specs.Store.{Store}
use Rattle.definition.specs.World.{World, bare_region, encode, memory_of, record_at, used_rows}
use Rattle.definition.specs.Torn.{Left, bare_regions, boot_call, booted, loans_long, regions_of, unless_refused}
use Rattle.definition.proofs.Bytes.{pages_same}
use Rattle.definition.proofs.Tests.{and_right}
use Rattle.record.specs.Records.{pages_in}
use Rattle.definition.specs.Board.{Fit}
use Rattle.world.specs.Stands.{Stands}
use Rattle.world.proofs.Encoding.{ends_agree, stands_encode}
use Rattle.world.proofs.Memory.{memory_back}
use Rattle.world.proofs.Spans.{OfSpans, bared, managed_spans, memory_same}
use Rattle.std.specs.Prelude.{Ok, Err}
use Rattle.exam.specs.Promise.{reply, told}
use Rattle.boot.specs.Booting.{Boots, eight, kept_rows, lay_rows}
use Rattle.boot.proofs.KeptRows.{kept_spans, kept_used}
use Rattle.boot.proofs.OneByOne.{LaysEight}
use Rattle.boot.proofs.Laying.{laid_bare, new_laid}
use Rattle.boot.proofs.Sheet.{Admitted}

module _ {board : Board} where
  boots_as : (ms : List MemoryRegion) (w v : World) (y : AnswerOf) → boot_call board ms w ≡ record { world = v; answer = y }
      → Boots board ms w v (told y)
  boots_as ms w v y e = record { world = ap (λ (l : Left). l.world) e; answer = ap (λ (l : Left). told l.answer) e }

  module _ (ms : List MemoryRegion) (w : World) where
    pub boots_refused
        : (r : Refusal) → first_met (boot_sheet board ms (length w.records) (length w.memory)) ≡ some r → Boots board ms w w (Err r)
    unfolding boot_call
    boots_refused r e = boots_as ms w w (Refused r) (ap (λ (o : Option Refusal). unless_refused w o (booted board ms w)) e)

    pub boots_accepted
        : (v : World) → first_met (boot_sheet board ms (length w.records) (length w.memory)) ≡ none
        → encode board (boot board ms (memory_of board w.memory (kept_regions board ms)) (length w.queue)) w ≡ v
        → Boots board ms w v (Ok (reply 0 (board.page * managed_pages board (kept_regions board ms))))
    unfolding boot_call
    boots_accepted v e d =
        boots_as ms w v (Done 0 (board.page * managed_pages board (kept_regions board ms)))
        (ap (λ (o : Option Refusal). unless_refused w o (booted board ms w)) e
        ∙ ap (λ (x : World). record { world = x; answer = Done 0 (board.page * managed_pages board (kept_regions board ms)) }) d)

-- ---- what is said of regions by their starts and pages

total_spans : OfSpans total
unfolding sum
total_spans = record { same = go }
  where
    go : (rs : List AllocationRegion) → total (bared rs) ≡ total rs
    go [] = refl
    go (r ∷ rs) = rw (go rs)

module _ (board : Board) where
  bare_twice : (rows : List Row) → bared (bare_regions board rows) ≡ bare_regions board rows
  unfolding bare_regions
  bare_twice [] = refl
  bare_twice (row ∷ rows) = ap (λ (rs : List AllocationRegion). bare_region board row ∷ rs) (bare_twice rows)

  module _ {A : Type 0} {F : List AllocationRegion → A} (S : OfSpans F) (rows : List Row) where
    laid_spans : F (lay_rows board rows).regions ≡ F (bare_regions board rows)
    laid_spans = sym (S.same (lay_rows board rows).regions) ∙ ap F (laid_bare board rows)

-- ---- the world that an accepted boot leaves

module _
    {board : Board} (w : World) (rows laid : List Row) (records : List ℕ) (pages : ℕ)
    (A : Admitted board rows (length w.records) (length w.memory))
    (Y : LaysEight board (record_at w.records) rows (record_at records) (pages_in records) laid)
    (as_long : length records ≡ length w.records)
    (small : (i : ℕ) → get_or w.records i 0 < 256) (small' : (i : ℕ) → get_or records i 0 < 256)
    (counted : pages ≡ total (regions_of board rows))
  where
    abbrev after : World
    after =
        record {
          rows = laid;
          counters = counters_at_boot pages;
          queued = 0;
          pass = record { rounds = 0; freed = 0 };
          records = records;
          memory = w.memory;
          queue = w.queue;
        }

    abbrev store : Store
    store = boot_with (lay_rows board (used_rows rows)) (memory_of board w.memory (regions_of board rows)) (length w.queue)

    managed_is : managed_pages board (lay_rows board (used_rows rows)).regions ≡ managed_pages board (regions_of board rows)
    managed_is = laid_spans board (managed_spans board) (used_rows rows)

    fits : board.page * managed_pages board (regions_of board rows) ≤ length w.memory
    unfolding loans_long
    fits =
        let m = managed_pages board (regions_of board rows) in
        leb-true (board.page * m) (length w.memory) (and_right (leb (record_size * m) (length w.records)) _ A.long)

    stands : Stands board after store
    stands =
        record {
          eight = Y.eight;
          unused = Y.unused;
          rows = Y.stands;
          counters = ap counters_at_boot (laid_spans board total_spans (used_rows rows) ∙ sym counted);
          pass = refl;
          queue = refl;
          queued = omega arith;
          room = refl;
          fits = omega (arith, fits, pages_same board.page managed_is);
          memory =
              memory_same board (regions_of board rows) (lay_rows board (used_rows rows)).regions
              (laid_bare board (used_rows rows) ∙ sym (bare_twice board (used_rows rows)))
              (memory_of board w.memory (regions_of board rows)) w.memory
              (memory_back board w.memory (regions_of board rows) fits A.apart);
        }

    written : encode board store w ≡ after
    written =
        stands_encode w after store stands small'
        (ends_agree records w.records (managed_pages board (lay_rows board (used_rows rows)).regions) as_long small' small
        (λ q h. Y.outside q (omega (arith, managed_is))))
        refl
        refl

    module _ (fit : Fit board) (ms : List MemoryRegion) (near : any ends_far ms ≡ false) (kept : rows ≡ eight (kept_rows board ms)) where
      same_used : used_rows rows ≡ kept_rows board ms
      same_used = rw kept (kept_used fit ms near)

      same_spans : regions_of board rows ≡ kept_regions board ms
      same_spans = rw kept (kept_spans fit ms near)

      store_is : boot board ms (memory_of board w.memory (kept_regions board ms)) (length w.queue) ≡ store
      unfolding boot
      store_is =
          ap₂ (λ (a : PhysicalFrameAllocator) (rs : List AllocationRegion). boot_with a (memory_of board w.memory rs) (length w.queue))
          (new_laid fit ms ∙ ap (lay_rows board) (sym same_used))
          (sym same_spans)

      pub boots_done
          : (managed : ℕ) → managed ≡ managed_pages board (regions_of board rows)
          → first_met (boot_sheet board ms (length w.records) (length w.memory)) ≡ none
          → Boots board ms w after (Ok (reply 0 (board.page * managed)))
      boots_done managed e z =
          rw (e, same_spans) (boots_accepted ms w after z (ap (λ (s : Store). encode board s w) store_is ∙ written))
