-- The counters, grants and frees with their bookkeeping, statistics, and reclaim, after tracker.rs.
use Rattle.std.specs.Prelude.{ℕ, zero, suc, ◌+◌, ◌-◌, ◌*◌, ◌/◌, ◌%◌, ◌^◌, Bool, not, cond, ◌&&◌, ◌||◌, List, ◌++◌, leb, ltb, eqb}
use Rattle.std.proofs.Math.Option.{Option, none, some}
use Rattle.definition.specs.declared.Counters.{Counters}
use Rattle.definition.specs.declared.Pass.{Pass}
use Rattle.definition.specs.declared.FrameAllocFlags.{FrameAllocFlags}
use Rattle.definition.specs.Board.{Board}
use Rattle.definition.specs.Basics.{is_some, Popped, pop_back}
use Rattle.definition.specs.Frame.{Frame, size, is_allocated, with_kernel, split_and_keep}
use Rattle.definition.specs.Allocator.{Allocated, do_alloc, free_in, is_managed}
use Rattle.definition.specs.Store.{Store, with_allocator, with_frames, with_counters, with_queue, with_pass, mark}
use Rattle.definition.specs.Contents.{is_zeroed_at, zero_frame, set_not_zero}
use Rattle.definition.specs.Text.{bytes_of, digits_of}

-- 01: "`allocated`, `freed`, `reclaimed` and `pager_outstanding` wrap upwards"
abbrev pub wrap : ℕ → ℕ
wrap n = n % 2 ^ 64

-- 69 to 80: so many pages were granted, for the kernel or not
unfoldable pub count_alloc : ℕ → Bool → Counters → Counters
count_alloc n kernel c =
    record {
      kernel_used = c.kernel_used + cond kernel n 0;
      page_data = c.page_data + cond kernel 0 n;
      idle = c.idle - n;
      total = c.total;
      allocated = wrap (c.allocated + n);
      freed = c.freed;
      reclaimed = c.reclaimed;
      waiting = c.waiting;
      pager_outstanding = c.pager_outstanding;
    }

-- 42 to 50: so many pages were freed
unfoldable pub count_free : ℕ → Bool → Counters → Counters
count_free n kernel c =
    record {
      kernel_used = c.kernel_used - cond kernel n 0;
      page_data = c.page_data - cond kernel 0 n;
      idle = c.idle + n;
      total = c.total;
      allocated = c.allocated;
      freed = wrap (c.freed + n);
      reclaimed = c.reclaimed;
      waiting = c.waiting;
      pager_outstanding = c.pager_outstanding;
    }

-- 212, track_reclaimed
unfoldable pub track_reclaimed : ℕ → Counters → Counters
track_reclaimed n c =
    record {
      kernel_used = c.kernel_used;
      page_data = c.page_data;
      idle = c.idle;
      total = c.total;
      allocated = c.allocated;
      freed = c.freed;
      reclaimed = wrap (c.reclaimed + n);
      waiting = c.waiting;
      pager_outstanding = c.pager_outstanding;
    }

abbrev pub with_pager_outstanding : ℕ → Counters → Counters
with_pager_outstanding n c =
    record {
      kernel_used = c.kernel_used;
      page_data = c.page_data;
      idle = c.idle;
      total = c.total;
      allocated = c.allocated;
      freed = c.freed;
      reclaimed = c.reclaimed;
      waiting = c.waiting;
      pager_outstanding = n;
    }

-- 216, track_frame_pager
unfoldable pub track_frame_pager : ℕ → Counters → Counters
track_frame_pager n c = with_pager_outstanding (wrap (c.pager_outstanding + n)) c

-- 220, untrack_frame_pager
unfoldable pub untrack_frame_pager : ℕ → Counters → Counters
untrack_frame_pager n c = with_pager_outstanding (c.pager_outstanding - n) c

-- ---- 40, MemoryTracker

abbrev pub freed_frame : Board → Store → ℕ → Option Frame → Store
freed_frame b s p none = s
freed_frame b s p (some f) =
    with_counters (with_allocator s (free_in b p s.allocator.frames s.allocator.regions))
    (count_free (size f.level) f.kernel s.counters)

-- 41, free_frame
unfoldable pub free_frame : Board → Store → ℕ → Store
free_frame b s p = freed_frame b s p (s.allocator.frames p)

-- what a grant leaves, and the page that it granted
pub record Granted : Type 0 where
  pub store : Store
  pub page : Option ℕ

-- frame.rs 586, alloc: a ZEROED grant trusts a frame marked ZEROED and zeroes any other
abbrev pub zero_if_asked : Board → Bool → Store → ℕ → Store
zero_if_asked b zeroed s p = cond (zeroed && not (is_zeroed_at s p)) (zero_frame b s p) s

-- frame.rs 715, raw_alloc_frame, clears the ZEROED mark; 73 to 80 set KERNEL as asked, and count so many pages
abbrev pub hand_over : Board → ℕ → FrameAllocFlags → Store → ℕ → Store
hand_over b pages flags s p =
    with_counters (mark (with_kernel flags.kernel) (set_not_zero (zero_if_asked b flags.zeroed s p) p) p)
    (count_alloc pages flags.kernel s.counters)

abbrev pub granted : Board → ℕ → FrameAllocFlags → Store → Allocated → Granted
granted b pages flags s a =
    elim a.page [
      | some p ↦ record { store = hand_over b pages flags (with_allocator s a.allocator) p; page = some p }
      | none ↦ record { store = s; page = none }
    ]

-- 55, try_alloc_frame, at the level that find_level found; 01: "Tracker counts follow the frame, not the layout's size"
unfoldable pub try_alloc_frame : Board → (ℕ → Bool) → ℕ → FrameAllocFlags → Store → Granted
try_alloc_frame b among l flags s = granted b (size l) flags s (do_alloc among l flags.zeroed s.allocator)

-- frame.rs 753, split_frame
unfoldable pub split_frame : Store → ℕ → Store
split_frame s p = with_frames s (split_and_keep s.allocator.frames p)

abbrev pub then_split_frame : Granted → Granted
then_split_frame g = elim g.page [ some p ↦ record { store = split_frame g.store p; page = some p } | none ↦ g ]

-- 98, try_alloc_split_frames
unfoldable pub try_alloc_split_frames : Board → (ℕ → Bool) → ℕ → FrameAllocFlags → Store → Granted
try_alloc_split_frames b among l flags s = then_split_frame (try_alloc_frame b among l flags s)

-- 173, page_cond
abbrev pub page_cond : Board → Counters → Bool
page_cond b c = leb (c.idle / b.idle_divisor) c.page_data

-- 166, kern_cond
abbrev pub kern_cond : Board → Counters → Bool
kern_cond b c = ltb c.idle (b.kernel_multiple * c.kernel_used)

-- 180, should_reclaim: the store is low
abbrev pub should_reclaim : Board → Counters → Bool
should_reclaim b c = page_cond b c || kern_cond b c

-- 235, print_tracker_stats; 01: "With total 0, percentages print 0"
abbrev pub percent : ℕ → ℕ → List ℕ
percent n total = digits_of (cond (eqb total 0) 0 (n * 100 / total)) ++ bytes_of "%"

unfoldable pub tracker_stats : Counters → List ℕ
tracker_stats c =
    bytes_of "memory status (in frames):\n"
    ++ bytes_of "       total: " ++ digits_of c.total
    ++ bytes_of " -- a: " ++ digits_of c.allocated
    ++ bytes_of " f: " ++ digits_of c.freed
    ++ bytes_of " r: " ++ digits_of c.reclaimed
    ++ bytes_of ", " ++ digits_of c.waiting ++ bytes_of " waiters\n"
    ++ bytes_of "        idle: " ++ digits_of c.idle ++ bytes_of " " ++ percent c.idle c.total ++ bytes_of "\n"
    ++ bytes_of "      kernel: " ++ digits_of c.kernel_used ++ bytes_of " " ++ percent c.kernel_used c.total ++ bytes_of "\n"
    ++ bytes_of "        page: " ++ digits_of c.page_data ++ bytes_of " " ++ percent c.page_data c.total
    ++ bytes_of " (" ++ digits_of c.pager_outstanding ++ bytes_of " loaned)\n"

-- ---- 407, reclaim_main

-- an address on a page edge where a frame starts
abbrev pub starts_frame : Board → Store → ℕ → Bool
starts_frame b s a = eqb (a % b.page) 0 && is_some (s.allocator.frames (a / b.page))

abbrev pub is_held : Board → Store → ℕ → Bool
is_held b s a = is_allocated (s.allocator.frames (a / b.page))

-- 01: "An address that can't be freed is dropped"
abbrev pub can_be_freed : Board → Store → ℕ → Bool
can_be_freed b s a = is_managed b s.allocator.regions (a / b.page) && (starts_frame b s a && is_held b s a)

-- what a round leaves, and the frames that it freed
pub record Reclaimed : Type 0 where
  pub store : Store
  pub freed : ℕ

abbrev pub one_more : Reclaimed → Reclaimed
one_more r = record { store = r.store; freed = r.freed + 1 }

abbrev pub free_or_drop : Board → (Store → Reclaimed) → Store → Option Popped → Reclaimed
free_or_drop b next s none = record { store = s; freed = 0 }
free_or_drop b next s (some e) =
    let t = with_queue s e.rest in
    cond (can_be_freed b t e.last) (one_more (next (free_frame b t (e.last / b.page)))) (next t)

-- 429: up to so many addresses off the queue's end, each freed
unfoldable pub reclaim_up_to : Board → ℕ → Store → Reclaimed
reclaim_up_to b zero s = record { store = s; freed = 0 }
reclaim_up_to b (suc k) s = free_or_drop b (reclaim_up_to b k) s (pop_back s.queue)

-- what a round reports: the pass's worked rounds and freed frames, and the store that it leaves
pub record Reported : Type 0 where
  pub store : Store
  pub pass : Pass

-- 457: the end of a pass
abbrev pub end_pass : Store → Pass → Reported
end_pass s p =
    record { store = with_pass (with_counters s (track_reclaimed p.freed s.counters)) (record { rounds = 0; freed = 0 }); pass = p }

abbrev pub go_on : Store → Pass → Reported
go_on s p = record { store = with_pass s p; pass = p }

abbrev pub worked : Pass → ℕ → Pass
worked p n = record { rounds = p.rounds + 1; freed = p.freed + n }

-- 442: "rounds > MAX_RECLAIM_ROUNDS", of the rounds before this one
abbrev pub after_round : Board → Pass → Reclaimed → Reported
after_round b p r = cond (ltb b.max_rounds p.rounds) (end_pass r.store (worked p r.freed)) (go_on r.store (worked p r.freed))

-- 419 to 457: one turn of the loop; a call that finds the store not low ends the pass
unfoldable pub reclaim_round : Board → Store → Reported
reclaim_round b s =
    cond (should_reclaim b s.counters) (after_round b s.pass (reclaim_up_to b b.per_round s)) (end_pass s s.pass)
