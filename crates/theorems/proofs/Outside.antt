-- No call writes a byte that no region manages: what is 0 there stays 0, because a call writes inside the frame that it names, and a frame lies in its region. A
-- reader takes from here `step_elsewhere`, the hypothesis of `decode_encode` kept from call to call, and `boot_elsewhere`, that a boot begins with it.
use Prim.Native.Nat.{ℕ, zero, suc, ◌+◌, ◌-◌, ◌*◌, ◌/◌, ◌≤◌, ◌<◌}
use mathlib.Core.Bool.{Bool, true, false, not, cond, ◌&&◌, false≢true}
use mathlib.Core.List.{List, [], ◌∷◌}
use mathlib.Core.Option.{Option, none, some, none-ne-some}
use mathlib.Core.Path.{◌≡◌, refl, sym, ap, ◌∙◌}
use native.Mathlib.Omega.{arith}
use lib.Dec.{ltb, eqb}
use lib.ListN.{length}
use Rattle.definition.proofs.Boards.{page_positive}
use Rattle.definition.proofs.Bytes.{page_below, page_reached}
use Rattle.definition.proofs.Passing.{Passed, passed}
use Rattle.definition.specs.declared.FrameAllocFlags.{FrameAllocFlags}
use Rattle.definition.specs.declared.MemoryRegion.{MemoryRegion}
use Rattle.definition.specs.declared.Pass.{Pass}
use Rattle.definition.specs.declared.Refusal.{Refusal}
use Rattle.definition.specs.Board.{Board}
use Rattle.definition.specs.Basics.{everywhere, any, Popped, pop_back}
use Rattle.definition.specs.Frame.{Frame, with_zeroed}
use Rattle.definition.specs.Allocator.{AllocationRegion, PhysicalFrameAllocator, managed, contains, is_managed, do_alloc}
use Rattle.definition.specs.Boot.{kept_regions, boot}
use Rattle.definition.specs.Book.{Book, empty_book}
use Rattle.definition.specs.Refusal.{first_met}
use Rattle.definition.specs.Store.{Memory, Store, with_memory, with_queue, with_allocator, mark}
use Rattle.definition.specs.World.{number_in, byte_at, memory_of}
use Rattle.definition.specs.Contents.{
  within,
  filled,
  written,
  moved,
  frame_bytes,
  size_of,
  is_zeroed_at,
  zero_frame,
  set_not_zero,
  fill_frame,
  write_frame,
  zero_range,
  copy_contents_from,
  copy_contents_from_physaddr,
}
use Rattle.definition.specs.Tracker.{
  freed_frame,
  free_frame,
  granted,
  try_alloc_frame,
  split_frame,
  then_split_frame,
  try_alloc_split_frames,
  should_reclaim,
  can_be_freed,
  Reclaimed,
  one_more,
  free_or_drop,
  reclaim_up_to,
  end_pass,
  go_on,
  worked,
  after_round,
  reclaim_round,
}
use Rattle.definition.specs.Calls.{
  Call,
  Alloc,
  Take,
  Split,
  Free,
  Zero,
  Dirty,
  Find,
  Queue,
  Fill,
  Write,
  Read,
  Copy,
  Pcopy,
  Round,
  Lend,
  Back,
  Low,
  Stats,
  names,
  find_level,
  mine,
  sheet,
  hands,
  perform,
  unless_refused,
  step,
}
use Rattle.definition.specs.Board.{Fit}
use Rattle.world.proofs.Spans.{bare, bared, manages_spans}
use Rattle.bookkeeping.specs.Blocks.{emptied}
use Rattle.bookkeeping.specs.Good.{Good}
use Rattle.bookkeeping.proofs.Invariant.{within_facts, or-false}
use Rattle.bookkeeping.proofs.Sheets.{named}
use Rattle.theorems.proofs.Heads.{frame_managed, good_kept}
use Rattle.theorems.proofs.Decoded.{ZeroElsewhere}

-- ---- which calls could write the byte at an address

zero_either : (t : Bool) (n : ℕ) → n ≡ 0 → cond t 0 n ≡ 0
zero_either true n e = refl
zero_either false n e = e

module _ (b : Board) (a : ℕ) where
  -- grants zero a frame or write nothing

  grant_zero
      : (n : ℕ) (flags : FrameAllocFlags) (s : Store) (x : PhysicalFrameAllocator) (o : Option ℕ) → s.memory a ≡ 0
      → (granted b n flags s (record { allocator = x; page = o })).store.memory a ≡ 0
  unfolding set_not_zero zero_frame filled
  grant_zero n flags s x none z = z
  grant_zero n flags s x (some p) z = go (flags.zeroed && not (is_zeroed_at (with_allocator s x) p))
    where
      go : (t : Bool) → (cond t (zero_frame b (with_allocator s x) p) (with_allocator s x)).memory a ≡ 0
      go true = zero_either (within (b.page * p) (frame_bytes b (with_allocator s x) p) a) (s.memory a) z
      go false = z

  alloc_zero : (l : ℕ) (flags : FrameAllocFlags) (s : Store) → s.memory a ≡ 0 → (try_alloc_frame b everywhere l flags s).store.memory a ≡ 0
  unfolding try_alloc_frame
  alloc_zero l flags s z = let x = do_alloc everywhere l flags.zeroed s.allocator in grant_zero _ flags s x.allocator x.page z

  then_memory : (t : Store) (o : Option ℕ) → (then_split_frame (record { store = t; page = o })).store.memory ≡ t.memory
  unfolding split_frame
  then_memory t none = refl
  then_memory t (some p) = refl

  take_zero : (l : ℕ) (flags : FrameAllocFlags) (s : Store) → s.memory a ≡ 0 → (try_alloc_split_frames b everywhere l flags s).store.memory a ≡ 0
  unfolding try_alloc_split_frames
  take_zero l flags s z =
      let t = try_alloc_frame b everywhere l flags s in ap (λ (m : Memory). m a) (then_memory t.store t.page) ∙ alloc_zero l flags s z

  hands_memory : (l : ℕ) (t : Store) (o : Option ℕ) → (hands b l (record { store = t; page = o })).store.memory ≡ t.memory
  hands_memory l t none = refl
  hands_memory l t (some p) = refl

  -- frees and rounds write nothing

  free_memory : (s : Store) (p : ℕ) → (free_frame b s p).memory ≡ s.memory
  unfolding free_frame
  free_memory s p = go (s.allocator.frames p)
    where
      go : (o : Option Frame) → (freed_frame b s p o).memory ≡ s.memory
      go none = refl
      go (some f) = refl

  sweep_memory : (n : ℕ) (s : Store) → (reclaim_up_to b n s).store.memory ≡ s.memory
  unfolding reclaim_up_to
  sweep_memory zero s = refl
  sweep_memory (suc n) s = go (λ t. sweep_memory n t) (pop_back s.queue)
    where
      go : ((t : Store) → (reclaim_up_to b n t).store.memory ≡ t.memory) → (o : Option Popped) → (free_or_drop b (reclaim_up_to b n) s o).store.memory ≡ s.memory
      go more none = refl
      go more (some e) = on (can_be_freed b (with_queue s e.rest) e.last)
        where
          on
              : (t : Bool)
              → let q = with_queue s e.rest in
              (cond t (one_more (reclaim_up_to b n (free_frame b q (e.last / b.page)))) (reclaim_up_to b n q)).store.memory ≡ s.memory
          on true = more (free_frame b (with_queue s e.rest) (e.last / b.page)) ∙ free_memory (with_queue s e.rest) (e.last / b.page)
          on false = more (with_queue s e.rest)

  after_memory : (p : Pass) (r : Reclaimed) → (after_round b p r).store.memory ≡ r.store.memory
  after_memory p r = go (ltb b.max_rounds p.rounds)
    where
      go : (t : Bool) → (cond t (end_pass r.store (worked p r.freed)) (go_on r.store (worked p r.freed))).store.memory ≡ r.store.memory
      go true = refl
      go false = refl

  round_memory : (s : Store) → (reclaim_round b s).store.memory ≡ s.memory
  unfolding reclaim_round
  round_memory s = go (should_reclaim b s.counters)
    where
      go : (t : Bool) → (cond t (after_round b s.pass (reclaim_up_to b b.per_round s)) (end_pass s s.pass)).store.memory ≡ s.memory
      go true = after_memory s.pass (reclaim_up_to b b.per_round s) ∙ sweep_memory b.per_round s
      go false = refl

  -- what writes anything else does so in a range of a frame

  module _ (s : Store) (z : s.memory a ≡ 0)
      (off-frames : (p off len : ℕ) → off + len ≤ frame_bytes b s p → within (b.page * p + off) len a ≡ false) where
    range_zero : (p off len : ℕ) → (zero_range b s p off len).memory a ≡ 0
    unfolding zero_range filled
    range_zero p off len = go (eqb off 0 && eqb len (frame_bytes b s p))
      where
        go
            : (t : Bool)
            → let cleared = with_memory s (λ c. cond (within (b.page * p + off) len c) 0 (s.memory c)) in
            (cond t (mark (with_zeroed true) cleared p) cleared).memory a ≡ 0
        go true = zero_either (within (b.page * p + off) len a) (s.memory a) z
        go false = zero_either (within (b.page * p + off) len a) (s.memory a) z

    copy_zero : (p doff q soff len : ℕ) → doff + len ≤ frame_bytes b s p → (copy_contents_from b s p doff q soff len).memory a ≡ 0
    unfolding copy_contents_from set_not_zero moved
    copy_zero p doff q soff len h = go (is_zeroed_at s q) (is_zeroed_at s p)
      where
        go
            : (t u : Bool)
            → let copied = with_memory s (λ c. cond (within (b.page * p + doff) len c) (s.memory (b.page * q + soff + (c - (b.page * p + doff)))) (s.memory c)) in
            (cond t (cond u s (zero_range b s p doff len)) (set_not_zero copied p)).memory a ≡ 0
        go true true = z
        go true false = range_zero p doff len
        go false u = rw (off-frames p doff len h) z

    perform_zero : (c : Call) → Passed b s (names c) → (perform b s c).store.memory a ≡ 0
    unfolding perform mine split_frame zero_frame set_not_zero fill_frame write_frame copy_contents_from_physaddr filled written moved
    perform_zero (Alloc y) x =
        let t = try_alloc_frame b everywhere (find_level b y) y.flags s in
        ap (λ (m : Memory). m a) (hands_memory (find_level b y) t.store t.page) ∙ alloc_zero (find_level b y) y.flags s z
    perform_zero (Take y) x =
        let t = try_alloc_split_frames b everywhere (find_level b y) y.flags s in
        ap (λ (m : Memory). m a) (hands_memory (find_level b y) t.store t.page) ∙ take_zero (find_level b y) y.flags s z
    perform_zero (Split p) x = z
    perform_zero (Free p) x = ap (λ (m : Memory). m a) (free_memory s (p / b.page)) ∙ z
    perform_zero (Zero p) x = zero_either (within (b.page * (p / b.page)) (frame_bytes b s (p / b.page)) a) (s.memory a) z
    perform_zero (Dirty p) x = z
    perform_zero (Find p) x = z
    perform_zero (Queue p) x = z
    perform_zero (Fill p off len byte) x = rw (off-frames (p / b.page) off len (named b s (names (Fill p off len byte)) _ [] refl x).range) z
    perform_zero (Write p off bytes) x = rw (off-frames (p / b.page) off (length bytes) (named b s (names (Write p off bytes)) _ [] refl x).range) z
    perform_zero (Read p off len) x = z
    perform_zero (Copy dst doff src soff len) x =
        copy_zero (dst / b.page) doff (src / b.page) soff len (named b s (names (Copy dst doff src soff len)) _ _ refl x).range
    perform_zero (Pcopy dst doff src len) x =
        rw (off-frames (dst / b.page) doff len (named b s (names (Pcopy dst doff src len)) _ [] refl x).range) z
    perform_zero Round x = ap (λ (m : Memory). m a) (round_memory s) ∙ z
    perform_zero (Lend n) x = z
    perform_zero (Back n) x = z
    perform_zero Low x = z
    perform_zero Stats x = z

    step_zero : (c : Call) → (step b s c).store.memory a ≡ 0
    unfolding step
    step_zero c = go (first_met (sheet b s (names c))) refl
      where
        go : (o : Option Refusal) → first_met (sheet b s (names c)) ≡ o → (unless_refused s o (perform b s c)).store.memory a ≡ 0
        go none e = perform_zero c (passed b s (names c) e)
        go (some r) e = z

-- ---- the frames of a good store are managed

module _ {board : Board} (fit : Fit board) where
  module _ {s : Store} {k : Book} (G : Good board s k) where
    frame_in_lem : (p q : ℕ) (o : Option Frame) → s.allocator.frames p ≡ o → p ≤ q → q < p + size_of o → is_managed board s.allocator.regions q ≡ true
    frame_in_lem p q none e l h = absurd (omega arith)
    frame_in_lem p q (some f) e l h = go (is_managed board s.allocator.regions p) refl
      where
        go : (t : Bool) → is_managed board s.allocator.regions p ≡ t → is_managed board s.allocator.regions q ≡ true
        go true i = frame_managed (good_kept G) p q f i e l h
        go false i = absurd (none-ne-some f (sym (G.bare p i) ∙ e))

    apart_from : (a : ℕ) → is_managed board s.allocator.regions (a / board.page) ≡ false → (p off len : ℕ) → off + len ≤ frame_bytes board s p
        → within (board.page * p + off) len a ≡ false
    apart_from a n p off len h = go (within (board.page * p + off) len a) refl
      where
        go : (t : Bool) → within (board.page * p + off) len a ≡ t → t ≡ false
        go false e = refl
        go true e =
            let x = within_facts (board.page * p + off) len a e in
            absurd (false≢true (sym n ∙ frame_in_lem p (a / board.page) (s.allocator.frames p) refl
            (page_reached board.page (page_positive fit) (omega arith)) (page_below board.page (omega arith))))

-- ---- the regions manage what the book's do

pub emptied_bared : (rs : List AllocationRegion) → emptied rs ≡ bared rs
unfolding emptied
emptied_bared [] = refl
emptied_bared (r ∷ rs) = ap (λ (l : List AllocationRegion). bare r ∷ l) (emptied_bared rs)

module _ {board : Board} where
  pub same_managed : {s : Store} {k : Book} → Good board s k → (p : ℕ)
      → is_managed board s.allocator.regions p ≡ is_managed board k.regions p
  same_managed {s = s} G p =
      let rs = s.allocator.regions in
      sym ((manages_spans board p).same rs) ∙ ap (λ (l : List AllocationRegion). is_managed board l p) (sym (emptied_bared rs) ∙ G.regions)

module _ {board : Board} (fit : Fit board) where
  -- a call keeps the bytes that no region manages at 0
  pub step_elsewhere : {s t : Store} {j k : Book} (c : Call) → Good board s j → (step board s c).store ≡ t → Good board t k
      → k.regions ≡ j.regions → ZeroElsewhere board s → ZeroElsewhere board t
  step_elsewhere {s = s} c G e H same Z a n =
      let p = a / board.page in
      let m : is_managed board s.allocator.regions p ≡ false =
      same_managed G p ∙ (ap (λ (l : List AllocationRegion). is_managed board l p) (sym same) ∙ (sym (same_managed H p) ∙ n)) in
      rw (← e) (step_zero board a s (Z a m) (apart_from fit G a m) c)

module _ (board : Board) where
  -- a boot has 0 there: only managed pages have a byte in the loan
  number_none : (base : ℕ) (rs : List AllocationRegion) (p : ℕ) → is_managed board rs p ≡ false → number_in board base rs p ≡ none
  unfolding is_managed any number_in
  number_none base [] p e = refl
  number_none base (r ∷ rs) p e =
      let x = or-false (contains board r p) (is_managed board rs p) e in
      rw x.0 (number_none (base + managed board r) rs p x.1)

module _ {board : Board} where
  pub boot_elsewhere : (map : List MemoryRegion) (bytes : List ℕ) (room : ℕ)
      → Good board (boot board map (memory_of board bytes (kept_regions board map)) room) (empty_book (kept_regions board map))
      → ZeroElsewhere board (boot board map (memory_of board bytes (kept_regions board map)) room)
  unfolding boot
  boot_elsewhere map bytes room G a n =
      ap (byte_at board bytes a) (number_none board 0 (kept_regions board map) (a / board.page) (sym (same_managed G (a / board.page)) ∙ n))
