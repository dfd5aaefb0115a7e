-- The book that demand 3 keeps of a list of calls: the held frames and the queue, as an onlooker has them who "sees arguments, acceptance and
-- granted address". 01 has its rules before "Common ground and departures".
use Rattle.std.specs.Prelude.{ℕ, zero, suc, ◌+◌, ◌/◌, ◌%◌, Bool, cond, List, [], ◌∷◌, ◌++◌, eqb}
use Rattle.std.proofs.Math.Option.{Option, none, some}
use Rattle.definition.specs.declared.Counters.{Counters}
use Rattle.definition.specs.Board.{Board}
use Rattle.definition.specs.Basics.{Popped, pop_back}
use Rattle.definition.specs.Frame.{size, child_count}
use Rattle.definition.specs.Allocator.{AllocationRegion, total}
use Rattle.definition.specs.Boot.{counters_at_boot}
use Rattle.definition.specs.Tracker.{count_alloc, should_reclaim}
use Rattle.definition.specs.Calls.{
  Layout,
  find_level,
  Call,
  Alloc,
  Take,
  Split,
  Free,
  Zero,
  Dirty,
  Find,
  Queue,
  Fill,
  Write,
  Read,
  Copy,
  Pcopy,
  Round,
  Lend,
  Back,
  Low,
  Stats,
  Answer,
  Refused,
  Done,
  Text,
  Bytes,
}

pub record Held : Type 0 where
  pub page : ℕ
  pub level : ℕ
  pub kernel : Bool

pub record Book : Type 0 where
  pub held : List Held
  pub queue : List ℕ
  -- the kept regions in order, without their lists
  pub regions : List AllocationRegion

abbrev pub empty_book : List AllocationRegion → Book
empty_book rs = record { held = []; queue = []; regions = rs }

abbrev pub with_held : Book → List Held → Book
with_held k held = record { held = held; queue = k.queue; regions = k.regions }

abbrev pub with_waiting : Book → List ℕ → Book
with_waiting k queue = record { held = k.held; queue = queue; regions = k.regions }

abbrev pub with_regions : Book → List AllocationRegion → Book
with_regions k regions = record { held = k.held; queue = k.queue; regions = regions }

-- so many pieces of a level, from a page on
unfoldable pub pieces : ℕ → ℕ → ℕ → Bool → List Held
pieces zero p l kernel = []
pieces (suc n) p l kernel = record { page = p; level = l; kernel = kernel } ∷ pieces n (p + size l) l kernel

abbrev pub pieces_of : ℕ → Held → List Held
pieces_of zero h = h ∷ []
pieces_of (suc l) h = pieces child_count h.page l h.kernel

-- "`split` above level 0 makes it 512 pieces, KERNEL alike"
abbrev pub broken : Held → List Held
broken h = pieces_of h.level h

abbrev pub struck : Held → List Held
struck h = []

-- the held frame starting at the page, if any, replaced by what g makes of it
unfoldable pub replace : (Held → List Held) → ℕ → List Held → List Held
replace g p [] = []
replace g p (h ∷ hs) = cond (eqb h.page p) (g h ++ hs) (h ∷ replace g p hs)

-- the same by address: a frame starts on a page edge only
abbrev pub replace_at : Board → (Held → List Held) → ℕ → Book → Book
replace_at b g a k = cond (eqb (a % b.page) 0) (with_held k (replace g (a / b.page) k.held)) k

abbrev pub newly_held : Board → Layout → ℕ → Held
newly_held b y a = record { page = a / b.page; level = find_level b y; kernel = y.flags.kernel }

-- ---- "`round`, if low by the book (idle = the kept regions' pages − held), takes up to 100 off the queue's end and does `free` on each"

abbrev pub counted : Held → Counters → Counters
counted h c = count_alloc (size h.level) h.kernel c

unfoldable pub counters_of : ℕ → List Held → Counters
counters_of pages [] = counters_at_boot pages
counters_of pages (h ∷ hs) = counted h (counters_of pages hs)

abbrev pub free_next : Board → (Book → Book) → Book → Option Popped → Book
free_next b next k none = k
free_next b next k (some e) = next (replace_at b struck e.last (with_waiting k e.rest))

unfoldable pub free_up_to : Board → ℕ → Book → Book
free_up_to b zero k = k
free_up_to b (suc n) k = free_next b (free_up_to b n) k (pop_back k.queue)

abbrev pub round_of : Board → Book → Book
round_of b k = cond (should_reclaim b (counters_of (total k.regions) k.held)) (free_up_to b b.per_round k) k

-- what an accepted call makes of the book; `a` is the address that the call was answered
abbrev pub note : Board → Book → Call → ℕ → Book
note b k (Alloc y) a = with_held k (newly_held b y a ∷ k.held)
note b k (Take y) a = with_held k (broken (newly_held b y a) ++ k.held)
note b k (Split x) a = replace_at b broken x k
note b k (Free x) a = replace_at b struck x k
note b k (Zero x) a = k
note b k (Dirty x) a = k
note b k (Find x) a = k
note b k (Queue x) a = with_waiting k (k.queue ++ (x ∷ []))
note b k (Fill x off len byte) a = k
note b k (Write x off bytes) a = k
note b k (Read x off len) a = k
note b k (Copy dst doff src soff len) a = k
note b k (Pcopy dst doff src len) a = k
note b k Round a = round_of b k
note b k (Lend n) a = k
note b k (Back n) a = k
note b k Low a = k
note b k Stats a = k

-- "All else, and every refused call, changes nothing"
abbrev pub note_answer : Board → Book → Call → Answer → Book
note_answer b k c (Refused r) = k
note_answer b k c (Done a n) = note b k c a
note_answer b k c (Text t) = k
note_answer b k c (Bytes t) = k
