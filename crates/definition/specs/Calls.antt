-- The calls: what each names, which refusal it meets, and what it does where it meets none.
use Rattle.std.specs.Prelude.{ℕ, zero, suc, ◌+◌, ◌-◌, ◌*◌, ◌/◌, ◌^◌, Bool, not, cond, ◌&&◌, ◌||◌, List, [], ◌∷◌, ◌++◌, leb, ltb, eqb, length}
use Rattle.std.proofs.Math.Option.{Option, none, some}
use Rattle.definition.specs.declared.FrameAllocFlags.{FrameAllocFlags}
use Rattle.definition.specs.declared.Refusal.{Refusal}
use Rattle.definition.specs.declared.Refusal.TheVariants.{
  BadLayout,
  NoLevel,
  NoFrame,
  MustWait,
  Outside,
  NoFrameStart,
  NotHeld,
  PastTheEnd,
  PagerLow,
  QueueFull,
}
use Rattle.definition.specs.Board.{Board}
use Rattle.definition.specs.Basics.{any, range, bit, everywhere}
use Rattle.definition.specs.Refusal.{number_of, Test, ◌when◌, first_met}
use Rattle.definition.specs.Frame.{size, levels}
use Rattle.definition.specs.Allocator.{contains, end, is_managed, is_listed}
use Rattle.definition.specs.Store.{Store, with_counters, with_queue}
use Rattle.definition.specs.Contents.{
  frame_bytes,
  zero_frame,
  set_not_zero,
  fill_frame,
  write_frame,
  copy_contents_from,
  copy_contents_from_physaddr,
  bytes_at,
}
use Rattle.definition.specs.Tracker.{
  Granted,
  try_alloc_frame,
  try_alloc_split_frames,
  free_frame,
  split_frame,
  track_frame_pager,
  untrack_frame_pager,
  should_reclaim,
  tracker_stats,
  starts_frame,
  is_held,
  Reported,
  reclaim_round,
}

-- what a grant asks for
pub record Layout : Type 0 where
  pub size : ℕ
  pub align : ℕ
  pub flags : FrameAllocFlags

-- the calls after a boot, in the order of 01's script, with `write` and `read`; a frame is named by its address
pub data Call : Type 0 where
  Alloc : Layout → Call
  -- try_alloc_split_frames
  Take : Layout → Call
  Split : (address : ℕ) → Call
  Free : (address : ℕ) → Call
  Zero : (address : ℕ) → Call
  Dirty : (address : ℕ) → Call
  Find : (address : ℕ) → Call
  Queue : (address : ℕ) → Call
  Fill : (address offset length byte : ℕ) → Call
  Write : (address offset : ℕ) → List ℕ → Call
  Read : (address offset length : ℕ) → Call
  Copy : (target targetOffset source sourceOffset length : ℕ) → Call
  -- from a physical address
  Pcopy : (target targetOffset source length : ℕ) → Call
  Round : Call
  Lend : ℕ → Call
  Back : ℕ → Call
  Low : Call
  Stats : Call

-- a refusal; or two numbers, an address and bytes as 01's script prints them; or a text; or the bytes that were read
pub data Answer : Type 0 where
  Refused : Refusal → Answer
  Done : (address bytes : ℕ) → Answer
  Text : List ℕ → Answer
  Bytes : List ℕ → Answer

-- an answer's number: 0, or the refusal's
abbrev pub answer_number : Answer → ℕ
answer_number (Refused r) = number_of r
answer_number (Done address bytes) = 0
answer_number (Text t) = 0
answer_number (Bytes t) = 0

-- ---- what a call names

-- length bytes from an offset into what an address names
pub record Range : Type 0 where
  pub address : ℕ
  pub offset : ℕ
  pub length : ℕ

pub record Names : Type 0 where
  pub layouts : List Layout
  -- frames that must be held, with the range asked of each
  pub frames : List Range
  -- what need only be managed: a lookup, a physical source
  pub places : List Range
  -- pages that the pager gives back
  pub returned : List ℕ
  -- addresses that go into the queue
  pub queued : List ℕ

abbrev pub nothing_named : Names
nothing_named = record { layouts = []; frames = []; places = []; returned = []; queued = [] }

abbrev pub with_layouts : Names → List Layout → Names
with_layouts n ys = record { layouts = ys; frames = n.frames; places = n.places; returned = n.returned; queued = n.queued }

abbrev pub with_ranges : Names → (frames places : List Range) → Names
with_ranges n fs ps = record { layouts = n.layouts; frames = fs; places = ps; returned = n.returned; queued = n.queued }

abbrev pub with_returned : Names → List ℕ → Names
with_returned n ns = record { layouts = n.layouts; frames = n.frames; places = n.places; returned = ns; queued = n.queued }

abbrev pub with_queued : Names → List ℕ → Names
with_queued n xs = record { layouts = n.layouts; frames = n.frames; places = n.places; returned = n.returned; queued = xs }

-- what each call names is made of these, so that a further thing to name is written here and in its own call

abbrev pub layout_named : Layout → Names
layout_named y = with_layouts nothing_named (y ∷ [])

abbrev pub ranges_named : (frames places : List Range) → Names
ranges_named fs ps = with_ranges nothing_named fs ps

abbrev pub part : (address offset length : ℕ) → List Range
part a off len = record { address = a; offset = off; length = len } ∷ []

abbrev pub whole : ℕ → List Range
whole a = part a 0 0

abbrev pub names : Call → Names
names (Alloc y) = layout_named y
names (Take y) = layout_named y
names (Split a) = ranges_named (whole a) []
names (Free a) = ranges_named (whole a) []
names (Zero a) = ranges_named (whole a) []
names (Dirty a) = ranges_named (whole a) []
names (Find a) = ranges_named [] (whole a)
names (Queue a) = with_queued (ranges_named (whole a) []) (a ∷ [])
names (Fill a off len byte) = ranges_named (part a off len) []
names (Write a off bytes) = ranges_named (part a off (length bytes)) []
names (Read a off len) = ranges_named (part a off len) []
names (Copy dst doff src soff len) = ranges_named (part dst doff len ++ part src soff len) []
names (Pcopy dst doff src len) = ranges_named (part dst doff len) (part src 0 len)
names Round = nothing_named
names (Lend n) = nothing_named
names (Back n) = with_returned nothing_named (n ∷ [])
names Low = nothing_named
names Stats = nothing_named

-- ---- the sheet of a later call, but for 6, which is of its loans

abbrev pub is_power_of_two : ℕ → Bool
is_power_of_two n = any (λ k. eqb n (2 ^ k)) (range 0 64)

abbrev pub round_up : ℕ → ℕ → ℕ
round_up n align = (n + (align - 1)) / align * align

-- 7: "alignment no power of two, or size rounded up to it over 2^63 − 1"
abbrev pub bad_layout : Layout → Bool
bad_layout y = not (is_power_of_two y.align) || ltb (2 ^ 63 - 1) (round_up y.size y.align)

-- the bytes of a frame of a level, and its alignment
abbrev pub bytes_of_level : Board → ℕ → ℕ
bytes_of_level b l = b.page * size l

-- 8: "size or alignment over 1 GiB"
abbrev pub no_level : Board → Layout → Bool
no_level b y = ltb (bytes_of_level b (levels - 1)) y.size || ltb (bytes_of_level b (levels - 1)) y.align

-- frame.rs 176, find_level: the first level from l on whose size and alignment suffice
unfoldable pub level_from : Board → (left l : ℕ) → Layout → ℕ
level_from b zero l y = l
level_from b (suc left) l y =
    cond (leb y.size (bytes_of_level b l) && leb y.align (bytes_of_level b l)) l (level_from b left (l + 1) y)

abbrev pub find_level : Board → Layout → ℕ
find_level b y = level_from b levels 0 y

-- the pages that a grant may take
unfoldable pub mine : Store → ℕ → Bool
mine s = everywhere

-- 9 and 10: "nothing listed at the level or above"
abbrev pub wants : Board → Store → Layout → Bool
wants b s y = not (is_listed (mine s) (find_level b y) s.allocator.regions)

-- 11: "address not managed"
abbrev pub outside : Board → Store → Range → Bool
outside b s r = not (is_managed b s.allocator.regions (r.address / b.page))

-- 14: "range leaves its frame (or, for a physical source, its region)"
abbrev pub leaves_frame : Board → Store → Range → Bool
leaves_frame b s r = ltb (frame_bytes b s (r.address / b.page)) (r.offset + r.length)

abbrev pub leaves_region : Board → Store → Range → Bool
leaves_region b s r =
    any (λ t. contains b t (r.address / b.page) && ltb (b.page * end b t) (r.address + (r.offset + r.length))) s.allocator.regions

unfoldable pub sheet : Board → Store → Names → List Test
sheet b s n =
    (BadLayout when any bad_layout n.layouts)
    ∷ (NoLevel when any (no_level b) n.layouts)
    ∷ (NoFrame when any (λ y. wants b s y && not y.flags.wait_ok) n.layouts)
    ∷ (MustWait when any (λ y. wants b s y && y.flags.wait_ok) n.layouts)
    ∷ (Outside when any (outside b s) (n.frames ++ n.places))
    ∷ (NoFrameStart when any (λ r. not (starts_frame b s r.address)) n.frames)
    ∷ (NotHeld when any (λ r. not (is_held b s r.address)) n.frames)
    ∷ (PastTheEnd when any (leaves_frame b s) n.frames || any (leaves_region b s) n.places)
    ∷ (PagerLow when any (ltb s.counters.pager_outstanding) n.returned)
    ∷ (QueueFull when any (λ a. leb s.kept.room (length s.queue)) n.queued)
    ∷ []

-- ---- what an accepted call does

-- what a call leaves and answers
pub record Outcome : Type 0 where
  pub store : Store
  pub answer : Answer

abbrev pub done : Store → (address bytes : ℕ) → Outcome
done s a n = record { store = s; answer = Done a n }

-- a call that would change nothing: the sheet has refused it, or it only tells
abbrev pub tells : Store → Answer → Outcome
tells s y = record { store = s; answer = y }

-- the frame that was granted, whose page is found wherever the sheet lets a grant pass
abbrev pub hands : Board → ℕ → Granted → Outcome
hands b l g = elim g.page [ some p ↦ done g.store (b.page * p) (bytes_of_level b l) | none ↦ done g.store 0 0 ]

abbrev pub reports : Reported → Outcome
reports r = done r.store r.pass.rounds r.pass.freed

unfoldable pub perform : Board → Store → Call → Outcome
perform b s (Alloc y) = hands b (find_level b y) (try_alloc_frame b (mine s) (find_level b y) y.flags s)
perform b s (Take y) = hands b (find_level b y) (try_alloc_split_frames b (mine s) (find_level b y) y.flags s)
perform b s (Split a) = done (split_frame s (a / b.page)) a (frame_bytes b s (a / b.page))
perform b s (Free a) = done (free_frame b s (a / b.page)) a (frame_bytes b s (a / b.page))
perform b s (Zero a) = done (zero_frame b s (a / b.page)) a (frame_bytes b s (a / b.page))
perform b s (Dirty a) = done (set_not_zero s (a / b.page)) a (frame_bytes b s (a / b.page))
perform b s (Find a) = done s (b.page * (a / b.page)) (frame_bytes b s (a / b.page))
perform b s (Queue a) = done (with_queue s (s.queue ++ (a ∷ []))) a (frame_bytes b s (a / b.page))
perform b s (Fill a off len byte) = done (fill_frame b s (a / b.page) off len byte) a len
perform b s (Write a off bytes) = done (write_frame b s (a / b.page) off bytes) a (length bytes)
perform b s (Read a off len) = tells s (Bytes (bytes_at s.memory (a + off) len))
perform b s (Copy dst doff src soff len) = done (copy_contents_from b s (dst / b.page) doff (src / b.page) soff len) dst len
perform b s (Pcopy dst doff src len) = done (copy_contents_from_physaddr b s (dst / b.page) doff src len) dst len
perform b s Round = reports (reclaim_round b s)
perform b s (Lend n) = let c = track_frame_pager n s.counters in done (with_counters s c) 0 c.pager_outstanding
perform b s (Back n) = let c = untrack_frame_pager n s.counters in done (with_counters s c) 0 c.pager_outstanding
perform b s Low = done s 0 (bit (should_reclaim b s.counters))
perform b s Stats = tells s (Text (tracker_stats s.counters))

abbrev pub unless_refused : Store → Option Refusal → Outcome → Outcome
unless_refused s refusal o = elim refusal [ some r ↦ tells s (Refused r) | none ↦ o ]

-- one call on a store whose loans are whole
unfoldable pub step : Board → Store → Call → Outcome
step b s c = unless_refused s (first_met (sheet b s (names c))) (perform b s c)

-- ---- a list of calls: each gets the store as the last left it

pub record Ran : Type 0 where
  pub store : Store
  pub answers : List Answer

abbrev pub answer_before : Answer → Ran → Ran
answer_before y r = record { store = r.store; answers = y ∷ r.answers }

abbrev pub followed : (Store → Ran) → Outcome → Ran
followed rest o = answer_before o.answer (rest o.store)

unfoldable pub run : Board → Store → List Call → Ran
run b s [] = record { store = s; answers = [] }
run b s (c ∷ cs) = followed (λ t. run b t cs) (step b s c)
