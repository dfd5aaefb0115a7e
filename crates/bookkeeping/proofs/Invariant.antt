-- The invariant that every call keeps, of a store and the book kept of it: `Agree`. Its first part, `Sound`, is of the frames, lists and bytes; `Counted` is of
-- the counters. What the calls need of it is here too: the frame that an address names, and how a change of its marks and bytes keeps `Sound`.
use Prim.Native.Nat.{ℕ, ◌+◌, ◌*◌, ◌/◌, ◌%◌, ◌≤◌, ◌<◌}
use native.Mathlib.Omega.{arith}
use native.Mathlib.Nat.{le-div_iff_mul-le, div-lt_iff_lt-mul}
use mathlib.Core.Bool.{Bool, true, false, cond, ◌&&◌, ◌||◌, false≢true}
use mathlib.Core.List.{List, [], ◌∷◌, ◌++◌}
use mathlib.Core.Option.{Option, none, some}
use mathlib.Core.Path.{◌≡◌, refl, sym, ap}
use lib.Dec.{leb, ltb, eqb}
use lib.ListN.{length}
use borrow.Author.Tests.{leb-true, ltb-true, eqb-true, le-leb, lt-ltb}
use Rattle.definition.proofs.Basics.{upd_same}
use Rattle.definition.specs.declared.Counters.{Counters}
use Rattle.definition.specs.Board.{Board}
use Rattle.definition.specs.Basics.{sum, any, bit, is_some}
use Rattle.definition.specs.Frame.{Frame, Frames, size, change}
use Rattle.definition.specs.Allocator.{AllocationRegion, PhysicalFrameAllocator, contains, total, is_managed}
use Rattle.definition.specs.Boot.{managed_pages}
use Rattle.definition.specs.Store.{Memory, Store}
use Rattle.definition.specs.Contents.{within}
use Rattle.definition.specs.Tracker.{starts_frame, is_held}
use Rattle.definition.specs.Book.{Held, Book, replace, struck}
use Rattle.bookkeeping.specs.Blocks.{
  Block,
  All,
  SixLists,
  listed,
  held_block,
  holding,
  spans,
  pages_of,
  home,
  lies,
  emptied,
  pages_with_kernel,
  pages_without,
  tables,
}
use Rattle.bookkeeping.specs.Good.{Placed}
use Rattle.bookkeeping.proofs.Blocks.{sum_append, spans_in, spans_facts, block, Fine, fine_same, remark}
use Rattle.bookkeeping.proofs.Frames.{Clean, clean_write}
use Rattle.bookkeeping.proofs.Search.{strays}
use Rattle.bookkeeping.proofs.Books.{held_of, in_book_lem}

-- each byte of the page q is zero
abbrev pub Blank : Board → Memory → ℕ → Type 0
Blank b mem q = (a : ℕ) → a / b.page ≡ q → mem a ≡ 0

-- of a map that keeps the regions m: the listed and the held frames are those of the store, each has `room` where it lies, and what is marked ZEROED is zero
pub record Sound (b : Board) (room : ℕ → ℕ → ℕ) (m : List AllocationRegion) (a : PhysicalFrameAllocator) (mem : Memory) (hs : List Held) : Type 0 where
  pub shape : emptied a.regions ≡ m
  pub fine : Fine (home b m) room (managed_pages b m) a.frames (listed a.regions ++ holding hs)
  pub own : sum (strays b) a.regions ≡ 0
  pub beyond : All SixLists a.regions
  pub clean : Clean (Blank b mem) a.frames

pub record Counted (b : Board) (m : List AllocationRegion) (c : Counters) (rs : List AllocationRegion) (hs : List Held) : Type 0 where
  pub idle : c.idle ≡ sum pages_of (listed rs) + sum (tables b) m
  pub kernel : c.kernel_used ≡ sum pages_with_kernel (holding hs)
  pub page : c.page_data ≡ sum pages_without (holding hs)
  pub total : c.total ≡ total m
  pub waiting : c.waiting ≡ 0

-- where a frame may lie, whole in one region: what grants, frees and writes keep they keep by any such measure, and `room_lies` is all that is read off this one
unfoldable pub room_of : Board → List AllocationRegion → (p n : ℕ) → ℕ
room_of b m p n = lies b m p n

pub record Agree (b : Board) (m : List AllocationRegion) (s : Store) (k : Book) : Type 0 where
  pub sound : Sound b (room_of b m) m s.allocator s.memory k.held
  pub counted : Counted b m s.counters s.allocator.regions k.held
  pub regions : k.regions ≡ m
  pub queue : s.queue ≡ k.queue
  pub room : length s.queue ≤ s.kept.room
  pub rounds : s.pass.rounds ≤ b.max_rounds + 1
  pub freed : s.pass.freed ≤ b.per_round * s.pass.rounds

-- what every call keeps, over the regions that the book has
pub record Holds (b : Board) (s : Store) (k : Book) : Type 0 where
  pub agree : Agree b k.regions s k
  pub placed : Placed b k.regions

-- ---- tests

pub and-true : (t u : Bool) → (t && u) ≡ true → (t ≡ true) × (u ≡ true)
and-true true u e = (refl, e)
and-true false u e = absurd (false≢true e)

pub or-false : (t u : Bool) → (t || u) ≡ false → (t ≡ false) × (u ≡ false)
or-false false u e = (refl, e)
or-false true u e = absurd (false≢true (sym e))

-- ---- the regions without their lists manage the same pages

pub home_emptied : (b : Board) (rs : List AllocationRegion) (q : ℕ) → home b (emptied rs) q ≡ home b rs q
unfolding home emptied sum
home_emptied b [] q = refl
home_emptied b (r ∷ rs) q = rw (home_emptied b rs q)

pub lies_emptied : (b : Board) (rs : List AllocationRegion) (p n : ℕ) → lies b (emptied rs) p n ≡ lies b rs p n
unfolding lies emptied sum
lies_emptied b [] p n = refl
lies_emptied b (r ∷ rs) p n = rw (lies_emptied b rs p n)

-- what has room is whole in one region
pub room_lies : (b : Board) (m : List AllocationRegion) (p n : ℕ) → 1 ≤ n → room_of b m p n ≤ lies b m p n
unfolding room_of
room_lies b m p n h = omega arith

pub managed_home : (b : Board) (rs : List AllocationRegion) (p : ℕ) → is_managed b rs p ≡ true → 1 ≤ home b rs p
unfolding is_managed any home sum
managed_home b [] p e = absurd (false≢true e)
managed_home b (r ∷ rs) p e = go (λ i. managed_home b rs p i) (contains b r p) e
  where
    go : (is_managed b rs p ≡ true → 1 ≤ home b rs p) → (t : Bool) → (t || is_managed b rs p) ≡ true → 1 ≤ bit t + home b rs p
    go more true e = omega arith
    go more false e = omega (arith, more e)

pub unmanaged_home : (b : Board) (rs : List AllocationRegion) (p : ℕ) → is_managed b rs p ≡ false → home b rs p ≡ 0
unfolding is_managed any home sum
unmanaged_home b [] p e = refl
unmanaged_home b (r ∷ rs) p e = let i = or-false (contains b r p) (is_managed b rs p) e in rw i.0 (omega (arith, unmanaged_home b rs p i.1))

-- ---- the held frame that an address names

pub record At (b : Board) (s : Store) (a : ℕ) : Type 0 where
  pub managed : is_managed b s.allocator.regions (a / b.page) ≡ true
  pub edge : a % b.page ≡ 0
  pub frame : Frame
  pub here : s.allocator.frames (a / b.page) ≡ some frame
  pub held : frame.allocated ≡ true

pub at_of
    : (b : Board) (s : Store) (a : ℕ) → is_managed b s.allocator.regions (a / b.page) ≡ true → starts_frame b s a ≡ true → is_held b s a ≡ true → At b s a
at_of b s a i j k = go (s.allocator.frames (a / b.page)) refl (and-true (eqb (a % b.page) 0) (is_some (s.allocator.frames (a / b.page))) j)
  where
    go
        : (o : Option Frame) → s.allocator.frames (a / b.page) ≡ o
        → (eqb (a % b.page) 0 ≡ true) × (is_some (s.allocator.frames (a / b.page)) ≡ true) → At b s a
    go none e x = absurd (false≢true (rw e at x.1))
    go (some f) e x = record { managed = i; edge = eqb-true (a % b.page) 0 x.0; frame = f; here = e; held = rw e at k }

-- ---- a held frame set aside, so that its marks and bytes can change

-- the block of a held frame
pub as_held : (p : ℕ) (f : Frame) → f.allocated ≡ true → (w : Block → ℕ) → w (block p f) ≡ w (held_block (held_of p f))
as_held p f e w = ap (λ (a : Bool). w (record { page = p; level = f.level; held = a; mark = cond a f.kernel f.zeroed })) e

pub record Aside (b : Board) (room : ℕ → ℕ → ℕ) (m : List AllocationRegion) (mem : Memory) (xs : List Block) (p : ℕ) (fs : Frames) (f : Frame) : Type 0 where
  pub here : fs p ≡ some f
  pub held : f.allocated ≡ true
  pub fine : Fine (home b m) room (managed_pages b m) fs (held_block (held_of p f) ∷ xs)
  pub clean : Clean (Blank b mem) fs

pub aside
    : {b : Board} {room : ℕ → ℕ → ℕ} {m : List AllocationRegion} {a : PhysicalFrameAllocator} {mem : Memory} {hs : List Held} (p : ℕ) (f : Frame)
    → Sound b room m a mem hs → a.frames p ≡ some f → f.allocated ≡ true
    → Aside b room m mem (listed a.regions ++ holding (replace struck p hs)) p a.frames f
unfolding sum
aside {a = a} {hs = hs} p f h e k =
    let x = in_book_lem struck a.regions hs p f h.fine e k in
    record { here = e; held = k; fine = fine_same (λ w. simp sum_append (omega (arith, x.before w))) h.fine; clean = h.clean }

pub aside_change
    : {b : Board} {room : ℕ → ℕ → ℕ} {m : List AllocationRegion} {mem : Memory} {xs : List Block} {p : ℕ} {fs : Frames} {f : Frame} (mem' : Memory)
    (g : Frame → Frame) → Aside b room m mem xs p fs f → (g f).level ≡ f.level → (g f).allocated ≡ true → ((q : ℕ) → spans p (size f.level) q ≡ 0 → Blank b mem q → Blank b mem' q)
    → ((g f).zeroed ≡ true → (q : ℕ) → spans p (size f.level) q ≡ 1 → Blank b mem' q) → Aside b room m mem' xs p (change g fs p) (g f)
unfolding sum
aside_change {b} {mem = mem} {xs = xs} {p} {fs} {f} mem' g h e k out inn =
    rw h.here (record {
      here = upd_same fs p (some (g f));
      held = k;
      fine = fine_same (λ w. omega (arith, as_held p (g f) k w)) (remark (g f) e h.fine);
      clean = clean_write (Blank b mem) (Blank b mem') h.fine p f (g f) h.here e out inn h.clean;
    })

-- put back as it was but for its mark and its bytes
pub put_back
    : {b : Board} {room : ℕ → ℕ → ℕ} {m : List AllocationRegion} {a : PhysicalFrameAllocator} {mem mem' : Memory} {hs : List Held} {fs : Frames} (p : ℕ)
    (f f' : Frame) → Sound b room m a mem hs → a.frames p ≡ some f → f.allocated ≡ true → f'.level ≡ f.level → f'.kernel ≡ f.kernel
    → Aside b room m mem' (listed a.regions ++ holding (replace struck p hs)) p fs f' → Sound b room m (record { frames = fs; regions = a.regions }) mem' hs
unfolding sum
put_back {a = a} {hs = hs} p f f' h e k el ek i =
    let x = in_book_lem struck a.regions hs p f h.fine e k in
    let d : held_of p f' ≡ held_of p f = λ j. record { page = p; level = el j; kernel = ek j } in
    record {
      shape = h.shape;
      fine = fine_same (λ w. simp sum_append (omega (arith, x.before w, ap (λ (y : Held). w (held_block y)) d))) i.fine;
      own = h.own;
      beyond = h.beyond;
      clean = i.clean;
    }

-- ---- the bytes of pages

-- a byte of the n pages from p on is on one of them
pub byte_page : (P p n a : ℕ) → 0 < P → P * p ≤ a → a < P * p + P * n → spans p n (a / P) ≡ 1
byte_page P p n a h i j =
    spans_in p n (a / P) ((le-div_iff_mul-le h).1 (omega arith)) ((div-lt_iff_lt-mul h).1 (omega arith))

-- and the other way round
pub page_byte : (P p n a : ℕ) → 0 < P → p ≤ a / P → a / P < p + n → (P * p ≤ a) × (a < P * p + P * n)
page_byte P p n a h i j =
    let x : p * P ≤ a = (le-div_iff_mul-le h).0 i in
    let y : a < (p + n) * P = (div-lt_iff_lt-mul h).0 j in
    (omega arith, omega arith)

pub within_facts : (a m q : ℕ) → within a m q ≡ true → (a ≤ q) × (q < a + m)
within_facts a m q e = let x = and-true (leb a q) (ltb q (a + m)) e in (leb-true a q x.0, ltb-true q (a + m) x.1)

-- a write inside the n pages from p on leaves the other pages
pub written_off
    : (b : Board) (p n start len : ℕ) (x : ℕ → ℕ) (mem : Memory) → 0 < b.page → b.page * p ≤ start → start + len ≤ b.page * p + b.page * n
    → (q : ℕ) → spans p n q ≡ 0 → Blank b mem q → Blank b (λ a. cond (within start len a) (x a) (mem a)) q
written_off b p n start len x mem h i j q o k a e = go (within start len a) refl
  where
    go : (t : Bool) → within start len a ≡ t → cond (within start len a) (x a) (mem a) ≡ 0
    go true y =
        let z = within_facts start len a y in
        absurd (omega (arith, rw e at (byte_page b.page p n a h (omega (arith, z.0)) (omega (arith, z.1)))))
    go false y = rw y (k a e)

-- zeros written leave zeros
pub zeros_stay : (b : Board) (start len : ℕ) (mem : Memory) (q : ℕ) → Blank b mem q → Blank b (λ a. cond (within start len a) 0 (mem a)) q
zeros_stay b start len mem q k a e = go (within start len a)
  where
    go : (t : Bool) → cond t 0 (mem a) ≡ 0
    go true = refl
    go false = k a e

-- zeros written over the n pages from p on
pub zeros_over
    : (b : Board) (p n start len : ℕ) (mem : Memory) → 0 < b.page → start ≡ b.page * p → len ≡ b.page * n → (q : ℕ) → spans p n q ≡ 1
    → Blank b (λ a. cond (within start len a) 0 (mem a)) q
zeros_over b p n start len mem h i j q o a e = rw inside
  where
    inside : within start len a ≡ true
    inside =
        let f = spans_facts p n q o in
        let x = page_byte b.page p n a h (omega (arith, f.0)) (omega (arith, f.1)) in
        rw (le-leb start a (omega (arith, x.0)), lt-ltb a (start + len) (omega (arith, x.1)))
