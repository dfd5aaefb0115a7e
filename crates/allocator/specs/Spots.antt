-- What the functions of the allocator promise, for every allocator that the table stands for: `Sees` what stands at an address, `TurnsBy` what a free, a split
-- or other marks make of the table, `PicksBy` what a search for a frame does.
use Rattle.std.specs.Prelude.{ℕ, ◌-◌, ◌*◌, Bool, true, false, not, List, ◌≡◌, eqb, get_or, Option, Some, None}
use Rattle.std.proofs.Math.Option as maybe
use Rattle.definition.specs.declared.Record.{Record}
use Rattle.definition.specs.declared.Row.{Row}
use Rattle.definition.specs.Basics.{upd, any, range, everywhere}
use Rattle.definition.specs.Board.{Board}
use Rattle.definition.specs.Frame.{Frames, split_and_keep}
use Rattle.definition.specs.Allocator.{PhysicalFrameAllocator, Allocated, free_in, is_managed, is_listed, pass}
use Rattle.definition.specs.World.{frame_of, no_links, record_at}
use Rattle.record.specs.Records.{pages_in}
use Rattle.region.specs.Rep.{Held, from_of, marked, state_of}
use Rattle.words.specs.Words.{board_in, rows_in}
use Rattle.world.specs.Stands.{shift, row_at}
use Rattle.world.specs.Tables.{Sane, Table, Turned, Spotted}
use Rattle.allocator.specs.declared.Spot.{Spot}
use Rattle.allocator.specs.declared.Seen.{Seen}

abbrev pub with_frames_of : PhysicalFrameAllocator → Frames → PhysicalFrameAllocator
with_frames_of a fs = record { frames = fs; regions = a.regions }

-- frame.rs 203, split_and_keep
abbrev pub split_at : ℕ → PhysicalFrameAllocator → PhysicalFrameAllocator
split_at p a = with_frames_of a (split_and_keep a.frames p)

-- frame.rs 443, 430 and 470: the marks of a held frame
abbrev pub mark_at : (zeroed kernel : Bool) → ℕ → PhysicalFrameAllocator → PhysicalFrameAllocator
mark_at zeroed kernel p a = with_frames_of a (upd a.frames p (marked zeroed kernel (a.frames p)))

-- the rows that a search over the regions leaves, and the spot that it found, if any
pub record Picked : Type 0 where
  pub rows : List Row
  pub spot : Option Spot

abbrev pub pass_by : (level : ℕ) (try_zero only_zero : Bool) → PhysicalFrameAllocator → Allocated
pass_by level try_zero only_zero a = pass everywhere level try_zero only_zero a.frames a.regions

-- whether a row, or some region, lists a frame of the level or above
abbrev pub lists_some : Row → ℕ → Bool
lists_some row level = any (λ k. not (eqb (get_or row.lists k no_links).count 0)) (range (level * 2) (6 - level * 2))

module _ (board : Board) where
  -- a spot in the rows, and the page frame number of its page
  abbrev pub number_at : List Row → Spot → ℕ
  number_at rows s = shift (from_of board (row_at rows s.index)) s.base s.page

  -- a page of one of the rows in use
  abbrev pub InRows : List Row → Spot → Type 0
  InRows rows s = Spotted board rows s.index s.base s.page (number_at rows s)

  -- a held frame starts there
  abbrev pub HeldAt : (ℕ → Record) → List Row → Spot → Type 0
  HeldAt f rows s = Held board (state_of f (row_at rows s.index)) s.base (row_at rows s.index).pages s.page

  -- a region manages the page frame number p, and this stands there
  pub record SeesPage (f : ℕ → Record) (rows : List Row) (p : ℕ) (a : PhysicalFrameAllocator) (s : Seen) : Type 0 where
    pub managed : is_managed board a.regions p ≡ true
    pub spot : Spotted board rows s.spot.index s.spot.base s.spot.page p
    pub marks : s.marks ≡ (f s.spot.page).marks
    pub level : s.level ≡ (f s.spot.page).level
    pub frame : a.frames p ≡ frame_of (f s.spot.page)

  -- what stands at the page frame number p, if a region manages it
  abbrev pub Sees : (ℕ → Record) → List Row → ℕ → PhysicalFrameAllocator → Option Seen → Type 0
  Sees f rows p a (Some s) = SeesPage f rows p a s
  Sees f rows p a None = is_managed board a.regions p ≡ false

  abbrev pub SeesAll : (ℕ → Record) → ℕ → List Row → ℕ → Option Seen → Type 0
  SeesAll f n rows p r = (a : PhysicalFrameAllocator) → Table board f n rows a → Sees f rows p a r

  -- the table became that of what `op` makes of its allocator
  abbrev pub TurnsBy : (PhysicalFrameAllocator → PhysicalFrameAllocator) → (ℕ → Record) → List Row → (ℕ → Record) → ℕ → List Row → Type 0
  TurnsBy op f rows g n rows2 = (a : PhysicalFrameAllocator) → Table board f n rows a → Turned board f rows g n rows2 (op a)

  -- frame.rs 611, free
  abbrev pub free_at : ℕ → PhysicalFrameAllocator → PhysicalFrameAllocator
  free_at p a = free_in board p a.frames a.regions

  -- the page that a search over the regions found is that of a spot, where a held frame starts
  pub record PicksPage (g : ℕ → Record) (rows : List Row) (s : Spot) (x : maybe.Option ℕ) : Type 0 where
    pub page : x ≡ maybe.some (number_at rows s)
    pub spot : InRows rows s
    pub held : HeldAt g rows s

  -- what it found, if anything
  abbrev pub PicksSpot : (ℕ → Record) → List Row → Option Spot → maybe.Option ℕ → Type 0
  PicksSpot g rows (Some s) x = PicksPage g rows s x
  PicksSpot g rows None x = x ≡ maybe.none

  -- what it leaves, and what it found
  pub record Picks (f : ℕ → Record) (rows : List Row) (g : ℕ → Record) (n : ℕ) (r : Picked) (x : Allocated) : Type 0 where
    pub turned : Turned board f rows g n r.rows x.allocator
    pub picked : PicksSpot g r.rows r.spot x.page

  abbrev pub PicksBy : (PhysicalFrameAllocator → Allocated) → (ℕ → Record) → List Row → (ℕ → Record) → ℕ → Picked → Type 0
  PicksBy op f rows g n r = (a : PhysicalFrameAllocator) → Table board f n rows a → Picks f rows g n r (op a)

  abbrev pub ListedAll : (ℕ → Record) → ℕ → List Row → ℕ → Bool → Type 0
  ListedAll f n rows level r = (a : PhysicalFrameAllocator) → Table board f n rows a → r ≡ is_listed everywhere level a.regions

-- ---- the same of the lent records and words, which say of which board they are

abbrev pub SaneIn : (records words : List ℕ) → Type 0
SaneIn records words = Sane (board_in words) (record_at records) (pages_in records) (rows_in words)

abbrev pub number_in : (words : List ℕ) → Spot → ℕ
number_in words s = number_at (board_in words) (rows_in words) s

-- a held frame starts at the spot, which is a page of one of the rows in use
abbrev pub HeldIn : (records words : List ℕ) → Spot → Type 0
HeldIn records words s = InRows (board_in words) (rows_in words) s × HeldAt (board_in words) (record_at records) (rows_in words) s

abbrev pub SeesIn : (records words : List ℕ) → ℕ → Option Seen → Type 0
SeesIn records words p r = SeesAll (board_in words) (record_at records) (pages_in records) (rows_in words) p r

abbrev pub ListedIn : (records words : List ℕ) → ℕ → Bool → Type 0
ListedIn records words level r = ListedAll (board_in words) (record_at records) (pages_in records) (rows_in words) level r

-- from the first records and words to the second, over the board of the first
abbrev pub TurnsIn : (PhysicalFrameAllocator → PhysicalFrameAllocator) → (records words records2 words2 : List ℕ) → Type 0
TurnsIn op records words records2 words2 =
    TurnsBy (board_in words) op (record_at records) (rows_in words) (record_at records2) (pages_in records2) (rows_in words2)

abbrev pub PicksIn : (PhysicalFrameAllocator → Allocated) → (records words records2 words2 : List ℕ) → Option Spot → Type 0
PicksIn op records words records2 words2 spot =
    PicksBy (board_in words) op (record_at records) (rows_in words) (record_at records2) (pages_in records2)
    (record { rows = rows_in words2; spot = spot })
