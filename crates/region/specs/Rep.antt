-- What the records and the row of one region stand for: the frames and lists of definition's `Levels`, here by page number, as the records have them.
-- `Rep` ties the two, `Whole` says that the frames tile the region and that each free one is listed; both are what a call finds once the
-- audit has passed. The post-conditions `Becomes` and `Answers` fix every record of the region and its row, and leave all other records as they were.
use Rattle.std.specs.Prelude.{ℕ, ◌+◌, ◌-◌, ◌*◌, ◌/◌, ◌%◌, ◌≤◌, ◌<◌, ◌^◌, Bool, true, false, cond, List, [], ◌∷◌, ◌≡◌, ◌≢◌, get_or, length, replicate}
use Rattle.std.specs.Prelude as code
use Rattle.std.specs.Prelude.{Some, None}
use Rattle.std.proofs.Math.Option.{Option, none, some}
use Rattle.address.specs.declared.PhysAddr.{PhysAddr}
use Rattle.definition.specs.declared.Record.{Record}
use Rattle.definition.specs.declared.Links.{Links}
use Rattle.definition.specs.declared.Row.{Row}
use Rattle.definition.specs.Basics.{bit, upd}
use Rattle.definition.specs.Board.{Board}
use Rattle.definition.specs.Frame.{Frame, Levels, Found, size, push, change, with_allocated, is_allocated, split_and_keep, highest, organize}
use Rattle.definition.specs.Allocator.{table_pages, contains}
use Rattle.definition.specs.World.{record_at, no_links, pages_of, frame_of, marks_of, level_of, slot_of, earlier_in, later_in, links_of, bare_region, page_number}
use Rattle.record.specs.Records.{cleared, pages_in}
use Rattle.words.specs.Words.{InUse, RowBeside, row_of, rows_in}
use Rattle.list.specs.Linked.{All, Out, In, Linked}

unfoldable pub state_of : (ℕ → Record) → Row → Levels
state_of f row = record { frames = λ q. frame_of (f q); free = λ k. pages_of f (get_or row.lists k no_links) }

pub record Loose (r : Record) : Type 0 where
  pub earlier : r.earlier ≡ 0
  pub later : r.later ≡ 0

-- the code's answer as the definitions have it
abbrev pub page_of : code.Option ℕ → Option ℕ
page_of None = none
page_of (Some p) = some p

-- what a search leaves of the row, and the page that it found, if any
pub record Search : Type 0 where
  pub row : Row
  pub page : code.Option ℕ

-- the same of a search that leaves the row i in words
abbrev pub searched : List ℕ → ℕ → code.Option ℕ → Search
searched ws i r = record { row = row_of (rows_in ws) i; page = r }

-- the page of a search, none where it found nothing
abbrev pub page_in : Search → Option ℕ
page_in r = page_of r.page

-- the record of a free frame that is on no list yet
abbrev pub free_record : (level : ℕ) → (zeroed kernel : Bool) → Record
free_record l z k = record { marks = 1 + 2 * 0 + 4 * bit z + 8 * bit k; level = l; earlier = 0; later = 0 }

-- a frame that is free is put on the back of its list
abbrev pub list_up : Levels → ℕ → ℕ → Bool → Bool → Levels
list_up s page l z k = push s page (record { level = l; allocated = false; zeroed = z; kernel = k })

-- the frame at a page is held
abbrev pub hold_at : Levels → ℕ → Levels
hold_at s page = record { frames = change (with_allocated true) s.frames page; free = s.free }

-- a frame with other marks ZEROED and KERNEL
abbrev pub marked : (zeroed kernel : Bool) → Option Frame → Option Frame
marked zeroed kernel none = none
marked zeroed kernel (some f) = some (record { level = f.level; allocated = f.allocated; zeroed = zeroed; kernel = kernel })

abbrev pub marked_levels : Levels → ℕ → (zeroed kernel : Bool) → Levels
marked_levels s page zeroed kernel = record { frames = upd s.frames page (marked zeroed kernel (s.frames page)); free = s.free }

-- a held frame is split into held ones
abbrev pub kept_levels : Levels → ℕ → Levels
kept_levels s page = record { frames = split_and_keep s.frames page; free = s.free }

-- a frame starts at p, unless that is the end
abbrev pub Starts : Levels → ℕ → ℕ → Type 0
Starts s end p = p < end → s.frames p ≢ none

-- the frame at p is aligned, ends by the region's end, and no frame starts inside it; the next one follows it
pub record Tile (s : Levels) (from first end p : ℕ) (a : Frame) : Type 0 where
  pub level : a.level < 3
  pub aligned : (from + (p - first)) % size a.level ≡ 0
  pub ends : p + size a.level ≤ end
  pub clear : (q : ℕ) → p < q → q < p + size a.level → s.frames q ≡ none
  pub next : Starts s end (p + size a.level)

-- the level for a frame at a page frame number where so many pages are left
pub record Best (pfn left l : ℕ) : Type 0 where
  pub is : l ≡ highest 2 pfn left
  pub small : l < 3
  pub fits : size l ≤ left
  pub aligned : pfn % size l ≡ 0

-- ---- a region whose row is the row i of words

-- what they stand for
abbrev pub levels_at : (bytes ws : List ℕ) (i : ℕ) → Levels
levels_at bytes ws i = state_of (record_at bytes) (row_of (rows_in ws) i)

-- ---- the records and the lists that a state has

-- the record of the page q
unfoldable pub encode : Levels → ℕ → Record
encode s q =
    record {
      marks = marks_of (s.frames q);
      level = level_of (s.frames q);
      earlier = earlier_in 0 q (s.free (slot_of (s.frames q)));
      later = later_in q (s.free (slot_of (s.frames q)));
    }

unfoldable pub lists_of : Levels → List Links
lists_of s =
    links_of (s.free 0) ∷ links_of (s.free 1) ∷ links_of (s.free 2) ∷ links_of (s.free 3) ∷ links_of (s.free 4) ∷ links_of (s.free 5) ∷ []

-- ---- a new region

-- a row whose lists are empty
abbrev pub empty_row : PhysAddr → ℕ → Row
empty_row start pages = record { start = start; pages = pages; lists = replicate 6 no_links }

-- ---- addresses

module _ (board : Board) where
  -- pages but for the tables
  unfoldable pub managed : ℕ → ℕ
  managed pages = pages - table_pages board pages

  -- the page frame number of the region's first managed page
  unfoldable pub from_of : Row → ℕ
  from_of row = row.start.0 / board.page + table_pages board row.pages

  -- a page of the region whose first page is `first`
  pub record Inside (first pages q : ℕ) : Type 0 where
    pub low : first ≤ q
    pub high : q < first + managed pages

  -- a page of the list k
  pub record Listed (frames : ℕ → Option Frame) (first pages k q : ℕ) : Type 0 where
    pub slotted : slot_of (frames q) ≡ k
    pub inside : Inside first pages q

  -- the records f, of n pages, and the row stand for the state s
  pub record Rep (f : ℕ → Record) (n first : ℕ) (row : Row) (s : Levels) : Type 0 where
    pub small : first + managed row.pages < 2 ^ 32
    pub fits : first + managed row.pages ≤ n
    pub six : length row.lists ≡ 6
    pub lists : (k : ℕ) → k < 6 → Linked f n (get_or row.lists k no_links) (s.free k)
    pub beyond : (k : ℕ) → 6 ≤ k → s.free k ≡ []
    pub listed : (k : ℕ) → All (λ (q : ℕ). Listed s.frames first row.pages k q) (s.free k)
    pub framed : (q : ℕ) → frame_of (f q) ≡ s.frames q
    pub marks : (q : ℕ) → Inside first row.pages q → (f q).marks ≡ marks_of (s.frames q)
    pub level : (q : ℕ) → Inside first row.pages q → (f q).level ≡ level_of (s.frames q)
    pub loose : (q : ℕ) → Inside first row.pages q → ((k : ℕ) → Out q (s.free k)) → Loose (f q)

  abbrev pub SoundRow : (ℕ → Record) → ℕ → ℕ → Row → Type 0
  SoundRow f n first row = Rep f n first row (state_of f row)

  -- the records f and the row became g and r, which stand for s
  pub record Becomes (f : ℕ → Record) (first : ℕ) (row : Row) (g : ℕ → Record) (n : ℕ) (r : Row) (s : Levels) : Type 0 where
    pub rep : Rep g n first r s
    pub start : r.start ≡ row.start
    pub pages : r.pages ≡ row.pages
    pub outside : (q : ℕ) → (Inside first row.pages q → ⊥) → g q ≡ f q

  pub record Answers (f : ℕ → Record) (first : ℕ) (row : Row) (g : ℕ → Record) (n : ℕ) (r : Search) (a : Found) : Type 0 where
    pub became : Becomes f first row g n r.row a.levels
    pub found : page_in r ≡ a.page

  -- the frame of 512 children of level l at a page, which is in no list, and neither are the pages inside it
  pub record Splits (s : Levels) (first pages page l : ℕ) : Type 0 where
    pub small : l < 2
    pub low : first ≤ page
    pub high : page + 512 * size l ≤ first + managed pages
    pub out : (q : ℕ) → page ≤ q → q < page + 512 * size l → (k : ℕ) → Out q (s.free k)

  -- the region that starts at the page frame number `from` is tiled by frames, and each free one is on its list, but for a loose one
  pub record Whole (s : Levels) (loose : Option ℕ) (from first pages : ℕ) : Type 0 where
    pub opens : Starts s (first + managed pages) first
    pub tile : (p : ℕ) (a : Frame) → Inside first pages p → s.frames p ≡ some a → Tile s from first (first + managed pages) p a
    pub full : (q : ℕ) → loose ≢ some q → Inside first pages q → slot_of (s.frames q) < 6 → In q (s.free (slot_of (s.frames q)))

  abbrev pub WholeRow : (ℕ → Record) → ℕ → Row → Type 0
  WholeRow f first row = Whole (state_of f row) none (from_of row) first row.pages

  -- a held frame starts at the page
  pub record Held (s : Levels) (first pages page : ℕ) : Type 0 where
    pub inside : Inside first pages page
    pub held : is_allocated (s.frames page) ≡ true

  -- no frame starts in the region yet
  abbrev pub Blank : Levels → ℕ → ℕ → Type 0
  Blank s first pages = (q : ℕ) → Inside first pages q → s.frames q ≡ none

  -- its row is in use, and stands with the records for frames and lists
  abbrev pub SoundAt : (bytes : List ℕ) (first : ℕ) (ws : List ℕ) (i : ℕ) → Type 0
  SoundAt bytes first ws i = InUse ws i × SoundRow (record_at bytes) (pages_in bytes) first (row_of (rows_in ws) i)

  abbrev pub WholeAt : (bytes : List ℕ) (first : ℕ) (ws : List ℕ) (i : ℕ) → Type 0
  WholeAt bytes first ws i = WholeRow (record_at bytes) first (row_of (rows_in ws) i)

  -- the records and the row became others, which stand for s, and no other word changed
  abbrev pub LeavesAt : (bytes : List ℕ) (first : ℕ) (ws : List ℕ) (i : ℕ) (bytes' ws' : List ℕ) (s : Levels) → Type 0
  LeavesAt bytes first ws i bytes' ws' s =
      Becomes (record_at bytes) first (row_of (rows_in ws) i) (record_at bytes') (pages_in bytes') (row_of (rows_in ws') i) s × RowBeside ws i ws'

  -- the same of a search, with what it found
  abbrev pub FindsAt : (bytes : List ℕ) (first : ℕ) (ws : List ℕ) (i : ℕ) (bytes' ws' : List ℕ) (r : code.Option ℕ) (a : Found) → Type 0
  FindsAt bytes first ws i bytes' ws' r a =
      Answers (record_at bytes) first (row_of (rows_in ws) i) (record_at bytes') (pages_in bytes') (searched ws' i r) a × RowBeside ws i ws'

  -- the state of a region whose records are four zeros, whatever stood there
  abbrev pub blank_state : (ℕ → Record) → ℕ → PhysAddr → ℕ → Levels
  blank_state f first start pages = state_of (cleared f first (managed pages)) (empty_row start pages)

  -- what a new region's records and row stand for: its pages laid out in frames
  abbrev pub new_state : (ℕ → Record) → ℕ → PhysAddr → ℕ → Levels
  new_state f first start pages =
      organize (managed pages) (blank_state f first start pages) first (from_of (empty_row start pages)) (managed pages)

  -- the page number of a page frame number, where the region manages it
  unfoldable pub lookup : Row → ℕ → ℕ → Option ℕ
  lookup row first number =
      cond (contains board (bare_region board row) number) (some (page_number board first (bare_region board row) number)) none
