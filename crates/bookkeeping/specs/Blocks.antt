-- Frames as blocks of pages, listed or held, and how many of them have a page. A reader should take from here what demand 3 calls listed and held: a block for
-- each page on a region's lists, of the level that the list's number gives, and a block for each frame of the book.
use Rattle.std.specs.Prelude.{ℕ, ◌+◌, ◌≤◌, Bool, true, false, cond, ◌&&◌, List, [], ◌∷◌, ◌++◌, ◌≡◌, leb}
use Rattle.definition.specs.Board.{Board}
use Rattle.definition.specs.Basics.{sum, bit}
use Rattle.definition.specs.Frame.{size, levels, slot}
use Rattle.definition.specs.Allocator.{AllocationRegion, table_pages, first, end, contains, with_free}
use Rattle.definition.specs.Contents.{within}
use Rattle.definition.specs.Book.{Held}

-- a frame with its place: the mark is KERNEL of a held frame and ZEROED of a listed one
pub record Block : Type 0 where
  pub page : ℕ
  pub level : ℕ
  pub held : Bool
  pub mark : Bool

-- P of each of a list
pub data All {A : Type 0} (P : A → Type 0) : List A → Type 0 where
  all_none : All P []
  all_more : {x : A} {xs : List A} → P x → All P xs → All P (x ∷ xs)

-- ---- what is listed, and what is held

-- the frames on the list of a level and a kind
unfoldable pub on_list : ℕ → Bool → List ℕ → List Block
on_list l z [] = []
on_list l z (p ∷ ps) = record { page = p; level = l; held = false; mark = z } ∷ on_list l z ps

abbrev pub level_blocks : ℕ → (ℕ → List ℕ) → List Block
level_blocks l free = on_list l false (free (slot l false)) ++ on_list l true (free (slot l true))

-- a region's six lists
unfoldable pub region_blocks : (ℕ → List ℕ) → List Block
region_blocks free = level_blocks 0 free ++ (level_blocks 1 free ++ level_blocks 2 free)

-- a region has no other lists
abbrev pub SixLists : AllocationRegion → Type 0
SixLists r = (k : ℕ) → slot levels false ≤ k → r.free k ≡ []

unfoldable pub listed : List AllocationRegion → List Block
listed [] = []
listed (r ∷ rs) = region_blocks r.free ++ listed rs

abbrev pub held_block : Held → Block
held_block h = record { page = h.page; level = h.level; held = true; mark = h.kernel }

unfoldable pub holding : List Held → List Block
holding [] = []
holding (h ∷ hs) = held_block h ∷ holding hs

-- ---- weights of a block, and of pages

-- 1 if q is one of the m pages from a on, else 0
unfoldable pub spans : ℕ → ℕ → ℕ → ℕ
spans a m q = bit (within a m q)

abbrev pub pages_of : Block → ℕ
pages_of x = size x.level

-- a held block's pages if it was granted with KERNEL, and if it was not
abbrev pub pages_with_kernel : Block → ℕ
pages_with_kernel x = cond x.mark (pages_of x) 0

abbrev pub pages_without : Block → ℕ
pages_without x = cond x.mark 0 (pages_of x)

-- 1 if the block has the page q, else 0
abbrev pub covers : ℕ → Block → ℕ
covers q x = spans x.page (pages_of x) q

-- ---- regions

abbrev pub tables : Board → AllocationRegion → ℕ
tables b r = table_pages b r.pages

-- how many of the regions manage the page q
abbrev pub manages : Board → ℕ → AllocationRegion → ℕ
manages b q r = bit (contains b r q)

unfoldable pub home : Board → List AllocationRegion → ℕ → ℕ
home b rs q = sum (manages b q) rs

-- 1 if the n pages from p on lie between two others, the first included, else 0
unfoldable pub between : (low high p n : ℕ) → ℕ
between low high p n = bit (leb low p && leb (p + n) high)

abbrev pub has_room : Board → (p n : ℕ) → AllocationRegion → ℕ
has_room b p n r = between (first b r) (end b r) p n

-- how many of the regions have the n pages from p on whole
unfoldable pub lies : Board → List AllocationRegion → (p n : ℕ) → ℕ
lies b rs p n = sum (has_room b p n) rs

-- regions with their lists left out: where they start, and their pages
unfoldable pub emptied : List AllocationRegion → List AllocationRegion
emptied [] = []
emptied (r ∷ rs) = with_free r (λ k. []) ∷ emptied rs
