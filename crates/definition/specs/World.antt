-- All that a call is given: the rows, the counters, the queue's count and the pass, and the loans whole, as lists of bytes and of
-- addresses. `decode` reads a store out of it, `encode` writes one into it in the format that 01 fixes under "What changes shape".
use Rattle.std.specs.Prelude.{ℕ, zero, suc, ◌+◌, ◌-◌, ◌*◌, ◌/◌, ◌%◌, Bool, false, cond, List, [], ◌∷◌, ◌++◌, map, eqb, length, get_or, take, drop, replicate}
use Rattle.std.proofs.Math.Option.{Option, none, some}
use Rattle.definition.specs.declared.Record.{Record}
use Rattle.definition.specs.declared.Links.{Links}
use Rattle.definition.specs.declared.Row.{Row}
use Rattle.definition.specs.declared.Counters.{Counters}
use Rattle.definition.specs.declared.Pass.{Pass}
use Rattle.definition.specs.Board.{Board}
use Rattle.definition.specs.Basics.{bit, range}
use Rattle.definition.specs.Frame.{Frame, Frames, slot, levels}
use Rattle.definition.specs.Allocator.{AllocationRegion, first, managed, contains}
use Rattle.definition.specs.Store.{Memory, Store}
use Rattle.definition.specs.Contents.{bytes_at}
use Rattle.definition.specs.Boot.{managed_pages, most_rows, record_size}

pub record World : Type 0 where
  pub rows : List Row
  pub counters : Counters
  -- how many places of the queue are taken, from its first on
  pub queued : ℕ
  pub pass : Pass
  pub records : List ℕ
  pub memory : List ℕ
  pub queue : List ℕ

-- ---- the records: "four 32-bit little-endian numbers: marks, level, earlier, later"

-- the w-th 32-bit number of the bytes
unfoldable pub word_at : List ℕ → ℕ → ℕ
word_at bs w =
    get_or bs (w * 4) 0 + get_or bs (w * 4 + 1) 0 * 256 + get_or bs (w * 4 + 2) 0 * 65536 + get_or bs (w * 4 + 3) 0 * 16777216

-- the record of the page p
unfoldable pub record_at : List ℕ → ℕ → Record
record_at bs p =
    record { marks = word_at bs (p * 4); level = word_at bs (p * 4 + 1); earlier = word_at bs (p * 4 + 2); later = word_at bs (p * 4 + 3) }

abbrev pub word_bytes : ℕ → List ℕ
word_bytes n = n % 256 ∷ n / 256 % 256 ∷ n / 65536 % 256 ∷ n / 16777216 % 256 ∷ []

abbrev pub record_bytes : Record → List ℕ
record_bytes r = word_bytes r.marks ++ (word_bytes r.level ++ (word_bytes r.earlier ++ word_bytes r.later))

-- ---- what the first two numbers of a record say, taken apart and put together by the names of this part and nowhere else: "The marks are 1 ADMITTED,
-- 2 ALLOCATED, 4 ZEROED, 8 KERNEL"

abbrev pub admitted_bit : ℕ → ℕ
admitted_bit marks = marks % 2

abbrev pub allocated_bit : ℕ → ℕ
allocated_bit marks = marks / 2 % 2

abbrev pub zeroed_bit : ℕ → ℕ
zeroed_bit marks = marks / 4 % 2

abbrev pub kernel_bit : ℕ → ℕ
kernel_bit marks = marks / 8 % 2

abbrev pub admitted_in : ℕ → Bool
admitted_in marks = eqb (admitted_bit marks) 1

abbrev pub allocated_in : ℕ → Bool
allocated_in marks = eqb (allocated_bit marks) 1

abbrev pub zeroed_in : ℕ → Bool
zeroed_in marks = eqb (zeroed_bit marks) 1

abbrev pub kernel_in : ℕ → Bool
kernel_in marks = eqb (kernel_bit marks) 1

-- marks below this have no bits but those named
abbrev pub named_marks : ℕ
named_marks = 16

abbrev pub marks_with : (allocated zeroed kernel : Bool) → ℕ
marks_with allocated zeroed kernel = 1 + 2 * bit allocated + 4 * bit zeroed + 8 * bit kernel

-- the marks of an unheld frame, once it is held
abbrev pub allocated_marks : ℕ → ℕ
allocated_marks marks = marks + 2

-- the level that the second number has
abbrev pub level_in : ℕ → ℕ
level_in word = word

-- the second number of a frame of the level
abbrev pub level_word : ℕ → ℕ
level_word level = level

abbrev pub marks_of : Option Frame → ℕ
marks_of none = 0
marks_of (some f) = marks_with f.allocated f.zeroed f.kernel

abbrev pub level_of : Option Frame → ℕ
level_of none = 0
level_of (some f) = level_word f.level

abbrev pub is_admitted : Record → Bool
is_admitted r = admitted_in r.marks

-- the frame that a record has
unfoldable pub frame_of : Record → Option Frame
frame_of r =
    cond (is_admitted r)
    (some (record { level = level_in r.level; allocated = allocated_in r.marks; zeroed = zeroed_in r.marks; kernel = kernel_in r.marks }))
    none

-- ---- lists in the records: "A neighbour is 0 for none, else its page number plus 1"

abbrev pub no_links : Links
no_links = record { front = 0; back = 0; count = 0 }

unfoldable pub walk : (ℕ → Record) → ℕ → ℕ → List ℕ
walk f zero x = []
walk f (suc n) x = (x - 1) ∷ walk f n (f (x - 1)).later

-- the pages of a list, found by walking it from its front
unfoldable pub pages_of : (ℕ → Record) → Links → List ℕ
pages_of f l = walk f l.count l.front

abbrev pub front_of : List ℕ → ℕ
front_of [] = 0
front_of (x ∷ xs) = x + 1

-- the last, or `before` of an empty list
unfoldable pub back_of : ℕ → List ℕ → ℕ
back_of before [] = before
back_of before (x ∷ xs) = back_of (x + 1) xs

abbrev pub links_of : List ℕ → Links
links_of xs = record { front = front_of xs; back = back_of 0 xs; count = length xs }

-- what stands before the page q in a list, and what after it; 0 where q is not in it
unfoldable pub earlier_in : ℕ → ℕ → List ℕ → ℕ
earlier_in before q [] = 0
earlier_in before q (x ∷ xs) = cond (eqb x q) before (earlier_in (x + 1) q xs)

unfoldable pub later_in : ℕ → List ℕ → ℕ
later_in q [] = 0
later_in q (x ∷ xs) = cond (eqb x q) (front_of xs) (later_in q xs)

-- ---- page numbers: they "run over all regions in map order, from 0"; `base` is that of a region's first managed page

abbrev pub page_number : Board → ℕ → AllocationRegion → ℕ → ℕ
page_number b base r p = base + (p - first b r)

unfoldable pub number_in : Board → ℕ → List AllocationRegion → ℕ → Option ℕ
number_in b base [] p = none
number_in b base (r ∷ rs) p = cond (contains b r p) (some (page_number b base r p)) (number_in b (base + managed b r) rs p)

-- ---- decode

abbrev pub no_row : Row
no_row = record { start = record { 0 = 0 }; pages = 0; lists = replicate (slot levels false) no_links }

-- rows in use come first; an unused one has no pages
unfoldable pub used_rows : List Row → List Row
used_rows [] = []
used_rows (r ∷ rs) = cond (eqb r.pages 0) [] (r ∷ used_rows rs)

abbrev pub bare_region : Board → Row → AllocationRegion
bare_region b row = record { start = row.start.0 / b.page; pages = row.pages; free = λ k. [] }

abbrev pub decode_row : Board → (ℕ → Record) → ℕ → Row → AllocationRegion
decode_row b f base row =
    record {
      start = row.start.0 / b.page;
      pages = row.pages;
      free = λ k. map (λ q. first b (bare_region b row) + (q - base)) (pages_of f (get_or row.lists k no_links));
    }

unfoldable pub decode_rows : Board → (ℕ → Record) → ℕ → List Row → List AllocationRegion
decode_rows b f base [] = []
decode_rows b f base (row ∷ rows) =
    decode_row b f base row ∷ decode_rows b f (base + managed b (bare_region b row)) rows

abbrev pub frame_at : (ℕ → Record) → Option ℕ → Option Frame
frame_at f none = none
frame_at f (some q) = frame_of (f q)

abbrev pub byte_at : Board → List ℕ → ℕ → Option ℕ → ℕ
byte_at b memory a none = 0
byte_at b memory a (some q) = get_or memory (b.page * q + a % b.page) 0

-- the lent memory by physical address
abbrev pub memory_of : Board → List ℕ → List AllocationRegion → Memory
memory_of b memory rs a = byte_at b memory a (number_in b 0 rs (a / b.page))

abbrev pub decode_with : Board → World → List AllocationRegion → Store
decode_with b w rs =
    record {
      allocator = record { frames = λ p. frame_at (record_at w.records) (number_in b 0 rs p); regions = rs };
      memory = memory_of b w.memory rs;
      counters = w.counters;
      queue = take w.queued w.queue;
      kept = record { room = length w.queue };
      pass = w.pass;
    }

unfoldable pub decode : Board → World → Store
decode b w = decode_with b w (decode_rows b (record_at w.records) 0 (used_rows w.rows))

-- ---- encode

-- the list that a frame belongs on; none of the six where there is no frame or it is held
abbrev pub slot_of : Option Frame → ℕ
slot_of none = slot levels false
slot_of (some f) = cond f.allocated (slot levels false) (slot f.level f.zeroed)

abbrev pub numbered : Board → ℕ → AllocationRegion → ℕ → List ℕ
numbered b base r k = map (page_number b base r) (r.free k)

-- the record of the page p
unfoldable pub record_of : Board → ℕ → AllocationRegion → Frames → ℕ → Record
record_of b base r fs p =
    record {
      marks = marks_of (fs p);
      level = level_of (fs p);
      earlier = earlier_in 0 (page_number b base r p) (numbered b base r (slot_of (fs p)));
      later = later_in (page_number b base r p) (numbered b base r (slot_of (fs p)));
    }

unfoldable pub pages_bytes : (ℕ → Record) → List ℕ → List ℕ
pages_bytes f [] = []
pages_bytes f (p ∷ ps) = record_bytes (f p) ++ pages_bytes f ps

unfoldable pub regions_bytes : Board → ℕ → Frames → List AllocationRegion → List ℕ
regions_bytes b base fs [] = []
regions_bytes b base fs (r ∷ rs) =
    pages_bytes (record_of b base r fs) (range (first b r) (managed b r)) ++ regions_bytes b (base + managed b r) fs rs

-- "managed bytes of the regions follow one another in one lent memory"
unfoldable pub memory_bytes : Board → Memory → List AllocationRegion → List ℕ
memory_bytes b m [] = []
memory_bytes b m (r ∷ rs) = bytes_at m (b.page * first b r) (b.page * managed b r) ++ memory_bytes b m rs

abbrev pub encode_row : Board → ℕ → AllocationRegion → Row
encode_row b base r =
    record {
      start = record { 0 = b.page * r.start };
      pages = r.pages;
      lists = map (λ k. links_of (numbered b base r k)) (range 0 (slot levels false));
    }

unfoldable pub encode_rows : Board → ℕ → List AllocationRegion → List Row
encode_rows b base [] = []
encode_rows b base (r ∷ rs) = encode_row b base r ∷ encode_rows b (base + managed b r) rs

-- every byte and place past those of the managed pages and of the queue stays as it was
unfoldable pub encode : Board → Store → World → World
encode b s w =
    let rs = s.allocator.regions in
    record {
      rows = encode_rows b 0 rs ++ replicate (most_rows - length rs) no_row;
      counters = s.counters;
      queued = length s.queue;
      pass = s.pass;
      records = regions_bytes b 0 s.allocator.frames rs ++ drop (record_size * managed_pages b rs) w.records;
      memory = memory_bytes b s.memory rs ++ drop (b.page * managed_pages b rs) w.memory;
      queue = s.queue ++ drop (length s.queue) w.queue;
    }
