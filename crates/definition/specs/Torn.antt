-- 01's torn sheet, "Torn unless all hold": each sentence is a test of its own over the world, and `Sound` has a field for each. A later call on a
-- torn world is refused 6 and changes nothing; on a sound one it is the step of the store that the world stands for.
use Rattle.std.specs.Prelude.{ℕ, zero, suc, ◌+◌, ◌-◌, ◌*◌, ◌/◌, ◌%◌, Bool, true, false, not, cond, ◌&&◌, ◌||◌, List, [], ◌∷◌, ◌≡◌, leb, ltb, eqb, length, get_or, drop}
use Rattle.std.proofs.Math.Option.{Option, none, some}
use Rattle.definition.specs.declared.Record.{Record}
use Rattle.definition.specs.declared.Links.{Links}
use Rattle.definition.specs.declared.Row.{Row}
use Rattle.definition.specs.declared.Counters.{Counters}
use Rattle.definition.specs.declared.Pass.{Pass}
use Rattle.definition.specs.declared.MemoryRegion.{MemoryRegion}
use Rattle.definition.specs.declared.Refusal.{Refusal}
use Rattle.definition.specs.declared.Refusal.TheVariants.{Torn}
use Rattle.definition.specs.Board.{Board}
use Rattle.definition.specs.Basics.{all, sum, range, member, bit}
use Rattle.definition.specs.Frame.{size, levels, slot}
use Rattle.definition.specs.Allocator.{AllocationRegion, table_pages, first, managed, total}
use Rattle.definition.specs.Boot.{managed_pages, overlap, most_rows, highest_address, most_pages, record_size, boot_sheet, kept_regions, boot}
use Rattle.definition.specs.Refusal.{first_met}
use Rattle.definition.specs.Calls.{Call, Answer, Refused, Done, Outcome, step}
use Rattle.definition.specs.World.{
  World,
  record_at,
  allocated_in,
  zeroed_bit,
  kernel_bit,
  named_marks,
  level_in,
  is_admitted,
  no_links,
  pages_of,
  used_rows,
  bare_region,
  memory_of,
  decode,
  encode,
}

-- ---- "the rows' starts and pages are such as boot makes"

abbrev pub is_no_links : Links → Bool
is_no_links l = eqb l.front 0 && (eqb l.back 0 && eqb l.count 0)

abbrev pub is_no_row : Row → Bool
is_no_row row = eqb row.start.0 0 && (eqb row.pages 0 && all is_no_links row.lists)

unfoldable pub bare_regions : Board → List Row → List AllocationRegion
bare_regions b [] = []
bare_regions b (row ∷ rows) = bare_region b row ∷ bare_regions b rows

-- the regions of the rows in use
abbrev pub regions_of : Board → List Row → List AllocationRegion
regions_of b rows = bare_regions b (used_rows rows)

-- a page edge, more than one page and more than the tables, an end by 2^40
abbrev pub row_as_boot : Board → Row → Bool
row_as_boot b row =
    eqb (row.start.0 % b.page) 0
    && (ltb 1 row.pages && (ltb (table_pages b row.pages) row.pages && leb (row.start.0 + b.page * row.pages) highest_address))

abbrev pub six_lists : Row → Bool
six_lists row = eqb (length row.lists) (slot levels false)

unfoldable pub rows_as_boot : Board → List Row → Bool
rows_as_boot b rows =
    eqb (length rows) most_rows
    && (all six_lists rows
    && (all is_no_row (drop (length (used_rows rows)) rows)
    && (all (row_as_boot b) (used_rows rows) && (not (overlap b (regions_of b rows)) && leb (total (regions_of b rows)) most_pages))))

-- ---- "and the loans long enough"

-- of loans of so many bytes
unfoldable pub loans_long : Board → List Row → (records memory : ℕ) → Bool
loans_long b rows records memory =
    leb (record_size * managed_pages b (regions_of b rows)) records && leb (b.page * managed_pages b (regions_of b rows)) memory

-- ---- a row with the page number of its first managed page

pub record Placed : Type 0 where
  pub base : ℕ
  pub row : Row

unfoldable pub placed_from : Board → ℕ → List Row → List Placed
placed_from b base [] = []
placed_from b base (row ∷ rows) = record { base = base; row = row } ∷ placed_from b (base + managed b (bare_region b row)) rows

abbrev pub placed : Board → List Row → List Placed
placed b rows = placed_from b 0 (used_rows rows)

-- the page number behind its last
abbrev pub past : Board → Placed → ℕ
past b x = x.base + managed b (bare_region b x.row)

abbrev pub Records : Type 0
Records = ℕ → Record

abbrev pub is_held_record : Record → Bool
is_held_record r = allocated_in r.marks

-- a frame's pages by its record; of a level that is none, 1, so that the stepping goes on
abbrev pub pages_of_record : Record → ℕ
pages_of_record r = cond (ltb (level_in r.level) levels) (size (level_in r.level)) 1

-- ---- "stepping by frame size from each region's first managed page meets ADMITTED, aligned heads of level 0 to 2 with no mark bits but those
-- named, ending at its end, zeros inside"

unfoldable pub heads_from : Records → ℕ → ℕ → ℕ → List ℕ
heads_from f zero at past = []
heads_from f (suc fuel) at past = cond (leb past at) [] (at ∷ heads_from f fuel (at + pages_of_record (f at)) past)

abbrev pub heads : Board → Records → Placed → List ℕ
heads b f x = heads_from f (past b x - x.base) x.base (past b x)

abbrev pub is_blank : Record → Bool
is_blank r = eqb r.marks 0 && (eqb r.level 0 && (eqb r.earlier 0 && eqb r.later 0))

-- the page frame number of the page h
abbrev pub frame_number : Board → Placed → ℕ → ℕ
frame_number b x h = first b (bare_region b x.row) + (h - x.base)

abbrev pub is_head : Board → Records → Placed → ℕ → Bool
is_head b f x h =
    is_admitted (f h)
    && (ltb (f h).marks named_marks
    && (ltb (level_in (f h).level) levels
    && (eqb (frame_number b x h % size (level_in (f h).level)) 0
    && (leb (h + size (level_in (f h).level)) (past b x) && all (λ q. is_blank (f q)) (range (h + 1) (size (level_in (f h).level) - 1))))))

unfoldable pub tiled : Board → Records → List Placed → Bool
tiled b f xs = all (λ x. all (is_head b f x) (heads b f x)) xs

-- ---- "held heads have neighbours 0"

abbrev pub alone_if_held : Record → Bool
alone_if_held r = not (is_held_record r) || (eqb r.earlier 0 && eqb r.later 0)

unfoldable pub held_alone : Board → Records → List Placed → Bool
held_alone b f xs = all (λ x. all (λ h. alone_if_held (f h)) (heads b f x)) xs

-- ---- "each list walks front to back in its count, both ways, over unheld frames of its region, level and mark"

-- the list that an unheld head belongs on
abbrev pub class_of : Record → ℕ
class_of r = level_in r.level * 2 + zeroed_bit r.marks

-- the number x names an unheld frame of the region and the list k, whose earlier neighbour is prev
abbrev pub is_node : Board → Records → Placed → ℕ → ℕ → ℕ → Bool
is_node b f x k prev at =
    ltb x.base at
    && (leb at (past b x)
    && (is_admitted (f (at - 1))
    && (not (is_held_record (f (at - 1))) && (eqb (class_of (f (at - 1))) k && eqb (f (at - 1)).earlier prev))))

unfoldable pub walks : Board → Records → Placed → ℕ → (count prev at last : ℕ) → Bool
walks b f x k zero prev at last = eqb at 0 && eqb prev last
walks b f x k (suc n) prev at last = is_node b f x k prev at && walks b f x k n at (f (at - 1)).later last

abbrev pub links_at : Placed → ℕ → Links
links_at x k = get_or x.row.lists k no_links

abbrev pub list_walks : Board → Records → Placed → ℕ → Bool
list_walks b f x k = walks b f x k (links_at x k).count 0 (links_at x k).front (links_at x k).back

unfoldable pub lists_walk : Board → Records → List Placed → Bool
lists_walk b f xs = all (λ x. all (list_walks b f x) (range 0 (slot levels false))) xs

-- ---- "every unheld head is on a list"

abbrev pub on_its_list : Records → Placed → ℕ → Bool
on_its_list f x h = is_held_record (f h) || member h (pages_of f (links_at x (class_of (f h))))

unfoldable pub unheld_listed : Board → Records → List Placed → Bool
unheld_listed b f xs = all (λ x. all (on_its_list f x) (heads b f x)) xs

-- ---- "idle, total, kernel and page counts equal those of the rows and records, as demand 3 says, but with held and KERNEL read off the heads' marks"

-- the pages on the list k of a row
abbrev pub listed_on : Placed → ℕ → ℕ
listed_on x k = size (k / 2) * (links_at x k).count

abbrev pub listed_pages : Placed → ℕ
listed_pages x = sum (listed_on x) (range 0 (slot levels false))

abbrev pub tables_of : Board → Placed → ℕ
tables_of b x = table_pages b x.row.pages

-- the pages of a head where it is held, with KERNEL or without as asked
abbrev pub held_as : Bool → Record → ℕ
held_as kernel r = cond (is_held_record r && eqb (kernel_bit r.marks) (bit kernel)) (pages_of_record r) 0

unfoldable pub held_pages : Board → Records → Bool → List Placed → ℕ
held_pages b f kernel xs = sum (λ x. sum (λ h. held_as kernel (f h)) (heads b f x)) xs

unfoldable pub idle_pages : Board → List Placed → ℕ
idle_pages b xs = sum (λ x. listed_pages x + tables_of b x) xs

abbrev pub idle_counts : Board → List Row → Counters → Bool
idle_counts b rows c = eqb c.idle (idle_pages b (placed b rows))

abbrev pub total_counts : Board → List Row → Counters → Bool
total_counts b rows c = eqb c.total (total (regions_of b rows))

abbrev pub kernel_counts : Board → Records → List Row → Counters → Bool
kernel_counts b f rows c = eqb c.kernel_used (held_pages b f true (placed b rows))

abbrev pub page_counts : Board → Records → List Row → Counters → Bool
page_counts b f rows c = eqb c.page_data (held_pages b f false (placed b rows))

-- ---- "`waiting` is 0; the queue's count is within its loan; pass rounds are at most 1,001 and freed at most 100 × rounds"

abbrev pub none_waiting : Counters → Bool
none_waiting c = eqb c.waiting 0

-- of a loan of so many places
abbrev pub queue_within : (queued room : ℕ) → Bool
queue_within queued room = leb queued room

abbrev pub pass_within : Board → Pass → Bool
pass_within b p = leb p.rounds (b.max_rounds + 1) && leb p.freed (b.per_round * p.rounds)

-- ---- the sheet

abbrev pub records_of : World → Records
records_of w = record_at w.records

pub record Sound (b : Board) (w : World) : Type 0 where
  pub rows : rows_as_boot b w.rows ≡ true
  pub loans : loans_long b w.rows (length w.records) (length w.memory) ≡ true
  pub tiling : tiled b (records_of w) (placed b w.rows) ≡ true
  pub alone : held_alone b (records_of w) (placed b w.rows) ≡ true
  pub lists : lists_walk b (records_of w) (placed b w.rows) ≡ true
  pub listed : unheld_listed b (records_of w) (placed b w.rows) ≡ true
  pub idle : idle_counts b w.rows w.counters ≡ true
  pub totals : total_counts b w.rows w.counters ≡ true
  pub kernel : kernel_counts b (records_of w) w.rows w.counters ≡ true
  pub page : page_counts b (records_of w) w.rows w.counters ≡ true
  pub waiting : none_waiting w.counters ≡ true
  pub queue : queue_within w.queued (length w.queue) ≡ true
  pub pass : pass_within b w.pass ≡ true

-- the same as one test
unfoldable pub sound : Board → World → Bool
sound b w =
    rows_as_boot b w.rows
    && (loans_long b w.rows (length w.records) (length w.memory)
    && (tiled b (records_of w) (placed b w.rows)
    && (held_alone b (records_of w) (placed b w.rows)
    && (lists_walk b (records_of w) (placed b w.rows)
    && (unheld_listed b (records_of w) (placed b w.rows)
    && (idle_counts b w.rows w.counters
    && (total_counts b w.rows w.counters
    && (kernel_counts b (records_of w) w.rows w.counters
    && (page_counts b (records_of w) w.rows w.counters
    && (none_waiting w.counters && (queue_within w.queued (length w.queue) && pass_within b w.pass)))))))))))

-- ---- what a call leaves and answers

pub record Left : Type 0 where
  pub world : World
  pub answer : Answer

abbrev pub untouched : World → Refusal → Left
untouched w r = record { world = w; answer = Refused r }

abbrev pub written : Board → World → Outcome → Left
written b w o = record { world = encode b o.store w; answer = o.answer }

-- a later call
unfoldable pub call : Board → World → Call → Left
call b w c = cond (sound b w) (written b w (step b (decode b w) c)) (untouched w Torn)

abbrev pub booted : Board → List MemoryRegion → World → Left
booted b map w =
    record {
      world = encode b (boot b map (memory_of b w.memory (kept_regions b map)) (length w.queue)) w;
      answer = Done 0 (b.page * managed_pages b (kept_regions b map));
    }

abbrev pub unless_refused : World → Option Refusal → Left → Left
unless_refused w refusal l = elim refusal [ some r ↦ untouched w r | none ↦ l ]

-- a boot, which looks at nothing of the world but the lengths of its loans
unfoldable pub boot_call : Board → List MemoryRegion → World → Left
boot_call b map w = unless_refused w (first_met (boot_sheet b map (length w.records) (length w.memory))) (booted b map w)
