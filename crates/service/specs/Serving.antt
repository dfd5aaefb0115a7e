-- What a call over lent words leaves and answers. A kernel lends the state as words beside the records, the memory and the queue, and a
-- slice for the two numbers of the answer. `served` is the whole outcome: the loans as `call` of definition/specs/Torn.antt leaves them,
-- and the refusal's number, 0 where the call was accepted. Words that are too few or of another version, and an answer slice of under two
-- places, are refused 6 and nothing changes. `served_with` is the same where the counters are a record lent beside the words, whose own
-- counters it then neither reads nor writes.
use Rattle.std.specs.Prelude.{ℕ, Bool, cond, ◌&&◌, List, [], ◌∷◌, Result, Ok, Err, is_ok, ◌≡◌, eqb, leb, length, take, drop}
use Rattle.std.proofs.Math.Option.{Option, none, some}
use Rattle.definition.specs.declared.Counters.{Counters}
use Rattle.definition.specs.declared.MemoryRegion.{MemoryRegion}
use Rattle.definition.specs.Board.{Board, standard}
use Rattle.definition.specs.Boot.{boot_sheet}
use Rattle.definition.specs.declared.Refusal.{Refusal}
use Rattle.definition.specs.declared.Refusal.TheVariants.{ShortLoan}
use Rattle.definition.specs.Refusal.{first_met, number_of}
use Rattle.definition.specs.Calls.{Call, Read, Stats}
use Rattle.definition.specs.World.{World, used_rows}
use Rattle.definition.specs.Torn.{Left, call, boot_call}
use Rattle.record.specs.Records.{with_bytes}
use Rattle.exam.specs.Promise.{Answer, told}
use Rattle.counts.specs.Counting.{text_of}
use Rattle.copies.specs.Copies.{bytes_of}
use Rattle.words.specs.Words.{board_in, word_in, state_words, counters_at, rows_in, queued_in, pass_in, counters_in, is_kept, kept_in}
use Rattle.words.specs.Words.{kept_of, counter_words}

-- the loans of a call, whole
pub record Lent : Type 0 where
  pub words : List ℕ
  pub records : List ℕ
  pub memory : List ℕ
  pub queue : List ℕ
  pub answer : List ℕ

abbrev pub loans_of : (words records memory queue answer : List ℕ) → Lent
loans_of ws rs m q ys = record { words = ws; records = rs; memory = m; queue = q; answer = ys }

-- the world that they hold, with counters from elsewhere, and with those of the words
abbrev pub world_with : Counters → Lent → World
world_with k l =
    record {
      rows = rows_in l.words;
      counters = k;
      queued = queued_in l.words;
      pass = pass_in l.words;
      records = l.records;
      memory = l.memory;
      queue = l.queue;
    }

abbrev pub world_in : Lent → World
world_in l = world_with (counters_in l.words) l

-- ---- what is written

-- the words, with a world's state but for its counters, and with all of it; the first word and those of unused rows stay
abbrev pub kept_over : World → List ℕ → List ℕ
kept_over w ws = kept_in ws w.rows w.queued w.pass

abbrev pub state_over : World → List ℕ → List ℕ
state_over w ws = with_bytes (kept_over w ws) counters_at (counter_words w.counters)

-- the same as a boot writes it, the first word and the unused rows included
abbrev pub boot_over : World → List ℕ → List ℕ
boot_over w ws = with_bytes ws 0 (kept_of (length (used_rows w.rows)) w.rows w.queued w.pass)

abbrev pub boot_state_over : World → List ℕ → List ℕ
boot_state_over w ws = with_bytes (boot_over w ws) counters_at (counter_words w.counters)

-- the address and the bytes of an accepted call stand in front of the answer; a refusal leaves it as it is
unfoldable pub tells : Answer → List ℕ → List ℕ
tells (Ok y) ys = with_bytes ys 0 (y.address ∷ y.bytes ∷ [])
tells (Err r) ys = ys

-- the number that an exported function returns: 0, or the refusal's
abbrev pub code : {A : Type 0} → Result A Refusal → ℕ
code (Ok x) = 0
code (Err r) = number_of r

pub record Served : Type 0 where
  pub lent : Lent
  pub number : ℕ

abbrev pub refused_as : Lent → ℕ → Served
refused_as l n = record { lent = l; number = n }

abbrev pub written : (World → List ℕ → List ℕ) → Lent → Left → Served
written over l x =
    record {
      lent =
          record {
            words = over x.world l.words;
            records = x.world.records;
            memory = x.world.memory;
            queue = x.world.queue;
            answer = tells (told x.answer) l.answer;
          };
      number = code (told x.answer);
    }

-- ---- a call

abbrev pub has_room : Lent → Bool
has_room l = leb 2 (length l.answer)

-- the words are a state's, and the answer has room
abbrev pub is_lent : Lent → Bool
is_lent l = is_kept l.words && has_room l

unfoldable pub served : Call → Lent → Served
served c l = cond (is_lent l) (written state_over l (call (board_in l.words) (world_in l) c)) (refused_as l 6)

abbrev pub Serves : Call → Lent → Lent → ℕ → Type 0
Serves c l l' r = served c l ≡ record { lent = l'; number = r }

-- ---- a call whose counters are a record of their own

pub record Counted : Type 0 where
  pub counters : Counters
  pub served : Served

abbrev pub counted_by : Lent → Left → Counted
counted_by l x = record { counters = x.world.counters; served = written kept_over l x }

-- nothing changes
abbrev pub stays : Counters → Lent → ℕ → Counted
stays k l n = record { counters = k; served = refused_as l n }

unfoldable pub served_with : Call → Counters → Lent → Counted
served_with c k l = cond (is_lent l) (counted_by l (call (board_in l.words) (world_with k l) c)) (stays k l 6)

abbrev pub ServesWith : Call → Counters → Lent → Counters → Lent → ℕ → Type 0
ServesWith c k l k' l' r = served_with c k l ≡ record { counters = k'; served = record { lent = l'; number = r } }

-- ---- a call that answers by bytes, in either form of the counters: `w` is the world that the loans hold

-- the statistics stand in front of the text, which has room for 368 bytes; else the call is refused 6. Where there is room, `made` is what
-- the call leaves.
pub record ReportsBy (b : Board) (O : Type 0) (fit : Bool) (w : World) (made refused left : O) (text text' : List ℕ) : Type 0 where
  pub loans : cond (leb 368 (length text)) made refused ≡ left
  pub report : text' ≡ cond (leb 368 (length text) && fit) (with_bytes text 0 (text_of (call b w Stats).answer)) text

abbrev pub Reports : Lent → List ℕ → Lent → List ℕ → ℕ → Type 0
Reports l text l' text' r =
    ReportsBy (board_in l.words) Served (is_lent l) (world_in l) (served Stats l) (refused_as l 6)
    (record { lent = l'; number = r }) text text'

abbrev pub ReportsWith : Counters → Lent → List ℕ → Counters → Lent → List ℕ → ℕ → Type 0
ReportsWith k l text k' l' text' r =
    ReportsBy (board_in l.words) Counted (is_lent l) (world_with k l) (served_with Stats k l) (stays k l 6)
    (record { counters = k'; served = record { lent = l'; number = r } }) text text'

-- a read tells where the bytes stand in the lent memory, and how many they are; `n` is the number of the call
pub record PlacesBy (w : World) (n : ℕ) (a off len : ℕ) (l l' : Lent) (r : ℕ) : Type 0 where
  pub number : r ≡ n
  pub words : l'.words ≡ l.words
  pub records : l'.records ≡ l.records
  pub memory : l'.memory ≡ l.memory
  pub queue : l'.queue ≡ l.queue
  pub answer : l'.answer ≡ cond (eqb r 0) (with_bytes l.answer 0 (word_in l'.answer 0 ∷ len ∷ [])) l.answer
  pub bytes : r ≡ 0 → take len (drop (word_in l'.answer 0) l.memory) ≡ bytes_of (call (board_in l.words) w (Read a off len)).answer

abbrev pub Places : (a off len : ℕ) → Lent → Lent → ℕ → Type 0
Places a off len l = PlacesBy (world_in l) (served (Read a off len) l).number a off len l

abbrev pub PlacesWith : (a off len : ℕ) → Counters → Lent → Lent → ℕ → Type 0
PlacesWith a off len k l = PlacesBy (world_with k l) (served_with (Read a off len) k l).served.number a off len l

-- ---- a boot

abbrev pub is_roomy : Lent → Bool
is_roomy l = leb state_words (length l.words) && has_room l

-- 5 where no earlier refusal meets the map: the words and the answer are loans too
abbrev pub short_refusal : Option Refusal → Refusal
short_refusal none = ShortLoan
short_refusal (some r) = r

abbrev pub ShortBoots : List MemoryRegion → (count records memory : ℕ) → Refusal → Type 0
ShortBoots map count records memory r =
    (ms : List MemoryRegion) → length ms ≡ count → take 8 ms ≡ take count map
    → r ≡ short_refusal (first_met (boot_sheet standard ms records memory))

abbrev pub boot_written : Lent → Left → Served
boot_written l x = cond (is_ok (told x.answer)) (written boot_state_over l x) (refused_as l (code (told x.answer)))

unfoldable pub booted : List MemoryRegion → Lent → Served
booted ms l =
    cond (is_roomy l) (boot_written l (boot_call standard ms (world_in l)))
    (refused_as l (number_of (short_refusal (first_met (boot_sheet standard ms (length l.records) (length l.memory))))))

-- whatever stands past the eighth entry of the map
abbrev pub Boots : List MemoryRegion → ℕ → Lent → Lent → ℕ → Type 0
Boots map count l l' r =
    (ms : List MemoryRegion) → length ms ≡ count → take 8 ms ≡ take count map → booted ms l ≡ record { lent = l'; number = r }

-- ---- a boot whose counters are a record of their own

abbrev pub boot_counted : Counters → Lent → Left → Counted
boot_counted k l x =
    cond (is_ok (told x.answer)) (record { counters = x.world.counters; served = written boot_over l x }) (stays k l (code (told x.answer)))

unfoldable pub booted_with : List MemoryRegion → Counters → Lent → Counted
booted_with ms k l =
    cond (is_roomy l) (boot_counted k l (boot_call standard ms (world_with k l)))
    (stays k l (number_of (short_refusal (first_met (boot_sheet standard ms (length l.records) (length l.memory))))))

abbrev pub BootsWith : List MemoryRegion → ℕ → Counters → Lent → Counters → Lent → ℕ → Type 0
BootsWith map count k l k' l' r =
    (ms : List MemoryRegion) → length ms ≡ count → take 8 ms ≡ take count map
    → booted_with ms k l ≡ record { counters = k'; served = record { lent = l'; number = r } }
