-- What a call leaves of the records. `with_bytes` fixes every byte of the loan; the others speak of the records as a function of the page, `record_at`
-- of the definition, which is all that callers see of the bytes.
use Rattle.std.specs.Prelude.{ℕ, ◌+◌, ◌*◌, ◌/◌, Bool, false, not, cond, ◌&&◌, ◌||◌, List, ◌++◌, ltb, eqb, length, take, drop}
use Rattle.definition.specs.declared.Record.{Record}
use Rattle.definition.specs.Basics.{upd}
use Rattle.definition.specs.Boot.{record_size}
use Rattle.definition.specs.Contents.{within}
use Rattle.definition.specs.World.{named_marks, marks_with, level_in, level_word, is_admitted}
use Rattle.definition.specs.Torn.{is_held_record}

-- how many pages have a whole record
abbrev pub pages_in : List ℕ → ℕ
pages_in bs = length bs / record_size

-- the bytes, but for those of xs from `at` on
unfoldable pub with_bytes : List ℕ → ℕ → List ℕ → List ℕ
with_bytes bs at xs = take at bs ++ xs ++ drop (at + length xs) bs

abbrev pub no_record : Record
no_record = record { marks = 0; level = 0; earlier = 0; later = 0 }

-- one field of the record of a page is another
abbrev pub with_marks : (ℕ → Record) → ℕ → ℕ → ℕ → Record
with_marks f p v = upd f p (record { marks = v; level = (f p).level; earlier = (f p).earlier; later = (f p).later })

abbrev pub with_earlier : (ℕ → Record) → ℕ → ℕ → ℕ → Record
with_earlier f p v = upd f p (record { marks = (f p).marks; level = (f p).level; earlier = v; later = (f p).later })

abbrev pub with_later : (ℕ → Record) → ℕ → ℕ → ℕ → Record
with_later f p v = upd f p (record { marks = (f p).marks; level = (f p).level; earlier = (f p).earlier; later = v })

-- both neighbours of a page are others
abbrev pub with_links : (ℕ → Record) → ℕ → ℕ → ℕ → ℕ → Record
with_links f p e l = upd f p (record { marks = (f p).marks; level = (f p).level; earlier = e; later = l })

-- the number at a place of a record, and the record with another number there
abbrev pub number_at : ℕ → Record → ℕ
number_at i r = cond (eqb i 0) r.marks (cond (eqb i 1) r.level (cond (eqb i 2) r.earlier r.later))

abbrev pub changed : ℕ → ℕ → Record → Record
changed i v r =
    record {
      marks = cond (eqb i 0) v r.marks;
      level = cond (eqb i 1) v r.level;
      earlier = cond (eqb i 2) v r.earlier;
      later = cond (eqb i 3) v r.later;
    }

-- one number of the record of a page is another
abbrev pub with_number : (ℕ → Record) → ℕ → ℕ → ℕ → ℕ → Record
with_number f p i v = upd f p (changed i v (f p))

-- the records of so many pages, from the first on, are four zeros
unfoldable pub cleared : (ℕ → Record) → ℕ → ℕ → ℕ → Record
cleared f first count q = cond (within first count q) no_record (f q)

-- ---- the marks and the number of the level as one number

abbrev pub kind_of : Record → ℕ
kind_of r = r.marks + 4294967296 * r.level

-- that of the unheld frames of a level, with ZEROED or without, but for KERNEL
abbrev pub free_kind : ℕ → Bool → ℕ
free_kind level zeroed = marks_with false zeroed false + 4294967296 * level_word level

-- a record has that number, with KERNEL or without
abbrev pub of_kind : ℕ → Record → Bool
of_kind kind r = eqb (kind_of r) kind || eqb (kind_of r) (kind + 8)

-- an unheld frame of one page
abbrev pub free_page : Record → Bool
free_page r = is_admitted r && (not (is_held_record r) && (ltb r.marks named_marks && eqb (level_in r.level) 0))
