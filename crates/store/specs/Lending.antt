-- What the two forms over lent structs promise: a boot over a lent list of region entries, and a call by its number over the nine counters
-- as one lent record.
use Rattle.std.specs.Prelude.{ℕ, zero, suc, ◌+◌, ◌*◌, ◌/◌, ◌%◌, cond, List, [], ◌∷◌, map, Result, Ok, Err, ◌≡◌, eqb, length, get_or}
use Rattle.definition.specs.declared.Counters.{Counters}
use Rattle.definition.specs.declared.MemoryRegion.{MemoryRegion}
use Rattle.definition.specs.declared.Refusal.{Refusal}
use Rattle.definition.specs.declared.Refusal.TheVariants.{BadLine}
use Rattle.definition.specs.Refusal.{number_of}
use Rattle.definition.specs.Calls as Calls
use Rattle.definition.specs.Script.{kind_of}
use Rattle.lines.specs.declared.Ask.TheVariants.{
  Alloc,
  Take,
  Split,
  Free,
  Zero,
  Dirty,
  Find,
  Queue,
  Fill,
  Copy,
  Pcopy,
  Round,
  Lend,
  Back,
  Low,
}
use Rattle.lines.specs.Reading.{call_of}
use Rattle.service.specs.Serving.{Lent, Counted, ServesWith, PlacesWith, ReportsWith, stays, booted, booted_with}
use Rattle.store.specs.declared.Asked.{Asked}
use Rattle.store.specs.declared.Asked.TheVariants.{Known, Write, Read, Stats, Boot}
use Rattle.store.specs.declared.Entry.{Entry}

-- ---- the lent map

-- "0 UsableRam, 1 Reserved, 2 BootloaderReserved"; a kind over 2 is no usable memory either
abbrev pub region_of : Entry → MemoryRegion
region_of e = record { start = record { 0 = e.start }; length = e.length; kind = kind_of e.kind }

-- what a boot over the entries leaves and answers
abbrev pub Boots : List Entry → Lent → Lent → ℕ → Type 0
Boots es l l' r = booted (map region_of es) l ≡ record { lent = l'; number = r }

abbrev pub no_entry : Entry
no_entry = record { start = 0; length = 0; kind = 0 }

-- ---- the lent counters

-- what a number asks for: the calls that answer by numbers, in the order of 01's script, and the four others; 17 refuses any other number
unfoldable pub ask_of : ℕ → Result Asked Refusal
ask_of n =
    cond (eqb n 0) (Ok (Known Alloc))
    (cond (eqb n 1) (Ok (Known Take))
    (cond (eqb n 2) (Ok (Known Split))
    (cond (eqb n 3) (Ok (Known Free))
    (cond (eqb n 4) (Ok (Known Zero))
    (cond (eqb n 5) (Ok (Known Dirty))
    (cond (eqb n 6) (Ok (Known Find))
    (cond (eqb n 7) (Ok (Known Queue))
    (cond (eqb n 8) (Ok (Known Fill))
    (cond (eqb n 9) (Ok (Known Copy))
    (cond (eqb n 10) (Ok (Known Pcopy))
    (cond (eqb n 11) (Ok (Known Round))
    (cond (eqb n 12) (Ok (Known Lend))
    (cond (eqb n 13) (Ok (Known Back))
    (cond (eqb n 14) (Ok (Known Low))
    (cond (eqb n 15) (Ok Write)
    (cond (eqb n 16) (Ok Read) (cond (eqb n 17) (Ok Stats) (cond (eqb n 18) (Ok Boot) (Err BadLine)))))))))))))))))))

-- numbers that are not there count as 0
abbrev pub numbers_of : List ℕ → ℕ → ℕ
numbers_of ns i = get_or ns i 0

-- as many as any call takes
abbrev pub five_in : List ℕ → List ℕ
five_in ns = numbers_of ns 0 ∷ numbers_of ns 1 ∷ numbers_of ns 2 ∷ numbers_of ns 3 ∷ numbers_of ns 4 ∷ []

-- a map lent as numbers has three for each entry
abbrev pub entry_in : List ℕ → ℕ → Entry
entry_in ns i = record { start = numbers_of ns (3 * i); length = numbers_of ns (3 * i + 1); kind = numbers_of ns (3 * i + 2) }

-- so many entries, the first of which is the i-th
unfoldable pub entries_from : List ℕ → ℕ → ℕ → List Entry
entries_from ns i zero = []
entries_from ns i (suc n) = entry_in ns i ∷ entries_from ns (i + 1) n

abbrev pub entries_of : List ℕ → List Entry
entries_of ns = entries_from ns 0 (length ns / 3)

-- a boot over them; 17 where they are no such map
abbrev pub booted_by : List ℕ → Counters → Lent → Counted
booted_by ns k l = cond (eqb (length ns % 3) 0) (booted_with (map region_of (entries_of ns)) k l) (stays k l 17)

abbrev pub BootsFrom : List ℕ → Counters → Lent → Counters → Lent → ℕ → Type 0
BootsFrom ns k l k' l' r = booted_by ns k l ≡ record { counters = k'; served = record { lent = l'; number = r } }

-- what is left in the record, the loans and the bytes, and answered; only the statistics write to the bytes, and only a write reads them
abbrev pub CallsBy : Result Asked Refusal → List ℕ → Counters → Lent → List ℕ → Counters → Lent → List ℕ → ℕ → Type 0
CallsBy (Ok (Known a)) ns k l bs k' l' bs' r = ServesWith (call_of a (numbers_of ns)) k l k' l' r × (bs' ≡ bs)
CallsBy (Ok Write) ns k l bs k' l' bs' r = ServesWith (Calls.Write (numbers_of ns 0) (numbers_of ns 1) bs) k l k' l' r × (bs' ≡ bs)
CallsBy (Ok Read) ns k l bs k' l' bs' r =
    PlacesWith (numbers_of ns 0) (numbers_of ns 1) (numbers_of ns 2) k l l' r × (k' ≡ k) × (bs' ≡ bs)
CallsBy (Ok Stats) ns k l bs k' l' bs' r = ReportsWith k l bs k' l' bs' r
CallsBy (Ok Boot) ns k l bs k' l' bs' r = BootsFrom ns k l k' l' r × (bs' ≡ bs)
CallsBy (Err e) ns k l bs k' l' bs' r =
    (stays k l (number_of e) ≡ record { counters = k'; served = record { lent = l'; number = r } }) × (bs' ≡ bs)

abbrev pub CallsWith : ℕ → List ℕ → Counters → Lent → List ℕ → Counters → Lent → List ℕ → ℕ → Type 0
CallsWith op = CallsBy (ask_of op)
