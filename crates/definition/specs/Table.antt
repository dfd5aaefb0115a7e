-- 01, "Table T", as one table: a boot map, calls on it, and what the paper says is seen then. `table_t` has its rows T1 to T12, `slips` the runs in
-- which the four slips that it names would show. That each row holds is one theorem, in proofs/Table.
use Rattle.std.specs.Prelude.{ℕ, zero, suc, ◌+◌, ◌-◌, Bool, true, false, List, [], ◌∷◌, ◌++◌, length, drop, replicate}
use Rattle.definition.specs.declared.MemoryRegion.{MemoryRegion}
use Rattle.definition.specs.declared.MemoryRegionKind.TheVariants.{UsableRam}
use Rattle.definition.specs.declared.Refusal.TheVariants.{NoFrame}
use Rattle.definition.specs.Board.{standard}
use Rattle.definition.specs.Basics.{sum}
use Rattle.definition.specs.Frame.{slot}
use Rattle.definition.specs.Store.{Store}
use Rattle.definition.specs.Boot.{boot, kept_regions, managed_pages}
use Rattle.definition.specs.Calls.{Call, Alloc, Free, Zero, Queue, Round, Low, Answer, Refused, Done, Ran, run}

-- managed pages, the last answers, idle pages, and the frames listed at levels 0, 1 and 2
pub record Seen : Type 0 where
  pub managed : ℕ
  pub answers : List Answer
  pub idle : ℕ
  pub listed : List ℕ

pub record Row : Type 0 where
  pub map : List MemoryRegion
  pub calls : List Call
  pub wanted : Seen

abbrev pub listed_at : Store → ℕ → ℕ
listed_at s l = sum (λ r. length (r.free (slot l false)) + length (r.free (slot l true))) s.allocator.regions

abbrev pub seen_after : ℕ → ℕ → Ran → Seen
seen_after managed last r =
    record {
      managed = managed;
      answers = drop (length r.answers - last) r.answers;
      idle = r.store.counters.idle;
      listed = listed_at r.store 0 ∷ listed_at r.store 1 ∷ listed_at r.store 2 ∷ [];
    }

-- the memory's bytes play no part
abbrev pub seen : Row → Seen
seen w =
    seen_after (managed_pages standard (kept_regions standard w.map)) (length w.wanted.answers)
    (run standard (boot standard w.map (λ a. 0) 64) w.calls)

abbrev pub usable : (start length : ℕ) → List MemoryRegion
usable a n = record { start = record { 0 = a }; length = n; kind = UsableRam } ∷ []

abbrev pub page_with : (zeroed kernel : Bool) → Call
page_with z k = Alloc (record { size = 4096; align = 4096; flags = record { zeroed = z; kernel = k; wait_ok = false } })

abbrev pub page : Call
page = page_with false false

abbrev pub kernel_page : Call
kernel_page = page_with false true

abbrev pub low : Bool → Answer
low true = Done 0 1
low false = Done 0 0

-- n grants of a page, downwards from an address
abbrev pub falling : ℕ → ℕ → List Answer
falling zero a = []
falling (suc n) a = Done a 4096 ∷ falling n (a - 4096)

abbrev pub row : List MemoryRegion → List Call → ℕ → List Answer → ℕ → List ℕ → Row
row m calls managed answers idle listed =
    record { map = m; calls = calls; wanted = record { managed = managed; answers = answers; idle = idle; listed = listed } }

-- the script's map
abbrev pub script : List MemoryRegion
script = usable 0x100000 0x10000

abbrev pub four : List MemoryRegion
four = usable 0x200000 0x400000

abbrev pub table_t : List Row
table_t =
    -- T1: no entries: managed 0, low, 4 KiB grant 9
    row [] (Low ∷ page ∷ []) 0 (low true ∷ Refused NoFrame ∷ []) 0 (0 ∷ 0 ∷ 0 ∷ [])
    -- T2: 1 page: skipped
    ∷ row (usable 0x1000 0x1000) [] 0 [] 0 (0 ∷ 0 ∷ 0 ∷ [])
    -- T3: 2 pages: 1 managed
    ∷ row (usable 0x1000 0x2000) [] 1 [] 2 (1 ∷ 0 ∷ 0 ∷ [])
    -- T4: 128 and 129 pages: 127 managed each
    ∷ row (usable 0x1000 0x80000) [] 127 [] 128 (127 ∷ 0 ∷ 0 ∷ [])
    ∷ row (usable 0x1000 0x81000) [] 127 [] 129 (127 ∷ 0 ∷ 0 ∷ [])
    -- T5: start 0x1001, length 0x4000: first grant 0x4000
    ∷ row (usable 0x1001 0x4000) (page ∷ []) 2 (Done 0x4000 4096 ∷ []) 2 (1 ∷ 0 ∷ 0 ∷ [])
    -- T6: start 0x1001, length 0x10: skipped
    ∷ row (usable 0x1001 0x10) [] 0 [] 0 (0 ∷ 0 ∷ 0 ∷ [])
    -- T7: the script's map: grants fall from 0x10F000; the sixteenth is refused 9 with idle 1
    ∷ row script (replicate 16 page) 15 (falling 15 0x10f000 ++ (Refused NoFrame ∷ [])) 1 (0 ∷ 0 ∷ 0 ∷ [])
    -- T8: there, page grants: not low at 4, low at 5
    ∷ row script (replicate 4 page ++ (Low ∷ page ∷ Low ∷ [])) 15 (low false ∷ Done 0x10b000 4096 ∷ low true ∷ []) 11 (10 ∷ 0 ∷ 0 ∷ [])
    -- T9: there, KERNEL grants: not low at 5, low at 6
    ∷ row script (replicate 5 kernel_page ++ (Low ∷ kernel_page ∷ Low ∷ [])) 15 (low false ∷ Done 0x10a000 4096 ∷ low true ∷ []) 10 (9 ∷ 0 ∷ 0 ∷ [])
    -- T10: start 0x200000, length 0x400000: 504 small frames and one of 2 MiB, at 0x400000 as T11 shows
    ∷ row four [] 1016 [] 1024 (504 ∷ 1 ∷ 0 ∷ [])
    -- T11: there, after the 504: grants 0x400000, then 0x5FF000
    ∷ row four (replicate 506 page) 1016 (Done 0x400000 4096 ∷ Done 0x5ff000 4096 ∷ []) 518 (510 ∷ 0 ∷ 0 ∷ [])
    -- T12: start 0, 2 GiB: 504 frames of 2 MiB, one of 1 GiB
    ∷ row (usable 0 0x80000000) [] 520192 [] 524288 (0 ∷ 504 ∷ 1 ∷ [])
    ∷ []

-- 01, "Slips to catch", but for the first, which T11 shows, and the second, which T7 shows
abbrev pub slips : List Row
slips =
    -- a round works through its queue though the store stops being low
    row script
    (replicate 5 page ++ (Queue 0x10f000 ∷ Queue 0x10e000 ∷ Queue 0x10d000 ∷ Round ∷ Low ∷ []))
    15
    (Done 1 3 ∷ low false ∷ [])
    14
    (13 ∷ 0 ∷ 0 ∷ [])
    -- a plain grant splits a dirty large frame before it takes a small zeroed one
    ∷ row four
    (replicate 504 page ++ (Zero 0x208000 ∷ Free 0x208000 ∷ page ∷ []))
    1016
    (Done 0x400000 4096 ∷ [])
    520
    (512 ∷ 0 ∷ 0 ∷ [])
    ∷ []
