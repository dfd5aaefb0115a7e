-- Small cases for each line of the refusal sheet and each clause of the torn sheet, with the numbers that the paper gives. Scripts show refusals 1 to 5
-- and 7 to 17 as the program prints them, `large` what happens to frames above a page and at the round limit, `damaged` refusal 6. That they hold is proved in proofs/Cases.
use Rattle.std.specs.Prelude.{ℕ, zero, suc, Bool, true, false, List, [], ◌∷◌, ◌++◌, length, take, set, replicate, get_or}
use Prim.Native.String.{String}
use Rattle.definition.specs.declared.MemoryRegion.{MemoryRegion}
use Rattle.definition.specs.declared.Links.{Links}
use Rattle.definition.specs.declared.Row.{Row}
use Rattle.definition.specs.declared.Counters.{Counters}
use Rattle.definition.specs.declared.Refusal.TheVariants.{NoFrame, NoFrameStart, NotHeld, PastTheEnd}
use Rattle.definition.specs.Board.{Board, standard}
use Rattle.definition.specs.Text.{bytes_of}
use Rattle.definition.specs.Boot.{counters_at_boot, kept_regions, boot}
use Rattle.definition.specs.Calls.{Layout, Call, Alloc, Take, Split, Free, Zero, Find, Queue, Fill, Copy, Round, Answer, Refused, Done, run}
use Rattle.definition.specs.World.{World, no_row, no_links, memory_of, encode}
use Rattle.definition.specs.Table as Table

-- ---- scripts, on the program's loans: 64 KiB of memory, 16 records, a queue of 64

pub record Case : Type 0 where
  pub script : List ℕ
  pub output : List ℕ

abbrev pub zero_counters : Counters
zero_counters = counters_at_boot 0

-- an untouched world with loans of so many bytes, bytes and addresses
abbrev pub untouched : (records memory queue : ℕ) → World
untouched records memory queue =
    record {
      rows = replicate 8 no_row;
      counters = zero_counters;
      queued = 0;
      pass = record { rounds = 0; freed = 0 };
      records = replicate records 0;
      memory = replicate memory 0;
      queue = replicate queue 0;
    }

abbrev pub program : World
program = untouched 256 65536 64

abbrev pub case : String → String → Case
case script output = record { script = bytes_of script; output = bytes_of "op,refusal,address,bytes\n" ++ bytes_of output }

-- a case on the script's map, `region,1048576,65536,0` and `boot`
abbrev pub on_script_map : List ℕ → List ℕ → Case
on_script_map script output =
    record {
      script = bytes_of "region,1048576,65536,0\nboot\n" ++ script;
      output = bytes_of "op,refusal,address,bytes\nboot,0,0,61440\n" ++ output;
    }

abbrev pub there : String → String → Case
there script output = on_script_map (bytes_of script) (bytes_of output)

abbrev pub times : ℕ → List ℕ → List ℕ
times zero text = []
times (suc n) text = text ++ times n text

abbrev pub times' : ℕ → String → List ℕ
times' n text = times n (bytes_of text)

-- the paper's example
abbrev pub example : List Case
example =
    case
    "region,1048576,65536,0\nboot\nalloc,4096,4096,0\nfree,1110016\nfree,1110016\nlow\n"
    "boot,0,0,61440\nalloc,0,1110016,4096\nfree,0,1110016,4096\nfree,13,0,0\nlow,0,0,0\n"
    ∷ []

abbrev pub boots : List Case
boots =
    -- nothing, and an empty map: managed 0, low, grants 9 and 10, percentages 0
    case "" ""
    ∷ case
    "boot\nlow\nalloc,4096,4096,0\nalloc,4096,4096,4\nstats\nround\nround\n"
    "boot,0,0,0\nlow,0,0,1\nalloc,9,0,0\nalloc,10,0,0\nmemory status (in frames):\n       total: 0 -- a: 0 f: 0 r: 0, 0 waiters\n        idle: 0 0%\n      kernel: 0 0%\n        page: 0 0% (0 loaned)\nround,0,1,0\nround,0,2,0\n"
    -- 1: nine entries of any kind and length; eight are none too many
    ∷ record { script = times' 9 "region,0,0,1\n" ++ bytes_of "boot\n"; output = bytes_of "op,refusal,address,bytes\nboot,1,0,0\n" }
    ∷ record { script = times' 8 "region,0,0,1\n" ++ bytes_of "boot\n"; output = bytes_of "op,refusal,address,bytes\nboot,0,0,0\n" }
    -- 2: past 2^40, of length 0 too; at 2^40 no; other kinds end anywhere; a refused boot may be tried again
    ∷ case "region,1099511627776,1,0\nboot\nregion,0,65536,0\nboot\nlow\n" "boot,2,0,0\nboot,2,0,0\nbad,17,0,0\n"
    ∷ case "region,1099511627777,0,0\nboot\n" "boot,2,0,0\n"
    ∷ case "region,1099511627776,0,0\nboot\n" "boot,0,0,0\n"
    ∷ case "region,1099511562240,65536,0\nboot\nalloc,1,1,0\n" "boot,0,0,61440\nalloc,0,1099511623680,4096\n"
    ∷ case "region,18446744073709551615,18446744073709551615,2\nboot\n" "boot,0,0,0\n"
    -- 3: the same entry twice; touching isn't sharing; odd bytes may be shared; skipped entries overlap freely
    ∷ case "region,1048576,65536,0\nregion,1048576,65536,0\nboot\n" "boot,3,0,0\n"
    ∷ case "region,1048576,32768,0\nregion,1081343,32768,0\nboot\n" "boot,0,0,53248\n"
    ∷ case "region,1048576,32768,0\nregion,1077248,32768,0\nboot\n" "boot,3,0,0\n"
    ∷ case "region,4096,12289,0\nregion,16384,8192,0\nboot\n" "boot,0,0,12288\n"
    ∷ case "region,1048576,65536,0\nregion,1048576,4096,0\nregion,1048576,65536,1\nboot\n" "boot,0,0,61440\n"
    -- 4: over 1,048,576 pages, tables counted, also where the end is by 2^40; 5 comes behind it
    ∷ case "region,0,4294971392,0\nboot\n" "boot,4,0,0\n"
    ∷ case "region,0,4294967296,0\nboot\n" "boot,5,0,0\n"
    -- 5: 16 managed pages fit the loans, 17 don't; a later, lower region has the later page numbers
    ∷ case "region,1048576,69632,0\nboot\n" "boot,0,0,65536\n"
    ∷ case "region,1048576,73728,0\nboot\n" "boot,5,0,0\n"
    ∷ case "region,1048576,16384,0\nregion,4096,16384,0\nboot\nalloc,1,1,0\nalloc,1,1,0\nalloc,1,1,0\nalloc,1,1,0\n"
    "boot,0,0,24576\nalloc,0,1060864,4096\nalloc,0,1056768,4096\nalloc,0,1052672,4096\nalloc,0,16384,4096\n"
    ∷ []

abbrev pub layouts : List Case
layouts =
    -- 7 and 8
    there
    "alloc,4096,0,0\nalloc,4096,3,0\nalloc,0,9223372036854775808,0\nalloc,1,9223372036854775808,0\nalloc,9223372036854775807,1,0\nalloc,9223372036854775807,2,0\n"
    "alloc,7,0,0\nalloc,7,0,0\nalloc,8,0,0\nalloc,7,0,0\nalloc,8,0,0\nalloc,7,0,0\n"
    ∷ there
    "alloc,9223372036854775808,1,0\nalloc,18446744073709551615,1,7\nalloc,1073741825,1,0\nalloc,1,2147483648,0\nalloc,1073741824,1,0\n"
    "alloc,7,0,0\nalloc,7,0,0\nalloc,8,0,0\nalloc,8,0,0\nalloc,9,0,0\n"
    -- 9 and 10; sizes 0, 1 and 4095 get a page, and WAIT_OK changes nothing then
    ∷ there
    "alloc,2097152,2097152,0\nalloc,2097152,4096,4\nalloc,5000,1,0\nalloc,1,2097152,5\ntake,4097,1,2\nalloc,0,1,0\nalloc,1,1,4\nalloc,4095,4096,7\ntake,4096,4096,3\n"
    "alloc,9,0,0\nalloc,10,0,0\nalloc,9,0,0\nalloc,10,0,0\ntake,9,0,0\nalloc,0,1110016,4096\nalloc,0,1105920,4096\nalloc,0,1101824,4096\ntake,0,1097728,4096\n"
    ∷ []

abbrev pub frames : List Case
frames =
    -- 11, 12, 13 in that order; lookup meets 11 only
    there
    "free,1048576\nfree,1048577\nfree,1114112\nfree,18446744073709551615\nfree,1052673\nfree,1052672\nsplit,1052672\nzero,0\ndirty,1114111\nqueue,1052672\n"
    "free,11,0,0\nfree,11,0,0\nfree,11,0,0\nfree,11,0,0\nfree,12,0,0\nfree,13,0,0\nsplit,13,0,0\nzero,11,0,0\ndirty,12,0,0\nqueue,13,0,0\n"
    ∷ there
    "find,1052673\nfind,1048576\nfind,1114111\nfind,1114112\n"
    "find,0,1052672,4096\nfind,11,0,0\nfind,0,1110016,4096\nfind,11,0,0\n"
    -- each number over both frames of a copy before the next
    ∷ there
    "copy,1052672,0,1048576,0,0\ncopy,1052673,0,1052672,0,0\nfill,1052672,5000,1,0\nalloc,1,1,0\ncopy,1110016,0,1052672,0,9000\ncopy,1110016,0,1110016,0,4097\ncopy,1110016,1,1110016,0,4095\n"
    "copy,11,0,0\ncopy,12,0,0\nfill,13,0,0\nalloc,0,1110016,4096\ncopy,13,0,0\ncopy,14,0,0\ncopy,0,1110016,4095\n"
    -- 14 by offset and length, without wrapping
    ∷ there
    "alloc,1,1,0\nfill,1110016,4096,0,7\nfill,1110016,4097,0,7\nfill,1110016,0,4097,7\nfill,1110016,18446744073709551615,1,7\nfill,1110016,1,4095,7\n"
    "alloc,0,1110016,4096\nfill,0,1110016,0\nfill,14,0,0\nfill,14,0,0\nfill,14,0,0\nfill,0,1110016,4095\n"
    -- a physical source meets 11 and 14 only, at length 0 too
    ∷ there
    "alloc,1,1,0\npcopy,1110016,0,1052672,4096\npcopy,1110016,0,1114111,1\npcopy,1110016,0,1114111,2\npcopy,1110016,0,1114112,0\npcopy,1110016,0,1048576,0\npcopy,1110016,0,1052673,4095\npcopy,1110016,4097,1052673,0\npcopy,1052672,4097,1114112,0\n"
    "alloc,0,1110016,4096\npcopy,0,1110016,4096\npcopy,0,1110016,1\npcopy,14,0,0\npcopy,11,0,0\npcopy,11,0,0\npcopy,0,1110016,4095\npcopy,14,0,0\npcopy,11,0,0\n"
    -- regions that touch don't join
    ∷ case
    "region,1048576,16384,0\nregion,1064960,16384,0\nboot\nalloc,1,1,0\npcopy,1060864,0,1064959,1\npcopy,1060864,0,1064959,2\n"
    "boot,0,0,24576\nalloc,0,1060864,4096\npcopy,0,1060864,1\npcopy,14,0,0\n"
    ∷ []

abbrev pub queues : List Case
queues =
    -- 15, with the loan's wrapping
    there
    "back,1\nlend,18446744073709551615\nlend,2\nback,2\nback,1\nback,0\n"
    "back,15,0,0\nlend,0,0,18446744073709551615\nlend,0,0,1\nback,15,0,0\nback,0,0,0\nback,0,0,0\n"
    -- 16: no place left, and not before 13; the same frame is queued any number of times and freed once
    ∷ on_script_map
    (bytes_of "alloc,1,1,0\n" ++ times' 65 "queue,1110016\n" ++ bytes_of "queue,1052672\nround\n")
    (bytes_of "alloc,0,1110016,4096\n" ++ times' 64 "queue,0,1110016,4096\n" ++ bytes_of "queue,16,0,0\nqueue,13,0,0\nround,0,0,0\n")
    ∷ on_script_map
    (times' 6 "alloc,1,1,0\n" ++ times' 3 "queue,1110016\n" ++ bytes_of "low\nround\nlow\nround\nstats\n")
    (bytes_of
    "alloc,0,1110016,4096\nalloc,0,1105920,4096\nalloc,0,1101824,4096\nalloc,0,1097728,4096\nalloc,0,1093632,4096\nalloc,0,1089536,4096\nqueue,0,1110016,4096\nqueue,0,1110016,4096\nqueue,0,1110016,4096\nlow,0,0,1\nround,0,1,1\nlow,0,0,1\nround,0,2,1\nmemory status (in frames):\n       total: 16 -- a: 6 f: 1 r: 0, 0 waiters\n        idle: 11 68%\n      kernel: 0 0%\n        page: 5 31% (0 loaned)\n")
    ∷ []

abbrev pub kernels : List Case
kernels =
    -- KERNEL stays on a freed frame until the next grant, which clears it
    there
    "alloc,1,1,2\nfree,1110016\nalloc,1,1,0\nlend,7\nstats\nfree,1110016\nstats\n"
    "alloc,0,1110016,4096\nfree,0,1110016,4096\nalloc,0,1110016,4096\nlend,0,0,7\nmemory status (in frames):\n       total: 16 -- a: 2 f: 1 r: 0, 0 waiters\n        idle: 15 93%\n      kernel: 0 0%\n        page: 1 6% (7 loaned)\nfree,0,1110016,4096\nmemory status (in frames):\n       total: 16 -- a: 2 f: 2 r: 0, 0 waiters\n        idle: 16 100%\n      kernel: 0 0%\n        page: 0 0% (7 loaned)\n"
    ∷ []

abbrev pub bad_lines : List Case
bad_lines =
    -- calls before a boot; the header's own case; another op, count, character
    case
    "low\nfree,1\n\nboot,\nBoot\nread,1,2,3\nwrite,1,2,3\nregion,1,2\nregion,1,2,3\nregion,1,2,0,\nregion,,2,0\nregion,-1,2,0\n region,1,2,0\nregion,0x1,2,0\nregion,1,2,0\r\nboot"
    "bad,17,0,0\nbad,17,0,0\nbad,17,0,0\nbad,17,0,0\nbad,17,0,0\nbad,17,0,0\nbad,17,0,0\nbad,17,0,0\nbad,17,0,0\nbad,17,0,0\nbad,17,0,0\nbad,17,0,0\nbad,17,0,0\nbad,17,0,0\nbad,17,0,0\nboot,0,0,0\n"
    -- the largest numbers, leading zeros, a region and a boot after the boot
    ∷ there
    "alloc,4096,4096,8\nalloc,4096,4096,00\nfill,1110016,0,1,256\nfill,1110016,0,1,0255\nfree,18446744073709551616\nfree,18446744073709551615\nfree,00000000000000000000001110016\nregion,0,0,0\nboot\nregion,9\n"
    "bad,17,0,0\nalloc,0,1110016,4096\nbad,17,0,0\nfill,0,1110016,1\nbad,17,0,0\nfree,11,0,0\nfree,0,1110016,4096\nbad,17,0,0\nbad,17,0,0\nbad,17,0,0\n"
    -- 512 bytes may be read, 513 not, and make one line
    ∷ on_script_map
    (bytes_of "free," ++ (times' 506 "0" ++ (bytes_of "1\nfree," ++ (times' 507 "0" ++ bytes_of "1\nlow"))))
    (bytes_of "free,11,0,0\nbad,17,0,0\nlow,0,0,0\n")
    ∷ []

abbrev pub scripts : List Case
scripts = example ++ (boots ++ (layouts ++ (frames ++ (queues ++ (kernels ++ bad_lines)))))

-- ---- frames above a page: rows as in Table T, on its map of 504 small frames and one of 2 MiB

abbrev pub grant : (size align : ℕ) → (zeroed kernel : Bool) → Layout
grant n align z k = record { size = n; align = align; flags = record { zeroed = z; kernel = k; wait_ok = false } }

abbrev pub large' : List Call → List Answer → ℕ → List ℕ → Table.Row
large' calls answers idle listed = Table.row Table.four calls 1016 answers idle listed

abbrev pub large : List Table.Row
large =
    -- the limit: the 1,002nd worked round ends the pass, and the next call starts one; a store of nothing is always low
    Table.row [] (replicate 1003 Round) 0 (Done 1001 0 ∷ Done 1002 0 ∷ Done 1 0 ∷ []) 0 (0 ∷ 0 ∷ 0 ∷ [])
    -- 5000 bytes take 2 MiB, and the counters follow the frame; a page inside it is no frame start, and lookup gives it no size
    ∷ large'
    (Alloc (grant 5000 1 false false) ∷ Free 0x401000 ∷ Find 0x401fff ∷ Find 0x400001 ∷ Fill 0x400000 2097151 2 1 ∷ Free 0x400000 ∷ Split 0x400000 ∷ [])
    (Done 0x400000 2097152 ∷ Refused NoFrameStart ∷ Done 0x401000 0 ∷ Done 0x400000 2097152 ∷ Refused PastTheEnd ∷ Done 0x400000 2097152 ∷ Refused NotHeld ∷ [])
    1024
    (504 ∷ 1 ∷ 0 ∷ [])
    -- an alignment alone asks for 2 MiB; a held frame splits into held pages, and each piece goes home by itself
    ∷ large'
    (Alloc (grant 1 2097152 false true) ∷ Split 0x400000 ∷ Split 0x400000 ∷ Free 0x5ff000 ∷ Free 0x5ff000 ∷ [])
    (Done 0x400000 2097152 ∷ Done 0x400000 2097152 ∷ Done 0x400000 4096 ∷ Done 0x5ff000 4096 ∷ Refused NotHeld ∷ [])
    513
    (505 ∷ 0 ∷ 0 ∷ [])
    -- a take prints the old size and leaves 512 held pages; with nothing left it is refused and splits nothing
    ∷ large'
    (Take (grant 2097152 2097152 true false) ∷ Take (grant 2097152 2097152 false false) ∷ Free 0x400000 ∷ Find 0x401000 ∷ [])
    (Done 0x400000 2097152 ∷ Refused NoFrame ∷ Done 0x400000 4096 ∷ Done 0x401000 4096 ∷ [])
    513
    (505 ∷ 0 ∷ 0 ∷ [])
    -- a ZEROED grant takes a zeroed frame, splitting a zeroed large one before it takes a dirty small one; the mark goes with the grant
    ∷ large'
    (Alloc (grant 2097152 2097152 false false) ∷ Zero 0x400000 ∷ Free 0x400000 ∷ Alloc (grant 4096 4096 true false) ∷ Free 0x400000 ∷ Alloc (grant 4096 4096 false false) ∷ Alloc (grant 4096 4096 true false) ∷ [])
    (Done 0x400000 2097152 ∷ Done 0x400000 2097152 ∷ Done 0x400000 2097152 ∷ Done 0x400000 4096 ∷ Done 0x400000 4096 ∷ Done 0x400000 4096 ∷ Done 0x5ff000 4096 ∷ [])
    1022
    (1014 ∷ 0 ∷ 0 ∷ [])
    -- a queued frame that was split: its first piece is freed
    ∷ large'
    (Alloc (grant 2097152 2097152 false false) ∷ Queue 0x400000 ∷ Split 0x400000 ∷ Round ∷ Free 0x400000 ∷ [])
    (Done 0x400000 2097152 ∷ Done 0x400000 2097152 ∷ Done 0x400000 2097152 ∷ Done 1 1 ∷ Refused NotHeld ∷ [])
    513
    (505 ∷ 0 ∷ 0 ∷ [])
    ∷ []

-- ---- 6: a world of three managed pages, one held for the kernel, one dirty, one zeroed, and changes of it

-- a world's loans after a boot and calls
abbrev pub world_of : Board → List MemoryRegion → List Call → World → World
world_of b map calls w = encode b (run b (boot b map (memory_of b w.memory (kept_regions b map)) (length w.queue)) calls).store w

abbrev pub base : World
base = world_of standard (Table.usable 0x1000 0x4000) (Table.kernel_page ∷ Table.page ∷ Zero 0x3000 ∷ Free 0x3000 ∷ []) (untouched 50 12290 2)

abbrev pub with_records : List ℕ → World
with_records bytes =
    record { rows = base.rows; counters = base.counters; queued = base.queued; pass = base.pass; records = bytes; memory = base.memory; queue = base.queue }

-- one byte of the records changed
abbrev pub with_byte : (at byte : ℕ) → World
with_byte at x = with_records (set base.records at x)

abbrev pub with_row : ℕ → Row → World
with_row i row =
    record {
      rows = set base.rows i row;
      counters = base.counters;
      queued = base.queued;
      pass = base.pass;
      records = base.records;
      memory = base.memory;
      queue = base.queue;
    }

abbrev pub first_row : Row
first_row = get_or base.rows 0 no_row

abbrev pub with_start : ℕ → Row
with_start a = record { start = record { 0 = a }; pages = first_row.pages; lists = first_row.lists }

abbrev pub with_pages : ℕ → Row
with_pages n = record { start = first_row.start; pages = n; lists = first_row.lists }

abbrev pub with_list : ℕ → (front back count : ℕ) → Row
with_list k front back count =
    record { start = first_row.start; pages = first_row.pages; lists = set first_row.lists k (record { front = front; back = back; count = count }) }

abbrev pub with_state : Counters → (queued rounds freed : ℕ) → World
with_state c queued rounds freed =
    record {
      rows = base.rows;
      counters = c;
      queued = queued;
      pass = record { rounds = rounds; freed = freed };
      records = base.records;
      memory = base.memory;
      queue = base.queue;
    }

-- kernel_used, page_data, idle, total, waiting
abbrev pub counts : ℕ → ℕ → ℕ → ℕ → ℕ → Counters
counts kernel page idle total waiting =
    record {
      kernel_used = kernel;
      page_data = page;
      idle = idle;
      total = total;
      allocated = 77;
      freed = 18446744073709551615;
      reclaimed = 3;
      waiting = waiting;
      pager_outstanding = 5;
    }

abbrev pub with_loans : (records memory : ℕ) → World
with_loans records memory =
    record {
      rows = base.rows;
      counters = base.counters;
      queued = base.queued;
      pass = base.pass;
      records = take records base.records;
      memory = take memory base.memory;
      queue = base.queue;
    }

pub record Damage : Type 0 where
  pub world : World
  pub number : ℕ

abbrev pub torn : World → Damage
torn w = record { world = w; number = 6 }

abbrev pub whole : World → Damage
whole w = record { world = w; number = 0 }

abbrev pub damaged : List Damage
damaged =
    -- an untouched world is whole: it is that of an empty map; rows: a start off a page edge, past 2^40, at another fitting place; pages that don't agree; an unused row that isn't all zeros
    whole base
    ∷ whole (untouched 0 0 0)
    ∷ torn (with_row 0 (with_start 0x1001))
    ∷ torn (with_row 0 (with_start 0xffffffe000))
    ∷ whole (with_row 0 (with_start 0x200000))
    ∷ torn (with_row 0 (with_pages 5))
    ∷ torn (with_row 0 (with_pages 1))
    ∷ torn (with_row 1 (with_start 0x9000))
    ∷ torn (with_row 1 (record { start = record { 0 = 0 }; pages = 0; lists = replicate 5 no_links ++ (record { front = 0; back = 1; count = 0 } ∷ []) }))
    -- loans: shorter than the rows ask
    ∷ whole (with_loans 48 12288)
    ∷ torn (with_loans 47 12288)
    ∷ torn (with_loans 48 12287)
    -- heads: ADMITTED clear, a mark without a name, level 1, level 3, a high byte of the level; KERNEL on a listed head and ZEROED on a held one are no harm
    ∷ torn (with_byte 0 0)
    ∷ torn (with_byte 0 17)
    ∷ torn (with_byte 1 1)
    ∷ torn (with_byte 4 1)
    ∷ torn (with_byte 4 3)
    ∷ torn (with_byte 7 1)
    ∷ whole (with_byte 0 9)
    ∷ whole (with_byte 32 15)
    -- held heads: a neighbour
    ∷ torn (with_byte 40 1)
    ∷ torn (with_byte 44 1)
    -- lists: a wrong neighbour, count, front, back, a mark of the other kind, a ring
    ∷ torn (with_byte 8 1)
    ∷ torn (with_byte 12 1)
    ∷ torn (with_byte 0 5)
    ∷ torn (with_row 0 (with_list 0 1 1 0))
    ∷ torn (with_row 0 (with_list 0 1 1 2))
    ∷ torn (with_row 0 (with_list 0 2 2 1))
    ∷ torn (with_row 0 (with_list 0 1 2 1))
    ∷ torn (with_row 0 (with_list 0 0 0 0))
    ∷ torn (with_row 0 (with_list 5 1 1 1))
    -- a held head that loses ALLOCATED is on no list
    ∷ torn (with_byte 32 9)
    -- counters: each but those that count events
    ∷ whole (with_state (counts 1 0 3 4 0) 0 0 0)
    ∷ torn (with_state (counts 0 1 3 4 0) 0 0 0)
    ∷ torn (with_state (counts 1 1 3 4 0) 0 0 0)
    ∷ torn (with_state (counts 1 0 2 4 0) 0 0 0)
    ∷ torn (with_state (counts 1 0 3 3 0) 0 0 0)
    ∷ torn (with_state (counts 1 0 3 4 1) 0 0 0)
    -- the queue's count, the pass
    ∷ whole (with_state (counts 1 0 3 4 0) 2 1001 100100)
    ∷ torn (with_state (counts 1 0 3 4 0) 3 0 0)
    ∷ torn (with_state (counts 1 0 3 4 0) 0 0 1)
    ∷ torn (with_state (counts 1 0 3 4 0) 0 1002 0)
    ∷ torn (with_state (counts 1 0 3 4 0) 0 1001 100101)
    ∷ []

-- ---- a world with pages of 8 bytes, small enough to be compared whole: two regions, the later one lower, and bytes behind the loans' last

abbrev pub tiny : Board
tiny = record { page = 8; record_bytes = 1; kernel_multiple = 2; idle_divisor = 2; per_round = 100; max_rounds = 1000 }

abbrev pub tiny_page : Call
tiny_page = Alloc (grant 8 8 false false)

abbrev pub tiny_map : List MemoryRegion
tiny_map = Table.usable 800 18 ++ Table.usable 401 33

abbrev pub tiny_calls : List Call
tiny_calls = tiny_page ∷ tiny_page ∷ Fill 432 3 4 7 ∷ Copy 432 4 432 3 3 ∷ Zero 808 ∷ Free 808 ∷ Queue 432 ∷ []

abbrev pub tiny_world : World
tiny_world = world_of tiny tiny_map tiny_calls (untouched 70 35 3)

-- a world as one list of numbers, so that two are compared number by number
abbrev pub links_numbers : List Links → List ℕ
links_numbers [] = []
links_numbers (l ∷ ls) = l.front ∷ l.back ∷ l.count ∷ links_numbers ls

abbrev pub row_numbers : List Row → List ℕ
row_numbers [] = []
row_numbers (r ∷ rs) = r.start.0 ∷ r.pages ∷ (links_numbers r.lists ++ row_numbers rs)

abbrev pub numbers_of : World → List ℕ
numbers_of w =
    row_numbers w.rows
    ++ (w.counters.idle ∷ w.counters.page_data ∷ w.queued ∷ w.pass.rounds ∷ (w.records ++ (w.memory ++ w.queue)))
