-- A held frame that was seen in a sane table: the frame that the store has there, by the marks and the level that were read, where its
-- bytes lie in the lent memory, and what writing some of them makes of both memories. A call on a held frame takes its bounds
-- (`held_ends`), its bytes (`held_read`) and its new memory (`held_filled`, `held_written`) from here.
use Prim.Native.Nat.{ℕ, ◌+◌, ◌*◌, ◌/◌, ◌%◌, ◌≤◌}
use mathlib.Core.Bool.{Bool, true, false, cond, false≢true}
use mathlib.Core.List.{List}
use mathlib.Core.Option.{none, some}
use mathlib.Core.Path.{◌≡◌, refl, sym, ◌∙◌}
use Rattle.std.specs.Prelude.{Ok}
use native.Mathlib.Omega.{arith}
use lib.Dec.{eqb}
use lib.ListN.{length, take, drop, replicate}
use Rattle.definition.specs.declared.Record.{Record}
use Rattle.definition.specs.declared.Row.{Row}
use Rattle.definition.specs.Board.{Board}
use Rattle.definition.specs.Boot.{managed_pages, overlap}
use Rattle.definition.specs.Contents.{bytes_at, filled, frame_bytes, written}
use Rattle.definition.specs.Frame.{Frame, is_allocated, size}
use Rattle.definition.specs.Store.{Store}
use Rattle.definition.specs.World.{World, frame_of, record_at}
use Rattle.definition.specs.Torn.{regions_of}
use Rattle.record.specs.Records.{with_bytes}
use Rattle.words.specs.Words.{board_in, rows_in}
use Rattle.region.specs.Rep.{state_of}
use Rattle.world.specs.Tables.{Sane}
use Rattle.world.proofs.Places.{Lies, Runs, frame_runs, runs_lies}
use Rattle.world.proofs.Spans.{overlap_spans, runs_bare, spans_bare}
use Rattle.world.proofs.Tables.{used_row}
use Rattle.world.proofs.Writing.{Rewritten, memory_filled, memory_read, memory_written}
use Rattle.allocator.specs.declared.Seen.{Seen}
use Rattle.allocator.specs.Spots.{number_at}
use Rattle.allocator.proofs.Turning.{stands_at}
use Rattle.exam.specs.Making.{LooksIn, RoomIn, TableIn, Whole}
use Rattle.exam.specs.Promise.{HeldSeen, bytes_if}
use Rattle.exam.proofs.Making.{looked_held}

-- ---- the frame

abbrev pub seen_frame : Seen → Frame
seen_frame r = record { level = r.level; allocated = true; zeroed = eqb (r.marks / 4 % 2) 1; kernel = eqb (r.marks / 8 % 2) 1 }

abbrev of_marks : Record → Bool → Frame
of_marks x held = record { level = x.level; allocated = held; zeroed = eqb (x.marks / 4 % 2) 1; kernel = eqb (x.marks / 8 % 2) 1 }

held_record : (x : Record) → is_allocated (frame_of x) ≡ true → (frame_of x ≡ some (of_marks x true)) × (eqb (x.marks % 2) 1 ≡ true)
unfolding frame_of
held_record x h = go (eqb (x.marks % 2) 1) (eqb (x.marks / 2 % 2) 1) h
  where
    go
        : (a b : Bool) → is_allocated (cond a (some (of_marks x b)) none) ≡ true
        → (cond a (some (of_marks x b)) none ≡ some (of_marks x true)) × (a ≡ true)
    go true true h = (refl, refl)
    go true false h = absurd (false≢true h)
    go false b h = absurd (false≢true h)

module _ {board : Board} where
  module _ {f : ℕ → Record} {rows : List Row} {r : Seen} (H : HeldSeen board f rows r) where
    held_frame_lem : frame_of (f r.spot.page) ≡ some (seen_frame r)
    unfolding state_of
    held_frame_lem = rw (H.marks, H.level) (held_record (f r.spot.page) H.held.held).0

    -- 423, Frame::size, by the level that was read
    pub held_size : bytes_if board r ≡ board.page * size r.level
    unfolding state_of
    held_size =
        let e : eqb (r.marks % 2) 1 ≡ true = rw H.marks (held_record (f r.spot.page) H.held.held).1 in
        rw e refl

    -- its pages have page numbers that follow one another, and so do their bytes: they end within the managed ones
    rows_runs : {n : ℕ} → Sane board f n rows → Runs board (regions_of board rows) (number_at board rows r.spot) r.spot.page (size r.level)
    rows_runs N = frame_runs H.inside N (seen_frame r) held_frame_lem

    pub held_ends
        : {n : ℕ} → Sane board f n rows → (off len : ℕ) → off + len ≤ board.page * size r.level
        → board.page * r.spot.page + off + len ≤ board.page * managed_pages board (regions_of board rows)
    held_ends N off len h = (runs_lies board (rows_runs N) off len h refl refl).ends

-- ---- in a world that holds a store

module _ {board : Board} where
  -- the frame's page frame number is p; its first page's number, by which its bytes are lent, is that of the spot
  module _
      {w : World} {s : Store} {r : Seen} {p : ℕ} (W : Whole board w s) (H : HeldSeen board (record_at w.records) w.rows r)
      (N : number_at board w.rows r.spot ≡ p)
    where
      pub held_in : s.allocator.frames p ≡ some (seen_frame r)
      unfolding state_of
      held_in =
          let I = H.inside in
          let row = rw (used_row w.rows r.spot.index I.used, ← I.based) at (stands_at W.stands.rows r.spot.index I.used) in
          rw (← N) (row.same.frames r.spot.page I.inside ∙ held_frame_lem H)

      pub held_bytes : frame_bytes board s p ≡ bytes_if board r
      held_bytes = rw held_in (sym (held_size H))

      held_runs : Runs board s.allocator.regions p r.spot.page (size r.level)
      held_runs = rw (← N) (runs_bare W.stands.rows (rows_runs H W.sane))

      apart : overlap board s.allocator.regions ≡ false
      apart = spans_bare (overlap_spans board) W.stands.rows ∙ W.apart

      -- ---- a range of its bytes, read and rewritten, in the store's memory and in the lent one

      module _ (off len : ℕ) (h : off + len ≤ board.page * size r.level) where
        held_lies : Lies board s.allocator.regions (board.page * p + off) (board.page * r.spot.page + off) len
        held_lies = runs_lies board held_runs off len h refl refl

        pub held_read : bytes_at s.memory (board.page * p + off) len ≡ take len (drop (board.page * r.spot.page + off) w.memory)
        held_read = memory_read board held_lies s.memory w.memory W.stands.fits W.stands.memory

        pub held_filled
            : (v : ℕ)
            → Rewritten board s.allocator.regions w.memory (filled (board.page * p + off) len v s.memory)
            (with_bytes w.memory (board.page * r.spot.page + off) (replicate len v))
        held_filled = memory_filled board held_lies s.memory w.memory W.stands.fits apart W.stands.memory

        pub held_written
            : (xs : List ℕ) → length xs ≡ len
            → Rewritten board s.allocator.regions w.memory (written (board.page * p + off) xs s.memory)
            (with_bytes w.memory (board.page * r.spot.page + off) xs)
        held_written = memory_written board held_lies s.memory w.memory W.stands.fits apart W.stands.memory

-- ---- a frame that was looked at, and nothing refused

-- the range, and the whole frame, end within a memory that has room for every managed page
module _ (ws rs : List ℕ) {a off len : ℕ} {r : Seen} (T : TableIn ws rs) (L : LooksIn ws rs a off len (Ok r))
    (m : List ℕ) (room : RoomIn ws m)
  where
    pub looked_ends : (board_in ws).page * r.spot.page + off + len ≤ length m
    looked_ends = let F = L.found r refl in omega (arith, held_ends F.held T.1 off len F.range, room)

    pub looked_last : (board_in ws).page * r.spot.page + bytes_if (board_in ws) r ≤ length m
    looked_last =
        let H = looked_held L in
        omega (arith, held_ends H T.1 0 (bytes_if (board_in ws) r) (omega (arith, held_size H)), room)
