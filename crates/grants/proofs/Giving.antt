-- What a grant makes of a table and of the memory's bytes, from what its parts promise: the search, the zeros, the marks and the count
-- (`gives_none`, `gives_some`), and the split behind them (`gives_split`). Where a frame was found it is held, so that a later part may
-- change it.
use Rattle.definition.proofs.Bytes.{pages_order}
use Rattle.definition.specs.Basics.{everywhere}
use Prim.Native.Nat.{ℕ, ◌+◌, ◌*◌, ◌/◌, ◌%◌, ◌≤◌, ◌<◌}
use mathlib.Core.Bool.{Bool, true, false, not, cond, ◌&&◌, false≢true}
use mathlib.Core.List.{List}
use mathlib.Core.Option.{Option, none, some}
use mathlib.Core.Path.{◌≡◌, refl, sym, ap, ◌∙◌}
use Rattle.std.specs.Prelude.{Some, None}
use Rattle.std.specs.Prelude.{Option as MayBe}
use native.Mathlib.Omega.{arith}
use lib.Dec.{eqb}
use lib.ListN.{length, replicate}
use Rattle.definition.specs.declared.Counters.{Counters}
use Rattle.definition.specs.declared.FrameAllocFlags.{FrameAllocFlags}
use Rattle.definition.specs.declared.Record.{Record}
use Rattle.definition.specs.declared.Row.{Row}
use Rattle.definition.specs.Board.{Board}
use Rattle.definition.specs.Boot.{managed_pages, overlap}
use Rattle.definition.specs.Contents.{filled, size_of}
use Rattle.definition.specs.Frame.{Frame, is_allocated, is_zeroed, size}
use Rattle.definition.specs.Allocator.{Allocated, AllocationRegion, PhysicalFrameAllocator, do_alloc}
use Rattle.definition.specs.Store.{Memory}
use Rattle.definition.specs.Tracker.{count_alloc, try_alloc_frame, try_alloc_split_frames}
use Rattle.definition.specs.Torn.{regions_of}
use Rattle.definition.specs.World.{frame_of, record_at}
use Rattle.definition.proofs.Basics.{upd_same}
use Rattle.record.specs.Records.{with_bytes}
use Rattle.region.specs.Rep.{marked, state_of}
use Rattle.words.specs.Words.{Beside, RowsBeside, board_in, rows_in}
use Rattle.words.proofs.Words.{board_beside}
use Rattle.world.specs.Stands.{StandsRow, region_at, row_at}
use Rattle.world.specs.Tables.{Sane, Table, Turned}
use Rattle.world.proofs.Places.{Lies, Runs, frame_runs, managed_bytes, runs_end, runs_lies}
use Rattle.world.proofs.Spans.{runs_bare}
use Rattle.world.proofs.Tables.{used_row}
use Rattle.world.proofs.Writing.{Fronts, Rewritten, memory_filled}
use Rattle.allocator.specs.declared.Spot.{Spot}
use Rattle.allocator.specs.Spots.{
  HeldAt,
  InRows,
  Picked,
  PicksBy,
  PicksIn,
  PicksPage,
  TurnsBy,
  TurnsIn,
  mark_at,
  number_at,
  split_at,
}
use Rattle.allocator.proofs.Standing.{sane_table, standing}
use Rattle.allocator.proofs.TwoPasses.{turned_then}
use Rattle.allocator.proofs.Turning.{spot_good, spot_index, stands_at, table_held}
use Rattle.exam.specs.Making.{RoomIn, TableIn}
use Rattle.exam.specs.Promise.{State, state_with}
use Rattle.grants.specs.declared.Granted.{Granted as GrantedFrame}
use Rattle.grants.specs.Granting.{Finds, GivesBy, Granted, Near, page_of, zeroed_bytes}
use Rattle.grants.proofs.Marking.{none_left, split_none, split_some, try_none, try_some}

-- ---- the frame at a spot

abbrev frame_in : Record → Frame
frame_in r =
    record {
      level = r.level;
      allocated = eqb (r.marks / 2 % 2) 1;
      zeroed = eqb (r.marks / 4 % 2) 1;
      kernel = eqb (r.marks / 8 % 2) 1;
    }

held_record : (r : Record) → is_allocated (frame_of r) ≡ true → frame_of r ≡ some (frame_in r)
unfolding frame_of
held_record r e = go (eqb (r.marks % 2) 1) e
  where
    go : (b : Bool) → is_allocated (cond b (some (frame_in r)) none) ≡ true → cond b (some (frame_in r)) none ≡ some (frame_in r)
    go true e = refl
    go false e = absurd (false≢true e)

held_still : (zeroed kernel : Bool) (o : Option Frame) → is_allocated o ≡ true → is_allocated (marked zeroed kernel o) ≡ true
held_still zeroed kernel none e = e
held_still zeroed kernel (some f) e = e

module _ {board : Board} where
  is_held : (f : ℕ → Record) (rows : List Row) (s : Spot) → HeldAt board f rows s → is_allocated (frame_of (f s.page)) ≡ true
  unfolding state_of
  is_held f rows s H = H.held

  module _ {f : ℕ → Record} {n : ℕ} {rows : List Row} {s : Spot} (I : InRows board rows s) where
    table_frame : {a : PhysicalFrameAllocator} → Table board f n rows a → a.frames (number_at board rows s) ≡ frame_of (f s.page)
    unfolding state_of
    table_frame {a} T =
        let S : StandsRow board f n s.base (row_at rows s.index) a.frames (region_at a.regions s.index)
        = rw (I.based, ← used_row rows s.index I.used) (stands_at T.stands s.index I.used)
        in
        S.same.frames s.page I.inside

    module _ (S : Sane board f n rows) where
      pub near : Near board rows s
      near = record { index = spot_index S I; inside = I.inside; bounded = (spot_good S I).bounded }

      pub page_in_lem : s.page < n
      page_in_lem = omega (arith, (spot_good S I).sound.fits, I.inside.high)

      module _ (H : HeldAt board f rows s) where
        held_frame_lem : frame_of (f s.page) ≡ some (frame_in (f s.page))
        held_frame_lem = held_record (f s.page) (is_held f rows s H)

        pub held_level : (f s.page).level < 3
        unfolding state_of
        held_level = ((spot_good S I).whole.tile s.page (frame_in (f s.page)) I.inside held_frame_lem).level

        held_runs : Runs board (regions_of board rows) (number_at board rows s) s.page (size (f s.page).level)
        held_runs = frame_runs I S (frame_in (f s.page)) held_frame_lem

        -- the frame's bytes lie among the managed ones
        pub held_room
            : {long : ℕ} → board.page * managed_pages board (regions_of board rows) ≤ long
            → board.page * s.page + board.page * size (f s.page).level ≤ long
        held_room h = omega (arith, pages_order board.page (runs_end board held_runs))

-- ---- its zeros

module _ {board : Board} where
  module _
      {rs : List AllocationRegion} (m : Memory) (bs : List ℕ) (fits : managed_bytes board rs ≤ length bs)
      (apart : overlap board rs ≡ false) (same : Fronts board rs m bs)
    where
      zeros_written
          : (zeroed : Bool) (r : Record) (o : Option Frame) (p q : ℕ) → o ≡ some (frame_in r)
          → Lies board rs (board.page * p) (board.page * q) (board.page * size r.level)
          → Rewritten board rs bs (cond (zeroed && not (is_zeroed o)) (filled (board.page * p) (board.page * size_of o) 0 m) m)
          (zeroed_bytes board zeroed r q bs)
      zeros_written zeroed r o p q e L = rw e (go (zeroed && not (eqb (r.marks / 4 % 2) 1)))
        where
          go : (b : Bool)
              → Rewritten board rs bs (cond b (filled (board.page * p) (board.page * size r.level) 0 m) m)
              (cond b (with_bytes bs (board.page * q) (replicate (board.page * size r.level) 0)) bs)
          go true = memory_filled board L m bs fits apart same 0
          go false = record { memory = same; as_long = refl; beyond = refl }

-- ---- its search

module _ {board : Board} {op : PhysicalFrameAllocator → Allocated} {f g : ℕ → Record} {n : ℕ} {rows : List Row} {r : Picked}
    (P : PicksBy board op f rows g n r) (S : Sane board f n rows)
  where
    picked_turned : Turned board f rows g n r.rows (op (standing board f rows)).allocator
    picked_turned = (P (standing board f rows) (sane_table S)).turned

    pub picked_sane : Sane board g n r.rows
    picked_sane = picked_turned.table.sane

    pub picked_room
        : {long : ℕ} → board.page * managed_pages board (regions_of board rows) ≤ long
        → board.page * managed_pages board (regions_of board r.rows) ≤ long
    picked_room h = rw picked_turned.spans h

    -- the spot that it found, if any
    module _ {t : Spot} (e : r.spot ≡ Some t) where
      picked_page : PicksPage board g r.rows t (op (standing board f rows)).page
      picked_page = rw e at (P (standing board f rows) (sane_table S)).picked

      pub picked_spot : InRows board r.rows t
      picked_spot = picked_page.spot

      pub picked_held : HeldAt board g r.rows t
      picked_held = picked_page.held

-- ---- the table and the room that a part of a grant leaves

pub turned_table
    : {op : PhysicalFrameAllocator → PhysicalFrameAllocator} (ws rs gs : List ℕ) → TurnsIn op rs ws gs ws → length gs ≡ length rs
    → TableIn ws rs → TableIn ws gs
turned_table ws rs gs T as_long S =
    let U = rw as_long at T in
    rw as_long (S.0, (U (standing (board_in ws) (record_at rs) (rows_in ws)) (sane_table S.1)).table.sane)

pub picked_lent
    : {op : PhysicalFrameAllocator → Allocated} {o : MayBe Spot} (ws rs vs gs m : List ℕ) → PicksIn op rs ws gs vs o → Beside ws vs
    → length vs ≡ length ws → length gs ≡ length rs → TableIn ws rs → RoomIn ws m → TableIn vs gs × RoomIn vs m
picked_lent ws rs vs gs m P B long as_long S room =
    let Q = rw as_long at P in
    rw (board_beside B, as_long, long) ((S.0, picked_sane Q S.1), picked_room Q S.1 room)

-- ---- a grant

-- of the frame that was found, if one was
no_frame : {t : GrantedFrame} → ◌≡◌ {A = MayBe GrantedFrame} None (Some t) → ⊥
no_frame e = let z : ◌≡◌ {A = ℕ} 0 1 = cc in omega arith

same_frame : {t u : GrantedFrame} → ◌≡◌ {A = MayBe GrantedFrame} (Some t) (Some u) → t ≡ u
same_frame e = cc

module _ {board : Board} where
  -- the search turns the words ws into vs: it changes their rows, and nothing else of the state
  module _
      {f g : ℕ → Record} {n : ℕ} {o : MayBe Spot} (counters : Counters) (ws vs : List ℕ) (l : ℕ) (flags : FrameAllocFlags)
      (P : PicksBy board (do_alloc everywhere l flags.zeroed) f (rows_in ws) g n (record { rows = rows_in vs; spot = o }))
    where
      abbrev st : State
      st = state_with counters ws

      -- nothing is found
      abbrev nothing : Granted
      nothing = record { state = state_with counters vs; frame = None }

      pub gives_none
          : (bytes : List ℕ) → o ≡ None → GivesBy board (try_alloc_frame board everywhere l flags) f st bytes g n bytes nothing
      gives_none bytes e s L =
          let p = P s.allocator L.table in
          let d = rw e at p.picked in
          rw (try_none board l flags s d)
          (record {
            turned = rw (none_left l flags.zeroed s.allocator d) at p.turned;
            memory = L.memory;
            as_long = refl;
            beyond = refl;
            counters = L.counters;
            page = refl;
          })

      -- a frame is found
      module _ {spot : Spot} (e : o ≡ Some spot) where
        module _
            {h : ℕ → Record} {after : Counters} (c : after ≡ count_alloc (size l) flags.kernel counters)
            (T : TurnsBy board (mark_at false flags.kernel (number_at board (rows_in vs) spot)) g (rows_in vs) h n (rows_in vs))
            (address : ℕ)
          where
            abbrev frame : Granted
            frame = record { state = state_with after vs; frame = Some (record { spot = spot; address = address }) }

            pub finds_some : RowsBeside ws vs → address ≡ board.page * number_at board (rows_in vs) spot → Finds board st frame
            finds_some B d = record { queued = B.queued; pass = B.pass; address = λ t z. rw (← same_frame z) d }

            pub held_some : Sane board f n (rows_in ws) → InRows board (rows_in vs) spot × HeldAt board h (rows_in vs) spot
            held_some S =
                let U = (picked_turned P S).table in
                let a = (do_alloc everywhere l flags.zeroed (standing board f (rows_in ws))).allocator in
                let N = (T a U).table in
                let p = number_at board (rows_in vs) spot in
                let I = picked_spot P S e in
                let held : is_allocated (a.frames p) ≡ true = rw (table_frame I U) (is_held g (rows_in vs) spot (picked_held P S e)) in (
                  I,
                  table_held N spot I
                      (rw (upd_same a.frames p (marked false flags.kernel (a.frames p))) (held_still false flags.kernel (a.frames p) held)),
                )

            pub gives_some
                : (bytes bytes2 : List ℕ) → bytes2 ≡ zeroed_bytes board flags.zeroed (g spot.page) spot.page bytes
                → GivesBy board (try_alloc_frame board everywhere l flags) f st bytes h n bytes2 frame
            gives_some bytes bytes2 b s L =
                let S = L.table.sane in
                let p = P s.allocator L.table in
                let a = (do_alloc everywhere l flags.zeroed s.allocator).allocator in
                let q = spot.page in
                let K = rw e at p.picked in
                let I = K.spot in
                let H = K.held in
                let N = p.turned.table.sane in
                let R = runs_bare L.table.stands (rw p.turned.spans at (held_runs I N H)) in
                let long = board.page * size (g q).level in
                let from = board.page * number_at board (rows_in vs) spot in
                let lies = runs_lies board R 0 long (omega arith) {a = from} {b = board.page * q} (omega arith) (omega arith) in
                let W
                = zeros_written s.memory bytes L.fits L.apart L.memory flags.zeroed (g q) (a.frames (number_at board (rows_in vs) spot))
                (number_at board (rows_in vs) spot) q (table_frame I p.turned.table ∙ held_frame_lem I N H) lies
                in
                rw (try_some board l flags s (number_at board (rows_in vs) spot) K.page, c, b)
                (record {
                  turned = turned_then p.turned (T a p.turned.table);
                  memory = W.memory;
                  as_long = W.as_long;
                  beyond = W.beyond;
                  counters = rw L.counters refl;
                  page = refl;
                })

-- ---- its split

module _ {board : Board} where
  module _
      {f g : ℕ → Record} {n : ℕ} {st : State} {bytes bytes2 : List ℕ} {r : Granted} (l : ℕ) (flags : FrameAllocFlags)
      (G : GivesBy board (try_alloc_frame board everywhere l flags) f st bytes g n bytes2 r)
    where
      pub gives_whole : r.frame ≡ None → GivesBy board (try_alloc_split_frames board everywhere l flags) f st bytes g n bytes2 r
      gives_whole e s L = let x = G s L in rw (split_none board l flags s (x.page ∙ ap (page_of board r.state.rows) e)) x

      pub gives_split
          : (t : GrantedFrame) → r.frame ≡ Some t → {h : ℕ → Record}
          → TurnsBy board (split_at (number_at board r.state.rows t.spot)) g r.state.rows h n r.state.rows
          → GivesBy board (try_alloc_split_frames board everywhere l flags) f st bytes h n bytes2 r
      gives_split t e T s L =
          let x = G s L in
          let a = (try_alloc_frame board everywhere l flags s).store.allocator in
          let page = ap (page_of board r.state.rows) e in
          rw (split_some board l flags s (number_at board r.state.rows t.spot) (x.page ∙ page))
          (record {
            turned = turned_then x.turned (T a x.turned.table);
            memory = x.memory;
            as_long = x.as_long;
            beyond = x.beyond;
            counters = x.counters;
            page = sym page;
          })
