-- What a free, a split and a change of marks at a spot make of the whole table: the region of the spot's row changes, and the table then stands for what the
-- definition makes of its allocator. `sees_held` says when what was seen at an address is such a spot.
use Prim.Native.Nat.{ℕ, zero, suc, ◌/◌, ◌%◌, ◌≤◌, ◌<◌}
use mathlib.Core.Bool.{Bool, true, false, cond}
use mathlib.Core.List.{List, [], ◌∷◌}
use mathlib.Core.Path.{◌≡◌, refl, sym}
use native.Mathlib.Omega.{arith}
use lib.Dec.{eqb}
use lib.ListN.{length, set}
use lib.Seq.{set-get_or}
use Rattle.definition.specs.Board.{Board}
use Rattle.definition.specs.declared.Record.{Record}
use Rattle.definition.specs.declared.Row.{Row}
use Rattle.definition.specs.Frame.{Frames, Levels, free, is_allocated}
use Rattle.definition.specs.Allocator.{AllocationRegion, PhysicalFrameAllocator, levels_of, with_free}
use Rattle.definition.specs.World.{frame_of, used_rows}
use Rattle.region.specs.Rep.{Becomes, WholeRow, from_of, kept_levels, marked, marked_levels, state_of}
use Rattle.world.specs.Stands.{Carried, Good, StandRows, StandsRow, base_at, region_at, row_at}
use Rattle.world.specs.Stands.StandRows.{stand_none, stand_more}
use Rattle.world.specs.Tables.{Sane, Table, Turned}
use Rattle.world.proofs.Allocators.{free_in_lem}
use Rattle.world.proofs.Carrying.{carried_frame, carried_free, carried_keep, shift_in}
use Rattle.world.proofs.Sheets.{good_at}
use Rattle.world.proofs.Tables.{table_set, used_row}
use Rattle.allocator.specs.declared.Seen.{Seen}
use Rattle.allocator.specs.declared.Spot.{Spot}
use Rattle.allocator.specs.Spots.{HeldAt, InRows, SeesPage, free_at, mark_at, number_at, split_at}

-- ---- one row of many

module _ {board : Board} where
  pub stands_at
      : {f : ℕ → Record} {n : ℕ} {fs : Frames} {base : ℕ} {rows : List Row} {rs : List AllocationRegion} → StandRows board f n fs base rows rs → (i : ℕ) → i < length rows
      → StandsRow board f n (base_at board base rows i) (row_at rows i) fs (region_at rs i)
  unfolding base_at
  stands_at stand_none i h = absurd (omega arith)
  stands_at (stand_more S Ss) zero h = S
  stands_at (stand_more S Ss) (suc i) h = stands_at Ss i (omega arith)

pub used_most : (rows : List Row) → length (used_rows rows) ≤ length rows
unfolding used_rows
used_most [] = omega arith
used_most (row ∷ rows) = go (eqb row.pages 0) (used_most rows)
  where
    go : (b : Bool) → length (used_rows rows) ≤ length rows → length (cond b [] (row ∷ used_rows rows)) ≤ suc (length rows)
    go true h = omega arith
    go false h = omega arith

-- a region with the lists that it has
lists_same : (rs : List AllocationRegion) (i : ℕ) → set rs i (with_free (region_at rs i) (region_at rs i).free) ≡ rs
lists_same rs i = set-get_or rs i _

-- ---- the row of a spot

module _ {board : Board} where
  module _ {f : ℕ → Record} {n : ℕ} {rows : List Row} {s : Spot} (S : Sane board f n rows) (I : InRows board rows s) where
    pub spot_index : s.index < 8
    spot_index = omega (arith, I.used, used_most rows, S.eight)

    pub spot_good : Good board f n s.base (row_at rows s.index)
    spot_good = rw (I.based, ← used_row rows s.index I.used) (good_at _ S.good s.index I.used)

-- ---- the region of a spot turns

module _ {board : Board} where
  module _ {f : ℕ → Record} {n : ℕ} {rows : List Row} {a : PhysicalFrameAllocator} (T : Table board f n rows a) (s : Spot) (I : InRows board rows s) where
    abbrev row : Row
    row = row_at rows s.index

    abbrev region : AllocationRegion
    region = region_at a.regions s.index

    stands : StandsRow board f n s.base row a.frames region
    stands = rw (I.based, ← used_row rows s.index I.used) (stands_at T.stands s.index I.used)

    -- what the definition says of the page frame number, the records say of the spot
    pub table_held : is_allocated (a.frames (number_at board rows s)) ≡ true → HeldAt board f rows s
    table_held h = record { inside = I.inside; held = rw (stands.same.frames s.page I.inside) at h }

    module _ {g : ℕ → Record} where
      -- the row became r, and the allocator's region alike
      turns
          : {r : Row} {u t2 : Levels} → Becomes board f s.base row g n r u → WholeRow board g s.base r
          → Carried board (from_of board row) s.base row.pages (levels_of a.frames region) u t2
          → Turned board f rows g n (set rows s.index r) (record { frames = t2.frames; regions = set a.regions s.index (with_free region t2.free) })
      turns {r} {u} {t2} B W C = table_set {g = g} {r = r} {u = u} {t2 = t2} T s.index I.used (rw (← I.based) B) (rw (← I.based) W) (rw (← I.based) C)

      -- the row and the region's lists stay
      stays
          : {u : Levels} {fs : Frames} → Becomes board f s.base row g n row u → WholeRow board g s.base row
          → Carried board (from_of board row) s.base row.pages (levels_of a.frames region) u (record { frames = fs; free = region.free })
          → Turned board f rows g n rows (record { frames = fs; regions = a.regions })
      stays B W C = rw (set-get_or rows, lists_same a.regions s.index) at (turns B W C)

      pub free_turns
          : {r : Row} → Becomes board f s.base row g n r (free (state_of f row) s.page) → WholeRow board g s.base r
          → Turned board f rows g n (set rows s.index r) (free_at board (number_at board rows s) a)
      free_turns B W =
          let e = used_row rows s.index I.used in
          rw (free_in_lem (used_rows rows) a.regions s.index (number_at board rows s) T.stands T.sane.apart I.used (rw e (shift_in s.page I.inside)))
          (turns B W (carried_free stands.same s.page I.inside))

      pub split_turns
          : Becomes board f s.base row g n row (kept_levels (state_of f row) s.page) → WholeRow board g s.base row
          → Turned board f rows g n rows (split_at (number_at board rows s) a)
      split_turns B W =
          let tiled = (spot_good T.sane I).whole in
          stays B W (carried_keep stands.same s.page I.inside (λ x e. (tiled.tile s.page x I.inside e).ends))

      pub mark_turns
          : (zeroed kernel : Bool) → Becomes board f s.base row g n row (marked_levels (state_of f row) s.page zeroed kernel) → WholeRow board g s.base row
          → Turned board f rows g n rows (mark_at zeroed kernel (number_at board rows s) a)
      mark_turns zeroed kernel B W =
          rw (stands.same.frames s.page I.inside)
          (stays B W (carried_frame stands.same s.page I.inside (marked zeroed kernel ((state_of f row).frames s.page))))

-- ---- what was seen at an address

held_marks : (x : Record) → x.marks % 2 ≡ 1 → x.marks / 2 % 2 ≡ 1 → is_allocated (frame_of x) ≡ true
unfolding frame_of
held_marks x e h = rw (e, h) refl

module _ {board : Board} where
  module _ {f : ℕ → Record} {rows : List Row} {p : ℕ} {a : PhysicalFrameAllocator} {r : Seen} (S : SeesPage board f rows p a r) where
    pub sees_number : number_at board rows r.spot ≡ p
    sees_number = sym S.spot.number

    pub sees_in : InRows board rows r.spot
    sees_in = rw sees_number S.spot

    -- ADMITTED and ALLOCATED: what the functions that change a held frame require
    pub sees_held : r.marks % 2 ≡ 1 → r.marks / 2 % 2 ≡ 1 → InRows board rows r.spot × HeldAt board f rows r.spot
    unfolding state_of
    sees_held e h =
        let held = held_marks (f r.spot.page) (rw S.marks at e) (rw S.marks at h) in
        (sees_in, record { inside = S.spot.inside; held = held })
