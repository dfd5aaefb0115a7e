-- The store that `decode` reads out of a sound world: the world stands for it (`decode_stands`), and writing it back gives the world again,
-- every byte of it (`round_trip`). So a call that leaves the store as it was leaves the world as it was. Its table is sane (`sound_sane`).
use Prim.Native.Nat.{ℕ, ◌+◌, ◌-◌, ◌*◌, ◌≤◌, ◌<◌}
use mathlib.Core.Bool.{false}
use mathlib.Core.List.{List, [], ◌∷◌}
use mathlib.Core.Path.{◌≡◌, refl, ap, ◌∙◌}
use native.Mathlib.Omega.{arith}
use borrow.Author.Tests.{leb-true}
use lib.Dec.{leb}
use lib.ListN.{length, get_or}
use Rattle.definition.specs.declared.Record.{Record}
use Rattle.definition.specs.declared.Row.{Row}
use Rattle.definition.specs.Basics.{any, sum}
use Rattle.definition.specs.Board.{Board}
use Rattle.definition.specs.Boot.{managed_pages, record_size, shares, overlap}
use Rattle.definition.specs.Frame.{Frames}
use Rattle.definition.specs.Allocator.{AllocationRegion, managed as managedOf}
use Rattle.definition.specs.Torn.{Sound, bare_regions, loans_long, regions_of}
use Rattle.definition.proofs.Tests.{and_right}
use Rattle.definition.specs.World.{World, used_rows, record_at, frame_of, frame_at, bare_region, decode_row, decode_rows, decode, encode}
use Rattle.record.specs.Records.{pages_in}
use Rattle.list.proofs.Laws.{all_map}
use Rattle.region.specs.Rep.{from_of, managed, state_of}
use Rattle.world.specs.Stands.{GoodRows, StandRows, Stands}
use Rattle.world.specs.Stands.GoodRows.{good_none, good_more}
use Rattle.world.specs.Stands.StandRows.{stand_none, stand_more}
use Rattle.world.specs.Tables.{Sane}
use Rattle.definition.proofs.Bytes.{pages_same}
use Rattle.world.proofs.Encoding.{stands_encode}
use Rattle.world.proofs.Memory.{memory_back}
use Rattle.world.proofs.Numbering.{EachPage, each_first, each_rest, overlap_rest}
use Rattle.world.proofs.Sheets.{AsBoot, as_boot_lem, managed_most, rows_apart, sound_rows}
use Rattle.world.proofs.Unused.{unused_rows}

-- ---- the rows

-- the frame at the page p is that of the record of the page q
abbrev Framed : (ℕ → Record) → Frames → ℕ → ℕ → Type 0
Framed f fs p q = fs p ≡ frame_of (f q)

module _ {board : Board} where
  module _ {f : ℕ → Record} {n : ℕ} {fs : Frames} where
    rows_stand
        : {base : ℕ} {rows : List Row} → GoodRows board f n base rows → overlap board (decode_rows board f base rows) ≡ false
        → EachPage board (Framed f fs) base (decode_rows board f base rows)
        → StandRows board f n fs base rows (decode_rows board f base rows)
    unfolding decode_rows managed from_of state_of
    rows_stand good_none e each = stand_none
    rows_stand (good_more {base = base} {row = row} {rows = rows} G rest) e each =
        stand_more
        (record {
          sound = G.sound;
          aligned = G.aligned;
          start = refl;
          pages = refl;
          same =
              record {
                frames =
                    λ q i.
                    let k : base + (q - base) ≡ q = omega (arith, i.low) in
                    rw k at (each_first board (Framed f fs) base r rs each (q - base) (omega (arith, i.low, i.high)));
                free = λ k. refl;
                inside = λ k. all_map (λ q a. a.inside) (G.sound.listed k);
              };
        })
        (rows_stand rest (overlap_rest board r rs e) (each_rest board (Framed f fs) base r rs each e))
      where
        r : AllocationRegion
        r = decode_row board f base row

        rs : List AllocationRegion
        rs = decode_rows board f (base + managed board row.pages) rows

-- ---- the regions that `decode` reads are those of the sheet, but for their lists

module _ (board : Board) where
  abbrev next : ℕ → Row → ℕ
  next base row = base + managedOf board (bare_region board row)

  module _ (f : ℕ → Record) where
    same_shares : (r : AllocationRegion) (base : ℕ) (rows : List Row)
        → any (shares board r) (decode_rows board f base rows) ≡ any (shares board r) (bare_regions board rows)
    unfolding any decode_rows bare_regions
    same_shares r base [] = refl
    same_shares r base (row ∷ rows) = rw (same_shares r (next base row) rows)

    same_overlap : (base : ℕ) (rows : List Row) → overlap board (decode_rows board f base rows) ≡ overlap board (bare_regions board rows)
    unfolding overlap decode_rows bare_regions
    same_overlap base [] = refl
    same_overlap base (row ∷ rows) = rw (same_shares (bare_region board row) (next base row) rows, same_overlap (next base row) rows)

    same_managed : (base : ℕ) (rows : List Row) → managed_pages board (decode_rows board f base rows)
        ≡ managed_pages board (bare_regions board rows)
    unfolding sum decode_rows bare_regions
    same_managed base [] = refl
    same_managed base (row ∷ rows) = rw (same_managed (next base row) rows)

-- ---- the world

module _ {board : Board} where
  module _ (w : World) (sound : Sound board w) where
    boot : AsBoot board w.rows
    boot = as_boot_lem w.rows sound.rows

    abbrev rs : List AllocationRegion
    rs = decode_rows board (record_at w.records) 0 (used_rows w.rows)

    disjoint : overlap board rs ≡ false
    disjoint = same_overlap board (record_at w.records) 0 (used_rows w.rows) ∙ boot.apart

    fits : board.page * managed_pages board rs ≤ length w.memory
    unfolding loans_long
    fits =
        let m = managed_pages board (regions_of board w.rows) in
        omega (
          arith,
          pages_same board.page (same_managed board (record_at w.records) 0 (used_rows w.rows)),
          leb-true (board.page * m) (length w.memory) (and_right (leb (record_size * m) (length w.records)) _ sound.loans),
        )

    pub decode_stands : Stands board w (decode board w)
    unfolding decode
    decode_stands =
        record {
          eight = boot.eight;
          unused = unused_rows w.rows boot.eight boot.six boot.unused;
          rows = rows_stand (sound_rows w sound) disjoint (λ p q h. ap (frame_at (record_at w.records)) h);
          counters = refl;
          pass = refl;
          queue = refl;
          queued = leb-true w.queued (length w.queue) sound.queue;
          room = refl;
          fits = fits;
          memory = memory_back board w.memory rs fits disjoint;
        }

    pub round_trip : ((i : ℕ) → get_or w.records i 0 < 256) → encode board (decode board w) w ≡ w
    round_trip small = stands_encode w w (decode board w) decode_stands small refl refl refl

    -- its table is sane: what every call asks for
    pub sound_sane : Sane board (record_at w.records) (pages_in w.records) w.rows
    sound_sane =
        record {
          eight = decode_stands.eight;
          unused = decode_stands.unused;
          good = sound_rows w sound;
          apart = rows_apart w sound;
          most = omega (arith, boot.most, managed_most board (regions_of board w.rows));
        }
