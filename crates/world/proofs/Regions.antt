-- A row whose four clauses of the torn sheet hold has a sound and whole region: its records stand for the frames and lists that they say,
-- the frames tile it, and each free one is listed. So what the audit tests of a row is all that `region`'s calls ask of it.
use Prim.Native.Nat.{ℕ, zero, suc, ◌+◌, ◌-◌, ◌/◌, ◌%◌, ◌≤◌, ◌<◌, ◌^◌}
use mathlib.Core.Bool.{Bool, true, ◌&&◌}
use mathlib.Core.List.{List, []}
use mathlib.Core.Option.{some}
use mathlib.Core.Path.{◌≡◌, refl, sym, ap, ◌∙◌}
use native.Mathlib.Decide.{ℕ_discrete, dec_lt}
use native.Mathlib.Omega.{arith}
use borrow.Author.Tests.{ne_eqb}
use lib.ListN.{get_or, length, get_or-eq_default}
use Rattle.definition.specs.declared.Links.{Links}
use Rattle.definition.specs.declared.Row.{Row}
use Rattle.definition.specs.Board.{Board}
use Rattle.definition.specs.Basics.{all}
use Rattle.definition.specs.Frame.{Frame, Levels, size}
use Rattle.definition.specs.World.{level_of, no_links, pages_of, slot_of, walk}
use Rattle.definition.specs.Torn.{Records, alone_if_held, class_of, is_node, links_at, list_walks, on_its_list, walks as walksOf}
use Rattle.definition.proofs.Tests.{and_left, and_right, range_in}
use Rattle.list.specs.Linked.{All, In, Linked, Out}
use Rattle.list.specs.Linked.All.{all_none}
use Rattle.list.proofs.Laws.{all_map}
use Rattle.region.specs.Rep.{Inside, Listed, Loose, SoundRow, Starts, Tile, WholeRow, from_of, managed, state_of}
use Rattle.region.proofs.Tiling.{none_some}
use Rattle.scan.specs.Sheet.{alone_row, head_at, heads_of, listed_row, node_at, placed_at, tiled_row, walks_at, walks_row, whole_row}
use Rattle.scan.proofs.Heads.{Steps, steps_of}
use Rattle.scan.proofs.Members.{all_in, member_mem}
use Rattle.scan.proofs.Nodes.{Met}
use Rattle.scan.proofs.Pigeon.{Mem}
use Rattle.world.proofs.Clauses.{
  Clean,
  Spot,
  alone_loose,
  blank_zeros,
  clean_head,
  clean_zeros,
  frame_none,
  frame_some,
  mem_in,
  opens,
  slot_held,
  slot_unheld,
  spot,
  walk_linked,
  walk_met,
}
use Rattle.world.proofs.Clauses.Spot.{spot_head, spot_inner}

module _ (board : Board) where
  -- the four clauses of the sheet that speak of a region's records, of the row whose first managed page is the page `base`
  pub record RowSheet (f : Records) (base : ℕ) (row : Row) : Type 0 where
    pub tiled : tiled_row board f (placed_at base row) ≡ true
    pub alone : alone_row board f (placed_at base row) ≡ true
    pub walks : walks_row board f (placed_at base row) ≡ true
    pub listed : listed_row board f (placed_at base row) ≡ true

module _ {board : Board} where
  -- they are the test of one row that `scan` has
  pub row_sheet : {f : Records} {base : ℕ} {row : Row} → whole_row board f (placed_at base row) ≡ true → RowSheet board f base row
  row_sheet {f} {base} {row} t =
      let x = placed_at base row in
      let a = and_right (tiled_row board f x) _ t in
      let b = and_right (alone_row board f x) _ a in
      record { tiled = and_left _ _ t; alone = and_left _ _ a; walks = and_left _ _ b; listed = and_right (walks_row board f x) _ b }

module _ (board : Board) where
  -- the definition's walk of a placed row is `scan`'s between the same numbers
  walks_by_number : (f : Records) (base : ℕ) (row : Row) (k n prev at last : ℕ)
      → walksOf board f (placed_at base row) k n prev at last ≡ walks_at f base (base + managed board row.pages) k n prev at last
  unfolding walksOf walks_at node_at managed
  walks_by_number f base row k zero prev at last = refl
  walks_by_number f base row k (suc n) prev at last =
      ap (λ (t : Bool). is_node board f (placed_at base row) k prev at && t) (walks_by_number f base row k n at (f (at - 1)).later last)

free_beyond : (f : Records) (row : Row) (k : ℕ) → length row.lists ≡ 6 → 6 ≤ k → (state_of f row).free k ≡ []
unfolding state_of pages_of walk
free_beyond f row k e h = rw (get_or-eq_default row.lists no_links {n = k} (omega arith))

module _ {board : Board} where
  module _ {f : Records} {base : ℕ} {row : Row} (S : RowSheet board f base row) where
    abbrev s : Levels
    s = state_of f row

    abbrev end : ℕ
    end = base + managed board row.pages

    abbrev links : ℕ → Links
    links k = get_or row.lists k no_links

    abbrev hs : List ℕ
    hs = heads_of f base end

    abbrev Place : ℕ → Type 0
    Place q = Spot f (from_of board row) base end hs q

    -- ---- the clauses by numbers

    heads : all (head_at f (from_of board row) base end) hs ≡ true
    unfolding head_at managed from_of
    heads = S.tiled

    steps : Steps f end base hs
    steps = steps_of f end (end - base) base (omega arith)

    place : (q : ℕ) → Inside board base row.pages q → Place q
    place q i = spot f (from_of board row) base end base q hs steps heads i.low i.high

    walk_at : (k : ℕ) → k < 6 → walks_at f base end k (links k).count 0 (links k).front (links k).back ≡ true
    walk_at k h =
        sym (walks_by_number board f base row k (links k).count 0 (links k).front (links k).back)
        ∙ range_in (list_walks board f (placed_at base row)) 0 6 S.walks k (omega arith) (omega arith)

    held_loose : (q : ℕ) → Mem q hs → (f q).marks / 2 % 2 ≡ 1 → Loose (f q)
    unfolding managed
    held_loose q m h = alone_loose (f q) (all_in (λ h. alone_if_held (f h)) hs S.alone q m) h

    -- an unheld head is on its list
    head_in : (q : ℕ) → Mem q hs → (f q).marks / 2 % 2 ≡ 0 → In q (s.free (class_of (f q)))
    unfolding managed state_of
    head_in q m h =
        let t = all_in (on_its_list f (placed_at base row)) hs S.listed q m in
        let xs = pages_of f (links_at (placed_at base row) (class_of (f q))) in
        mem_in q xs (member_mem q xs (rw (ne_eqb ((f q).marks / 2 % 2) 1 (omega arith)) at t))

    -- ---- the frames

    clean : (q : ℕ) → Place q → Clean (f q)
    clean q (spot_head H m x) = clean_head (f q) H.admitted H.known
    clean q (spot_inner z) = clean_zeros (f q) z

    -- a page on no list is blank, or it is a held head
    loose : (q : ℕ) → ((k : ℕ) → Out q (s.free k)) → Place q → Dec ((f q).marks / 2 % 2 ≡ 1) → Loose (f q)
    loose q o (spot_inner z) d = record { earlier = z.earlier; later = z.later }
    loose q o (spot_head H m x) (yes d) = held_loose q m d
    loose q o (spot_head H m x) (no d) = absurd (head_in q m (omega arith) (o (class_of (f q))))

    met_listed : (k q : ℕ) → Met f base end k q → Listed board s.frames base row.pages k q
    unfolding state_of
    met_listed k q a = record { slotted = slot_unheld (f q) a.admitted a.unheld ∙ a.class; inside = record { low = a.low; high = a.high } }

    listed : length row.lists ≡ 6 → (k : ℕ) → Dec (k < 6) → All (λ (q : ℕ). Listed board s.frames base row.pages k q) (s.free k)
    unfolding state_of
    listed six k (yes h) = all_map (met_listed k) (walk_met f base end k (links k) (walk_at k h))
    listed six k (no m) = rw (free_beyond f row k six (omega arith)) all_none

    linked : {n : ℕ} → end ≤ n → (k : ℕ) → k < 6 → Linked f n (links k) (s.free k)
    unfolding state_of
    linked {n} fits k h = walk_linked f base end k (links k) (walk_at k h) n fits

    -- the records and the row stand for the frames and lists that they say
    pub row_sound : {n : ℕ} → length row.lists ≡ 6 → base + managed board row.pages < 2 ^ 32 → base + managed board row.pages ≤ n
        → SoundRow board f n base row
    unfolding state_of
    row_sound six small fits =
        record {
          small = small;
          fits = fits;
          six = six;
          lists = linked fits;
          beyond = λ k h. free_beyond f row k six h;
          listed = λ k. listed six k (dec_lt k 6);
          framed = λ q. refl;
          marks = λ q i. (clean q (place q i)).marks;
          level = λ q i. (clean q (place q i)).level;
          loose = λ q i o. loose q o (place q i) (ℕ_discrete ((f q).marks / 2 % 2) 1);
        }

    -- ---- the tiling

    starts : (q : ℕ) → (q < end → (f q).marks % 2 ≡ 1) → Starts s end q
    unfolding state_of
    starts q h b w = none_some w (frame_some (f q) (h b))

    tile : (p : ℕ) (a : Frame) → s.frames p ≡ some a → Place p → Tile s (from_of board row) base end p a
    unfolding state_of
    tile p a e (spot_inner z) = absurd (none_some (frame_none (f p) (omega (arith, z.marks))) e)
    tile p a e (spot_head H m x) =
        let k : a.level ≡ (f p).level = ap level_of (sym e ∙ frame_some (f p) H.admitted) in
        record {
          level = omega (arith, H.level);
          aligned = rw k H.aligned;
          ends = rw k H.fits;
          clear = rw k (λ q u v. frame_none (f q) (omega (arith, (blank_zeros (f q) (H.inside q u v)).marks)));
          next = rw k (starts (p + size (f p).level) x);
        }

    full : (q : ℕ) → slot_of (s.frames q) < 6 → Place q → Dec ((f q).marks / 2 % 2 ≡ 1) → In q (s.free (slot_of (s.frames q)))
    unfolding state_of
    full q h (spot_inner z) d = absurd (omega (arith, ap slot_of (frame_none (f q) (omega (arith, z.marks)))))
    full q h (spot_head H m x) (yes d) = absurd (omega (arith, slot_held (f q) H.admitted d))
    full q h (spot_head H m x) (no d) = rw (slot_unheld (f q) H.admitted (omega arith)) (head_in q m (omega arith))

    -- the frames tile the region, and each free one is on its list
    pub row_whole : WholeRow board f base row
    row_whole =
        record {
          opens = starts base (opens f (from_of board row) base end base hs steps heads);
          tile = λ p a i e. tile p a e (place p i);
          full = λ q m i h. full q h (place q i) (ℕ_discrete ((f q).marks / 2 % 2) 1);
        }
