-- After every list of calls from an accepted boot the store is `Good`: what a proof that no call finds the records torn takes from here. What the boot's sheet
-- lets pass is `Accepted`.
use Prim.Native.Nat.{ℕ, suc, ◌+◌, ◌≤◌}
use native.Mathlib.Omega.{arith}
use mathlib.Core.Bool.{true, false}
use mathlib.Core.List.{List, [], ◌∷◌, ◌++◌}
use mathlib.Core.Option.{none}
use mathlib.Core.Path.{◌≡◌, refl, sym, ap, ◌∙◌}
use lib.ListN.{length}
use Rattle.definition.specs.declared.MemoryRegion.{MemoryRegion}
use Rattle.definition.specs.Board.{Board, Fit}
use Rattle.definition.specs.Basics.{sum, any}
use Rattle.definition.specs.Frame.{Frames}
use Rattle.definition.specs.Allocator.{AllocationRegion, managed, total}
use Rattle.definition.specs.Boot.{managed_pages, shares, overlap, boot_sheet}
use Rattle.definition.specs.Refusal.{first_met}
use Rattle.definition.specs.Store.{Memory, Store}
use Rattle.definition.specs.Contents.{size_of}
use Rattle.definition.specs.Calls.{Call}
use Rattle.definition.specs.Book.{Book}
use Rattle.bookkeeping.specs.Blocks.{Block, All, listed, holding, pages_of, home, lies, emptied, tables}
use Rattle.bookkeeping.specs.Blocks.All.{all_none, all_more}
use Rattle.bookkeeping.specs.Claim.{after_calls}
use Rattle.bookkeeping.specs.Good.{AsBoot, Placed, heads, IsHead, Good}
use Rattle.bookkeeping.proofs.Blocks.{Fine, fine_over}
use Rattle.bookkeeping.proofs.Invariant.{room_of, Agree, home_emptied, lies_emptied, room_lies, unmanaged_home}
use Rattle.bookkeeping.proofs.Boots.{total_emptied, lies_parts}
use Rattle.bookkeeping.proofs.Tilings.{Among, all_among, bare_none, region_heads, region_end}
use Rattle.bookkeeping.proofs.Listings.{all_lists, all_booked, pages_held_lem, kernel_weight, other_weight, idle_pages_lem}
use Rattle.bookkeeping.proofs.Bookkeeping.{agrees}

-- ---- the regions and the map

module _ (b : Board) where
  boot_emptied : (rs : List AllocationRegion) → All (AsBoot b) (emptied rs) → All (AsBoot b) rs
  unfolding emptied
  boot_emptied [] h = all_none
  boot_emptied (r ∷ rs) (all_more x h) = all_more {x = r} (record { more = x.more; tables = x.tables; near = x.near }) (boot_emptied rs h)

  boot_tables : (rs : List AllocationRegion) → All (AsBoot b) rs → All (λ r. tables b r ≤ r.pages) rs
  boot_tables [] all_none = all_none
  boot_tables (r ∷ rs) (all_more x h) = all_more {x = r} (omega (arith, x.tables)) (boot_tables rs h)

  all_ends
      : {fs : Frames} (rs : List AllocationRegion) → ((r : AllocationRegion) → Among r rs → All (IsHead b fs r) (heads b fs r))
      → All (λ r. tables b r ≤ r.pages) rs → All (λ r. sum (λ h. size_of (fs h)) (heads b fs r) ≡ managed b r) rs
  all_ends {fs} rs h t = all_two rs t (all_among rs h)
    where
      all_two
          : (ts : List AllocationRegion) → All (λ r. tables b r ≤ r.pages) ts → All (λ r. All (IsHead b fs r) (heads b fs r)) ts
          → All (λ r. sum (λ h. size_of (fs h)) (heads b fs r) ≡ managed b r) ts
      all_two [] all_none all_none = all_none
      all_two (r ∷ ts) (all_more i is) (all_more j js) = all_more {x = r} (region_end b fs r i j) (all_two ts is js)

  length_emptied : (rs : List AllocationRegion) → length (emptied rs) ≡ length rs
  unfolding emptied
  length_emptied [] = refl
  length_emptied (r ∷ rs) = ap suc (length_emptied rs)

  tables_emptied : (rs : List AllocationRegion) → sum (tables b) (emptied rs) ≡ sum (tables b) rs
  unfolding emptied sum
  tables_emptied [] = refl
  tables_emptied (r ∷ rs) = rw (tables_emptied rs)

  shares_emptied : (r : AllocationRegion) (rs : List AllocationRegion) → any (shares b r) (emptied rs) ≡ any (shares b r) rs
  unfolding emptied any
  shares_emptied r [] = refl
  shares_emptied r (t ∷ rs) = rw (shares_emptied r rs)

  overlap_emptied : (rs : List AllocationRegion) → overlap b (emptied rs) ≡ overlap b rs
  unfolding emptied overlap
  overlap_emptied [] = refl
  overlap_emptied (r ∷ rs) = rw (shares_emptied r rs, overlap_emptied rs)

  -- the frames over the regions as they are, lists and all
  fine_here
      : {pages : ℕ} {fs : Frames} {xs : List Block} (m rs : List AllocationRegion) → emptied rs ≡ m → Fine (home b m) (room_of b m) pages fs xs
      → Fine (home b rs) (lies b rs) pages fs xs
  fine_here m rs e h =
      fine_over (λ q. ap (λ (l : List AllocationRegion). home b l q) (sym e) ∙ home_emptied b rs q)
      (λ p n i. omega (arith, room_lies b m p n i, ap (λ (l : List AllocationRegion). lies b l p n) (sym e), lies_emptied b rs p n)) (lies_parts b rs) refl h

  good_of
      : (m : List AllocationRegion) (s : Store) (k : Book) → Placed b m → Agree b m s k → Good b s k
  good_of m s k a h =
      record {
        regions = e ∙ sym h.regions;
        placed = record {
          as_boot = boots;
          few = rw (sym (length_emptied rs), e) a.few;
          apart = sym (overlap_emptied rs) ∙ (ap (overlap b) e ∙ a.apart);
          pages = rw (sym (total_emptied b rs), e) a.pages;
        };
        tiled = all_among rs (λ r at. region_heads b f r at);
        ended = all_ends rs (λ r at. region_heads b f r at) (boot_tables rs boots);
        bare = λ q i. bare_none f q (unmanaged_home b rs q i);
        lists = all_lists b rs k.held f h.sound.own;
        six = h.sound.beyond;
        booked = all_booked b rs k.held f;
        idle = h.counted.idle ∙ (ap (λ n. sum pages_of (listed rs) + n) (ap (sum (tables b)) (sym e) ∙ tables_emptied rs) ∙ idle_pages_lem b rs);
        totals = h.counted.total ∙ (ap total (sym e) ∙ total_emptied b rs);
        kernel = h.counted.kernel ∙ (kernel_weight k.held ∙ pages_held_lem b rs k.held f (boot_tables rs boots) true);
        page = h.counted.page ∙ (other_weight k.held ∙ pages_held_lem b rs k.held f (boot_tables rs boots) false);
        waiting = h.counted.waiting;
        queue = h.queue;
        room = h.room;
        rounds = h.rounds;
        freed = h.freed;
      }
    where
      rs : List AllocationRegion
      rs = s.allocator.regions

      e : emptied s.allocator.regions ≡ m
      e = h.sound.shape

      boots : All (AsBoot b) s.allocator.regions
      boots = boot_emptied s.allocator.regions (rw (sym e) at a.as_boot)

      f
          : Fine (home b s.allocator.regions) (lies b s.allocator.regions) (managed_pages b m) s.allocator.frames
          (listed s.allocator.regions ++ holding k.held)
      f = fine_here m s.allocator.regions e h.sound.fine

-- After every list of calls from an accepted boot.
module _ {b : Board} (fit : Fit b) where
  pub good
      : (map : List MemoryRegion) (records memory : ℕ) → first_met (boot_sheet b map records memory) ≡ none → (bytes : Memory) (room : ℕ) (calls : List Call)
      → let x = after_calls b map bytes room calls in Good b x.store x.book
  good map records memory e bytes room calls =
      let x = after_calls b map bytes room calls in
      let h = agrees fit map records memory e bytes room calls in
      good_of b x.book.regions x.store x.book h.placed h.agree
