-- A good store, written into loans that are long enough, is read back whole: `decode_encode` gives the very store, its lists in their order and every byte of
-- its memory. A reader takes from here that a world holds all of a store whose memory is 0 wherever no region manages it.
use Prim.Native.Nat.{ℕ, zero, suc, ◌+◌, ◌-◌, ◌/◌, ◌≤◌}
use mathlib.Core.Bool.{Bool, true, false, cond, ◌||◌}
use mathlib.Core.List.{List, ◌∷◌, map}
use mathlib.Core.Option.{none, some}
use mathlib.Core.Path.{◌≡◌, refl, sym, ap, ap₂, ◌∙◌, fun_ext}
use native.Mathlib.Omega.{arith}
use lib.ListN.{length, take, drop}
use lib.Seq.{take_at}
use Rattle.definition.proofs.Boards.{page_positive}
use Rattle.definition.proofs.Bytes.{pages_of_lem}
use Rattle.definition.specs.Board.{Fit}
use Rattle.definition.specs.declared.Counters.{Counters}
use Rattle.definition.specs.declared.Pass.{Pass}
use Rattle.definition.specs.declared.Record.{Record}
use Rattle.definition.specs.Basics.{any}
use Rattle.definition.specs.Board.{Board}
use Rattle.definition.specs.Frame.{Frames}
use Rattle.definition.specs.Allocator.{AllocationRegion, PhysicalFrameAllocator, first, managed, contains, is_managed}
use Rattle.definition.specs.Book.{Book}
use Rattle.definition.specs.Store.{Memory, Store}
use Rattle.definition.specs.World.{
  World,
  record_at,
  frame_of,
  used_rows,
  bare_region,
  page_number,
  number_in,
  record_of,
  encode_row,
  encode_rows,
  decode_row,
  decode_rows,
  frame_at,
  decode_with,
  decode,
  encode,
}
use Rattle.bookkeeping.specs.Blocks.{All}
use Rattle.bookkeeping.specs.Blocks.All.{all_none, all_more}
use Rattle.bookkeeping.specs.Good.{IsFree, Good}
use Rattle.bookkeeping.proofs.Tilings.{contains_facts}
use Rattle.theorems.proofs.Bytes.{Written, memory_read}
use Rattle.theorems.proofs.Bytes.Written.{written_none, written_more}
use Rattle.theorems.proofs.Heads.{Kept, ended, good_kept}
use Rattle.theorems.proofs.Marks.{frame_back}
use Rattle.theorems.proofs.Regions.{Sheet}
use Rattle.theorems.proofs.Rows.{used_rows_lem}
use Rattle.theorems.proofs.Encoded.{Sheets, Fits, written_records, all_regions, queue_length}
use Rattle.theorems.proofs.Encoded.Sheets.{sheets_none, sheets_more}

module _ (board : Board) where
  -- the memory is 0 at every address that no region manages
  abbrev pub ZeroElsewhere : Store → Type 0
  ZeroElsewhere s = (a : ℕ) → is_managed board s.allocator.regions (a / board.page) ≡ false → s.memory a ≡ 0

-- ---- the regions

map_back : (g h : ℕ → ℕ) {xs : List ℕ} → All (λ (q : ℕ). g (h q) ≡ q) xs → map g (map h xs) ≡ xs
map_back g h all_none = refl
map_back g h (all_more e rest) = cc (map_back g h rest)

all_to : {A : Type 0} {P Q : A → Type 0} {xs : List A} → ((x : A) → P x → Q x) → All P xs → All Q xs
all_to h all_none = all_none
all_to h (all_more {x = x} a more) = all_more {x = x} (h x a) (all_to h more)

module _ {board : Board} (fit : Fit board) where
  module _ {fs : Frames} {r : AllocationRegion} (K : Kept board fs r) where
    slot_low : (l : ℕ) (z : Bool) (p : ℕ) → IsFree board fs r l z p → first board r ≤ p
    slot_low l z p i = (contains_facts board r p i.inside).0

    free_low : (k : ℕ) → All (λ (p : ℕ). first board r ≤ p) (r.free k)
    free_low zero = all_to (slot_low 0 false) (K.lists.each 0 false (omega arith))
    free_low (suc zero) = all_to (slot_low 0 true) (K.lists.each 0 true (omega arith))
    free_low (suc (suc zero)) = all_to (slot_low 1 false) (K.lists.each 1 false (omega arith))
    free_low (suc (suc (suc zero))) = all_to (slot_low 1 true) (K.lists.each 1 true (omega arith))
    free_low (suc (suc (suc (suc zero)))) = all_to (slot_low 2 false) (K.lists.each 2 false (omega arith))
    free_low (suc (suc (suc (suc (suc zero))))) = all_to (slot_low 2 true) (K.lists.each 2 true (omega arith))
    free_low (suc (suc (suc (suc (suc (suc j)))))) = rw (K.six (suc (suc (suc (suc (suc (suc j)))))) (omega arith)) all_none

    same_region : {a b c d : ℕ} {f g : ℕ → List ℕ} → a ≡ b → c ≡ d → f ≡ g
        → ◌≡◌ {A = AllocationRegion} (record { start = a; pages = c; free = f }) (record { start = b; pages = d; free = g })
    same_region p q t = cc

    region_back : (f : ℕ → Record) (base : ℕ) → Sheet board f fs base r → decode_row board f base (encode_row board base r) ≡ r
    region_back f base S =
        same_region (pages_of_lem board.page (page_positive fit) r.start) refl
        (fun_ext (λ k.
        ap (map (λ (q : ℕ). first board (bare_region board (encode_row board base r)) + (q - base))) (S.lists k)
        ∙ map_back (λ (q : ℕ). first board (bare_region board (encode_row board base r)) + (q - base)) (page_number board base r)
        (all_to (λ q i. omega (arith, pages_of_lem board.page (page_positive fit) r.start)) (free_low k))))

  regions_back : {f : ℕ → Record} {fs : Frames} {base : ℕ} {rs : List AllocationRegion} → All (Kept board fs) rs → Sheets board f fs base rs
      → decode_rows board f base (encode_rows board base rs) ≡ rs
  unfolding decode_rows encode_rows
  regions_back all_none sheets_none = refl
  regions_back {f = f} {fs = fs} {base = base} (all_more {x = x} {xs = xs} K more) (sheets_more S rest) =
      ap₂ (λ (x : AllocationRegion) (y : List AllocationRegion). x ∷ y) (region_back K f base S) (regions_back {base = base + managed board x} more rest)

-- ---- the frames

module _ (board : Board) where
  frame_read : (base : ℕ) (r : AllocationRegion) (fs : Frames) (p : ℕ) → frame_of (record_of board base r fs p) ≡ fs p
  unfolding record_of
  frame_read base r fs p = frame_back (fs p) _ _

module _ {board : Board} where
  frames_read : {f : ℕ → Record} {fs : Frames} {base : ℕ} {rs : List AllocationRegion} → All (Kept board fs) rs → Written board f fs base rs → (p : ℕ)
      → frame_at f (number_in board base rs p) ≡ cond (is_managed board rs p) (fs p) none
  unfolding number_in is_managed any
  frames_read all_none written_none p = refl
  frames_read {f} {fs} (all_more K more) (written_more {base = base} {r = r} {rs = rs} w rest) p = go (contains board r p) refl (frames_read {base = base + managed board r} more rest p)
    where
      go : (t : Bool) → contains board r p ≡ t
          → frame_at f (number_in board (base + managed board r) rs p) ≡ cond (is_managed board rs p) (fs p) none
          → frame_at f (cond t (some (page_number board base r p)) (number_in board (base + managed board r) rs p))
          ≡ cond (t || is_managed board rs p) (fs p) none
      go false c h = h
      go true c h =
          let x = contains_facts board r p c in
          let e : first board r + (p - first board r) ≡ p = omega arith in
          ap frame_of (rw e at (w (p - first board r) (omega (arith, ended K)))) ∙ frame_read board base r fs p

-- ---- the store

same_store : {a b : PhysicalFrameAllocator} {m n : Memory} {c : Counters} {q t : List ℕ} {i j : ℕ} {p : Pass} → a ≡ b → m ≡ n → q ≡ t → i ≡ j
    → ◌≡◌ {A = Store} (record { allocator = a; memory = m; counters = c; queue = q; kept = record { room = i }; pass = p })
    (record { allocator = b; memory = n; counters = c; queue = t; kept = record { room = j }; pass = p })
same_store e0 e1 e2 e3 = cc

either_way : {A : Type 0} (t : Bool) {x y : A} → (t ≡ false → x ≡ y) → cond t x y ≡ x
either_way true h = refl
either_way false h = sym (h refl)

module _ {board : Board} (fit : Fit board) where
  module _ {s : Store} {k : Book} (w : World) (G : Good board s k) (F : Fits board s w) (Z : ZeroElsewhere board s) where
    abbrev rs : List AllocationRegion
    rs = s.allocator.regions

    abbrev fs : Frames
    fs = s.allocator.frames

    abbrev v : World
    v = encode board s w

    used_are : used_rows v.rows ≡ encode_rows board 0 rs
    unfolding encode
    used_are = used_rows_lem G.placed.as_boot

    regions_are : decode_rows board (record_at v.records) 0 (used_rows v.rows) ≡ rs
    regions_are = ap (decode_rows board (record_at v.records) 0) used_are ∙ regions_back fit (good_kept G) (all_regions fit w G F)

    frames_are : (p : ℕ) → frame_at (record_at v.records) (number_in board 0 rs p) ≡ fs p
    frames_are p = frames_read (good_kept G) (written_records fit w G F) p ∙ either_way (is_managed board rs p) (G.bare p)

    memory_is : (a : ℕ) → (decode_with board v rs).memory a ≡ s.memory a
    unfolding encode
    memory_is a = memory_read board fit s.memory rs _ a ∙ either_way (is_managed board rs (a / board.page)) (Z a)

    queue_is : take v.queued v.queue ≡ s.queue
    unfolding encode
    queue_is = take_at s.queue (drop (length s.queue) w.queue) (length s.queue) refl

    read_back : decode_with board v rs ≡ s
    unfolding encode
    read_back =
        same_store (ap (λ (g : Frames). record { frames = g; regions = rs }) (fun_ext frames_are)) (fun_ext memory_is) queue_is
        (queue_length fit w G F ∙ sym F.queue)

    pub decode_encode : decode board (encode board s w) ≡ s
    unfolding decode
    decode_encode = ap (decode_with board v) regions_are ∙ read_back
