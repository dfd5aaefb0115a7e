-- A run of calls on worlds is the run on the stores that they stand for: `Holds` ties a world to a store, a boot sets it up (`boot_holds`) and every call keeps it
-- (`call_holds`). A reader takes from here `tied`, and from `call_is` that no call after an accepted boot finds the loans torn.
use Prim.Native.Nat.{ℕ, ◌*◌}
use mathlib.Core.Bool.{true}
use mathlib.Core.List.{List, [], ◌∷◌, ◌++◌}
use mathlib.Core.Option.{Option, none, some}
use mathlib.Core.Path.{◌≡◌, refl, sym, ap, ap₂, ◌∙◌, subst}
use native.Mathlib.Omega.{arith}
use lib.ListN.{length, drop}
use lib.Seq.{drop_at}
use Rattle.definition.proofs.Bytes.{pages_same}
use Rattle.definition.specs.declared.Counters.{Counters}
use Rattle.definition.specs.declared.MemoryRegion.{MemoryRegion}
use Rattle.definition.specs.declared.Pass.{Pass}
use Rattle.definition.specs.declared.Row.{Row}
use Rattle.definition.specs.declared.Refusal.{Refusal}
use Rattle.definition.specs.Board.{Board}
use Rattle.definition.specs.Boot.{kept_regions, boot_sheet, boot, managed_pages}
use Rattle.definition.specs.Book.{Book, note_answer}
use Rattle.definition.specs.Calls.{Call, Answer, step, run}
use Rattle.definition.specs.Refusal.{first_met}
use Rattle.definition.specs.Store.{Kept, Store}
use Rattle.definition.specs.Torn as Torn
use Rattle.definition.specs.Torn.{sound, call, boot_call, booted, written}
use Rattle.definition.specs.World.{World, regions_bytes, memory_bytes, memory_of, decode, encode}
use Rattle.definition.specs.Board.{Fit}
use Rattle.world.proofs.Spans.{managed_spans}
use Rattle.bookkeeping.specs.Claim as Claim
use Rattle.bookkeeping.specs.Claim.{State, next, after}
use Rattle.bookkeeping.specs.Good.{Good}
use Rattle.bookkeeping.proofs.Accepts.{accepted}
use Rattle.bookkeeping.proofs.Good.{good}
use Rattle.bookkeeping.proofs.Regions.{next_regions}
use Rattle.bookkeeping.proofs.Kept.{step_kept}
use Rattle.theorems.specs.Demands.{Accepted, world_after, answers_of, book_after, Tied}
use Rattle.theorems.specs.Stands.{Stands}
use Rattle.theorems.proofs.Bytes.{regions_length, memory_length}
use Rattle.theorems.proofs.Encoded.{Fits, encoded_sound, records_length, memory_as_long, queue_length}
use Rattle.theorems.proofs.Decoded.{ZeroElsewhere, decode_encode}
use Rattle.theorems.proofs.Outside.{emptied_bared, step_elsewhere, boot_elsewhere}

-- ---- writing twice is writing once

same_world : {r : List Row} {c : Counters} {n : ℕ} {p : Pass} {f g h i j k : List ℕ} → f ≡ g → h ≡ i → j ≡ k
    → ◌≡◌ {A = World} (record { rows = r; counters = c; queued = n; pass = p; records = f; memory = h; queue = j })
    (record { rows = r; counters = c; queued = n; pass = p; records = g; memory = i; queue = k })
same_world e0 e1 e2 = cc

module _ (board : Board) (fit : Fit board) where
  encode_twice : (s : Store) (w : World) → encode board s (encode board s w) ≡ encode board s w
  unfolding encode
  encode_twice s w =
      let rs = s.allocator.regions in
      let bytes = regions_bytes board 0 s.allocator.frames rs in
      let run = memory_bytes board s.memory rs in
      same_world
      (ap (λ (l : List ℕ). bytes ++ l) (drop_at bytes _ _ (regions_length board s.allocator.frames 0 rs)))
      (ap (λ (l : List ℕ). run ++ l) (drop_at run _ _ (memory_length board fit s.memory rs)))
      (ap (λ (l : List ℕ). s.queue ++ l) (drop_at s.queue _ (length s.queue) refl))

-- ---- what is written ends with the managed pages

module _ (board : Board) where
  past_records : (s : Store) (v : World) (n : ℕ) → 16 * managed_pages board s.allocator.regions ≡ n
      → drop n (encode board s v).records ≡ drop n v.records
  unfolding encode
  past_records s v n e =
      let rs = s.allocator.regions in
      drop_at (regions_bytes board 0 s.allocator.frames rs) (drop (16 * managed_pages board rs) v.records) n
      (regions_length board s.allocator.frames 0 rs ∙ e)
      ∙ ap (λ (i : ℕ). drop i v.records) e

module _ (board : Board) (fit : Fit board) where
  past_memory : (s : Store) (v : World) (n : ℕ) → board.page * managed_pages board s.allocator.regions ≡ n
      → drop n (encode board s v).memory ≡ drop n v.memory
  unfolding encode
  past_memory s v n e =
      let rs = s.allocator.regions in
      drop_at (memory_bytes board s.memory rs) (drop (board.page * managed_pages board rs) v.memory) n (memory_length board fit s.memory rs ∙ e)
      ∙ ap (λ (i : ℕ). drop i v.memory) e

module _ (board : Board) where
  -- so that what is written into worlds alike behind them is alike
  same_records : (s : Store) (v w : World) → drop (16 * managed_pages board s.allocator.regions) v.records
      ≡ drop (16 * managed_pages board s.allocator.regions) w.records → (encode board s v).records ≡ (encode board s w).records
  unfolding encode
  same_records s v w e = ap (λ (l : List ℕ). regions_bytes board 0 s.allocator.frames s.allocator.regions ++ l) e

  same_memory : (s : Store) (v w : World) → drop (board.page * managed_pages board s.allocator.regions) v.memory
      ≡ drop (board.page * managed_pages board s.allocator.regions) w.memory → (encode board s v).memory ≡ (encode board s w).memory
  unfolding encode
  same_memory s v w e = ap (λ (l : List ℕ). memory_bytes board s.memory s.allocator.regions ++ l) e

-- ---- a world and the store that it stands for

module _ (board : Board) where
  -- the loans of v are as long as those of w, and the same behind the map's managed pages
  pub record Beside (map : List MemoryRegion) (w v : World) : Type 0 where
    pub records_long : length v.records ≡ length w.records
    pub memory_long : length v.memory ≡ length w.memory
    pub queue_long : length v.queue ≡ length w.queue
    pub records : drop (16 * managed_pages board (kept_regions board map)) v.records ≡ drop (16 * managed_pages board (kept_regions board map)) w.records
    pub memory : drop (board.page * managed_pages board (kept_regions board map)) v.memory ≡ drop (board.page * managed_pages board (kept_regions board map)) w.memory

  -- the world v, which came of w, stands for the store of the state x, from which every list of calls leads to a good store
  pub record Holds (map : List MemoryRegion) (w v : World) (x : State) : Type 0 where
    pub good : (cs : List Call)
        → Good board (after board x cs).store (after board x cs).book
    pub elsewhere : ZeroElsewhere board x.store
    pub fits : Fits board x.store v
    pub written : encode board x.store v ≡ v
    -- the book has the map's regions
    pub kept : x.book.regions ≡ kept_regions board map
    pub beside : Beside map w v

module _ {board : Board} where
  managed_is : {s : Store} {k : Book} → Good board s k → managed_pages board s.allocator.regions ≡ managed_pages board k.regions
  managed_is {s = s} G =
      let rs = s.allocator.regions in
      sym ((managed_spans board).same rs) ∙ ap (managed_pages board) (sym (emptied_bared rs) ∙ G.regions)

module _ {board : Board} (fit : Fit board) where
  -- what is written anew fits as what was there
  fits_again : {s : Store} {k : Book} (v : World) → Good board s k → Fits board s v → Fits board s (encode board s v)
  fits_again v G F =
      record {
        records = omega (arith, F.records, records_length fit v G F);
        memory = omega (arith, F.memory, memory_as_long fit v G F);
        queue = F.queue ∙ sym (queue_length fit v G F);
      }

  -- and changes nothing behind the managed pages
  beside_again : {map : List MemoryRegion} {s : Store} {k : Book} (w v : World) → Good board s k → k.regions ≡ kept_regions board map → Fits board s v
      → Beside board map w v → Beside board map w (encode board s v)
  beside_again {map} {s} w v G K F L =
      let m = managed_is G ∙ ap (managed_pages board) K in
      record {
        records_long = records_length fit v G F ∙ L.records_long;
        memory_long = memory_as_long fit v G F ∙ L.memory_long;
        queue_long = queue_length fit v G F ∙ L.queue_long;
        records = past_records board s v (16 * managed_pages board (kept_regions board map)) (ap (λ (n : ℕ). 16 * n) m) ∙ L.records;
        memory = past_memory board fit s v (board.page * managed_pages board (kept_regions board map)) (ap (λ (n : ℕ). board.page * n) m) ∙ L.memory;
      }

  module _ {map : List MemoryRegion} {w v : World} {x : State} (H : Holds board map w v x) where
    pub here : Good board x.store x.book
    unfolding after
    here = H.good []

    managed_here : managed_pages board x.store.allocator.regions ≡ managed_pages board (kept_regions board map)
    managed_here = managed_is here ∙ ap (managed_pages board) H.kept

    pub holds_sound : sound board v ≡ true
    holds_sound = subst (λ (u : World). sound board u ≡ true) H.written (encoded_sound fit v here H.fits)

    pub holds_decode : decode board v ≡ x.store
    holds_decode = ap (decode board) (sym H.written) ∙ decode_encode fit v here H.fits H.elsewhere

    pub holds_records : v.records ≡ (encode board x.store w).records
    holds_records =
        ap (λ (u : World). u.records) (sym H.written) ∙ same_records board x.store v w (rw managed_here H.beside.records)

    pub holds_memory : v.memory ≡ (encode board x.store w).memory
    holds_memory =
        ap (λ (u : World). u.memory) (sym H.written) ∙ same_memory board x.store v w (rw managed_here H.beside.memory)

    pub stands : Stands board w v x.store
    stands =
        record {
          written = H.written;
          decoded = holds_decode;
          whole = holds_sound;
          records = holds_records;
          memory = holds_memory;
          records_long = H.beside.records_long;
          memory_long = H.beside.memory_long;
          queue_long = H.beside.queue_long;
        }

    -- a call is the store's step, written into the world
    pub call_is : (c : Call) → call board v c ≡ written board v (step board x.store c)
    unfolding call
    call_is c = rw (holds_sound, holds_decode)

    there : (c : Call) → Good board (step board x.store c).store (next board x c).book
    unfolding after next
    there c = H.good (c ∷ [])

    pub call_holds : (c : Call) → Holds board map w (call board v c).world (next board x c)
    unfolding after next
    call_holds c =
        let t = (step board x.store c).store in
        let same = next_regions board x c in
        let m = managed_is (there c) ∙ ap (managed_pages board) (same ∙ H.kept) in
        let F : Fits board t v =
        record {
          records = omega (arith, H.fits.records, managed_here, m);
          memory = omega (arith, H.fits.memory, pages_same board.page managed_here, pages_same board.page m);
          queue = ap (λ (k : Kept). k.room) (step_kept board x.store c) ∙ H.fits.queue;
        } in
        rw (call_is c)
        (record {
          good = λ cs. H.good (c ∷ cs);
          elsewhere = step_elsewhere fit c here refl (there c) same H.elsewhere;
          fits = fits_again v (there c) F;
          written = encode_twice board fit t v;
          kept = same ∙ H.kept;
          beside = beside_again w v (there c) (same ∙ H.kept) F H.beside;
        })

-- ---- every list of calls

module _ {board : Board} (fit : Fit board) where
  module _ {map : List MemoryRegion} {w : World} where
    pub all_hold : {v : World} {x : State} → Holds board map w v x → (cs : List Call) → Holds board map w (world_after board v cs) (after board x cs)
    unfolding world_after after
    all_hold H [] = H
    all_hold {v = v} {x = x} H (c ∷ cs) = all_hold {v = (call board v c).world} (call_holds fit H c) cs

    pub all_answers : {v : World} {x : State} → Holds board map w v x → (cs : List Call) → answers_of board v cs ≡ (run board x.store cs).answers
    unfolding answers_of run next
    all_answers H [] = refl
    all_answers {v = v} {x = x} H (c ∷ cs) =
        ap₂ (λ (y : Answer) (ys : List Answer). y ∷ ys) (ap (λ l. l.answer) (call_is fit H c)) (all_answers {v = (call board v c).world} (call_holds fit H c) cs)

    pub all_booked : {v : World} {x : State} → Holds board map w v x → (cs : List Call)
        → book_after board x.book cs (answers_of board v cs) ≡ (after board x cs).book
    unfolding book_after answers_of after next
    all_booked H [] = refl
    all_booked {v} {x} H (c ∷ cs) =
        ap (λ (y : Answer). book_after board (note_answer board x.book c y) cs (answers_of board (call board v c).world cs))
        (ap (λ l. l.answer) (call_is fit H c))
        ∙ all_booked {v = (call board v c).world} (call_holds fit H c) cs

module _ (board : Board) where
  pub stores_same : (x : State) (cs : List Call) → (after board x cs).store ≡ (run board x.store cs).store
  unfolding after next run
  stores_same x [] = refl
  stores_same x (c ∷ cs) = stores_same (next board x c) cs

-- ---- from an accepted boot

module _ (board : Board) where
  pub boot_accepted : (map : List MemoryRegion) (w : World) → Accepted (boot_call board map w).answer
      → first_met (boot_sheet board map (length w.records) (length w.memory)) ≡ none
  unfolding boot_call
  boot_accepted map w h = go (first_met (boot_sheet board map (length w.records) (length w.memory))) h
    where
      go : (o : Option Refusal) → Accepted (Torn.unless_refused w o (booted board map w)).answer → o ≡ none
      go none h = refl
      go (some r) h = absurd (h r refl)

module _ (board : Board) (fit : Fit board) where
  module _ (map : List MemoryRegion) (w : World) (ok : Accepted (boot_call board map w).answer) where
    abbrev begun : State
    begun = Claim.booted board map (memory_of board w.memory (kept_regions board map)) (length w.queue)

    passed : first_met (boot_sheet board map (length w.records) (length w.memory)) ≡ none
    passed = boot_accepted board map w ok

    boot_is : boot_call board map w ≡ booted board map w
    unfolding boot_call
    boot_is = rw passed

    always : (cs : List Call) → Good board (after board begun cs).store (after board begun cs).book
    always cs =
        good fit map (length w.records) (length w.memory) passed (memory_of board w.memory (kept_regions board map))
        (length w.queue) cs

    first_good : Good board begun.store begun.book
    unfolding after
    first_good = always []

    room_is : begun.store.kept.room ≡ length w.queue
    unfolding boot
    room_is = refl

    pub boot_holds : Holds board map w (boot_call board map w).world begun
    boot_holds =
        let a = accepted fit map (length w.records) (length w.memory) passed in
        let F : Fits board begun.store w =
        record {
          records = omega (arith, a.records_long, managed_is first_good);
          memory = omega (arith, a.memory_long, pages_same board.page (managed_is first_good));
          queue = room_is;
        } in
        rw boot_is
        (record {
          good = always;
          elsewhere = boot_elsewhere map w.memory (length w.queue) first_good;
          fits = fits_again fit w first_good F;
          written = encode_twice board fit begun.store w;
          kept = refl;
          beside = beside_again fit w w first_good refl F (record { records_long = refl; memory_long = refl; queue_long = refl; records = refl; memory = refl });
        })

    pub tied : (calls : List Call) → Tied board map w calls
    tied calls =
        let H = all_hold fit boot_holds calls in
        record { stands = stands fit H; answers = all_answers fit boot_holds calls }
