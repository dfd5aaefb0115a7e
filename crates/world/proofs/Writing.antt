-- A store's memory and the lent bytes change together. Where the managed bytes of a memory are the front of the loan, they are so still
-- after a write, a fill or a move in the one and the same bytes put into the other: `memory_written`, `memory_filled` and `memory_moved`,
-- for any range that `Lies` in the regions.
use Prim.Native.Nat.{ℕ, zero, suc, ◌+◌, ◌-◌, ◌*◌, ◌/◌, ◌%◌, ◌≤◌, ◌<◌}
use mathlib.Core.Bool.{Bool, true, false, cond}
use mathlib.Core.List.{List, [], ◌∷◌, ◌++◌}
use mathlib.Core.Option.{some, none-ne-some}
use mathlib.Core.Path.{◌≡◌, refl, sym, ap, ◌∙◌, fun_ext}
use native.Mathlib.Decide.{dec_le, dec_lt}
use native.Mathlib.Omega.{arith}
use borrow.Author.Tests.{leb-true, ltb-true, le-leb, lt-leb, lt-ltb, le-ltb}
use lib.Dec.{leb}
use lib.ListN.{length, get_or, take, drop, replicate, length-drop, length-replicate, get_or-replicate, get_or-append}
use lib.Seq.{ext_get_or, get_or-append-add, get_or-drop, get_or-take}
use Rattle.definition.specs.Board.{Board}
use Rattle.definition.specs.Allocator.{AllocationRegion, first, managed}
use Rattle.definition.specs.Boot.{managed_pages, overlap}
use Rattle.definition.specs.Contents.{bytes_at, filled, moved, within, written}
use Rattle.definition.specs.Store.{Memory}
use Rattle.definition.specs.World.{memory_bytes, number_in}
use Rattle.definition.proofs.Tests.{and_left, and_right}
use Rattle.record.specs.Records.{with_bytes}
use Rattle.record.proofs.Bytes.{with_in, with_length, with_out}
use Rattle.definition.proofs.Bytes.{address_is, byte_inside, offset_small, offsets_on, pages_sum, some_byte}
use Rattle.world.proofs.Memory.{Holds, memory_front}
use Rattle.world.proofs.Numbering.{EachPage}
use Rattle.world.proofs.Parts.{part, run_part}
use Rattle.world.proofs.Places.FirstOrRest.{in_first, in_rest}
use Rattle.world.proofs.Places.{FirstOrRest, first_or_rest, Lies, lies_place, lies_address, managed_bytes, number_between}

-- ---- the bytes of a range

module _ (m : Memory) where
  pub bytes_length : (a n : ℕ) → length (bytes_at m a n) ≡ n
  unfolding bytes_at
  bytes_length a zero = refl
  bytes_length a (suc n) = ap suc (bytes_length (a + 1) n)

  pub bytes_at_lem : (a n i : ℕ) → i < n → get_or (bytes_at m a n) i 0 ≡ m (a + i)
  unfolding bytes_at
  bytes_at_lem a zero i h = absurd (omega arith)
  bytes_at_lem a (suc n) zero h = ap m (omega arith)
  bytes_at_lem a (suc n) (suc i) h = bytes_at_lem (a + 1) n i (omega arith) ∙ ap m (omega arith)

-- ---- a fill and a move are writes

module _ (m : Memory) (a len : ℕ) where
  -- whatever gives the bytes one by one
  written_by : (g : ℕ → ℕ) (xs : List ℕ) → length xs ≡ len → ((k : ℕ) → k < len → g k ≡ get_or xs k 0)
      → (λ (x : ℕ). cond (within a len x) (g (x - a)) (m x)) ≡ written a xs m
  unfolding written
  written_by g xs e same = fun_ext (λ x. rw e (go x (within a len x) refl))
    where
      go : (x : ℕ) (t : Bool) → within a len x ≡ t → cond t (g (x - a)) (m x) ≡ cond t (get_or xs (x - a) 0) (m x)
      go x false h = refl
      go x true h =
          let low = leb-true a x (and_left _ _ h) in
          let high = ltb-true x (a + len) (and_right (leb a x) _ h) in
          same (x - a) (omega arith)

  pub filled_written : (v : ℕ) → filled a len v m ≡ written a (replicate len v) m
  unfolding filled
  filled_written v = written_by (λ k. v) (replicate len v) (length-replicate len v) (λ k h. sym (get_or-replicate len k v 0 h))

  pub moved_written : (from : ℕ) → moved a from len m ≡ written a (bytes_at m from len) m
  unfolding moved
  moved_written from = written_by (λ k. m (from + k)) (bytes_at m from len) (bytes_length m from len)
      (λ k h. sym (bytes_at_lem m from len k h))

-- what stands behind the bytes that were put in
pub drop_with : (bs : List ℕ) (at n : ℕ) (xs : List ℕ) → at + length xs ≤ n → n ≤ length bs → drop n (with_bytes bs at xs) ≡ drop n bs
drop_with bs at n xs h l =
    ext_get_or 0 (drop n (with_bytes bs at xs)) (drop n bs)
    (rw (length-drop n (with_bytes bs at xs), length-drop n bs, with_length bs at xs (omega arith)))
    (λ i k. get_or-drop n (with_bytes bs at xs) i 0 ∙ with_out bs at xs (omega arith) (n + i) (λ u v. omega arith)
    ∙ sym (get_or-drop n bs i 0))

module _ (board : Board) where
  -- ---- the memory's pages hold the loan's bytes

  -- the managed bytes of the memory m are the front of the loan bs
  abbrev pub Fronts : List AllocationRegion → Memory → List ℕ → Type 0
  Fronts rs m bs = memory_bytes board m rs ≡ take (managed_bytes board rs) bs

  -- the managed bytes of the memory n are the front of the loan cs, which was bs and has the same length and end
  pub record Rewritten (rs : List AllocationRegion) (bs : List ℕ) (n : Memory) (cs : List ℕ) : Type 0 where
    pub memory : Fronts rs n cs
    pub as_long : length cs ≡ length bs
    pub beyond : drop (managed_bytes board rs) cs ≡ drop (managed_bytes board rs) bs

  abbrev P : ℕ
  P = board.page

  -- the byte i of the page p among the managed bytes
  byte_in
      : (m : Memory) (base : ℕ) (rs : List AllocationRegion) (p q i : ℕ) → number_in board base rs p ≡ some q → i < board.page
      → get_or (memory_bytes board m rs) (board.page * (q - base) + i) 0 ≡ m (board.page * p + i)
  unfolding memory_bytes number_in
  byte_in m base [] p q i h s = absurd (none-ne-some q h)
  byte_in m base (r ∷ rs) p q i h s = go (first_or_rest board base r rs p q h) (byte_in m (base + managed board r) rs p q i)
    where
      size : ℕ
      size = board.page * managed board r

      front : List ℕ
      front = bytes_at m (board.page * first board r) size

      rest : List ℕ
      rest = memory_bytes board m rs

      long : length front ≡ size
      long = bytes_length m (board.page * first board r) size

      go : FirstOrRest board base r rs p q
          → (number_in board (base + managed board r) rs p ≡ some q → i < board.page
          → get_or rest (board.page * (q - (base + managed board r)) + i) 0 ≡ m (board.page * p + i))
          → get_or (front ++ rest) (board.page * (q - base) + i) 0 ≡ m (board.page * p + i)
      go (in_first a b e) ih =
          let inside : board.page * (q - base) + i < size = byte_inside P (q - base) (managed board r) i (omega arith) s in
          get_or-append front rest 0 (board.page * (q - base) + i) (omega (arith, long))
          ∙ bytes_at_lem m (board.page * first board r) size (board.page * (q - base) + i) inside
          ∙ ap m (omega (arith, pages_sum P {p = p} (first board r) (q - base) (omega arith)))
      go (in_rest k) ih =
          let n = board.page * (q - (base + managed board r)) + i in
          let low = (number_between board (base + managed board r) rs p q k).0 in
          let sums = pages_sum P {p = q - base} (managed board r) (q - (base + managed board r)) (omega arith) in
          let e : board.page * (q - base) + i ≡ length front + n = omega (arith, long, sums) in
          rw e (get_or-append-add front rest n 0 ∙ ih k s)

  module _ (rs : List AllocationRegion) (m : Memory) (bs : List ℕ) where
    pub holds_of : Fronts rs m bs → EachPage board (Holds board bs m) 0 rs
    holds_of e p q h i s =
        let below : q < managed_pages board rs = omega (arith, (number_between board 0 rs p q h).1) in
        let z : q - 0 ≡ q = omega arith in
        sym (rw z at (byte_in m 0 rs p q i h s))
        ∙ ap (λ (xs : List ℕ). get_or xs (board.page * q + i) 0) e
        ∙ get_or-take (managed_bytes board rs) bs (board.page * q + i) 0 (byte_inside P q (managed_pages board rs) i below s)

    -- and back
    pub holds_memory : managed_bytes board rs ≤ length bs → overlap board rs ≡ false → EachPage board (Holds board bs m) 0 rs
        → Fronts rs m bs
    holds_memory fits e each = memory_front board bs m rs fits e each

  -- ---- a range

  module _
      {rs : List AllocationRegion} {a b len : ℕ} (L : Lies board rs a b len) (m : Memory) (bs : List ℕ)
      (fits : managed_bytes board rs ≤ length bs)
    where
      pub read_holds : EachPage board (Holds board bs m) 0 rs → bytes_at m a len ≡ take len (drop b bs)
      unfolding part
      read_holds each =
          run_part bs m a b len (omega (arith, L.ends)) (λ j h.
          let p = (a + j) / board.page in
          let q = (b + j) / board.page in
          let i = (a + j) % board.page in
          let x : board.page * p + i ≡ a + j = address_is P (a + j) in
          let y : board.page * q + i ≡ b + j = omega (arith, address_is P (b + j), offsets_on P a b j L.edge) in
          rw (x, y) at (each p q (L.number j h) i (offset_small P (some_byte P {x = b + j} (managed_pages board rs) (omega (arith, L.ends)))
          (a + j))))

      pub memory_read : Fronts rs m bs → bytes_at m a len ≡ take len (drop b bs)
      memory_read same = read_holds (holds_of rs m bs same)

  module _
      {rs : List AllocationRegion} {a b len : ℕ} (L : Lies board rs a b len) (m : Memory) (bs : List ℕ)
      (fits : managed_bytes board rs ≤ length bs)
    where
      pub write_holds : (xs : List ℕ) → length xs ≡ len → EachPage board (Holds board bs m) 0 rs
          → EachPage board (Holds board (with_bytes bs b xs) (written a xs m)) 0 rs
      unfolding written
      write_holds xs e each p q h i s = rw e (go (dec_le a x) (dec_lt x (a + len)))
        where
          x : ℕ
          x = board.page * p + i

          y : ℕ
          y = board.page * q + i

          ends : b + length xs ≤ length bs
          ends = omega (arith, L.ends)

          out : (a ≤ x → x < a + len → ⊥) → m x ≡ get_or (with_bytes bs b xs) y 0
          out o =
              each p q h i s
              ∙ sym (with_out bs b xs ends y (λ l u.
              let k : a + (y - b) ≡ x = lies_address board L p q h i (y - b) s (omega arith) (omega arith) in
              o (omega arith) (omega arith)))

          go : Dec (a ≤ x) → Dec (x < a + len) → cond (within a len x) (get_or xs (x - a) 0) (m x) ≡ get_or (with_bytes bs b xs) y 0
          go (yes l) (yes u) =
              let k : b + (x - a) ≡ y = lies_place board L p q h i (x - a) s (omega arith) (omega arith) in
              rw (le-leb a x l, lt-ltb x (a + len) u) (sym (rw k at (with_in bs b xs ends (x - a) (omega arith))))
          go (yes l) (no u) = rw (le-leb a x l, le-ltb x (a + len) (omega arith)) (out (λ v w. u w))
          go (no l) d = rw (lt-leb a x (omega arith)) (out (λ v w. l v))

      pub fill_holds : (v : ℕ) → EachPage board (Holds board bs m) 0 rs
          → EachPage board (Holds board (with_bytes bs b (replicate len v)) (filled a len v m)) 0 rs
      fill_holds v each =
          rw (filled_written m a len v) (write_holds (replicate len v) (length-replicate len v) each)

      -- the bytes come from another range, which may overlap this one
      pub move_holds
          : {from source : ℕ} → Lies board rs from source len → EachPage board (Holds board bs m) 0 rs
          → EachPage board (Holds board (with_bytes bs b (take len (drop source bs))) (moved a from len m)) 0 rs
      move_holds {from} {source} S each =
          rw (moved_written m a len from, ← read_holds S m bs fits each) (write_holds (bytes_at m from len) (bytes_length m from len) each)

  -- ---- the managed bytes

  module _
      {rs : List AllocationRegion} {a b len : ℕ} (L : Lies board rs a b len) (m : Memory) (bs : List ℕ)
      (fits : managed_bytes board rs ≤ length bs)
      (apart : overlap board rs ≡ false) (same : Fronts rs m bs)
    where
      pub memory_written : (xs : List ℕ) → length xs ≡ len → Rewritten rs bs (written a xs m) (with_bytes bs b xs)
      memory_written xs e =
          let ends : b + length xs ≤ length bs = omega (arith, L.ends) in
          let as_long : length (with_bytes bs b xs) ≡ length bs = with_length bs b xs ends in
          record {
            memory = holds_memory rs (written a xs m) (with_bytes bs b xs) (omega arith) apart
                (write_holds L m bs fits xs e (holds_of rs m bs same));
            as_long = as_long;
            beyond = drop_with bs b (managed_bytes board rs) xs (omega (arith, L.ends)) fits;
          }

      pub memory_filled : (v : ℕ) → Rewritten rs bs (filled a len v m) (with_bytes bs b (replicate len v))
      memory_filled v = rw (filled_written m a len v) (memory_written (replicate len v) (length-replicate len v))

      pub memory_moved : {from source : ℕ} → Lies board rs from source len
          → Rewritten rs bs (moved a from len m) (with_bytes bs b (take len (drop source bs)))
      memory_moved {from} {source} S =
          rw (moved_written m a len from, ← memory_read S m bs fits same) (memory_written (bytes_at m from len) (bytes_length m from len))
