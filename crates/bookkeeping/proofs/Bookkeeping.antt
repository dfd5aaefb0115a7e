-- Demand 3 over the definition, `bookkeeping`: from the store of an accepted boot the claim holds of every list of calls. The proof takes the invariant that
-- every call keeps, and reads the claim's sentences off it.
use Prim.Native.Nat.{ℕ, ◌+◌, ◌*◌, ◌/◌, ◌≤◌}
use native.Mathlib.Omega.{arith}
use mathlib.Core.Bool.{Bool, true, false}
use mathlib.Core.List.{List, [], ◌∷◌, ◌++◌}
use mathlib.Core.Option.{none}
use mathlib.Core.Path.{◌≡◌, refl, ap, ◌∙◌}
use Rattle.definition.specs.declared.MemoryRegion.{MemoryRegion}
use Rattle.definition.specs.Board.{Board, Fit}
use Rattle.definition.specs.Basics.{sum, bit}
use Rattle.definition.specs.Frame.{Frames}
use Rattle.definition.specs.Allocator.{AllocationRegion, is_managed}
use Rattle.definition.specs.Boot.{boot_sheet}
use Rattle.definition.specs.Refusal.{first_met}
use Rattle.definition.specs.Store.{Memory, Store}
use Rattle.definition.specs.Calls.{Call}
use Rattle.definition.specs.Book.{Book}
use Rattle.bookkeeping.specs.Blocks.{Block, All, on_list, region_blocks, listed, holding, pages_of, covers, home}
use Rattle.bookkeeping.specs.Blocks.All.{all_none, all_more}
use Rattle.bookkeeping.specs.Claim.{State, next, after_calls, booted, bytes_of, Apart, Disjoint, Aligned, Zero, Bookkeeping, Along, Claim}
use Rattle.bookkeeping.specs.Claim.Along.{along_none, along_more}
use Rattle.bookkeeping.specs.Claim.Disjoint.{disjoint_none, disjoint_more}
use Rattle.bookkeeping.proofs.Blocks.{sum_append, wrong, Fine, fine_same}
use Rattle.bookkeeping.proofs.Frames.{if_held, if_marked, bit_inj, Head, head_of, Clean}
use Rattle.bookkeeping.proofs.Invariant.{Blank, room_of, Agree, managed_home, unmanaged_home, Holds}
use Rattle.bookkeeping.proofs.Accepts.{accepted}
use Rattle.bookkeeping.proofs.Steps.{always}
use Rattle.bookkeeping.proofs.Regions.{regions_stay}
use Rattle.bookkeeping.proofs.Boots.{boot_agree}
use Rattle.bookkeeping.proofs.Answers.{answered}

-- ---- the weights' sums as facts of each block

all_aligned : (room : ℕ → ℕ → ℕ) (xs : List Block) → sum (wrong room) xs ≡ 0 → All Aligned xs
unfolding sum
all_aligned room [] h = all_none
all_aligned room (x ∷ xs) h = all_more {x = x} (omega arith, omega arith) (all_aligned room xs (omega arith))

apart_all : (x : Block) (xs : List Block) → ((q : ℕ) → covers q x + sum (covers q) xs ≤ 1) → All (Apart x) xs
unfolding sum
apart_all x [] h = all_none
apart_all x (y ∷ ys) h = all_more {x = y} (λ q. omega (arith, h q)) (apart_all x ys (λ q. omega (arith, h q)))

all_disjoint : (xs : List Block) → ((q : ℕ) → sum (covers q) xs ≤ 1) → Disjoint xs
unfolding sum
all_disjoint [] h = disjoint_none
all_disjoint (x ∷ xs) h = disjoint_more (apart_all x xs h) (all_disjoint xs (λ q. omega (arith, h q)))

times : (b : Board) (xs : List Block) → sum (bytes_of b) xs ≡ b.page * sum pages_of xs
unfolding sum
times b [] = omega arith
times b (x ∷ xs) = omega (arith, times b xs)

managed_bit : (b : Board) (rs : List AllocationRegion) (q : ℕ) → home b rs q ≤ 1 → home b rs q ≡ bit (is_managed b rs q)
managed_bit b rs q h = go (is_managed b rs q) refl
  where
    go : (t : Bool) → is_managed b rs q ≡ t → home b rs q ≡ bit t
    go true e = omega (arith, managed_home b rs q e)
    go false e = unmanaged_home b rs q e

-- what the lists hold is not held, and is zero if it is marked so
on_listed : (l : ℕ) (z : Bool) (ps : List ℕ) → sum if_held (on_list l z ps) ≡ 0
unfolding sum on_list
on_listed l z [] = refl
on_listed l z (p ∷ ps) = omega (arith, on_listed l z ps)

all_listed : (rs : List AllocationRegion) → sum if_held (listed rs) ≡ 0
unfolding sum listed region_blocks
all_listed [] = refl
all_listed (r ∷ rs) = simp (sum_append, on_listed) (omega (arith, all_listed rs))

zero_lists
    : (b : Board) (mem : Memory) {fit : ℕ → ℕ} {room : ℕ → ℕ → ℕ} {pages : ℕ} {fs : Frames} (xs rest : List Block) → sum if_held xs ≡ 0
    → Fine fit room pages fs (xs ++ rest) → Clean (Blank b mem) fs → All (λ x. x.mark ≡ true → Zero b mem x) xs
unfolding sum
zero_lists b mem [] rest n h c = all_none
zero_lists b mem {fs = fs} (x ∷ xs) rest n h c =
    all_more {x = x} (go (head_of h)) (zero_lists b mem xs (x ∷ rest) (omega arith) (fine_same (λ w. simp sum_append (omega arith)) h) c)
  where
    go : Head fs x → x.mark ≡ true → Zero b mem x
    go i k a o =
        let f = i.frame in
        let e : f.allocated ≡ false = bit_inj f.allocated false (omega (arith, i.alike if_held)) in
        let z : f.zeroed ≡ x.mark = bit_inj f.zeroed x.mark (rw e at (i.alike if_marked)) in
        c x.page f i.here (z ∙ k) (a / b.page) (rw (i.alike (λ y. y.level)) o) a refl

-- ---- the claim from the invariant

claimed : (b : Board) (s : Store) (k : Book) → Agree b k.regions s k → Bookkeeping b s k
claimed b s k h =
    let xs = listed s.allocator.regions ++ holding k.held in
    let f = h.sound.fine in
    record {
      disjoint = all_disjoint xs (λ q. omega (arith, f.tiles q, f.once q));
      aligned = all_aligned (room_of b k.regions) xs f.right;
      covered = λ q. f.tiles q ∙ managed_bit b k.regions q (f.once q);
      adds = times b xs ∙ ap (λ n. b.page * n) f.adds;
      idle = h.counted.idle;
      kernel_pages = h.counted.kernel;
      page_data = h.counted.page;
      zeroed = zero_lists b s.memory (listed s.allocator.regions) (holding k.held) (all_listed s.allocator.regions) f h.sound.clean;
      queue = h.queue;
    }

-- each call of a list, on whatever stores
always_answered : (b : Board) (x : State) (calls : List Call) → Along b x calls
always_answered b x [] = along_none
always_answered b x (c ∷ cs) = along_more (answered b x.store c) (always_answered b (next b x c) cs)

-- ---- from an accepted boot

module _ {b : Board} (fit : Fit b) where
  -- the invariant after every list of calls
  pub agrees
      : (map : List MemoryRegion) (records memory : ℕ) → first_met (boot_sheet b map records memory) ≡ none → (bytes : Memory) (room : ℕ) (calls : List Call)
      → let x = after_calls b map bytes room calls in Holds b x.store x.book
  agrees map records memory e bytes room calls =
      let a = (accepted fit map records memory e).placed in
      always fit (booted b map bytes room) calls (record { agree = boot_agree b map bytes room a.apart; placed = a })

  -- Demand 3, of any board that is fit: a map that boot accepts with loans of some lengths, any bytes in the memory, any room in the queue, every list of calls.
  pub bookkeeping
      : (map : List MemoryRegion) (records memory : ℕ) → first_met (boot_sheet b map records memory) ≡ none → (bytes : Memory) (room : ℕ) (calls : List Call)
      → Claim b map bytes room calls
  bookkeeping map records memory e bytes room calls =
      let x = after_calls b map bytes room calls in
      record {
        regions = regions_stay b map bytes room calls;
        afterwards = claimed b x.store x.book (agrees map records memory e bytes room calls).agree;
        along = always_answered b (booted b map bytes room) calls;
      }
