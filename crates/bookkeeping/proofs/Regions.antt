-- No call changes the regions that the book has, whatever it is answered. So after a list of calls they are those that the map keeps.
use Prim.Native.Nat.{ℕ, zero, suc, ◌/◌, ◌%◌}
use mathlib.Core.Bool.{Bool, true, false, cond}
use mathlib.Core.List.{List, [], ◌∷◌}
use mathlib.Core.Option.{Option, none, some}
use mathlib.Core.Path.{◌≡◌, refl, ◌∙◌}
use lib.Dec.{eqb}
use Rattle.definition.specs.declared.MemoryRegion.{MemoryRegion}
use Rattle.definition.specs.Board.{Board}
use Rattle.definition.specs.Basics.{Popped, pop_back}
use Rattle.definition.specs.Allocator.{total}
use Rattle.definition.specs.Boot.{kept_regions}
use Rattle.definition.specs.Store.{Memory}
use Rattle.definition.specs.Tracker.{should_reclaim}
use Rattle.definition.specs.Calls.{
  Call,
  Alloc,
  Take,
  Split,
  Free,
  Zero,
  Dirty,
  Find,
  Queue,
  Fill,
  Write,
  Read,
  Copy,
  Pcopy,
  Round,
  Lend,
  Back,
  Low,
  Stats,
  Answer,
  Refused,
  Done,
  Text,
  Bytes,
  step,
}
use Rattle.definition.specs.Book.{Held, Book, with_held, with_waiting, replace, replace_at, broken, struck, counters_of, free_next, free_up_to, round_of, note, note_answer}
use Rattle.bookkeeping.specs.Claim.{State, next, after, booted, after_calls}

module _ (b : Board) where
  replace_regions : (g : Held → List Held) (a : ℕ) (k : Book) → (replace_at b g a k).regions ≡ k.regions
  replace_regions g a k = go (eqb (a % b.page) 0)
    where
      go : (t : Bool) → (cond t (with_held k (replace g (a / b.page) k.held)) k).regions ≡ k.regions
      go true = refl
      go false = refl

  sweep_regions : (n : ℕ) (k : Book) → (free_up_to b n k).regions ≡ k.regions
  unfolding free_up_to
  sweep_regions zero k = refl
  sweep_regions (suc n) k = go (λ l. sweep_regions n l) (pop_back k.queue)
    where
      go : ((l : Book) → (free_up_to b n l).regions ≡ l.regions) → (o : Option Popped) → (free_next b (free_up_to b n) k o).regions ≡ k.regions
      go more none = refl
      go more (some e) = more _ ∙ replace_regions struck e.last (with_waiting k e.rest)

  round_regions : (k : Book) → (round_of b k).regions ≡ k.regions
  round_regions k = go (should_reclaim b (counters_of (total k.regions) k.held))
    where
      go : (t : Bool) → (cond t (free_up_to b b.per_round k) k).regions ≡ k.regions
      go true = sweep_regions b.per_round k
      go false = refl

  note_regions : (k : Book) (c : Call) (a : ℕ) → (note b k c a).regions ≡ k.regions
  note_regions k (Alloc y) a = refl
  note_regions k (Take y) a = refl
  note_regions k (Split x) a = replace_regions broken x k
  note_regions k (Free x) a = replace_regions struck x k
  note_regions k (Zero x) a = refl
  note_regions k (Dirty x) a = refl
  note_regions k (Find x) a = refl
  note_regions k (Queue x) a = refl
  note_regions k (Fill x off len byte) a = refl
  note_regions k (Write x off bytes) a = refl
  note_regions k (Read x off len) a = refl
  note_regions k (Copy dst doff src soff len) a = refl
  note_regions k (Pcopy dst doff src len) a = refl
  note_regions k Round a = round_regions k
  note_regions k (Lend n) a = refl
  note_regions k (Back n) a = refl
  note_regions k Low a = refl
  note_regions k Stats a = refl

  pub answer_regions : (k : Book) (c : Call) (y : Answer) → (note_answer b k c y).regions ≡ k.regions
  answer_regions k c (Refused r) = refl
  answer_regions k c (Done a n) = note_regions k c a
  answer_regions k c (Text t) = refl
  answer_regions k c (Bytes t) = refl

  pub next_regions : (x : State) (c : Call) → (next b x c).book.regions ≡ x.book.regions
  unfolding next
  next_regions x c = answer_regions x.book c (step b x.store c).answer

  after_regions : (x : State) (calls : List Call) → (after b x calls).book.regions ≡ x.book.regions
  unfolding after
  after_regions x [] = refl
  after_regions x (c ∷ cs) = after_regions (next b x c) cs ∙ next_regions x c

  -- the book's regions after a list of calls are those that the map keeps
  pub regions_stay : (map : List MemoryRegion) (bytes : Memory) (room : ℕ) (calls : List Call) → (after_calls b map bytes room calls).book.regions ≡ kept_regions b map
  regions_stay map bytes room calls = after_regions (booted b map bytes room) calls
