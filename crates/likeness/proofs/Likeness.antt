-- Demand 2 over the definition's two readings: on common ground the store does to each call, and to each list of calls, what frame.rs and tracker.rs
-- do. What is equal is the whole store, with every address, size, mark, counter and list in its order, and the answer.
use Prim.Native.Nat.{ℕ, ◌+◌, ◌/◌}
use mathlib.Core.Bool.{Bool, true, not, cond}
use mathlib.Core.List.{List, [], ◌∷◌}
use mathlib.Core.Option.{Option, none, some}
use mathlib.Core.Path.{◌≡◌, refl, sym, ap, ap₂, ◌∙◌}
use lib.Dec.{ltb}
use borrow.Author.Tests.{not-true}
use Rattle.definition.proofs.Boards.{page_positive}
use Rattle.definition.proofs.Tests.{and_left, and_right}
use Rattle.definition.specs.Board.{Board, Fit}
use Rattle.definition.specs.Basics.{any, all}
use Rattle.definition.specs.Refusal.{first_met}
use Rattle.definition.specs.Store.{Store}
use Rattle.definition.specs.Contents.{frame_bytes}
use Rattle.definition.specs.Tracker.{can_be_freed}
use Rattle.definition.specs.Calls.{
  Call,
  Alloc,
  Take,
  Split,
  Free,
  Zero,
  Dirty,
  Find,
  Queue,
  Fill,
  Write,
  Read,
  Copy,
  Pcopy,
  Round,
  Lend,
  Back,
  Low,
  Stats,
  Outcome,
  done,
  sheet,
  perform,
  step,
  run,
}
use Rattle.definition.specs.Rust as Rust
use Rattle.definition.specs.Rust.{unrefused, ground_layout, is_kernel, apart, covers_if_zeroed, all_once, common_ground}
use Rattle.likeness.specs.Likeness.{Sane, ground_along}
use Rattle.likeness.proofs.Sheet.{performed, held_like, free_managed, free_held, find_like}
use Rattle.likeness.proofs.Splits.{split_plain, copy_like}
use Rattle.likeness.proofs.Grants.{alloc_like, take_like}
use Rattle.likeness.proofs.Frees.{sane_books, free_like}
use Rattle.likeness.proofs.Rounds.{round_like}

-- ---- one call

module _ (b : Board) (s : Store) where
  split_alike : (a : ℕ) → unrefused b s (Split a) ≡ true → not (is_kernel (s.allocator.frames (a / b.page))) ≡ true
      → Rust.step b s (Split a) ≡ some (step b s (Split a))
  unfolding Rust.step perform
  split_alike a h k =
      held_like b s (Split a) h _
      (ap (λ (t : Store). done t a (frame_bytes b s (a / b.page)))
      (split_plain s (a / b.page) (not-true (is_kernel (s.allocator.frames (a / b.page))) k)))

  free_alike : Sane s → (a : ℕ) → unrefused b s (Free a) ≡ true → Rust.step b s (Free a) ≡ some (step b s (Free a))
  unfolding Rust.step perform
  free_alike S a h =
      ap₂ (λ (m : Bool) (t : Option Store). cond m (Rust.freed_to b s a t) none)
      (free_managed b s a h) (free_like b s (sane_books S) (a / b.page) (free_held b s a h))
      ∙ ap {B = Option Outcome} some (sym (performed b s (Free a) h))

  copy_alike : (dst doff src soff len : ℕ) → unrefused b s (Copy dst doff src soff len) ≡ true → apart (dst + doff) (src + soff) len ≡ true
      → covers_if_zeroed b s (dst / b.page) doff (src / b.page) len ≡ true
      → Rust.step b s (Copy dst doff src soff len) ≡ some (step b s (Copy dst doff src soff len))
  unfolding Rust.step perform
  copy_alike dst doff src soff len h k v =
      let copied : Store = Rust.copy_contents_from b s (dst / b.page) doff (src / b.page) soff len in
      ap (λ (t : Bool). cond t (Rust.on_held b s (Copy dst doff src soff len) (done copied dst len)) none) k
      ∙ held_like b s (Copy dst doff src soff len) h (done copied dst len)
      (ap (λ (t : Store). done t dst len) (copy_like b s (dst / b.page) doff (src / b.page) soff len v))

  pcopy_alike : (dst doff src len : ℕ) → unrefused b s (Pcopy dst doff src len) ≡ true → apart (dst + doff) src len ≡ true
      → Rust.step b s (Pcopy dst doff src len) ≡ some (step b s (Pcopy dst doff src len))
  unfolding Rust.step
  pcopy_alike dst doff src len h k =
      ap (λ (t : Bool). cond t (Rust.on_held b s (Pcopy dst doff src len) (perform b s (Pcopy dst doff src len))) none) k
      ∙ held_like b s (Pcopy dst doff src len) h _ refl

  round_alike : Sane s → all (can_be_freed b s) s.queue ≡ true → all_once s.queue ≡ true → Rust.step b s Round ≡ some (step b s Round)
  unfolding Rust.step step perform sheet first_met any
  round_alike S h k = round_like b s (record { books = sane_books S; freeable = h; once = k })

  stats_alike : ltb 0 s.counters.total ≡ true → Rust.step b s Stats ≡ some (step b s Stats)
  unfolding Rust.step step sheet first_met any
  stats_alike h = ap (λ (t : Bool). Rust.unless_none t (perform b s Stats)) h

  lend_alike : (n : ℕ) → Rust.step b s (Lend n) ≡ some (step b s (Lend n))
  unfolding Rust.step step sheet first_met any
  lend_alike n = refl

  low_alike : Rust.step b s Low ≡ some (step b s Low)
  unfolding Rust.step step sheet first_met any
  low_alike = refl

pub likeness : (b : Board) → Fit b → (s : Store) → Sane s → (c : Call) → common_ground b s c ≡ true → Rust.step b s c ≡ some (step b s c)
unfolding Rust.step common_ground
likeness b fit s S (Alloc y) g = alloc_like b fit s S y g
likeness b fit s S (Take y) g = take_like b fit s S y (and_left (ground_layout b y) _ g) (and_right (ground_layout b y) _ g)
likeness b fit s S (Split a) g = split_alike b s a (and_left (unrefused b s (Split a)) _ g) (and_right (unrefused b s (Split a)) _ g)
likeness b fit s S (Free a) g = free_alike b s S a g
likeness b fit s S (Zero a) g = held_like b s (Zero a) g _ refl
likeness b fit s S (Dirty a) g = held_like b s (Dirty a) g _ refl
likeness b fit s S (Find a) g = find_like b (page_positive fit) s a
likeness b fit s S (Queue a) g = held_like b s (Queue a) g _ refl
likeness b fit s S (Fill a off len byte) g = held_like b s (Fill a off len byte) g _ refl
likeness b fit s S (Write a off bytes) g = held_like b s (Write a off bytes) g _ refl
likeness b fit s S (Read a off len) g = held_like b s (Read a off len) g _ refl
likeness b fit s S (Copy dst doff src soff len) g =
    let named = unrefused b s (Copy dst doff src soff len) in
    let more = and_right named _ g in
    copy_alike b s dst doff src soff len (and_left named _ g) (and_left (apart (dst + doff) (src + soff) len) _ more)
    (and_right (apart (dst + doff) (src + soff) len) _ more)
likeness b fit s S (Pcopy dst doff src len) g =
    pcopy_alike b s dst doff src len (and_left (unrefused b s (Pcopy dst doff src len)) _ g) (and_right (unrefused b s (Pcopy dst doff src len)) _ g)
likeness b fit s S Round g = round_alike b s S (and_left (all (can_be_freed b s) s.queue) _ g) (and_right (all (can_be_freed b s) s.queue) _ g)
likeness b fit s S (Lend n) g = lend_alike b s n
likeness b fit s S (Back n) g = held_like b s (Back n) g _ refl
likeness b fit s S Low g = low_alike b s
likeness b fit s S Stats g = stats_alike b s g

-- ---- a list of calls, from a store of a kind that is sane and that every call keeps

module _
    (b : Board) (fit : Fit b) (P : Store → Type 0) (sane : (s : Store) → P s → Sane s)
    (kept : (s : Store) (c : Call) → P s → P (step b s c).store)
  where
    pub likeness_run : (s : Store) → P s → (cs : List Call) → ground_along b s cs ≡ true → Rust.run b s cs ≡ some (run b s cs)
    unfolding Rust.run run ground_along
    likeness_run s p [] g = refl
    likeness_run s p (c ∷ cs) g =
        ap (Rust.followed_if (λ t. Rust.run b t cs)) (likeness b fit s (sane s p) c (and_left (common_ground b s c) _ g))
        ∙ ap (Rust.answer_before_if (step b s c).answer) (likeness_run (step b s c).store (kept s c p) cs (and_right (common_ground b s c) _ g))
