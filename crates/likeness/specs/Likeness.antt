-- What likeness asks of a store beside common ground, and what it is for a list of calls to stay on common ground. Take from it that
-- the four facts of `Sane` are all that the two readings lean on: the counters and the lists tell the truth about the frames, as in demand 3.
use Rattle.std.specs.Prelude.{ℕ, ◌+◌, ◌^◌, ◌≤◌, ◌<◌, Bool, true, false, not, cond, ◌&&◌, List, [], ◌∷◌, ◌≡◌, eqb}
use Rattle.std.proofs.Math.Option.{Option, none, some}
use Rattle.definition.specs.Board.{Board}
use Rattle.definition.specs.Basics.{all, sum, everywhere}
use Rattle.definition.specs.Frame.{Frame, size, levels, slot}
use Rattle.definition.specs.Allocator.{is_listed}
use Rattle.definition.specs.Store.{Store}
use Rattle.definition.specs.Calls.{Call, step}
use Rattle.definition.specs.Rust.{old_count, all_once, common_ground}

-- ---- the facts

-- where a frame of a level or above is listed, as many pages are idle: so the Rust's test of idle pages stops no grant that could be made
abbrev pub IdleCovers : Store → Type 0
IdleCovers s = (l : ℕ) → is_listed everywhere l s.allocator.regions ≡ true → size l ≤ s.counters.idle

abbrev pub has_level : ℕ → Option Frame → Bool
has_level l none = false
has_level l (some f) = eqb f.level l

-- a listed frame has the level of its list: so what is granted as a page is a page, which no split takes apart
abbrev pub ListsLevelled : Store → Type 0
ListsLevelled s =
    (l : ℕ) (zeroed : Bool) → l < levels
    → all (λ r. all (λ p. has_level l (s.allocator.frames p)) (r.free (slot l zeroed))) s.allocator.regions ≡ true

-- the pages of a frame that is held with KERNEL, or without; nothing for any other
abbrev pub pages_held : Bool → Option Frame → ℕ
pages_held kernel none = 0
pages_held kernel (some f) = cond (f.allocated && cond kernel f.kernel (not f.kernel)) (size f.level) 0

-- kernel_used has the pages of whatever frames are held with KERNEL, page_data of those without: so no free takes a count below 0
abbrev pub HeldBooked : Store → Type 0
HeldBooked s =
    (kernel : Bool) (ps : List ℕ) → all_once ps ≡ true → sum (λ p. pages_held kernel (s.allocator.frames p)) ps ≤ old_count kernel s.counters

-- the pages counted fit the Rust's usize: so no free takes a count past it
abbrev pub CountsFit : Store → Type 0
CountsFit s = s.counters.idle + (s.counters.kernel_used + s.counters.page_data) < 2 ^ 64

pub record Sane (s : Store) : Type 0 where
  pub idle : IdleCovers s
  pub listed : ListsLevelled s
  pub booked : HeldBooked s
  pub fits : CountsFit s

-- ---- the calls

-- each call of the list is on common ground in the store as the last left it
unfoldable pub ground_along : Board → Store → List Call → Bool
ground_along b s [] = true
ground_along b s (c ∷ cs) = common_ground b s c && ground_along b (step b s c).store cs
