-- How far one call moves what a later call asks bounds of: the three counts of pages (`Moved`), and the queue and the pass (`Within`). A caller that has tested a
-- store once takes from here that it may make a list of calls with no test between them: n calls move each count by at most n times `reach`, and what is within
-- its bounds stays so. The one premise is that frames keep to the levels: of a managed page for one call, of every page for a list of them.
use Rattle.std.specs.Prelude.{ℕ, ◌+◌, ◌-◌, ◌*◌, ◌≤◌, ◌<◌, max, Bool, true, ◌≡◌, length}
use Rattle.std.proofs.Math.Option.{Option, none, some}
use Rattle.definition.specs.declared.Counters.{Counters}
use Rattle.definition.specs.Board.{Board}
use Rattle.definition.specs.Basics.{everywhere}
use Rattle.definition.specs.Frame.{Frame, Frames, size, levels}
use Rattle.definition.specs.Allocator.{is_managed}
use Rattle.definition.specs.Store.{Store}

-- ---- frames of the levels

abbrev pub OfLevel : Option Frame → Type 0
OfLevel none = Unit
OfLevel (some f) = f.level < levels

-- at each page that passes the test
abbrev pub LeveledAt : (ℕ → Bool) → Frames → Type 0
LeveledAt among fs = (p : ℕ) → among p ≡ true → OfLevel (fs p)

-- at each page that a region manages: what a sane table gives of the store that it stands for
abbrev pub ManagedLeveled : Board → Store → Type 0
ManagedLeveled b s = LeveledAt (is_managed b s.allocator.regions) s.allocator.frames

-- at each page there is, which every call keeps: a grant may split any frame that is listed
abbrev pub Leveled : Store → Type 0
Leveled s = LeveledAt everywhere s.allocator.frames

-- ---- the counts of pages

-- the pages of the largest frame
abbrev pub largest : ℕ
largest = size (levels - 1)

-- the pages that one call may grant or free: those of a frame, or of all that a round frees
abbrev pub reach : Board → ℕ
reach b = largest * max 1 b.per_round

-- the counters c became d, with each count of pages at most n more
pub record Moved (n : ℕ) (c d : Counters) : Type 0 where
  pub idle : d.idle ≤ c.idle + n
  pub kernel : d.kernel_used ≤ c.kernel_used + n
  pub page : d.page_data ≤ c.page_data + n

-- each count of pages is less than n
pub record Under (n : ℕ) (c : Counters) : Type 0 where
  pub idle : c.idle < n
  pub kernel : c.kernel_used < n
  pub page : c.page_data < n

-- ---- the queue and the pass

-- the queue has its place, and the pass has not gone past its end
pub record Within (b : Board) (s : Store) : Type 0 where
  pub room : length s.queue ≤ s.kept.room
  pub rounds : s.pass.rounds ≤ b.max_rounds + 1
  pub freed : s.pass.freed ≤ b.per_round * s.pass.rounds
