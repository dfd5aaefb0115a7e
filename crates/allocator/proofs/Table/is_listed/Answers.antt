-- `is_listed` meets its contract. The loop's invariant: some region lists a frame of the level or above exactly if one of those that are
-- left does.
use Prim.Native.Nat.{◌<◌}
use mathlib.Core.Path.{◌≡◌, sym, ◌∙◌}
use lib.ListN.{length}
use Rattle.std.proofs.Math.Logic.{∥∥₁_elim}
use Rattle.std.proofs.Props.{props}
use Rattle.definition.specs.Allocator.{PhysicalFrameAllocator, is_listed}
use Rattle.definition.specs.World.{record_at, used_rows}
use Rattle.level.specs.Level.{rank}
use Rattle.level.proofs.Ranks.{rank_below}
use Rattle.record.specs.Records.{pages_in}
use Rattle.words.specs.Words.{board_in, rows_in}
use Rattle.world.specs.Stands.{region_at}
use Rattle.world.specs.Tables.{Table}
use Rattle.allocator.proofs.Arrays.{onward_row, onward_found, onward_end, row_used, row_last, row_eighth, region_stands}
use Rattle.allocator.proofs.Listing.{lists_in, lists_same}
use Rattle.allocator.proofs.Table.is_listed.Goals as goal
use Rattle.allocator.proofs.Table.is_listed.Goals.{After-lists_some, Else-row-eq0}

pub returns-then-row-eq0 : goal.returns-then-row-eq0
unfolding is_listed
returns-then-row-eq0 c a T =
    sym
    (onward_end c.loop-i.invariant T
    (row_last T.sane c.loop-i.i c.loop-i.invariant.used (rw c.row_at-row.ensures at c.if-row-eq0.true)))

-- the row of a turn is in use
used : (c : Else-row-eq0) → c.loop-i.i < length (used_rows (rows_in c.args.self.now.words.now))
used c =
    ∥∥₁_elim c.args.self.now.sane (hlevel props)
    (λ S. row_used S c.loop-i.i c.loop-i.invariant.used c.loop-i-test.true (rw c.row_at-row.ensures at c.if-row-eq0.false))

-- what the row of a turn lists, its region does
lists
    : (c : After-lists_some) → (a : PhysicalFrameAllocator)
    → let t = c.args.self.now in
    Table (board_in t.words.now) (record_at t.records.now) (pages_in t.records.now) (rows_in t.words.now) a
    → lists_in (rank c.args.level) (region_at a.regions c.loop-i.i) ≡ c.lists_some.result
lists c a T =
    rw (c.lists_some.ensures, c.row_at-row.ensures)
    (lists_same (region_stands T c.loop-i.i (used (goal.at.After-lists_some c).Else-row-eq0)) (rank c.args.level) (rank_below c.args.level))

pub returns-then-lists_some : goal.returns-then-lists_some
unfolding is_listed
returns-then-lists_some c a T =
    let e = goal.at.returns-then-lists_some c in
    sym (onward_found c.loop-i.invariant T (used e.Else-row-eq0) (lists e.After-lists_some a T ∙ c.if-lists_some.true))

pub loop-i-preserved : goal.loop-i-preserved
loop-i-preserved c =
    let e = goal.at.loop-i-preserved c in
    onward_row c.loop-i.invariant (used e.Else-row-eq0) (λ a T. lists e.After-lists_some a T ∙ c.if-lists_some.false)

pub returns : goal.returns
unfolding is_listed
returns c a T =
    sym (onward_end c.loop-i.invariant T (row_eighth T.sane c.loop-i.i c.loop-i-test.false))
