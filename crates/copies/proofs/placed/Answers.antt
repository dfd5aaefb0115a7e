-- The end of the region is that of the row that was seen.
use Rattle.copies.proofs.placed.Goals as goal

pub row_at-row-requires : goal.row_at-row-requires
row_at-row-requires c = (c.requires.0, (c.requires.1 c.in_ok-seen.seen c.in_ok-seen.ensures.ok_part).index)
