-- The frame that was looked at and the place that was seen: of their refusals the one that is tried first, or what `move_into` leaves.
use Prim.Native.Nat.{◌+◌, ◌*◌, ◌%◌, ◌≤◌}
use lib.ListN.{length}
use mathlib.Core.Path.{◌≡◌, sym, ◌∙◌}
use native.Mathlib.Omega.{arith}
use Rattle.std.specs.Prelude.{Ok}
use Rattle.std.proofs.lemmas.Result.{err_from_is_err_and}
use Rattle.words.specs.Words.{board_in, rows_in}
use Rattle.exam.specs.Making.{world}
use Rattle.exam.specs.Promise.{both_held}
use Rattle.exam.proofs.Making.{whole_table}
use Rattle.copies.specs.Copies.{place_seen}
use Rattle.copies.proofs.Copying.{both_found, spans_of}
use Rattle.copies.proofs.Placing.{pcopy_made, pcopy_refused, seen_ends, seen_placed}
use Rattle.copies.proofs.pcopy.Goals as goal
use Rattle.copies.proofs.pcopy.Goals.{After-board_in-page}

-- both were found
both
    : (c : After-board_in-page) → let a = c.args in let ws = a.lent.now.words.now in
    both_held c.look-to.result (place_seen (board_in ws) (rows_in ws) c.see.result a.source.0 a.len) ≡ Ok (c.in_ok-to.to, c.in_ok-to.place)
both c = sym (rw c.placed-place.ensures at c.both.ensures) ∙ c.in_ok-to.was

found
    : (c : After-board_in-page) → let a = c.args in let ws = a.lent.now.words.now in
    (c.look-to.result ≡ Ok c.in_ok-to.to)
    × (place_seen (board_in ws) (rows_in ws) c.see.result a.source.0 a.len ≡ Ok c.in_ok-to.place)
found c =
    let a = c.args in
    let ws = a.lent.now.words.now in
    both_found c.look-to.result (place_seen (board_in ws) (rows_in ws) c.see.result a.source.0 a.len) (both c)

-- the place lies in the loan
ends
    : (c : After-board_in-page) → let a = c.args in let P = (board_in a.lent.now.words.now).page in
    P * c.in_ok-to.place.spot.page + a.source.0 % P + a.len ≤ length a.lent.now.memory.now
ends c = seen_ends c.args.lent.now c.args.source.0 _ c.see.ensures c.args.len (found c).1

pub placed-place-requires : goal.placed-place-requires
placed-place-requires c = (c.args.lent.now.table.0, seen_placed c.args.lent.now c.args.source.0 _ c.see.ensures)

pub returns-in_err-to-clause-writes : goal.returns-in_err-to-clause-writes
returns-in_err-to-clause-writes c k q s H =
    let a = c.args in
    let p = err_from_is_err_and c.from_residual.result c.from_residual.ensures.1 in
    let x = c.in_err-to in
    rw (p.1, p.2)
    (pcopy_refused H a.source.0 a.len _ (c.see.ensures s.allocator (whole_table H)) c.look-to.ensures x.field-0.0
    (sym (rw c.placed-place.ensures at c.both.ensures) ∙ x.was))

pub place-from-requires : goal.place-from-requires
place-from-requires c =
    rw (c.board_in-page.ensures.0, c.raw.ensures)
    (omega (arith, ends (goal.at.place-from-requires c).After-board_in-page))

pub move_into-requires : goal.move_into-requires
move_into-requires c =
    let e = (goal.at.move_into-requires c).After-board_in-page in
    let at = rw (c.board_in-page.ensures.0, c.raw.ensures) at c.place-from.ensures in
    record { spans_in = spans_of c.args.lent.now (rw (found e).0 at c.look-to.ensures); from_in = omega (arith, ends e, at) }

pub returns-clause-writes : goal.returns-clause-writes
returns-clause-writes c k q s H =
    let a = c.args in
    let y = c.move_into in
    rw c.raw-2.ensures
    (pcopy_made H a.source.0 a.len _ (c.see.ensures s.allocator (whole_table H)) c.look-to.ensures
    (both (goal.at.returns-clause-writes c).After-board_in-page)
    (world k a.lent.now.words.now y.new.lent.records.now y.new.lent.memory.now q)
    (λ e. y.ensures.moves k q s H a.source.0 (rw (c.place-from.ensures, c.raw.ensures, c.board_in-page.ensures.0) e)))
