-- `do_alloc` meets its contract: a frame of the first pass, or else what the second pass finds.
use Prim.Native.Nat.{ℕ}
use mathlib.Core.Bool.{false}
use mathlib.Core.Path.{◌≡◌, sym, subst}
use native.Mathlib.Omega.{arith}
use Rattle.definition.specs.World.{record_at}
use Rattle.region.proofs.Laws.{none_of, some_of}
use Rattle.level.specs.Level.{rank}
use Rattle.record.specs.Records.{pages_in}
use Rattle.words.specs.Words.{board_in, rows_in}
use Rattle.words.proofs.Words.{board_beside, rows_beside_then}
use Rattle.world.specs.Tables.{Sane}
use Rattle.allocator.specs.Spots.{Picked, PicksBy, pass_by}
use Rattle.allocator.proofs.TwoPasses.{picks_first, picks_second, second_asks}
use Rattle.allocator.proofs.do_alloc.Goals as goal

pub returns-then-is_some : goal.returns-then-is_some
returns-then-is_some c =
    let a = c.args in record {
      picks_in = picks_first (rank a.level) a.needs_zero c.pass-picked.ensures.picks_in (some_of _ (sym c.if-is_some.ensures)).1;
      rows_beside = c.pass-picked.ensures.rows_beside;
    }

pub pass-requires : goal.pass-requires
pass-requires c =
    let a = c.args in
    let d = c.pass-picked in
    let e : pages_in d.new.records ≡ pages_in a.records.now = omega (arith, d.auto.records) in
    let S = subst (λ (n : ℕ). Sane (board_in a.words.now) (record_at a.records.now) n (rows_in a.words.now)) (sym e) c.requires.1 in
    rw (board_beside d.ensures.rows_beside.beside)
    (omega (arith, c.requires.0, d.auto.words), second_asks (rank a.level) a.needs_zero d.ensures.picks_in S)

pub returns : goal.returns
returns c =
    let a = c.args in
    let d = c.pass-picked in
    let u = c.pass in
    let e : pages_in d.new.records ≡ pages_in u.new.records = omega (arith, d.auto.records, u.auto.records) in
    let left : Picked = record { rows = rows_in d.new.words; spot = d.result } in
    let P =
    subst
    (λ (n : ℕ).
    PicksBy (board_in a.words.now) (pass_by (rank a.level) false a.needs_zero) (record_at a.records.now) (rows_in a.words.now)
    (record_at d.new.records) n left)
    e
    d.ensures.picks_in
    in
    let Q = rw (board_beside d.ensures.rows_beside.beside) at u.ensures.picks_in in record {
      picks_in = picks_second (rank a.level) a.needs_zero P (none_of _ (sym c.if-is_some.ensures)) Q;
      rows_beside = rows_beside_then d.ensures.rows_beside u.ensures.rows_beside;
    }
