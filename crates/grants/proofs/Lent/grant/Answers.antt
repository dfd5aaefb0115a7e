-- The search leaves a table; where it found a frame, that is held in it, and handing it over makes the grant.
use native.Mathlib.Omega.{arith}
use Rattle.std.proofs.Common.{rules}
use Rattle.level.specs.Level.{rank}
use Rattle.words.proofs.Words.{board_beside}
use Rattle.grants.proofs.Giving.{
  finds_some,
  gives_none,
  gives_some,
  held_some,
  near,
  picked_held,
  picked_lent,
  picked_sane,
  picked_spot,
}
use Rattle.grants.proofs.Lent.grant.Goals as goal

pub invariant_of-self : goal.invariant_of-self
invariant_of-self c =
    let l = c.args.self.now in
    let y = c.do_alloc in
    let K = picked_lent l.words.now l.records.now y.new.words y.new.records l.memory.now y.ensures.picks_in y.ensures.rows_beside.beside
    y.auto.words y.auto.records l.table l.room in
    record { table = K.0; room = K.1 }

pub returns-in_err-spot-clause-gives_by : goal.returns-in_err-spot-clause-gives_by
returns-in_err-spot-clause-gives_by c =
    let l = c.args.self.now in
    let y = c.do_alloc in
    let P = rw y.auto.records at y.ensures.picks_in in
    rw (c.from_residual.ensures, y.auto.records)
    (gives_none l.counters.now l.words.now y.new.words (rank c.args.level) c.args.flags P l.memory.now c.in_err-spot.was)

pub address_of-address-requires : goal.address_of-address-requires
address_of-address-requires c =
    let l = c.args.self.now in
    let y = c.do_alloc in
    let P = rw y.auto.records at y.ensures.picks_in in
    rw (board_beside y.ensures.rows_beside.beside)
    (omega (arith, y.auto.words, l.table.0), near (picked_spot P l.table.1 c.in_ok-spot.was) (picked_sane P l.table.1))

pub invariant_of-self-2 : goal.invariant_of-self-2
invariant_of-self-2 c =
    let l = c.args.self.now in
    let y = c.do_alloc in
    let K = picked_lent l.words.now l.records.now y.new.words y.new.records l.memory.now y.ensures.picks_in y.ensures.rows_beside.beside
    y.auto.words y.auto.records l.table l.room in
    record { table = K.0; room = K.1 }

pub hand_over-requires-clause-held_in : goal.hand_over-requires-clause-held_in
hand_over-requires-clause-held_in c =
    let S = c.args.self.now.table.1 in
    let y = c.do_alloc in
    let P = rw y.auto.records at y.ensures.picks_in in
    let found = c.in_ok-spot.was in
    rw (board_beside y.ensures.rows_beside.beside) (picked_spot P S found, picked_held P S found)

pub returns : goal.returns
returns c =
    let l = c.args.self.now in
    let flags = c.args.flags in
    let level = rank c.args.level in
    let y = c.do_alloc in
    let x = c.address_of-address in
    let z = c.hand_over in
    let P = rw y.auto.records at y.ensures.picks_in in
    let found = c.in_ok-spot.was in
    let B = y.ensures.rows_beside in
    let same = board_beside B.beside in
    let T = rw (same, z.ensures.same.as_long, z.ensures.words, y.auto.records) at z.ensures.turns_in in
    record {
      same = search rules;
      finds = rw z.ensures.words
          (finds_some l.counters.now l.words.now y.new.words level flags P found z.ensures.value T x.result B (rw same at x.ensures));
      held = rw (z.ensures.words, same)
          (held_some l.counters.now l.words.now y.new.words level flags P found z.ensures.value T x.result l.table.1);
      gives_by = rw (z.ensures.words, z.ensures.same.as_long, y.auto.records)
          (gives_some l.counters.now l.words.now y.new.words level flags P found z.ensures.value T x.result l.memory.now
          z.new.self.memory.now (rw same at z.ensures.memory_after));
      beside = rw z.ensures.words B.beside;
    }
