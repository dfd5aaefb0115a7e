-- `boot` meets its contract. A refused boot writes nothing; an accepted one has rows that the sheet accepts, which `lay_out` lays out and
-- `put_kept` writes, and the counters of their pages.
use mathlib.Core.Path.{◌≡◌, refl, sym}
use native.Mathlib.Omega.{arith}
use borrow.Author.Rules.{rules}
use lib.ListN.{length, take}
use Rattle.std.proofs.lemmas.Result.{err_from_is_err_and}
use Rattle.definition.specs.World.{used_rows}
use Rattle.record.specs.Records.{pages_in}
use Rattle.audit.proofs.Used.{used_front}
use Rattle.exam.specs.Promise.{state_with, world_of}
use Rattle.boot.specs.Booting.{Mapped, Ready, eight}
use Rattle.boot.proofs.Refusing.{accepted_admitted, accepted_kept, accepted_ready, accepted_sheet, given_kept, given_near}
use Rattle.boot.proofs.Leaving.{boots_done, boots_refused}
use Rattle.boot.proofs.Writing.{boots_written, over_done, over_refused, written_laid, written_many, written_narrow, written_rows}
use Rattle.boot.proofs.boot.Goals as goal
use Rattle.boot.proofs.boot.Goals.{In_ok-rows, Start}

pub returns-in_err-rows : goal.returns-in_err-rows
returns-in_err-rows c =
    let a = c.args in
    let w = world_of (state_with a.counters.now a.words.now) a.records.now a.memory.now a.queue.now in
    let p = err_from_is_err_and c.from_residual.result c.from_residual.ensures.1 in
    let r = c.in_err-rows.field-0.0 in
    rw (p.1, p.2) record {
      boots_all = λ ms e f. boots_refused ms w r (sym (c.in_err-rows.ensures.refusal ms (record { long = e; front = f })));
      boots_over = over_refused a.words.now r;
    }

-- the array has eight
long : (c : Start) → length c.args.map.now.map ≡ 8
long c = omega arith

-- the rows that are kept
ready : (c : In_ok-rows) → let k = c.in_ok-rows.field-0 in
    Ready c.args.board (take k.used k.rows) (pages_in c.args.records.now)
ready c =
    let a = c.args in
    accepted_ready c.requires.fit _ _ _ _ (long (goal.at.In_ok-rows c).Start) c.in_ok-rows.ensures c.in_ok-rows.field-0 refl

in_use : (c : In_ok-rows) → let k = c.in_ok-rows.field-0 in
    take k.used k.rows ≡ used_rows k.rows
in_use c =
    let a = c.args in
    let k = c.in_ok-rows.field-0 in
    let R = accepted_kept c.requires.fit _ _ _ _ (long (goal.at.In_ok-rows c).Start) c.in_ok-rows.ensures k refl in
    rw R.many (used_front k.rows)

pub total_pages-pages-requires-clause-booted : goal.total_pages-pages-requires-clause-booted
total_pages-pages-requires-clause-booted c = (ready (goal.at.total_pages-pages-requires-clause-booted c).In_ok-rows).booted

pub managed_pages-managed-requires-clause-booted : goal.managed_pages-managed-requires-clause-booted
managed_pages-managed-requires-clause-booted c = (ready (goal.at.managed_pages-managed-requires-clause-booted c).In_ok-rows).booted

pub managed_pages-managed-requires-clause-few : goal.managed_pages-managed-requires-clause-few
managed_pages-managed-requires-clause-few c = (ready (goal.at.managed_pages-managed-requires-clause-few c).In_ok-rows).most

pub lay_out-requires-clause-ready : goal.lay_out-requires-clause-ready
lay_out-requires-clause-ready c = ready (goal.at.lay_out-requires-clause-ready c).In_ok-rows

pub returns-clause-boots_all : goal.returns-clause-boots_all
returns-clause-boots_all c ms e f =
    let a = c.args in
    let E = c.in_ok-rows.ensures in
    let k = c.in_ok-rows.field-0 in
    let K = E.kept k refl in
    let l = long (goal.at.returns-clause-boots_all c).Start in
    let used = in_use (goal.at.returns-clause-boots_all c).In_ok-rows in
    let xs = c.lay_out.new.rows in
    let Y = c.lay_out.ensures in
    let Y8 = written_laid c.requires.fit _ _ _ _ l E k refl xs Y in
    let M : Mapped a.map.now.map a.map.now.count ms = record { long = e; front = f } in
    rw (c.started.ensures, c.put_kept.ensures, written_rows c.requires.fit _ _ _ _ l E k refl xs Y)
    (boots_written a.words.now (eight xs) c.requires.long (written_narrow c.requires.fit _ _ _ _ l E k refl xs Y) _
    (written_many c.requires.fit _ _ _ _ l E k refl xs Y) Y8.unused c.total_pages-pages.result c.lay_out.new.records
    a.memory.now a.queue.now
    (boots_done (world_of (state_with a.counters.now a.words.now) a.records.now a.memory.now a.queue.now) k.rows (eight xs)
    c.lay_out.new.records
    c.total_pages-pages.result
    (accepted_admitted c.requires.fit _ _ _ _ l E k refl)
    Y8
    c.lay_out.auto.records
    (λ i. search rules)
    (λ i. omega (arith, c.type_inv.records i))
    (rw used at c.total_pages-pages.ensures)
    c.requires.fit
    ms
    (given_near M K.few K.near)
    (given_kept M K.few k K.keeps)
    c.managed_pages-managed.result
    (rw used at c.managed_pages-managed.ensures.0)
    (accepted_sheet c.requires.fit _ _ _ _ l E k refl ms M)))

pub returns-clause-boots_over : goal.returns-clause-boots_over
returns-clause-boots_over c =
    let a = c.args in
    let E = c.in_ok-rows.ensures in
    let k = c.in_ok-rows.field-0 in
    let l = long (goal.at.returns-clause-boots_over c).Start in
    let xs = c.lay_out.new.rows in
    let Y = c.lay_out.ensures in
    rw (c.put_kept.ensures, written_rows c.requires.fit _ _ _ _ l E k refl xs Y)
    (over_done a.words.now (eight xs) c.requires.long (written_narrow c.requires.fit _ _ _ _ l E k refl xs Y) _
    (written_many c.requires.fit _ _ _ _ l E k refl xs Y)
    (written_laid c.requires.fit _ _ _ _ l E k refl xs Y).unused _)
