-- `kept_rows` meets its contract. The loop's invariant: the rows are those of the entries passed, with unused ones behind them.
use Prim.Native.Nat.{◌<◌}
use mathlib.Core.Path.{refl, ap, ◌∙◌}
use native.Mathlib.Omega.{arith}
use lib.ListN.{take, replicate}
use Rattle.std.proofs.lemmas.List.{length-take}
use Rattle.definition.specs.declared.Row.{Row}
use Rattle.definition.specs.Boot.{ends_far}
use Rattle.boot.specs.Booting.{eight, kept_rows}
use Rattle.boot.proofs.Entries.{row_at_lem}
use Rattle.boot.proofs.KeptRows.{any_none, kept_most, no_entry, turn_fits, turn_more, turn_rows, turn_rows_same, turn_same}
use Rattle.boot.proofs.kept_rows.Goals as goal
use Rattle.boot.proofs.kept_rows.Goals.{After-keep, in-Some, in_default}

pub loop-entry-init : goal.loop-entry-init
unfolding kept_rows eight
loop-entry-init c =
    record { kept = ap (λ (r : Row). replicate 8 r) (c.empty_row-rows.ensures ∙ row_at_lem c.new.ensures refl); many = refl }

pub keep-requires-clause-value : goal.keep-requires-clause-value
keep-requires-clause-value c =
    any_none ends_far no_entry c.args.map.now c.loop-entry.entry-index c.requires.near c.loop-entry-test.true

-- there is a place for the turn's row
fits : (c : After-keep) → c.loop-entry.used < 8
fits c =
    let i = c.loop-entry.invariant in
    turn_fits c.args.board c.args.map.now c.loop-entry.entry-index no_entry c.loop-entry-test.true
    (omega (arith, c.loop-entry-test.true, c.requires.few))
    i.kept i.many

pub offset_bounds-rows-used : goal.offset_bounds-rows-used
offset_bounds-rows-used c = omega (arith, fits (goal.at.offset_bounds-rows-used c).After-keep)

pub bounds-rows-used : goal.bounds-rows-used
bounds-rows-used c = fits (goal.at.bounds-rows-used c).After-keep

pub overflow_add-used : goal.overflow_add-used
overflow_add-used c = omega (arith, fits (goal.at.overflow_add-used c).After-keep)

pub loop-entry-preserved : goal.loop-entry-preserved
loop-entry-preserved c =
    let b = c.args.board in
    let map = c.args.map.now in
    let k = c.loop-entry.entry-index in
    let i = c.loop-entry.invariant in
    let h = c.loop-entry-test.true in
    let few : k < 8 = omega (arith, h, c.requires.few) in
    elim c.match-keep.branch [
      | in-Some w ↦
          let e = w.in-Some.ensures in
          record {
            kept = w.rows-is ∙ turn_rows b map k no_entry h few i.kept i.many w.in-Some.row e;
            many = w.used-is ∙ turn_more b map k no_entry h few i.kept i.many w.in-Some.row e;
          }
      | in_default w ↦
          let e = w.in_default.ensures in
          record {
            kept = w.rows-is ∙ turn_rows_same b map k no_entry h few i.kept i.many e;
            many = w.used-is ∙ turn_same b map k no_entry h few i.kept i.many e;
          }
    ]

pub returns-clause-room : goal.returns-clause-room
returns-clause-room c =
    let map = c.args.map.now in
    let i = c.loop-entry.entry-index in
    omega (arith, c.loop-entry.invariant.many, kept_most c.args.board (take i map), length-take i map, c.requires.few)
