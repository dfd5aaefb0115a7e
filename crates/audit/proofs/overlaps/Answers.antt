-- `overlaps` meets its contract. The loop's invariant: two of the rows share a page exactly if two of those that are left do.
use Prim.Native.Nat.{◌+◌, ◌-◌}
use mathlib.Core.Path.{◌≡◌, sym, ap, ◌∙◌}
use native.Mathlib.Omega.{arith}
use lib.ListN.{length, take, drop}
use Rattle.std.proofs.lemmas.List.{take_all}
use Rattle.std.proofs.Common.{length-drop}
use Rattle.definition.specs.Basics.{any}
use Rattle.definition.specs.Boot.{shares, overlap}
use Rattle.definition.specs.World.{bare_region}
use Rattle.definition.specs.Torn.{bare_regions}
use Rattle.audit.specs.Sheet.{row_at}
use Rattle.audit.proofs.Onward.{drop_at, drop_past}
use Rattle.audit.proofs.Bare.{overlap_on, overlap_off}
use Rattle.audit.proofs.Used.{no_place}
use Rattle.audit.proofs.overlaps.Goals as goal
use Rattle.audit.proofs.overlaps.Goals.{After-shares_any}

-- the rows behind the turn's are all that are left
behind : (c : After-shares_any) → let a = c.args in
    let i = c.loop-i.i in
    c.shares_any.result ≡ any (shares a.board (bare_region a.board (row_at a.rows.now i))) (bare_regions a.board (drop (i + 1) a.rows.now))
behind c =
    let a = c.args in
    let i = c.loop-i.i in
    let e : take (length a.rows.now - (i + 1)) (drop (i + 1) a.rows.now) ≡ drop (i + 1) a.rows.now =
    take_all _ _ (omega (arith, length-drop (i + 1) a.rows.now)) in
    rw e at c.shares_any.ensures

pub returns-then-shares_any : goal.returns-then-shares_any
returns-then-shares_any c =
    let a = c.args in
    let l = c.loop-i in
    let e = behind (goal.at.returns-then-shares_any c).After-shares_any in
    sym (l.invariant ∙ overlap_off a.board (drop_at a.rows.now l.i no_place c.loop-i-test.true) (sym e ∙ c.if-shares_any.true))

pub loop-i-preserved : goal.loop-i-preserved
loop-i-preserved c =
    let a = c.args in
    let l = c.loop-i in
    let e = behind (goal.at.loop-i-preserved c).After-shares_any in
    l.invariant ∙ overlap_on a.board (drop_at a.rows.now l.i no_place c.loop-i-test.true) (sym e ∙ c.if-shares_any.false)

pub returns : goal.returns
unfolding overlap bare_regions
returns c =
    let a = c.args in
    let l = c.loop-i in
    sym (l.invariant ∙ ap (λ rs. overlap a.board (bare_regions a.board rs)) (drop_past a.rows.now l.i c.loop-i-test.false))
