-- `walk` meets its contract. The loop's invariant: what is left of the walk, between its two ends, decides as the whole does.
use Rattle.std.proofs.Common.{◌≡◌, ◌-◌, ◌&&◌, eqb, sym, ◌∙◌, arith, rules, eq-eqb, ne_eqb}
use Rattle.definition.specs.World.{record_at}
use Rattle.scan.specs.Sheet.{walks_at}
use Rattle.scan.proofs.Ends.{between, walks_between, between_none, no_front, no_back, one_step, both_step}
use Rattle.scan.proofs.Region.walk.Goals as goal
use Rattle.scan.proofs.Region.walk.Goals.{
  In-Some-page_on,
  Joined-left-eq1,
  then-earlier-prev-via-then-earlier-prev,
  then-earlier-prev-via-else-earlier-prev+then-later-next,
  then-left-eq1+in-Some-page_on-2+else-earlier-prev-2,
  else-left-eq1,
}

pub loop-left-init : goal.loop-left-init
loop-left-init c =
    let s = c.args.self.now in
    let l = c.args.links in
    (search rules, search rules, walks_between (record_at s.records.now) s.base s.past c.args.k l.count 0 l.front l.back)

pub returns-in_default : goal.returns-in_default
returns-in_default c =
    let s = c.args.self.now in
    let l = c.loop-left in
    let kind = c.list_kind-kind in
    sym
    (l.invariant.2
    ∙ no_front (record_at s.records.now) s.base s.past c.args.k c.requires.marked kind.result kind.ensures.0
    l.left l.prev l.at l.next l.last (omega arith) c.in_default.ensures)

pub returns-in_default-page_on : goal.returns-in_default-page_on
returns-in_default-page_on c =
    let s = c.args.self.now in
    let l = c.loop-left in
    let kind = c.list_kind-kind in
    sym
    (l.invariant.2
    ∙ no_back (record_at s.records.now) s.base s.past c.args.k c.requires.marked kind.result kind.ensures.0
    l.left l.prev l.at l.next l.last (omega arith) c.in_default-page_on.ensures)

-- a node off each end
both : (c : In-Some-page_on)
    → let s = c.args.self.now in
    let f = record_at s.records.now in
    let links = c.args.links in
    let l = c.loop-left in
    let front = f c.in-Some.front in
    let back = f c.in-Some-page_on.back in
    walks_at f s.base s.past c.args.k links.count 0 links.front links.back
    ≡ (eqb front.earlier l.prev
    && (eqb back.later l.next && between f s.base s.past c.args.k (l.left - 2) l.at front.later l.last back.earlier))
both c =
    let s = c.args.self.now in
    let l = c.loop-left in
    let kind = c.list_kind-kind in
    l.invariant.2
    ∙ both_step (record_at s.records.now) s.base s.past c.args.k c.requires.marked kind.result kind.ensures.0
    l.left l.prev l.at l.next l.last c.in-Some.front c.in-Some-page_on.back (omega arith) c.in-Some.ensures c.in-Some-page_on.ensures

pub returns-then-earlier-prev : goal.returns-then-earlier-prev
returns-then-earlier-prev c =
    let e = both (goal.at.returns-then-earlier-prev c).In-Some-page_on in
    elim c.then-earlier-prev.branch [
      | then-earlier-prev-via-then-earlier-prev w ↦
          sym (e ∙ rw (← c.earlier.ensures, ne_eqb c.earlier.result c.loop-left.prev w.if-earlier-prev.true))
      | then-earlier-prev-via-else-earlier-prev+then-later-next w ↦
          sym
          (e
          ∙ rw (
            ← c.earlier.ensures,
            eq-eqb c.earlier.result c.loop-left.prev w.if-earlier-prev.false,
            ← w.later.ensures,
            ne_eqb w.later.result c.loop-left.next w.if-later-next.true,
          ))
    ]

pub loop-left-preserved : goal.loop-left-preserved
loop-left-preserved c = (
  search rules,
  search rules,
  both (goal.at.loop-left-preserved c).In-Some-page_on
      ∙ rw (
        ← c.earlier.ensures,
        eq-eqb c.earlier.result c.loop-left.prev c.if-earlier-prev.false,
        ← c.later.ensures,
        eq-eqb c.later.result c.loop-left.next c.if-later-next.false,
        ← c.later-at.ensures,
        ← c.earlier-last.ensures,
      ),
)

pub returns-in_default-page_on-2 : goal.returns-in_default-page_on-2
returns-in_default-page_on-2 c =
    let s = c.args.self.now in
    let l = c.loop-left in
    let kind = c.list_kind-kind in
    sym
    (l.invariant.2
    ∙ no_front (record_at s.records.now) s.base s.past c.args.k c.requires.marked kind.result kind.ensures.0
    l.left l.prev l.at l.next l.last (omega arith) c.in_default-page_on-2.ensures)

pub returns-then-earlier-prev-2 : goal.returns-then-earlier-prev-2
returns-then-earlier-prev-2 c =
    let s = c.args.self.now in
    let l = c.loop-left in
    let kind = c.list_kind-kind in
    let front = c.in-Some-page_on-2 in
    let e = c.earlier-then-left-eq1 in
    sym
    (l.invariant.2
    ∙ one_step (record_at s.records.now) s.base s.past c.args.k c.requires.marked kind.result kind.ensures.0
    l.left l.prev l.at l.next l.last front.front c.if-left-eq1.true front.ensures
    ∙ rw (← e.ensures, ne_eqb e.result l.prev c.if-earlier-prev-2.true))

-- the two ends meet
meet : (c : Joined-left-eq1)
    → let s = c.args.self.now in
    let links = c.args.links in
    walks_at (record_at s.records.now) s.base s.past c.args.k links.count 0 links.front links.back
    ≡ (eqb c.if-left-eq1.at c.loop-left.next && eqb c.if-left-eq1.prev c.loop-left.last)
meet c =
    let s = c.args.self.now in
    let l = c.loop-left in
    let f = record_at s.records.now in
    elim c.if-left-eq1.branch [
      | then-left-eq1+in-Some-page_on-2+else-earlier-prev-2 w ↦
          let kind = c.list_kind-kind in
          let front = w.in-Some-page_on-2 in
          let e = w.earlier-then-left-eq1 in
          l.invariant.2
          ∙ one_step f s.base s.past c.args.k c.requires.marked kind.result kind.ensures.0
          l.left l.prev l.at l.next l.last front.front w.if-left-eq1.true front.ensures
          ∙ rw (← e.ensures, eq-eqb e.result l.prev w.if-earlier-prev-2.false, ← w.later-at-then-left-eq1.ensures, w.at-is, w.prev-is)
      | else-left-eq1 w ↦
          l.invariant.2
          ∙ between_none f s.base s.past c.args.k l.left l.prev l.at l.next l.last (omega (arith, w.if-left-eq1.false))
          ∙ rw (w.at-is, w.prev-is)
    ]

pub returns-then-at-next : goal.returns-then-at-next
returns-then-at-next c =
    sym (meet (goal.at.returns-then-at-next c).Joined-left-eq1 ∙ rw (eq-eqb c.if-left-eq1.at c.loop-left.next c.if-at-next.true))

pub returns-else-at-next : goal.returns-else-at-next
returns-else-at-next c =
    sym (meet (goal.at.returns-else-at-next c).Joined-left-eq1 ∙ rw (ne_eqb c.if-left-eq1.at c.loop-left.next c.if-at-next.false))
