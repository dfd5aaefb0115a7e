-- `scan` meets its contract. The loop's invariant is `Scanning`: what is left decides as the whole does.
use Rattle.std.proofs.Common.{◌≡◌, ◌+◌, ◌<◌, ◌≤◌, true, false, sym, ◌∙◌, arith}
use Rattle.definition.specs.World.{record_at, level_in}
use Rattle.definition.specs.Torn.{pages_of_record, held_as, alone_if_held}
use Rattle.definition.proofs.Tests.{and-true}
use Rattle.level.proofs.Sizes.{size_positive}
use Rattle.scan.specs.Sheet.{head_at}
use Rattle.scan.proofs.Heads.{head_facts, none_pages, pages_small, some_pages}
use Rattle.scan.proofs.Tallies.{alone_free, alone_held, held_free, held_kernel, held_page}
use Rattle.scan.proofs.Scanning.{Scanning, scan_start, scan_turn, scan_free, scan_run, scan_bad, scan_done}
use Rattle.scan.proofs.Region.scan.Goals as goal
use Rattle.scan.proofs.Region.scan.Goals.{After-past_free-at-else-is_free_page, In_ok-pages}

pub loop-at-init : goal.loop-at-init
loop-at-init c =
    let s = c.args.self.now in
    let f = record_at s.records.now in
    let e = c.past_free-at.ensures in
    scan_run f s.from s.base s.past 0 0 s.base c.past_free-at.result (scan_start f s.from s.base s.past s.ordered) e.0 e.1 e.2

pub loop-at-preserved-then-is_free_page : goal.loop-at-preserved-then-is_free_page
loop-at-preserved-then-is_free_page c =
    let s = c.args.self.now in
    let l = c.loop-at in
    scan_free (record_at s.records.now) s.from s.base s.past l.page l.kernel l.at
    l.invariant (omega arith) (sym c.is_free_page.ensures ∙ c.if-is_free_page.true)

-- a head that passed, and its pages
room : (c : In_ok-pages) →
    let s = c.args.self.now in
    let f = record_at s.records.now in
    let at = c.loop-at.at in
    let pages = c.in_ok-pages.pages in
    (head_at f s.from s.base s.past at ≡ true) × (0 < pages) × (at + pages ≤ s.past) × (pages ≡ pages_of_record (f at))
room c =
    let s = c.args.self.now in
    let f = record_at s.records.now in
    let at = c.loop-at.at in
    let h = some_pages f s.from s.base s.past at c.in_ok-pages.pages c.in_ok-pages.ensures in
    let d = head_facts f s.from s.base s.past at h.0 in
    (h.0, omega (arith, h.1, size_positive (level_in (f at).level)), omega (arith, h.1, d.fits), h.1 ∙ sym (pages_small (f at) d.level))

pub returns-in_err-pages : goal.returns-in_err-pages
returns-in_err-pages c =
    let s = c.args.self.now in
    let l = c.loop-at in
    let f = record_at s.records.now in
    let n = none_pages f s.from s.base s.past l.at c.in_err-pages.ensures in
    rw c.from_residual.ensures (scan_bad f s.from s.base s.past l.page l.kernel l.at l.invariant (omega arith) (rw n))

pub returns-then-not-is_alone : goal.returns-then-not-is_alone
returns-then-not-is_alone c =
    let s = c.args.self.now in
    let l = c.loop-at in
    let f = record_at s.records.now in
    let r = room (goal.at.returns-then-not-is_alone c).In_ok-pages in
    let h = sym c.is_allocated.ensures ∙ c.if-is_allocated.true in
    let n = alone_held (f l.at) _ c.marks-marks.ensures h ∙ sym c.is_alone.ensures ∙ c.if-not-is_alone.true in
    scan_bad f s.from s.base s.past l.page l.kernel l.at l.invariant (omega arith) (rw (r.0, n))

-- a turn, once it is known what the head adds
turn : (c : After-past_free-at-else-is_free_page) →
    let s = c.args.self.now in
    let l = c.loop-at in
    let r = record_at s.records.now l.at in
    let t = c.if-is_allocated in
    alone_if_held r ≡ true
    → t.page ≡ l.page + held_as false r
    → t.kernel ≡ l.kernel + held_as true r
    → held_as false r + held_as true r ≤ pages_of_record r
    → Scanning (record_at s.records.now) s.from s.base s.past t.page t.kernel c.past_free-at-else-is_free_page.result
turn c a p k most =
    let s = c.args.self.now in
    let l = c.loop-at in
    let f = record_at s.records.now in
    let t = c.if-is_allocated in
    let r = room (goal.at.After-past_free-at-else-is_free_page c).In_ok-pages in
    let e = c.past_free-at-else-is_free_page.ensures in
    let pages = c.in_ok-pages.pages in
    scan_run f s.from s.base s.past t.page t.kernel (l.at + pages) c.past_free-at-else-is_free_page.result
    (scan_turn f s.from s.base s.past l.page l.kernel l.at pages t.page t.kernel
    l.invariant (omega arith) (and-true r.0 a) r.3 r.2 p k (omega arith))
    e.0 e.1 e.2

pub loop-at-preserved : goal.loop-at-preserved
loop-at-preserved c =
    let s = c.args.self.now in
    let r = record_at s.records.now c.loop-at.at in
    let i = c.is_allocated in
    let m = c.marks-marks.ensures in
    let o = room (goal.at.loop-at-preserved c).In_ok-pages in
    let after = (goal.at.loop-at-preserved c).After-past_free-at-else-is_free_page in
    elim c.if-is_allocated.branch [
      | goal.then-is_allocated+else-not-is_alone+then-is_kernel w ↦
          let h = sym i.ensures ∙ w.if-is_allocated.true in
          let q = held_kernel r _ m h (sym w.is_kernel.ensures ∙ w.if-is_kernel.true) in
          turn after (alone_held r _ m h ∙ sym w.is_alone.ensures ∙ w.if-not-is_alone.false)
          (omega (arith, w.page-is)) (omega (arith, w.kernel-is)) (omega arith)
      | goal.then-is_allocated+else-not-is_alone+else-is_kernel w ↦
          let h = sym i.ensures ∙ w.if-is_allocated.true in
          let q = held_page r _ m h (sym w.is_kernel.ensures ∙ w.if-is_kernel.false) in
          turn after (alone_held r _ m h ∙ sym w.is_alone.ensures ∙ w.if-not-is_alone.false)
          (omega (arith, w.page-is)) (omega (arith, w.kernel-is)) (omega arith)
      | goal.else-is_allocated w ↦
          let h = sym i.ensures ∙ w.if-is_allocated.false in
          let p = held_free r _ m h false in
          let k = held_free r _ m h true in
          turn after (alone_free r _ m h) (omega (arith, w.page-is)) (omega (arith, w.kernel-is)) (omega arith)
    ]

pub returns : goal.returns
returns c =
    let s = c.args.self.now in
    let l = c.loop-at in
    scan_done (record_at s.records.now) s.from s.base s.past l.page l.kernel l.at l.invariant (omega arith)
