-- Numbers that do not come in threes are refused; else what was gathered is the map's: its first eight entries and their number are all
-- that a boot looks at.
use mathlib.Core.List.{map}
use mathlib.Core.Path.{◌≡◌, refl, ap, sym, ◌∙◌}
use Prim.Native.Nat.{◌%◌}
use borrow.Author.Tests.{eq-eqb, ne_eqb}
use lib.ListN.{length, take}
use Rattle.std.proofs.Common.{rules}
use Rattle.boot.specs.declared.Gathered.{Gathered}
use Rattle.store.specs.Lending.{region_of, entry_in, entries_of}
use Rattle.map.proofs.Gathering.{gathered_front}
use Rattle.store.proofs.Gathering.{number_at, numbers_long}
use Rattle.store.proofs.boot_numbers.Goals as goal

pub returns-then-n-ne0 : goal.returns-then-n-ne0
returns-then-n-ne0 c = rw (ne_eqb (length c.args.n.now % 3) 0 c.if-n-ne0.true) refl

pub returns : goal.returns
returns c =
    let ns = c.args.n.now in
    let ms = map region_of (entries_of ns) in
    let e = sym (c.gather-g.ensures ms (numbers_long ns)
    (λ i m a b p. let g : m ≡ region_of (entry_in ns i) = search rules in g ∙ sym (number_at ns i b))) in
    rw (eq-eqb (length ns % 3) 0 c.if-n-ne0.false)
    (c.serve_boot_with.ensures ms (ap (λ (g : Gathered). g.count) e) (gathered_front ms ∙ ap (λ (g : Gathered). take g.count g.map) e))
