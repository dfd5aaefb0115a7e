-- What was gathered is the map's: its first eight entries and their number are all that a boot looks at.
use mathlib.Core.Path.{refl, sym, ap, ◌∙◌}
use lib.ListN.{take}
use Rattle.std.proofs.Common.{rules}
use Rattle.std.proofs.lemmas.List.{get_or_read}
use Rattle.boot.specs.declared.Gathered.{Gathered}
use Rattle.map.specs.Lending.{no_region}
use Rattle.map.proofs.Gathering.{gathered_front}
use Rattle.map.proofs.boot_map.Goals as goal

pub returns : goal.returns
returns c =
    let ms = c.args.map.now in
    let e = sym (c.gather-g.ensures ms refl (λ i m a b e. get_or_read ms i m b (search rules) no_region)) in
    let b = c.boot.ensures in (
      b.boots_all ms (ap (λ (g : Gathered). g.count) e) (gathered_front ms ∙ ap (λ (g : Gathered). take g.count g.map) e),
      b.boots_over,
    )
