-- What was gathered is the map's: its first eight entries and their number are all that a boot looks at.
use mathlib.Core.List.{map}
use mathlib.Core.Path.{◌≡◌, sym, ap, ◌∙◌}
use lib.ListN.{get_or, take, length-map}
use Rattle.std.proofs.Common.{rules}
use Rattle.std.proofs.lemmas.List.{get_or_read}
use Rattle.boot.specs.declared.Gathered.{Gathered}
use Rattle.map.proofs.Gathering.{gathered_front}
use Rattle.store.specs.Lending.{no_entry, region_of}
use Rattle.store.proofs.Gathering.{entry_at}
use Rattle.store.proofs.jilakkor_boot.Goals as goal

pub returns : goal.returns
returns c =
    let es = c.args.map.now in
    let ms = map region_of es in
    let e = sym (c.gather-g.ensures ms (length-map es region_of)
    (λ i m a b p. let g : m ≡ region_of (get_or es i no_entry) = search (rules, get_or_read) in g ∙ sym (entry_at no_entry es i b))) in
    rw c.code.ensures
    (c.serve_boot.ensures ms (ap (λ (g : Gathered). g.count) e) (gathered_front ms ∙ ap (λ (g : Gathered). take g.count g.map) e))
