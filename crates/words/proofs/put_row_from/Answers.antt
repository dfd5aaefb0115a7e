-- `put_row_from` meets its contract: its two stores and its three pairs are one `with_bytes`.
use mathlib.Core.Path.{refl}
use Rattle.words.specs.Words.{row_words}
use Rattle.words.proofs.Stores.{row_stores}
use Rattle.words.proofs.put_row_from.Goals as goal

pub returns : goal.returns
unfolding row_words
returns c =
    rw (c.put_pair-3.ensures, c.put_pair-2.ensures, c.put_pair.ensures, c.raw.ensures)
    (row_stores c.args.words.now c.args.at _ _ _ _ _ refl refl refl c.requires)
