-- `put_pair` meets its contract: its three stores are one `with_bytes`.
use Rattle.words.proofs.Stores.{three_stores}
use Rattle.words.proofs.put_pair.Goals as goal

pub returns : goal.returns
returns c =
    rw (c.joined-3.ensures, c.joined-2.ensures, c.joined.ensures) (three_stores c.args.words.now c.args.at _ _ _ c.requires)
