-- A heading is found where the file goes on with the very bytes that were spelt.
use Rattle.std.proofs.Common.{sym}
use Rattle.vectors.proofs.Framing.{heads}
use Rattle.vectors.proofs.heading_at.Goals as goal

pub returns : goal.returns
returns c = heads c.put_heading-k.ensures c.requires.0 (sym c.if-not-starts_with.ensures.value)
