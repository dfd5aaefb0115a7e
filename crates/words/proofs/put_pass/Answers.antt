-- `put_pass` meets its contract: its two stores change the pass alone.
use Rattle.words.proofs.Beside.{pass_beside}
use Rattle.words.proofs.put_pass.Goals as goal

pub returns : goal.returns
returns c = pass_beside c.args.words.now c.args.pass c.requires
