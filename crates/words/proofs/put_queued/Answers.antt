-- `put_queued` meets its contract: its store changes the queue's count alone.
use Rattle.words.proofs.Beside.{queued_beside}
use Rattle.words.proofs.put_queued.Goals as goal

pub returns : goal.returns
returns c = queued_beside c.args.words.now c.args.queued c.requires
