-- Before a boot, an entry more.
use Rattle.definition.specs.Text.{bytes_of}
use Rattle.script.specs.Running.{program_board}
use Rattle.script.proofs.Turning.{turned_region}
use Rattle.script.proofs.Run.region.Goals as goal

pub returns-clause-does : goal.returns-clause-does
returns-clause-does c =
    turned_region program_board (bytes_of "region") c.if-self.false (rw c.from.ensures at c.enter.ensures)
