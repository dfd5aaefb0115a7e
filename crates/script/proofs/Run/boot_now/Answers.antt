-- Before a boot, what `boot` leaves and answers.
use Rattle.definition.specs.Text.{bytes_of}
use Rattle.script.specs.Running.{program_board}
use Rattle.script.proofs.Turning.{turned_boot}
use Rattle.script.proofs.Run.boot_now.Goals as goal

pub returns-clause-does : goal.returns-clause-does
returns-clause-does c =
    let B = rw c.standard-board.ensures at c.boot-y.ensures.boots_all in
    turned_boot program_board (bytes_of "boot") c.if-self.false c.is_ok-running.ensures.value B c.put_line-self.ensures.wrote
