-- The loop carries `Going` from the header to the last line.
use mathlib.Core.Path.{refl}
use Rattle.definition.proofs.Boards.{standard_fit}
use Rattle.definition.specs.Text.{bytes_of}
use Rattle.script.proofs.Going.{going, going_on, gone, same_then}
use Rattle.script.proofs.Reaching.{reached_sure}
use Rattle.script.proofs.Run.run_all.Goals as goal

pub loop-at-init : goal.loop-at-init
unfolding bytes_of
loop-at-init c =
    record {
      same = record { running = refl; words = refl; records = refl; memory = refl; queue = refl; answer = refl };
      going = going c.put_text-self.ensures c.requires.script_in_bounds c.requires.fresh;
    }

pub take_turn-requires-clause-sure : goal.take_turn-requires-clause-sure
take_turn-requires-clause-sure c = reached_sure standard_fit c.loop-at.invariant.going.stands c.loop-at.invariant.going.reached

pub loop-at-preserved : goal.loop-at-preserved
loop-at-preserved c =
    let E = c.take_turn.ensures in
    let i = c.loop-at.invariant in
    record { same = same_then i.same E.same; going = going_on standard_fit i.going c.next_line-cursor.ensures E.turns E.bounded }

pub returns-clause-ran_all : goal.returns-clause-ran_all
unfolding bytes_of
returns-clause-ran_all c =
    gone standard_fit c.put_text-self.ensures c.requires.script_in_bounds c.loop-at-test.false c.loop-at.invariant.going
