-- The loans are sound, so they are ready for the call, and its line says what it leaves and answers.
use lib.ListN.{get_or}
use Rattle.lines.specs.Reading.{ask_name}
use Rattle.script.specs.Running.{program_board}
use Rattle.script.proofs.Reaching.{sure_leaves, sure_ready}
use Rattle.script.proofs.Turning.{turned_call}
use Rattle.script.proofs.Run.call_now.Goals as goal

pub make-y-requires : goal.make-y-requires
make-y-requires c =
    let r = c.args.self.now in
    sure_ready _ r.words.now _ _ _ r.long (c.requires.sure c.if-not-self.false)

pub returns-clause-does : goal.returns-clause-does
returns-clause-does c =
    let a = c.args in
    let r = a.self.now in
    let late = c.if-not-self.false in
    let L = sure_leaves r.words.now (c.requires.sure late) c.are_bytes.ensures c.make-y.ensures.makes in
    turned_call program_board (ask_name a.op) a.op (λ i. get_or a.n i 0) late L c.put_line-self.ensures.wrote
