-- Words that are too few are refused by the map or as 5; else as `serve_boot_with`, and the counters are written over the words.
use mathlib.Core.Path.{refl, ap, ◌∙◌}
use borrow.Author.Tests.{lt-leb}
use lib.ListN.{length}
use Rattle.words.specs.Words.{state_words}
use Rattle.definition.specs.Refusal.{number_of}
use Rattle.service.specs.Serving.{Lent}
use Rattle.service.proofs.Serving.{boot_in_words, boots_short}
use Rattle.service.proofs.serve_boot.Goals as goal
use Rattle.service.proofs.serve_boot.Goals.{Start}

abbrev loans : Start → Lent
loans s =
    record {
      words = s.args.words.now;
      records = s.args.records.now;
      memory = s.args.memory.now;
      queue = s.args.queue.now;
      answer = s.args.answer.now;
    }

pub returns-then-words-lt-STATE_WORDS : goal.returns-then-words-lt-STATE_WORDS
returns-then-words-lt-STATE_WORDS c =
    λ ms e f.
    boots_short ms (loans (goal.at.returns-then-words-lt-STATE_WORDS c).Start)
    (rw (lt-leb state_words (length c.args.words.now) c.if-words-lt-STATE_WORDS.true) refl) (ap number_of (c.short_boot.ensures ms e f))

pub returns : goal.returns
returns c =
    λ ms e f.
    boot_in_words ms (loans (goal.at.returns c).Start) c.if-words-lt-STATE_WORDS.false
    ∙ rw (← c.counters_in-counters.ensures, c.serve_boot_with-told.ensures ms e f, c.put_counters.ensures) refl
