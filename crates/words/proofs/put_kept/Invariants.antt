-- `put_kept` meets its contract. The loop's invariant: behind the first word stand the words of the rows passed.
use mathlib.Core.Path.{◌≡◌}
use lib.ListN.{take}
use Rattle.record.specs.Records.{with_bytes}
use Rattle.words.specs.Words.{rows_words}
use Rattle.words.proofs.put_kept.Given as goal

abbrev pub invariant-loop-i : goal.invariant-loop-i
invariant-loop-i l = l.words ≡ with_bytes l.initial.words 1 (rows_words (take l.i l.row-items))
