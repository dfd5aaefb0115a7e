-- `put_counters` meets its contract: its nine stores are one `with_bytes`.
use native.Mathlib.Omega.{arith}
use Rattle.words.specs.Words.{counters_at, counter_words}
use Rattle.words.proofs.Stores.{stores}
use Rattle.words.proofs.put_counters.Goals as goal

pub returns : goal.returns
unfolding counter_words
returns c = stores (counter_words c.args.counters) c.args.words.now counters_at (omega arith)
