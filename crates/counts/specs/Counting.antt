-- What the calls on the counters promise: the pager's leave other counters, and answer what is outstanding by them; the statistics are
-- a text.
use Rattle.std.specs.Prelude.{ℕ, List, [], Ok, ◌≡◌, take}
use Rattle.definition.specs.declared.Counters.{Counters}
use Rattle.definition.specs.Calls.{Answer, Refused, Done, Text, Bytes, Stats}
use Rattle.definition.specs.Tracker.{tracker_stats}
use Rattle.exam.specs.declared.Reply.{Reply}
use Rattle.exam.specs.Promise.{reply}
use Rattle.exam.specs.Making.{Counts}
use Rattle.counts.specs.declared.Report.{Report}

-- what is outstanding by the counters
abbrev pub outstanding : Counters → Reply
outstanding c = reply 0 c.pager_outstanding

-- the text that an answer has
abbrev pub text_of : Answer → List ℕ
text_of (Refused r) = []
text_of (Done a n) = []
text_of (Text t) = t
text_of (Bytes t) = []

-- the statistics leave the world as it is, and the report has the length and the bytes of their text
pub record Reports (k : Counters) (r : Report) : Type 0 where
  pub makes : Counts Stats k k (Ok (reply 0 r.len))
  pub text : take r.len r.text ≡ tracker_stats k
