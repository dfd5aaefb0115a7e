-- The loop over a script: what is written so far, with the text that the lines left will print, is the whole output, and what is
-- kept stands for the run up to here, whose world is sound from an accepted boot on (`Going`). It holds behind the header, each line
-- carries it on, and behind the last line it says what the script leaves.
use Prim.Native.Nat.{ℕ, suc, ◌+◌, ◌-◌, ◌*◌, ◌≤◌, ◌<◌}
use mathlib.Core.List.{List, [], ◌++◌, append_assoc, append-nil}
use mathlib.Core.Path.{◌≡◌, refl, sym, ap, ◌∙◌}
use native.Mathlib.Omega.{arith}
use lib.ListN.{length, take, drop, take-append-drop, drop_of_length-le}
use lib.Seq.{length-take-le}
use Rattle.definition.specs.Board.{Fit}
use Rattle.definition.specs.Board.{Board}
use Rattle.definition.specs.Script.{
  RunningOn,
  TurnOn,
  header,
  line_on,
  lines,
  lines_on,
  parts_by,
  read_line,
  room,
  run_on,
  started_on,
  world_after,
}
use Rattle.definition.specs.Text.{bytes_of}
use Rattle.definition.specs.World.{World}
use Rattle.lines.specs.Reading.{NextLine}
use Rattle.text.specs.Writing.{Wrote}
use Rattle.theorems.proofs.Scripts.{script_printed}
use Rattle.script.specs.declared.Run.{Run}
use Rattle.script.specs.Run.{Same}
use Rattle.script.specs.Running.{
  Bounded,
  Fresh,
  Loans,
  Ran,
  RanAll,
  Running,
  Stands,
  Turns,
  left_by,
  printed,
  unbooted,
  world_by,
}
use Rattle.script.proofs.Reaching.{ReachedIn, line_reached, started_reached}
use Rattle.script.proofs.Writing.{wrote_drop, wrote_long, wrote_take}

-- ---- lines

lines_none : (s : List ℕ) (at : ℕ) → length s ≤ at → lines (drop at s) ≡ []
unfolding parts_by
lines_none s at h = rw (drop_of_length-le s {i = at} h) refl

-- how many lines are left
pub one_less : {s : List ℕ} {at end next : ℕ} → NextLine s at end next → length (lines (drop at s)) ≡ length (lines (drop next s)) + 1
one_less {s} {at} {end} {next} n =
    let e : length (lines (drop at s)) ≡ suc (length (lines (drop next s))) = ap length n.first in
    omega arith

-- ---- on the way

-- loans that stay the same ones twice
pub same_then : {a b c : Run} → Same a b → Same b c → Same a c
same_then S T =
    record {
      running = T.running ∙ S.running;
      words = T.words ∙ S.words;
      records = T.records ∙ S.records;
      memory = T.memory ∙ S.memory;
      queue = T.queue ∙ S.queue;
      answer = T.answer ∙ S.answer;
    }

module _ (board : Board) where
  -- the run of the lines that are left
  abbrev onwards : RunningOn → List ℕ → ℕ → TurnOn
  onwards x script at = lines_on board x (lines (drop at script))

module _ (board : Board) where
  pub record Going (script : List ℕ) (r₀ r : Running) (at : ℕ) : Type 0 where
    pub within : at ≤ length script
    pub few : r.count ≤ at
    pub long : length r.answer ≡ length r₀.answer
    pub up : r₀.at ≤ r.at
    pub space : r.at + 512 * length (lines (drop at script)) ≤ length r.answer
    pub run : RunningOn
    pub stands : Stands r run
    pub reached : ReachedIn board run
    pub text : take r.at r.answer ++ (onwards board run script at).text ≡ header ++ (run_on board (world_by unbooted r₀.loans) script).text
    pub ends : (onwards board run script at).running ≡ (run_on board (world_by unbooted r₀.loans) script).running
    pub rest : (n : ℕ) → r.at ≤ n → n ≤ length r.answer → drop n r.answer ≡ drop n r₀.answer

module _ {board : Board} where
  -- behind the header
  pub going
      : {script out : List ℕ} {n : ℕ} {r : Running} → Wrote r.answer 0 header out n → room script ≤ length r.answer → Fresh r
      → Going board script (record r { answer = out; at = n }) (record r { answer = out; at = n }) 0
  unfolding bytes_of
  going {script} {out} {n} {r} f h F =
      let a : n ≡ 25 = f.after in
      let k : length out ≡ length r.answer = wrote_long f (omega arith) in
      record {
        within = omega arith;
        few = omega (arith, F.count);
        long = refl;
        up = omega arith;
        space = omega arith;
        run = started_on (world_by unbooted r.loans);
        stands = record {
          world = ap (λ s. world_by s r.loans) (sym F.state);
          booted = sym F.booted;
          long = sym F.count;
          front = rw F.count refl;
        };
        reached = started_reached (world_by unbooted r.loans);
        text = ap (λ (t : List ℕ). t ++ (run_on board (world_by unbooted r.loans) script).text) (wrote_take f (omega arith));
        ends = refl;
        rest = λ i u v. refl;
      }

module _ {board : Board} (fit : Fit board) where
  -- over one line
  pub going_on
      : {script : List ℕ} {r₀ r r' : Running} {at end next : ℕ} → Going board script r₀ r at → NextLine script at end next
      → Turns board r (take (end - at) (drop at script)) r' → Bounded r r' → Going board script r₀ r' next
  unfolding lines_on
  going_on {script} {r₀} {r} {r'} {at} {end} {next} g n f b =
      let q : length (lines (drop at script)) ≡ length (lines (drop next script)) + 1 = one_less n in
      let x = g.run in
      let T = f x g.stands in
      let o : TurnOn = line_on board x (read_line (take (end - at) (drop at script))) in
      let inside : r'.at ≤ length r.answer = omega (arith, g.space, b.0) in
      let m : length r'.answer ≡ length r.answer = wrote_long T.wrote inside in
      let rest : TurnOn = onwards board o.running script next in
      let e : onwards board x script at ≡ record { running = rest.running; text = o.text ++ rest.text }
      = ap (λ (ls : List (List ℕ)). lines_on board x ls) n.first in
      record {
        within = n.next_by;
        few = omega (arith, g.few, b.1, n.past);
        long = m ∙ g.long;
        up = omega (arith, g.up, T.wrote.after);
        space = omega (arith, g.space, b.0);
        run = o.running;
        stands = T.stands;
        reached = line_reached fit x g.reached (read_line (take (end - at) (drop at script)));
        text =
            ap (λ (u : List ℕ). u ++ rest.text) (wrote_take T.wrote inside)
            ∙ append_assoc (take r.at r.answer) o.text rest.text
            ∙ ap (λ (y : TurnOn). take r.at r.answer ++ y.text) (sym e)
            ∙ g.text;
        ends = ap (λ (y : TurnOn). y.running) (sym e) ∙ g.ends;
        rest = λ i u v. wrote_drop T.wrote inside i u (omega arith) ∙ g.rest i (omega (arith, T.wrote.after)) (omega arith);
      }

  -- behind the last line, from a run whose answer then got the header
  pub gone : {script out : List ℕ} {n : ℕ} {r₀ r : Running} {at : ℕ} → Wrote r₀.answer 0 header out n
      → room script ≤ length r₀.answer → length script ≤ at → Going board script (record r₀ { answer = out; at = n }) r at
      → RanAll board script r₀ r
  unfolding bytes_of lines_on world_after
  gone {script} {out} {n} {r₀} {r} {at} f h e g =
      let l = r₀.loans in
      let a : n ≡ 25 = f.after in
      let k : length out ≡ length r₀.answer = wrote_long f (omega arith) in
      let o : onwards board g.run script at ≡ record { running = g.run; text = [] }
      = ap (λ (ls : List (List ℕ)). lines_on board g.run ls) (lines_none script at e) in
      let t : take r.at r.answer ≡ printed board l script
      = sym (append-nil (take r.at r.answer)) ∙ ap (λ (y : TurnOn). take r.at r.answer ++ y.text) (sym o) ∙ g.text
      ∙ script_printed board fit (world_by unbooted l) script in
      let v : world_by r.state r.loans ≡ left_by board l script
      = sym g.stands.world ∙ ap (λ (y : TurnOn). y.running.world) (sym o) ∙ ap (λ (y : RunningOn). y.world) g.ends in
      let d : drop r.at r.answer ≡ drop r.at r₀.answer
      = g.rest r.at (omega arith) (omega (arith, g.space)) ∙ wrote_drop f (omega arith) r.at g.up (omega (arith, g.space, g.long)) in
      record {
        written = sym (length-take-le r.at r.answer (omega (arith, g.space))) ∙ ap length t;
        text =
            sym (take-append-drop r.at r.answer)
            ∙ ap (λ (u : List ℕ). u ++ drop r.at r.answer) t
            ∙ ap (λ (u : List ℕ). printed board l script ++ u) d;
        records = ap (λ (u : World). u.records) v;
        memory = ap (λ (u : World). u.memory) v;
        queue = ap (λ (u : World). u.queue) v;
      }

-- ---- with room and without

module _ {board : Board} where
  -- the loans end as the run leaves them
  pub ran_all : {script out : List ℕ} {r r' : Running} {l : Loans} → room script ≤ length r.answer → RanAll board script r r'
      → out ≡ r'.answer → l.records ≡ r'.loans.records → l.memory ≡ r'.loans.memory → l.queue ≡ r'.loans.queue
      → Ran board script r.loans r.answer l out r'.at
  ran_all h A answer records memory queue =
      record {
        written = λ k. A.written;
        text = λ k. answer ∙ A.text;
        records = λ k. records ∙ A.records;
        memory = λ k. memory ∙ A.memory;
        queue = λ k. queue ∙ A.queue;
        too_short = λ k. absurd (omega arith);
      }

  pub ran_none : (script : List ℕ) (l : Loans) (out : List ℕ) → length out < room script → Ran board script l out l out 0
  ran_none script l out h =
      record {
        written = λ k. absurd (omega arith);
        text = λ k. absurd (omega arith);
        records = λ k. absurd (omega arith);
        memory = λ k. absurd (omega arith);
        queue = λ k. absurd (omega arith);
        too_short = λ k. (refl, refl, refl);
      }
