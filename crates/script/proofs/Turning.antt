-- One line, case by case: what is kept after a region, a boot, the statistics and a call stands for the run's own turn, and what was
-- written is its text.
use Prim.Native.Nat.{ℕ, ◌+◌, ◌≤◌, ◌<◌}
use mathlib.Core.Bool.{Bool, true, false}
use mathlib.Core.List.{List, [], ◌∷◌, ◌++◌}
use mathlib.Core.Path.{◌≡◌, sym, ap, subst, ◌∙◌}
use native.Mathlib.Omega.{arith}
use native.Mathlib.Numerals.{add-one}
use Rattle.std.specs.Prelude.{is_ok}
use lib.ListN.{get_or, length, take, set, length-append}
use lib.Seq.{take_all, take-append-le, take-suc-set}
use Rattle.definition.specs.declared.MemoryRegion.{MemoryRegion}
use Rattle.definition.specs.Board.{Board}
use Rattle.definition.specs.Calls.{Call, Stats, Text}
use Rattle.definition.specs.Script.{AddRegion, BootNow, Ask, Command, RunningOn, answer_line, command_on}
use Rattle.definition.specs.Text.{bytes_of}
use Rattle.definition.specs.Torn.{Left, boot_call, call, sound}
use Rattle.definition.specs.Tracker.{tracker_stats}
use Rattle.definition.specs.World.{World}
use Rattle.boot.specs.Booting.{Boots, BootsAll}
use Rattle.counts.specs.declared.Report.{Report}
use Rattle.counts.specs.Counting.{Reports}
use Rattle.exam.specs.Promise.{Answer, State, Leaves}
use Rattle.lines.specs.declared.Ask.{Ask as Op}
use Rattle.lines.specs.Reading.{call_of}
use Rattle.text.specs.Writing.{Wrote}
use Rattle.text.proofs.Writing.{wrote_as}
use Rattle.script.specs.Running.{Running, Does, Enters, Loans, Stands, Turned, line_by, world_by}
use Rattle.script.proofs.Answers.{accepted, boot_line, call_line, stats_call}
use Rattle.script.proofs.Writing.{wrote_nothing}

module _ (board : Board) where
  -- a command where it is known whether a boot was accepted
  does
      : (c : Command) (name : List ℕ) {r r' : Running} (b : Bool) → r.booted ≡ b
      → ((x : RunningOn) → Stands r x → Turned (command_on board x name c b) r r') → Does board c name r r'
  does c name {r} {r'} b e f x S = subst (λ (y : Bool). Turned (command_on board x name c y) r r') (sym (S.booted ∙ e)) (f x S)

-- ---- a region

-- an entry that has a place, and one that has none
pub enters_place : (map : List MemoryRegion) (n : ℕ) (m : MemoryRegion) → length map ≡ 8 → n < 8 → Enters map n m (set map n m)
enters_place map n m k h xs l e =
    let a : take 8 (xs ++ (m ∷ [])) ≡ xs ++ (m ∷ []) = take_all 8 (xs ++ (m ∷ [])) (rw (length-append xs (m ∷ [])) (omega arith)) in
    let b : xs ≡ take n map = sym (take_all 8 xs (omega arith)) ∙ e in
    a ∙ ap (λ (ys : List MemoryRegion). ys ++ (m ∷ [])) b ∙ rw add-one (sym (take-suc-set map n m (omega arith)))

pub enters_none : (map : List MemoryRegion) (n : ℕ) (m : MemoryRegion) → length map ≡ 8 → 8 ≤ n → Enters map n m map
enters_none map n m k h xs l e =
    take-append-le 8 xs (m ∷ []) (omega arith) ∙ e ∙ take_all n map (omega arith) ∙ sym (take_all (n + 1) map (omega arith))

module _ (board : Board) where
  pub turned_region
      : {r : Running} (name : List ℕ) {m : MemoryRegion} {map : List MemoryRegion} → r.booted ≡ false → Enters r.map r.count m map
      → Does board (AddRegion m) name r (record r { map = map; count = r.count + 1 })
  turned_region {r} name {m} early f =
      does board (AddRegion m) name false early
      (λ x S. record {
        stands = record {
          world = S.world;
          booted = sym early;
          long = length-append x.map (m ∷ []) ∙ ap (λ (k : ℕ). k + 1) S.long;
          front = f x.map S.long S.front;
        };
        wrote = wrote_nothing r.answer r.at;
      })

-- ---- the calls

module _ (board : Board) where
  module _ {r : Running} {l : Loans} {out : List ℕ} {n : ℕ} {s : State} (name : List ℕ) where
    pub turned_boot
        : {y : Answer} {b : Bool} → r.booted ≡ false → b ≡ is_ok y
        → BootsAll board r.map r.count (world_by r.state r.loans) (world_by s l) y → Wrote r.answer r.at (line_by name y) out n
        → Does board BootNow name r (record r { booted = b; state = s; loans = l; answer = out; at = n })
    turned_boot {y} {b} early e B w = does board BootNow name false early f
      where
        f : (x : RunningOn) → Stands r x → Turned (command_on board x name BootNow false) r
            (record r { booted = b; state = s; loans = l; answer = out; at = n })
        f x S =
            let o : Boots board x.map x.world (world_by s l) y
            = subst (λ (v : World). Boots board x.map v (world_by s l) y) (sym S.world) (B x.map S.long S.front) in
            record {
              stands = record {
                world = o.world;
                booted = accepted (boot_call board x.map x.world).answer o.answer ∙ sym e;
                long = S.long;
                front = S.front;
              };
              wrote = wrote_as (boot_line board name x.map x.world o.answer) w;
            }

    -- a call whose text is the one that its answer has
    turned_as : (c : Call) → r.booted ≡ true → (call board (world_by r.state r.loans) c).world ≡ world_by s l
        → Wrote r.answer r.at (answer_line name (call board (world_by r.state r.loans) c).answer) out n
        → Does board (Ask c) name r (record r { state = s; loans = l; answer = out; at = n })
    turned_as c late v w =
        does board (Ask c) name true late
        (λ x S. record {
          stands = record {
            world = ap (λ (u : World). (call board u c).world) S.world ∙ v;
            booted = sym late;
            long = S.long;
            front = S.front;
          };
          wrote = wrote_as (ap (λ (u : World). answer_line name (call board u c).answer) (sym S.world)) w;
        })

    pub turned_call
        : {y : Answer} (op : Op) (k : ℕ → ℕ) → r.booted ≡ true
        → Leaves board (world_by r.state r.loans) (call_of op k) (world_by s l) y → Wrote r.answer r.at (line_by name y) out n
        → Does board (Ask (call_of op k)) name r (record r { state = s; loans = l; answer = out; at = n })
    turned_call op k late L w =
        turned_as (call_of op k) late L.world (wrote_as (call_line board name op k (world_by r.state r.loans) L.answer) w)

module _ (board : Board) where
  -- the statistics leave all as it is
  pub turned_stats
      : {r : Running} {p : Report} {out : List ℕ} {n : ℕ} → r.booted ≡ true → sound board (world_by r.state r.loans) ≡ true
      → ((i : ℕ) → get_or r.loans.records i 0 < 256) → Reports r.state.counters p → Wrote r.answer r.at (take p.len p.text) out n
      → Does board (Ask Stats) (bytes_of "stats") r (record r { answer = out; at = n })
  turned_stats {r} late sure small R w =
      let v : World = world_by r.state r.loans in
      let e : call board v Stats ≡ record { world = v; answer = Text (tracker_stats r.state.counters) } = stats_call board v sure small in
      turned_as board {r = r} {l = r.loans} {s = r.state} (bytes_of "stats") Stats late (ap (λ (x : Left). x.world) e)
      (wrote_as (R.text ∙ sym (ap (λ (x : Left). answer_line (bytes_of "stats") x.answer) e)) w)
