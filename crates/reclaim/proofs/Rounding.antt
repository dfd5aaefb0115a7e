-- A round as a call: what it makes of a store (`Made`) where this is not low, where the pass is over after it, and where the pass goes on.
use Prim.Native.Nat.{ℕ, ◌+◌, ◌/◌, ◌≤◌, ◌<◌}
use mathlib.Core.Bool.{Bool, true, false, cond}
use mathlib.Core.List.{List}
use mathlib.Core.Path.{◌≡◌, refl, sym, ap, ◌∙◌}
use native.Mathlib.Omega.{arith}
use borrow.Author.Tests.{le-ltb, lt-ltb}
use lib.ListN.{length, get_or, take}
use Rattle.definition.specs.declared.Pass.{Pass}
use Rattle.definition.specs.declared.Record.{Record}
use Rattle.definition.specs.Board.{Board}
use Rattle.definition.specs.Boot.{record_size}
use Rattle.definition.specs.Store.{Store}
use Rattle.definition.specs.Tracker.{
  Reclaimed as ReclaimedOf,
  Reported,
  after_round,
  end_pass,
  go_on,
  reclaim_round,
  reclaim_up_to,
  should_reclaim,
  track_reclaimed,
  worked,
}
use Rattle.definition.specs.Calls.{Round, perform, step}
use Rattle.definition.specs.World.{World, record_at}
use Rattle.record.specs.Records.{pages_in}
use Rattle.world.specs.Tables.{Sane, Turned}
use Rattle.world.proofs.Refusing.{nothing_refused}
use Rattle.allocator.proofs.Standing.{sane_table, standing}
use Rattle.exam.specs.Making.{Made, Whole}
use Rattle.std.specs.Prelude.{Ok}
use Rattle.exam.specs.declared.Reply.{Reply}
use Rattle.exam.specs.Promise.{State, world_of, reply}
use Rattle.exam.proofs.Making.{made_left, table_as_long, unturned, unwritten}
use Rattle.reclaim.specs.Rounds.{Reclaimed, EndsPass, Reclaims, ReclaimsTo}

-- ---- the definition's round by its tests

module _ (board : Board) where
  not_low : (s : Store) → should_reclaim board s.counters ≡ false → reclaim_round board s ≡ end_pass s s.pass
  unfolding reclaim_round
  not_low s e = ap (λ (b : Bool). cond b (after_round board s.pass (reclaim_up_to board board.per_round s)) (end_pass s s.pass)) e

  low : (s : Store) → should_reclaim board s.counters ≡ true → reclaim_round board s ≡ after_round board s.pass (reclaim_up_to board board.per_round s)
  unfolding reclaim_round
  low s e = ap (λ (b : Bool). cond b (after_round board s.pass (reclaim_up_to board board.per_round s)) (end_pass s s.pass)) e

  past_limit : (p : Pass) (x : ReclaimedOf) → board.max_rounds < p.rounds → after_round board p x ≡ end_pass x.store (worked p x.freed)
  past_limit p x h =
      ap (λ (b : Bool). cond b (end_pass x.store (worked p x.freed)) (go_on x.store (worked p x.freed))) (lt-ltb board.max_rounds p.rounds h)

  within_limit : (p : Pass) (x : ReclaimedOf) → p.rounds ≤ board.max_rounds → after_round board p x ≡ go_on x.store (worked p x.freed)
  within_limit p x h =
      ap (λ (b : Bool). cond b (end_pass x.store (worked p x.freed)) (go_on x.store (worked p x.freed))) (le-ltb board.max_rounds p.rounds h)

-- ---- the frees of a round are few, whatever store there is

module _ (board : Board) where
  -- a store that a sane table is of
  abbrev store_of : (ℕ → Record) → State → List ℕ → Store
  store_of f st places =
      record {
        allocator = standing board f st.rows;
        memory = λ p. 0;
        counters = st.counters;
        queue = take st.queued places;
        kept = record { room = length places };
        pass = st.pass;
      }

module _ {board : Board} where
  pub round_few
      : (records records2 : List ℕ) → length records2 ≡ length records → {st : State} {places : List ℕ} (limit : ℕ) {r : Reclaimed}
      → Sane board (record_at records) (pages_in records) st.rows → st.queued ≤ length places
      → Reclaims board (record_at records) st places limit (record_at records2) (pages_in records2) r → r.freed ≤ 1000
  round_few records records2 e {st} {places} limit S l frees =
      let T = rw (← ap (λ (n : ℕ). n / record_size) e) at (sane_table S) in
      (frees (store_of board (record_at records) st places) (record { table = T; counters = refl; queue = refl; queued = l })).few

-- ---- the call

abbrev Bytes : List ℕ → Type 0
Bytes bs = (i : ℕ) → get_or bs i 0 < 256

abbrev with_pass_of : State → Pass → State
with_pass_of st p = record { rows = st.rows; counters = st.counters; queued = st.queued; pass = p }

module _ {board : Board} (st : State) (records memory queue : List ℕ) {s : Store} (H : Whole board (world_of st records memory queue) s) where
  abbrev w : World
  w = world_of st records memory queue

  module _ (records2 : List ℕ) (as_long : length records2 ≡ length records) (small : Bytes records2) where
    -- ---- what it leaves: the store s1, with another pass and counters

    module _
        (s1 : Store) (st1 : State)
        (turned : Turned board (record_at records) st.rows (record_at records2) (pages_in records2) st1.rows s1.allocator)
        (counters-same : s1.counters ≡ st1.counters) (memory_same : s1.memory ≡ s.memory) (kept : s1.kept ≡ s.kept)
        (queue_is : s1.queue ≡ take st1.queued queue) (fewer : st1.queued ≤ st.queued)
      where
        left : (o : Reported) → reclaim_round board s ≡ o → o.store.allocator ≡ s1.allocator → o.store.memory ≡ s1.memory
            → o.store.kept ≡ s1.kept → o.store.queue ≡ s1.queue → (st2 : State) → st2.rows ≡ st1.rows → st2.queued ≡ st1.queued
            → o.store.counters ≡ st2.counters → o.store.pass ≡ st2.pass
            → Made board (step board s Round) w (world_of st2 records2 memory queue) (Ok (reply o.pass.rounds o.pass.freed))
        unfolding perform
        left o e a m r q st2 rows queued counters pass =
            made_left H o.store (world_of st2 records2 memory queue) (rw (a, rows) turned) as_long small
            (rw (m ∙ memory_same) (unwritten H))
            counters
            pass
            (q ∙ queue_is ∙ ap (λ (k : ℕ). take k queue) (sym queued))
            (omega (arith, H.stands.queued))
            (r ∙ kept)
            refl
            Round
            o.pass.rounds
            o.pass.freed
            (nothing_refused board s)
            (rw e refl)
            refl

        over : (p : Pass) → reclaim_round board s ≡ end_pass s1 p → (st2 : State) (y : Reply) → EndsPass st1 p st2 y
            → Made board (step board s Round) w (world_of st2 records2 memory queue) (Ok y)
        over p e st2 y E =
            rw E.answer
            (left (end_pass s1 p) e refl refl refl refl st2 E.rows E.queued
            (ap (track_reclaimed p.freed) counters-same ∙ sym E.counters)
            (sym E.pass))

        goes_on : (p : Pass) → reclaim_round board s ≡ go_on s1 p
            → Made board (step board s Round) w (world_of (with_pass_of st1 p) records2 memory queue) (Ok (reply p.rounds p.freed))
        goes_on p e = left (go_on s1 p) e refl refl refl refl (with_pass_of st1 p) refl refl counters-same refl

    -- ---- where the store is low, by the frees

    module _
        (low-now : should_reclaim board st.counters ≡ true) (R : Reclaimed)
        (frees : Reclaims board (record_at records) st queue board.per_round (record_at records2) (pages_in records2) R)
      where
        abbrev x : ReclaimedOf
        x = reclaim_up_to board board.per_round s

        X : ReclaimsTo board (record_at records) st queue (record_at records2) (pages_in records2) R s x
        X =
            let S = H.stands in
            frees s (record { table = table_as_long H records2 as_long; counters = S.counters; queue = S.queue; queued = S.queued })

        worked_is : worked s.pass x.freed ≡ worked st.pass R.freed
        worked_is = ap (λ (p : Pass). worked p x.freed) H.stands.pass ∙ ap (worked st.pass) (sym X.freed)

        after : reclaim_round board s ≡ after_round board s.pass x
        after = low board s (ap (should_reclaim board) H.stands.counters ∙ low-now)

        rounds_is : s.pass.rounds ≡ st.pass.rounds
        rounds_is = ap (λ (p : Pass). p.rounds) H.stands.pass

        -- the round limit is passed
        pub round_ends
            : board.max_rounds < st.pass.rounds → (st2 : State) (y : Reply) → EndsPass R.state (worked st.pass R.freed) st2 y
            → Made board (step board s Round) w (world_of st2 records2 memory queue) (Ok y)
        round_ends h st2 y E =
            over x.store R.state X.turned X.counters X.memory X.kept X.queue X.queued
            (worked st.pass R.freed)
            (after ∙ past_limit board s.pass x (omega (arith, rounds_is)) ∙ ap (end_pass x.store) worked_is)
            st2
            y
            E

        pub round_goes_on
            : st.pass.rounds ≤ board.max_rounds
            → Made board (step board s Round) w (world_of (with_pass_of R.state (worked st.pass R.freed)) records2 memory queue)
            (Ok (reply (st.pass.rounds + 1) (st.pass.freed + R.freed)))
        round_goes_on h =
            goes_on x.store R.state X.turned X.counters X.memory X.kept X.queue X.queued
            (worked st.pass R.freed)
            (after ∙ within_limit board s.pass x (omega (arith, rounds_is)) ∙ ap (go_on x.store) worked_is)

  -- the store is not low
  pub round_rests
      : should_reclaim board st.counters ≡ false → (st2 : State) (y : Reply) → EndsPass st st.pass st2 y
      → Made board (step board s Round) w (world_of st2 records memory queue) (Ok y)
  round_rests e st2 y E =
      let S = H.stands in
      over records refl H.bytes s st (unturned H) S.counters refl refl S.queue (omega arith) st.pass
      (not_low board s (ap (should_reclaim board) S.counters ∙ e) ∙ ap (end_pass s) S.pass)
      st2
      y
      E
