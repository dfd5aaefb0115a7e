-- The promise of a grant. A world that holds a store is what a grant asks for (`lends`), and what it gives is what definition's `step`
-- makes of that store (`alloc_made`, `take_made`); where a refusal was met, the world stays (`asked_refused`).
use Prim.Native.Nat.{ℕ, ◌*◌, ◌<◌}
use mathlib.Core.Bool.{Bool, true, false}
use mathlib.Core.List.{List}
use mathlib.Core.Option.{Option, none, some}
use mathlib.Core.Path.{◌≡◌, refl, sym, ap, ◌∙◌}
use Rattle.std.specs.Prelude.{Ok, Err, Some, None}
use Rattle.std.specs.Prelude.{Option as MayBe}
use lib.ListN.{length, get_or, take}
use mir.Syntax.{w8}
use mir.Val.{Fits}
use Rattle.definition.specs.declared.Counters.{Counters}
use Rattle.definition.specs.declared.FrameAllocFlags.{FrameAllocFlags}
use Rattle.definition.specs.declared.Refusal.{Refusal}
use Rattle.definition.specs.Allocator.{do_alloc}
use Rattle.definition.specs.Basics.{everywhere}
use Rattle.definition.specs.Board.{Board}
use Rattle.definition.specs.Store.{Store}
use Rattle.definition.specs.Tracker.{Granted as GrantedOf, try_alloc_frame, try_alloc_split_frames}
use Rattle.definition.specs.Calls.{Alloc, Call, Layout, Take, bytes_of_level, done, find_level, hands, mine, perform, step}
use Rattle.definition.specs.World.{World, record_at}
use Rattle.level.specs.declared.Level.{Level}
use Rattle.level.specs.Level.{rank}
use Rattle.record.specs.Records.{pages_in}
use Rattle.world.specs.Refusals.{refusal_of}
use Rattle.world.proofs.Spans.{overlap_spans, spans_bare}
use Rattle.allocator.specs.Spots.{number_at}
use Rattle.exam.specs.Making.{Grants, Made, Whole}
use Rattle.exam.specs.Promise.{Answer, State, reply, world_of}
use Rattle.exam.proofs.Making.{bytes_small, made_left, made_refused, table_as_long, whole_table}
use Rattle.grants.specs.declared.Granted.{Granted as GrantedFrame}
use Rattle.grants.specs.Granting.{Finds, Gives, GivesBy, Granted, Lends, Wants, asking, handed, page_of}
use Rattle.grants.proofs.Marking.{split_none, split_some, try_none, try_some}

-- ---- what a grant keeps of a store

record Kept (s t : Store) : Type 0 where
  pub queue : t.queue ≡ s.queue
  pub kept : t.kept ≡ s.kept
  pub pass : t.pass ≡ s.pass

module _ (board : Board) where
  module _ (l : ℕ) (flags : FrameAllocFlags) (s : Store) where
    try_keeps : Kept s (try_alloc_frame board everywhere l flags s).store
    try_keeps = go (do_alloc everywhere l flags.zeroed s.allocator).page refl
      where
        go : (o : Option ℕ) → (do_alloc everywhere l flags.zeroed s.allocator).page ≡ o
            → Kept s (try_alloc_frame board everywhere l flags s).store
        go none e = rw (try_none board l flags s e) (record { queue = refl; kept = refl; pass = refl })
        go (some p) e = rw (try_some board l flags s p e) (record { queue = refl; kept = refl; pass = refl })

    split_keeps : Kept s (try_alloc_split_frames board everywhere l flags s).store
    split_keeps = go (try_alloc_frame board everywhere l flags s).page refl
      where
        go : (o : Option ℕ) → (try_alloc_frame board everywhere l flags s).page ≡ o
            → Kept s (try_alloc_split_frames board everywhere l flags s).store
        go none e = rw (split_none board l flags s e) try_keeps
        go (some p) e =
            let K = try_keeps in rw (split_some board l flags s p e) (record { queue = K.queue; kept = K.kept; pass = K.pass })

-- ---- what it hands out

module _ (board : Board) where
  module _ (l : ℕ) (x : GrantedOf) where
    hands_some : (p : ℕ) → x.page ≡ some p → hands board l x ≡ done x.store (board.page * p) (bytes_of_level board l)
    hands_some p e = rw e refl

    hands_none : x.page ≡ none → hands board l x ≡ done x.store 0 0
    hands_none e = rw e refl

  module _ (s : Store) (y : Layout) {l : ℕ} (e : l ≡ find_level board y) where
    performs_alloc : perform board s (Alloc y) ≡ hands board l (try_alloc_frame board everywhere l y.flags s)
    unfolding perform mine
    performs_alloc = ap (λ (k : ℕ). hands board k (try_alloc_frame board everywhere k y.flags s)) (sym e)

    performs_take : perform board s (Take y) ≡ hands board l (try_alloc_split_frames board everywhere l y.flags s)
    unfolding perform mine
    performs_take = ap (λ (k : ℕ). hands board k (try_alloc_split_frames board everywhere k y.flags s)) (sym e)

-- ---- the calls

abbrev state_in : World → State
state_in w = record { rows = w.rows; counters = w.counters; queued = w.queued; pass = w.pass }

module _ {board : Board} {w : World} {s : Store} (H : Whole board w s) where
  -- what is left, by the records and the memory: what a grant asks for, and what it makes of it
  module _ (bs ms : List ℕ) (as_long : length bs ≡ length w.records) (small : (i : ℕ) → get_or bs i 0 < 256) where
    lends : Lends board (record_at w.records) (pages_in bs) (state_in w) w.memory s
    lends =
        let S = H.stands in
        record {
          table = table_as_long H bs as_long;
          apart = spans_bare (overlap_spans board) S.rows ∙ H.apart;
          fits = S.fits;
          memory = S.memory;
          counters = S.counters;
        }

    abbrev left_by : Granted → World
    left_by r = world_of r.state bs ms w.queue

    module _ {r : Granted} (F : Finds board (state_in w) r) where
      handed_made
          : (c : Call) (l : ℕ) {x : GrantedOf} → refusal_of board s c ≡ none → perform board s c ≡ hands board l x
          → Gives board (record_at w.records) (state_in w) w.memory s x (record_at bs) (pages_in bs) ms r → Kept s x.store
          → Made board (step board s c) w (left_by r) (Ok (handed board r.frame l))
      handed_made c l {x} z e G K = go r.frame refl
        where
          left : (a n : ℕ) → perform board s c ≡ done x.store a n → Made board (step board s c) w (left_by r) (Ok (reply a n))
          left a n p =
              let S = H.stands in
              made_left H x.store (left_by r) G.turned as_long small (record { memory = G.memory; as_long = G.as_long; beyond = G.beyond })
              G.counters
              (K.pass ∙ S.pass ∙ sym F.pass)
              (K.queue ∙ S.queue ∙ ap (λ (n : ℕ). take n w.queue) (sym F.queued))
              (rw F.queued S.queued)
              K.kept
              refl
              c a n z p refl

          page : {o : MayBe GrantedFrame} → r.frame ≡ o → x.page ≡ page_of board r.state.rows o
          page d = G.page ∙ ap (page_of board r.state.rows) d

          go : (o : MayBe GrantedFrame) → r.frame ≡ o → Made board (step board s c) w (left_by r) (Ok (handed board o l))
          go (Some t) d =
              let p = number_at board r.state.rows t.spot in
              rw (F.address t d) (left (board.page * p) (bytes_of_level board l) (e ∙ hands_some board l x p (page d)))
          go None d = left 0 0 (e ∙ hands_none board l x (page d))

      module _ {y : Layout} {l : Level} (W : Wants board (record_at w.records) (pages_in w.records) w.rows y (Ok l)) where
        abbrev Given : (Store → GrantedOf) → Type 0
        Given op = GivesBy board op (record_at w.records) (state_in w) w.memory (record_at bs) (pages_in bs) ms r

        pub alloc_made
            : Given (try_alloc_frame board everywhere (rank l) y.flags)
            → Made board (step board s (Alloc y)) w (left_by r) (Ok (handed board r.frame (rank l)))
        alloc_made G =
            handed_made (Alloc y) (rank l) (W.refusal s (whole_table H)) (performs_alloc board s y (W.found l refl)) (G s lends)
            (try_keeps board (rank l) y.flags s)

        pub take_made
            : Given (try_alloc_split_frames board everywhere (rank l) y.flags)
            → Made board (step board s (Take y)) w (left_by r) (Ok (handed board r.frame (rank l)))
        take_made G =
            handed_made (Take y) (rank l) (W.refusal s (whole_table H)) (performs_take board s y (W.found l refl)) (G s lends)
            (split_keeps board (rank l) y.flags s)

  module _ {y : Layout} {e : Refusal} (W : Wants board (record_at w.records) (pages_in w.records) w.rows y (Err e)) where
    pub asked_refused : (split : Bool) → Made board (step board s (asking split y)) w w (Err e)
    asked_refused true = made_refused H (Take y) e (W.refusal s (whole_table H))
    asked_refused false = made_refused H (Alloc y) e (W.refusal s (whole_table H))

-- ---- of the loans that a call was given, which are as they were left

pub grants_lent
    : (c : Call) {k k1 k2 : Counters} (ws rs m ws1 rs1 m1 : List ℕ) {ws2 rs2 m2 : List ℕ} {y : Answer}
    → (((i : ℕ) → get_or rs1 i 0 < 256) → Grants c k ws rs m k1 ws1 rs1 m1 y) → k2 ≡ k1 → ws2 ≡ ws1 → rs2 ≡ rs1 → m2 ≡ m1
    → ((i : ℕ) → Fits w8 (get_or rs2 i 0)) → Grants c k ws rs m k2 ws2 rs2 m2 y
grants_lent c ws rs m ws1 rs1 m1 G same words records memory fits q s H =
    rw (same, words, records, memory) (G (bytes_small rs1 (rw records at fits)) q s H)
