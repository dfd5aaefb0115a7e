-- The turns of a round. `Went` names the store that so many turns reach, from which the definition's round goes on to the result that it has from the start;
-- each turn drops an address or frees its frame. `Going` is the loop's invariant, for every store that the state is of.
use Prim.Native.Nat.{ℕ, suc, ◌+◌, ◌-◌, ◌*◌, ◌/◌, ◌%◌, ◌≤◌, ◌<◌}
use mathlib.Core.Bool.{Bool, true, false, not, cond, ◌&&◌}
use mathlib.Core.List.{List, [], ◌∷◌, ◌++◌}
use mathlib.Core.Option.{Option, none, some}
use mathlib.Core.Path.{◌≡◌, refl, sym, ap, ◌∙◌}
use native.Mathlib.Omega.{arith}
use borrow.Author.Tests.{le-ltb}
use lib.Dec.{eqb}
use lib.ListN.{length, get_or, take}
use lib.Seq.{take-suc}
use Rattle.definition.specs.declared.Record.{Record}
use Rattle.definition.specs.declared.Row.{Row}
use Rattle.definition.specs.declared.Counters.{Counters}
use Rattle.definition.specs.declared.Refusal.TheVariants.{Outside, NoFrameStart, NotHeld, PastTheEnd}
use Rattle.definition.specs.Basics.{Popped, or_this, pop_last, pop_back}
use Rattle.definition.specs.Board.{Board}
use Rattle.definition.specs.Refusal.{◌when◌, first_met}
use Rattle.definition.specs.Frame.{size}
use Rattle.definition.specs.Allocator.{PhysicalFrameAllocator, is_managed}
use Rattle.definition.specs.Contents.{frame_bytes}
use Rattle.definition.specs.Store.{Store, with_allocator, with_counters, with_queue}
use Rattle.definition.specs.Tracker.{
  Reclaimed as ReclaimedOf,
  can_be_freed,
  count_free,
  free_frame,
  free_or_drop,
  is_held,
  one_more,
  reclaim_up_to,
  starts_frame,
}
use Rattle.definition.specs.Calls.{leaves_frame}
use Rattle.level.proofs.Sizes.{size_most}
use Rattle.world.specs.Refusals.{frame_refusal, range_of}
use Rattle.world.specs.Tables.{Sane, Turned}
use Rattle.allocator.specs.declared.Seen.{Seen}
use Rattle.allocator.specs.Spots.{SeesPage, TurnsBy, free_at}
use Rattle.allocator.proofs.Standing.{sane_table, standing}
use Rattle.allocator.proofs.Turning.{sees_number}
use Rattle.std.specs.Prelude.{Result, Ok, Err}
use Rattle.definition.specs.declared.Refusal.{Refusal}
use Rattle.exam.specs.Promise.{State, Looks, refusal_in}
use Rattle.frames.specs.Freeing.{Released}
use Rattle.frames.proofs.Promised.{free_store}
use Rattle.reclaim.specs.Rounds.{IsOf, Reclaims}

-- ---- the queue's last address

pop_back_lem : (xs : List ℕ) (x : ℕ) → pop_back (xs ++ (x ∷ [])) ≡ some (record { rest = xs; last = x })
unfolding pop_last
pop_back_lem [] x = refl
pop_back_lem (y ∷ ys) x = ap (or_this true y (ys ++ (x ∷ []))) (pop_back_lem ys x)

pop_take : (places : List ℕ) (q : ℕ) → 0 < q → q ≤ length places
    → pop_back (take q places) ≡ some (record { rest = take (q - 1) places; last = get_or places (q - 1) 0 })
pop_take places q h l =
    let n : q ≡ suc (q - 1) = omega arith in
    let e : take q places ≡ take (q - 1) places ++ (get_or places (q - 1) 0 ∷ []) =
    ap (λ (k : ℕ). take k places) n ∙ take-suc places (q - 1) 0 (omega arith)
    in
    ap pop_back e ∙ pop_back_lem (take (q - 1) places) (get_or places (q - 1) 0)

pop_none : (places : List ℕ) (q : ℕ) → q ≡ 0 → pop_back (take q places) ≡ none
unfolding pop_last
pop_none places q e = ap (λ (k : ℕ). pop_back (take k places)) e

-- ---- an address can be freed where its frame meets no refusal

abbrev of_tests : (m b h l : Bool) → Option Refusal
of_tests m b h l = first_met ((Outside when not m) ∷ (NoFrameStart when not b) ∷ (NotHeld when not h) ∷ (PastTheEnd when l) ∷ [])

all_met : (m b h l : Bool) → of_tests m b h l ≡ none → (m && (b && h)) ≡ true
unfolding first_met
all_met false b h l e = absurd (let n : ◌≡◌ {A = ℕ} 0 1 = cc in omega arith)
all_met true false h l e = absurd (let n : ◌≡◌ {A = ℕ} 0 1 = cc in omega arith)
all_met true true false l e = absurd (let n : ◌≡◌ {A = ℕ} 0 1 = cc in omega arith)
all_met true true true l e = refl

one_fails : (m b h l : Bool) → l ≡ false → (r : Refusal) → of_tests m b h l ≡ some r → (m && (b && h)) ≡ false
unfolding first_met
one_fails false b h l f r d = refl
one_fails true false h l f r d = refl
one_fails true true false l f r d = refl
one_fails true true true l f r d = absurd (let n : ◌≡◌ {A = ℕ} 0 1 = cc in omega arith)

module _ (board : Board) where
  module _ (s : Store) (a : ℕ) where
    abbrev managed : Bool
    managed = is_managed board s.allocator.regions (a / board.page)

    can_free : frame_refusal board s (range_of a 0 0) ≡ none → can_be_freed board s a ≡ true
    can_free e = all_met managed (starts_frame board s a) (is_held board s a) (leaves_frame board s (range_of a 0 0)) e

    can_not_free : (r : Refusal) → frame_refusal board s (range_of a 0 0) ≡ some r → can_be_freed board s a ≡ false
    can_not_free r e =
        one_fails managed (starts_frame board s a) (is_held board s a) (leaves_frame board s (range_of a 0 0))
        (le-ltb (frame_bytes board s (a / board.page)) 0 (omega arith)) r e

-- ---- the store that a free leaves, by what was seen

module _ (board : Board) where
  abbrev freed_of : Store → ℕ → Seen → Store
  freed_of s p r = with_counters (with_allocator s (free_at board p s.allocator)) (count_free (size r.level) (eqb (r.marks / 8 % 2) 1) s.counters)

-- ---- the turns so far

-- the same with k frames freed before
abbrev more : ℕ → ReclaimedOf → ReclaimedOf
more k x = record { store = x.store; freed = x.freed + k }

abbrev off_end : State → State
off_end st = record { rows = st.rows; counters = st.counters; queued = st.queued - 1; pass = st.pass }

module _ (board : Board) where
  -- the store that was reached after i turns of a round of `limit`, of which `freed` freed a frame
  pub record Went (f₀ : ℕ → Record) (n : ℕ) (st : State) (places : List ℕ) (limit : ℕ) (f : ℕ → Record) (next : State) (freed i : ℕ) (s : Store) : Type 0 where
    pub present : Store
    pub is : IsOf board f n next places present
    pub turned : Turned board f₀ st.rows f n next.rows present.allocator
    pub memory : present.memory ≡ s.memory
    pub kept : present.kept ≡ s.kept
    pub same_pass : present.pass ≡ s.pass
    pub result : reclaim_up_to board limit s ≡ more freed (reclaim_up_to board (limit - i) present)

module _ {board : Board} where
  went_start : {f : ℕ → Record} {n : ℕ} {st : State} {places : List ℕ} (limit : ℕ) {s : Store} → IsOf board f n st places s → Went board f n st places limit f st 0 0 s
  went_start limit {s} I =
      let x = reclaim_up_to board limit s in
      let z : limit ≡ limit - 0 = omega arith in
      record {
        present = s;
        is = I;
        turned = record { table = I.table; spans = refl; outside = λ q h. refl };
        memory = refl;
        kept = refl;
        same_pass = refl;
        result = ap (λ (k : ℕ). record { store = x.store; freed = k }) (omega arith) ∙ ap (λ (k : ℕ). more 0 (reclaim_up_to board k s)) z;
      }

  turned_then
      : {f g h : ℕ → Record} {n : ℕ} {rows rows2 rows3 : List Row} {a b : PhysicalFrameAllocator}
      → Turned board f rows g n rows2 a → Turned board g rows2 h n rows3 b → Turned board f rows h n rows3 b
  turned_then T U =
      record {
        table = U.table;
        spans = U.spans ∙ T.spans;
        outside = λ q l. U.outside q (rw T.spans l) ∙ T.outside q l;
      }

  module _
      {f₀ : ℕ → Record} {n : ℕ} {st : State} {places : List ℕ} {limit : ℕ} {f : ℕ → Record} {next : State} {freed i : ℕ} {s : Store}
      (W : Went board f₀ n st places limit f next freed i s)
    where
      abbrev t : Store
      t = W.present

      -- no turn is left
      went_all : limit ≤ i → reclaim_up_to board limit s ≡ record { store = t; freed = freed }
      unfolding reclaim_up_to
      went_all h =
          let z : limit - i ≡ 0 = omega arith in
          W.result ∙ ap (λ (k : ℕ). more freed (reclaim_up_to board k t)) z ∙ ap (λ (k : ℕ). record { store = t; freed = k }) (omega arith)

      module _ (h : i < limit) where
        abbrev k : ℕ
        k = limit - (i + 1)

        one_turn : (o : Option Popped) → pop_back t.queue ≡ o → reclaim_up_to board limit s ≡ more freed (free_or_drop board (reclaim_up_to board k) t o)
        unfolding reclaim_up_to
        one_turn o e =
            let z : limit - i ≡ suc k = omega arith in
            W.result ∙ ap (λ (m : ℕ). more freed (reclaim_up_to board m t)) z ∙ ap (λ (x : Option Popped). more freed (free_or_drop board (reclaim_up_to board k) t x)) e

        -- the queue is empty
        went_empty : next.queued ≡ 0 → reclaim_up_to board limit s ≡ record { store = t; freed = freed }
        went_empty e =
            one_turn none (ap pop_back W.is.queue ∙ pop_none places next.queued e) ∙ ap (λ (m : ℕ). record { store = t; freed = m }) (omega arith)

        module _ (some_left : 0 < next.queued) where
          abbrev a : ℕ
          a = get_or places (next.queued - 1) 0

          abbrev u : Store
          u = with_queue t (take (next.queued - 1) places)

          turn : (b : Bool) → can_be_freed board u a ≡ b
              → reclaim_up_to board limit s ≡ more freed (cond b (one_more (reclaim_up_to board k (free_frame board u (a / board.page)))) (reclaim_up_to board k u))
          turn b e =
              one_turn (some (record { rest = take (next.queued - 1) places; last = a }))
              (ap pop_back W.is.queue ∙ pop_take places next.queued some_left W.is.queued)
              ∙ ap (λ (c : Bool). more freed (cond c (one_more (reclaim_up_to board k (free_frame board u (a / board.page)))) (reclaim_up_to board k u))) e

          module _ (x : Result Seen Refusal) (L : Looks board f n next.rows a 0 0 x) where
            went_drop : (e : Refusal) → x ≡ Err e → Went board f₀ n st places limit f (off_end next) freed (i + 1) s
            went_drop e z =
                record {
                  present = u;
                  is = record { table = W.is.table; counters = W.is.counters; queue = refl; queued = omega (arith, W.is.queued) };
                  turned = W.turned;
                  memory = W.memory;
                  kept = W.kept;
                  same_pass = W.same_pass;
                  result = turn false (can_not_free board u a e (L.refusal u W.is.table ∙ ap refusal_in z));
                }

            module _ (r : Seen) (z : x ≡ Ok r) where
              sees : SeesPage board f next.rows (a / board.page) u.allocator r
              sees = (L.found r z).sees t.allocator W.is.table

              freed_is : free_frame board u (a / board.page) ≡ freed_of board u (a / board.page) r
              freed_is = free_store u (a / board.page) sees (L.found r z).held

              went_free : {g : ℕ → Record} {next2 : State} → Released board f (off_end next) r g n next2 → Went board f₀ n st places limit g next2 (freed + 1) (i + 1) s
              went_free {g} {next2} R =
                  let v = freed_of board u (a / board.page) r in
                  let y = reclaim_up_to board k v in
                  let T : Turned board f next.rows g n next2.rows v.allocator = rw (sees_number sees) at (R.turned t.allocator W.is.table) in
                  record {
                    present = v;
                    is =
                        record {
                          table = T.table;
                          counters = ap (count_free (size r.level) (eqb (r.marks / 8 % 2) 1)) W.is.counters ∙ sym R.counters;
                          queue = ap (λ (m : ℕ). take m places) (sym R.queued);
                          queued = omega (arith, W.is.queued, R.queued);
                        };
                    turned = turned_then W.turned T;
                    memory = W.memory;
                    kept = W.kept;
                    same_pass = W.same_pass;
                    result =
                        turn true (can_free board u a (L.refusal u W.is.table ∙ ap refusal_in z))
                        ∙ ap (λ (q : Store). more freed (one_more (reclaim_up_to board k q))) freed_is
                        ∙ ap (λ (m : ℕ). record { store = y.store; freed = m }) (omega arith);
                  }

-- ---- the loop's invariant

module _ (board : Board) where
  pub record Going (f₀ : ℕ → Record) (st : State) (places : List ℕ) (limit : ℕ) (f : ℕ → Record) (n : ℕ) (next : State) (freed i : ℕ) : Type 0 where
    pub sane : Sane board f n next.rows
    pub turns : i ≤ limit
    pub few : freed ≤ i
    pub queued : next.queued ≤ st.queued
    pub within : st.queued ≤ length places
    pub pass : next.pass ≡ st.pass
    pub idle : next.counters.idle ≤ st.counters.idle + 262144 * i
    pub went : (s : Store) → IsOf board f₀ n st places s → Went board f₀ n st places limit f next freed i s

module _ {board : Board} where
  pub going_start
      : {f : ℕ → Record} {st : State} {places : List ℕ} (limit : ℕ) {n : ℕ} → Sane board f n st.rows → st.queued ≤ length places → Going board f st places limit f n st 0 0
  going_start limit S l =
      record {
        sane = S;
        turns = omega arith;
        few = omega arith;
        queued = omega arith;
        within = l;
        pass = refl;
        idle = omega arith;
        went = λ s I. went_start limit I;
      }

  turns_sane
      : {f g : ℕ → Record} {n : ℕ} {rows rows2 : List Row} {op : PhysicalFrameAllocator → PhysicalFrameAllocator} → Sane board f n rows → TurnsBy board op f rows g n rows2
      → Sane board g n rows2
  turns_sane {f} {rows = rows} S T = (T (standing board f rows) (sane_table S)).table.sane

more_idle : (n : ℕ) (kernel : Bool) (c d : Counters) → d ≡ count_free n kernel c → d.idle ≡ c.idle + n
unfolding count_free
more_idle n kernel c d e = ap (λ (x : Counters). x.idle) e

module _ {board : Board} where
  module _
      {f₀ : ℕ → Record} {st : State} {places : List ℕ} {limit : ℕ} {f : ℕ → Record} {n : ℕ} {next : State} {freed i : ℕ}
      (G : Going board f₀ st places limit f n next freed i)
    where
      ended
          : limit ≤ 1000
          → ((s : Store) (I : IsOf board f₀ n st places s) → reclaim_up_to board limit s ≡ record { store = (G.went s I).present; freed = freed })
          → Reclaims board f₀ st places limit f n (record { state = next; freed = freed })
      ended m e s I =
          let W = G.went s I in
          rw (e s I)
          (record {
            turned = W.turned;
            counters = W.is.counters;
            queue = W.is.queue;
            queued = G.queued;
            pass = G.pass;
            freed = refl;
            few = omega (arith, G.few, G.turns);
            memory = W.memory;
            kept = W.kept;
            same_pass = W.same_pass;
          })

      pub going_all : limit ≤ 1000 → limit ≤ i → Reclaims board f₀ st places limit f n (record { state = next; freed = freed })
      going_all m h = ended m (λ s I. went_all (G.went s I) h)

      module _ (h : i < limit) where
        pub going_empty : limit ≤ 1000 → next.queued ≡ 0 → Reclaims board f₀ st places limit f n (record { state = next; freed = freed })
        going_empty m e = ended m (λ s I. went_empty (G.went s I) h e)

        module _
            (some_left : 0 < next.queued) (x : Result Seen Refusal) (L : Looks board f n next.rows (get_or places (next.queued - 1) 0) 0 0 x)
          where
            pub going_drop : (e : Refusal) → x ≡ Err e → Going board f₀ st places limit f n (off_end next) freed (i + 1)
            going_drop e z =
                record {
                  sane = G.sane;
                  turns = omega arith;
                  few = omega (arith, G.few);
                  queued = omega (arith, G.queued);
                  within = G.within;
                  pass = G.pass;
                  idle = omega (arith, G.idle);
                  went = λ s I. went_drop (G.went s I) h some_left x L e z;
                }

            pub going_free
                : (r : Seen) → x ≡ Ok r → {g : ℕ → Record} {next2 : State} → Released board f (off_end next) r g n next2
                → Going board f₀ st places limit g n next2 (freed + 1) (i + 1)
            going_free r z {g} {next2} R =
                let e = more_idle (size r.level) (eqb (r.marks / 8 % 2) 1) next.counters next2.counters R.counters in
                record {
                  sane = turns_sane G.sane R.turned;
                  turns = omega arith;
                  few = omega (arith, G.few);
                  queued = omega (arith, G.queued, R.queued);
                  within = G.within;
                  pass = R.pass ∙ G.pass;
                  idle = omega (arith, G.idle, e, size_most (L.found r z).held.leveled);
                  went = λ s I. went_free (G.went s I) h some_left x L r z R;
                }
