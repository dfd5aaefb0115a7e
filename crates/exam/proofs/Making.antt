-- A call's promise (`Made`) from what its tests found and what it left: refused, the world stays; done, `left_whole` and `left_written` put together the table that
-- it turned, the bytes that it wrote, and the counters, queue and pass. `leaves_made` is the one law at the door: with the torn test before it, a call is
-- definition's `call`; `sound_ready` is what the test gives.
use Prim.Native.Nat.{ℕ, ◌+◌, ◌*◌, ◌/◌, ◌≤◌, ◌<◌}
use mathlib.Core.Bool.{true}
use mathlib.Core.List.{List}
use mathlib.Core.Option.{none, some}
use mathlib.Core.Path.{◌≡◌, refl, sym, ap, ◌∙◌}
use Rattle.std.specs.Prelude.{Result, Ok, Err}
use native.Mathlib.Omega.{arith}
use borrow.Author.Tests.{leb-true}
use mir.Syntax.{w8}
use mir.Val.{Fits}
use lib.Dec.{leb}
use lib.ListN.{drop, get_or, length, take}
use Rattle.definition.specs.declared.Counters.{Counters}
use Rattle.definition.specs.declared.Record.{Record}
use Rattle.definition.specs.declared.Refusal.{Refusal}
use Rattle.definition.specs.declared.Row.{Row}
use Rattle.definition.specs.Board.{Board}
use Rattle.definition.specs.Boot.{managed_pages, overlap, record_size}
use Rattle.definition.specs.Contents.{frame_bytes}
use Rattle.definition.specs.Refusal.{first_met}
use Rattle.definition.specs.Calls.{Call, Outcome, Refused, done, names, perform, sheet, step}
use Rattle.definition.specs.Store.{Kept, Store}
use Rattle.definition.specs.World.{World, decode, encode, record_at}
use Rattle.definition.specs.Torn.{Sound, call, sound}
use Rattle.definition.proofs.Bytes.{pages_same}
use Rattle.definition.proofs.Tests.{and_left, and_right}
use Rattle.record.specs.Records.{pages_in}
use Rattle.words.specs.Words.{board_in, Long, pass_in}
use Rattle.audit.proofs.Sheets.{sound_is}
use Rattle.world.specs.Refusals.{frame_refusal, range_of, refusal_of}
use Rattle.world.specs.Tables.{Table, Turned}
use Rattle.world.proofs.Encoding.{ends_agree, stands_encode}
use Rattle.world.proofs.RoundTrip.{decode_stands, sound_sane}
use Rattle.world.proofs.Sheets.{as_boot_lem}
use Rattle.world.proofs.Spans.{managed_spans, rewritten_same, spans_bare, spans_turned, turned_bare}
use Rattle.world.proofs.Writing.{Rewritten}
use Rattle.allocator.specs.declared.Seen.{Seen}
use Rattle.allocator.specs.Spots.{SeesPage, number_at}
use Rattle.allocator.proofs.Turning.{sees_number}
use Rattle.exam.specs.Making.{Made, Makes, Ready, Whole, world}
use Rattle.exam.specs.Promise.{Answer, HeldSeen, Leaves, Looks, bytes_if, refusal_in, reply, told}
use Rattle.exam.proofs.Bounds.{idle_small, kernel_small, page_small}
use Rattle.exam.proofs.Tests.{bytes_seen}

-- what is known of a lent slice's bytes, as a number
pub bytes_small : (bs : List ℕ) → ((i : ℕ) → Fits w8 (get_or bs i 0)) → (i : ℕ) → get_or bs i 0 < 256
bytes_small bs fits i = omega (arith, fits i)

-- ---- the frame that a look found

pub looked_held
    : {board : Board} {f : ℕ → Record} {n : ℕ} {rows : List Row} {a off len : ℕ} {r : Seen} → Looks board f n rows a off len (Ok r)
    → HeldSeen board f rows r
looked_held {r = r} L = (L.found r refl).held

-- ---- the door

module _ {board : Board} where
  -- a sound world is whole
  pub sound_whole : (w : World) → sound board w ≡ true → ((i : ℕ) → get_or w.records i 0 < 256) → Whole board w (decode board w)
  sound_whole w t bytes =
      let S = sound_is board w t in
      record { sane = sound_sane w S; apart = (as_boot_lem w.rows S.rows).apart; stands = decode_stands w S; bytes = bytes }

  -- where the test found it so, what a call makes is definition's `call`
  pub leaves_made
      : {c : Call} {w v : World} {y : Answer} → sound board w ≡ true → ((i : ℕ) → get_or w.records i 0 < 256) → Makes board c w v y → Leaves board w c v y
  unfolding call
  leaves_made {w = w} t bytes M =
      let m = M (decode board w) (sound_whole w t bytes) in
      record { world = rw t m.world; answer = rw t m.answer }

-- what the test gives the calls
pub sound_ready : (k : Counters) (ws rs m q : List ℕ) → Long ws → sound (board_in ws) (world k ws rs m q) ≡ true → Ready k ws rs m q
sound_ready k ws rs m q long t =
    let b = board_in ws in
    let w = world k ws rs m q in
    let S : Sound b w = sound_is b w t in
    let d = decode_stands w S in
    record {
      table = (long, sound_sane w S);
      room = omega (arith, d.fits, pages_same b.page (spans_bare (managed_spans b) d.rows));
      few = record { idle = idle_small w S; kernel = kernel_small w S; page = page_small w S };
      pass =
          record {
            queued = d.queued;
            rounds = leb-true (pass_in ws).rounds (b.max_rounds + 1) (and_left _ _ S.pass);
            freed = leb-true (pass_in ws).freed (b.per_round * (pass_in ws).rounds) (and_right (leb (pass_in ws).rounds (b.max_rounds + 1)) _ S.pass);
          };
    }

-- ---- refused, or done

module _ (board : Board) (s : Store) (c : Call) where
  step_refused : (r : Refusal) → first_met (sheet board s (names c)) ≡ some r → step board s c ≡ record { store = s; answer = Refused r }
  unfolding step
  step_refused r e = rw e refl

  step_done : first_met (sheet board s (names c)) ≡ none → step board s c ≡ perform board s c
  unfolding step
  step_done e = rw e refl

module _ {board : Board} {w : World} {s : Store} (H : Whole board w s) where
  pub whole_table : Table board (record_at w.records) (pages_in w.records) w.rows s.allocator
  whole_table = record { sane = H.sane; stands = H.stands.rows }

  -- the same by the length of the records that are left
  pub table_as_long : (bs : List ℕ) → length bs ≡ length w.records → Table board (record_at w.records) (pages_in bs) w.rows s.allocator
  table_as_long bs e = let same : pages_in bs ≡ pages_in w.records = ap (λ (n : ℕ). n / record_size) e in rw same whole_table

  pub made_refused : (c : Call) (r : Refusal) → refusal_of board s c ≡ some r → Made board (step board s c) w w (Err r)
  made_refused c r e =
      rw (step_refused board s c r e) (record { whole = H; world = stands_encode w w s H.stands H.bytes refl refl refl; answer = refl })

  pub made_done
      : (c : Call) (o : Outcome) (v : World) → refusal_of board s c ≡ none → perform board s c ≡ o → Whole board v o.store → encode board o.store w ≡ v
      → Made board (step board s c) w v (told o.answer)
  made_done c o v e p W d = rw (step_done board s c e, p) (record { whole = W; world = d; answer = refl })

  -- where the store stays
  pub made_same
      : (c : Call) (o : Outcome) → refusal_of board s c ≡ none → perform board s c ≡ o → o.store ≡ s → Made board (step board s c) w w (told o.answer)
  made_same c o e p d =
      made_done c o w e p (rw d H) (rw d (stands_encode w w s H.stands H.bytes refl refl refl))

  -- nothing is written
  pub unwritten : Rewritten board s.allocator.regions w.memory s.memory w.memory
  unwritten = record { memory = H.stands.memory; as_long = refl; beyond = refl }

  -- no record changes
  pub unturned : Turned board (record_at w.records) w.rows (record_at w.records) (pages_in w.records) w.rows s.allocator
  unturned = record { table = whole_table; spans = refl; outside = λ q h. refl }

  -- ---- what is left

  module _
      (t : Store) (v : World)
      (turned : Turned board (record_at w.records) w.rows (record_at v.records) (pages_in v.records) v.rows t.allocator)
      (as_long : length v.records ≡ length w.records) (bytes : (i : ℕ) → get_or v.records i 0 < 256)
      (written : Rewritten board s.allocator.regions w.memory t.memory v.memory) (counters : t.counters ≡ v.counters)
      (pass : t.pass ≡ v.pass) (queue : t.queue ≡ take v.queued v.queue) (queued : v.queued ≤ length v.queue)
      (kept : t.kept ≡ s.kept) (places : length v.queue ≡ length w.queue)
    where
      turned_here : Turned board (record_at w.records) w.rows (record_at v.records) (pages_in w.records) v.rows t.allocator
      turned_here = let same : pages_in v.records ≡ pages_in w.records = ap (λ (n : ℕ). n / record_size) as_long in rw (← same) turned

      same_managed : managed_pages board t.allocator.regions ≡ managed_pages board s.allocator.regions
      same_managed = spans_turned (managed_spans board) whole_table turned_here

      here : Rewritten board t.allocator.regions w.memory t.memory v.memory
      here = rewritten_same board s.allocator.regions t.allocator.regions (turned_bare whole_table turned_here) written

      pub left_whole : Whole board v t
      left_whole =
          record {
            sane = turned.table.sane;
            apart = ap (overlap board) turned.spans ∙ H.apart;
            stands =
                record {
                  eight = turned.table.sane.eight;
                  unused = turned.table.sane.unused;
                  rows = turned.table.stands;
                  counters = counters;
                  pass = pass;
                  queue = queue;
                  queued = queued;
                  room = ap (λ (k : Kept). k.room) kept ∙ H.stands.room ∙ sym places;
                  fits = omega (arith, here.as_long, pages_same board.page same_managed, H.stands.fits);
                  memory = here.memory;
                };
            bytes = bytes;
          }

      pub left_written : drop v.queued v.queue ≡ drop v.queued w.queue → encode board t w ≡ v
      left_written behind =
          let m = same_managed ∙ spans_bare (managed_spans board) H.stands.rows in
          stands_encode w v t left_whole.stands bytes
          (ends_agree v.records w.records (managed_pages board t.allocator.regions) as_long bytes H.bytes
          (λ q h. turned.outside q (omega (arith, m))))
          here.beyond
          behind

      -- the call's promise, where it leaves that store
      pub made_left
          : (c : Call) (a n : ℕ) → refusal_of board s c ≡ none → perform board s c ≡ done t a n → drop v.queued v.queue ≡ drop v.queued w.queue
          → Made board (step board s c) w v (Ok (reply a n))
      made_left c a n e p behind = made_done c (done t a n) v e p left_whole (left_written behind)

  -- ---- of a held frame that was looked at

  module _ {a off len : ℕ} {x : Result Seen Refusal} (L : Looks board (record_at w.records) (pages_in w.records) w.rows a off len x) where
    pub looked_refused
        : (c : Call) → refusal_of board s c ≡ frame_refusal board s (range_of a off len) → (e : Refusal) → x ≡ Err e → Made board (step board s c) w w (Err e)
    looked_refused c same e k = made_refused c e (same ∙ L.refusal s whole_table ∙ ap refusal_in k)

    module _ (r : Seen) (k : x ≡ Ok r) where
      pub looked_free : frame_refusal board s (range_of a off len) ≡ none
      looked_free = L.refusal s whole_table ∙ ap refusal_in k

      pub looked_page : SeesPage board (record_at w.records) w.rows (a / board.page) s.allocator r
      looked_page = (L.found r k).sees s.allocator whole_table

      pub looked_number : number_at board w.rows r.spot ≡ a / board.page
      looked_number = sees_number looked_page

      pub looked_bytes : frame_bytes board s (a / board.page) ≡ bytes_if board r
      looked_bytes = bytes_seen s a off len r looked_page
