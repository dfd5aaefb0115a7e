-- The words hold what was written over them. A sound world is read again as it was, and the loans stay a state's, with room for an answer (`carried`): so it is
-- after an accepted boot (`booted_world_lem`), and after a call that leaves a sound world of as many rows in use as the words have (`served_world`).
use Prim.Native.Nat.{ℕ, ◌-◌, ◌≤◌}
use mathlib.Core.Bool.{Bool, true, false, cond}
use mathlib.Core.List.{List, [], ◌∷◌}
use mathlib.Core.Path.{◌≡◌, refl, sym, ap, ◌∙◌}
use native.Mathlib.Omega.{arith}
use borrow.Author.Tests.{le-leb, leb-true}
use lib.Dec.{leb}
use lib.ListN.{length, drop, replicate}
use Rattle.definition.specs.declared.Counters.{Counters}
use Rattle.definition.specs.declared.MemoryRegion.{MemoryRegion}
use Rattle.definition.specs.declared.Pass.{Pass}
use Rattle.definition.specs.declared.Row.{Row}
use Rattle.definition.specs.declared.Refusal.{Refusal}
use Rattle.definition.specs.Board.{Board, Fit, standard}
use Rattle.definition.specs.Boot.{boot_sheet}
use Rattle.definition.specs.Calls.{Answer as AnswerOf, Call, Refused, Done, Text, Bytes}
use Rattle.definition.specs.Refusal.{first_met, number_of}
use Rattle.definition.specs.Torn.{Left, boot_call, call, sound}
use Rattle.definition.specs.World.{World, no_row, used_rows}
use Rattle.definition.proofs.Tests.{and_left, and_right, and-true}
use Rattle.record.specs.Records.{with_bytes}
use Rattle.record.proofs.Bytes.{with_length}
use Rattle.definition.proofs.Boards.{standard_fit}
use Rattle.world.proofs.RoundTrip.{sound_sane}
use Rattle.world.proofs.Calling.{numbered}
use Rattle.allocator.proofs.Turning.{used_most}
use Rattle.audit.proofs.Sheets.{sound_is}
use Rattle.std.specs.Prelude.{Ok, Err, is_ok}
use Rattle.exam.specs.Promise.{Answer, told}
use Rattle.theorems.specs.Demands.{Accepted, world_after}
use Rattle.theorems.proofs.Bookkeeping.{demand_3}
use Rattle.words.specs.Words.{Long, Narrow, board_in, state_words, counters_at, counter_words, high_half, is_kept, kept_of, pass_in, queued_in, rows_in, used_in}
use Rattle.words.proofs.Words.{
  counters_written,
  first_in_lem,
  first_kept,
  is_kept_kept,
  kept_written,
  length_in,
  length_kept,
  pass_in_lem,
  pass_kept,
  pass_written,
  queued_in_lem,
  queued_kept,
  queued_written,
  rows_in_lem,
  rows_kept,
  rows_written,
  used_written,
}
use Rattle.service.specs.Serving.{
  Lent,
  booted,
  boot_over,
  boot_state_over,
  boot_written,
  code,
  has_room,
  is_lent,
  is_roomy,
  kept_over,
  refused_as,
  served,
  short_refusal,
  tells,
  world_in,
  written,
}
use Rattle.service.proofs.Serving.{lent_room, lent_words}
use Rattle.runs.specs.Runs.{boot_in, Carries}
use Rattle.runs.proofs.Narrow.{sound_narrow}

-- ---- the words

-- as many words as before hold the world w but for its counters, and so many of their rows are in use
record Keeps (w : World) (many used : ℕ) (ks : List ℕ) : Type 0 where
  long : length ks ≡ many
  kept : is_kept ks ≡ true
  first : used_in ks ≡ used
  rows : rows_in ks ≡ w.rows
  queued : queued_in ks ≡ w.queued
  pass : pass_in ks ≡ w.pass

-- a sound world has no rows behind those in use, which are as many as the words have
module _ (board : Board) (w : World) (s : sound board w ≡ true) {used : ℕ} (m : length (used_rows w.rows) ≡ used) (ws : List ℕ) (enough : Long ws) where
  narrow : Narrow w.rows
  narrow = sound_narrow board w s

  unused : drop (length (used_rows w.rows)) w.rows ≡ replicate (8 - length (used_rows w.rows)) no_row
  unused = (sound_sane w (sound_is board w s)).unused

  call_keeps : is_kept ws ≡ true → used_in ws ≡ used → Keeps w (length ws) used (kept_over w ws)
  call_keeps k u =
      let long = length_in ws w.rows w.queued w.pass enough narrow in
      let first = first_in_lem ws w.rows w.queued w.pass enough narrow in
      record {
        long = long;
        kept = rw (long, first) k;
        first = ap high_half first ∙ u;
        rows = rows_in_lem ws w.rows w.queued w.pass enough narrow (rw (u ∙ sym m) unused);
        queued = queued_in_lem ws w.rows w.queued w.pass enough narrow;
        pass = pass_in_lem ws w.rows w.queued w.pass enough narrow;
      }

  boot_keeps : Keeps w (length ws) used (boot_over w ws)
  boot_keeps =
      let n = length (used_rows w.rows) in
      let eight = narrow.eight in
      record {
        long = with_length ws 0 (kept_of n w.rows w.queued w.pass) (omega (arith, length_kept n w.rows w.queued w.pass eight));
        kept = kept_written ws n w.rows w.queued w.pass enough eight (omega (arith, used_most w.rows, eight));
        first = used_written ws n w.rows w.queued w.pass enough eight ∙ m;
        rows = rows_written ws n w.rows w.queued w.pass enough (omega (arith, used_most w.rows, eight)) narrow unused;
        queued = queued_written ws n w.rows w.queued w.pass enough eight;
        pass = pass_written ws n w.rows w.queued w.pass enough eight;
      }

-- ---- the answer

tells_long : (y : Answer) (ys : List ℕ) → 2 ≤ length ys → length (tells y ys) ≡ length ys
unfolding tells
tells_long (Ok y) ys h = with_length ys 0 (y.address ∷ y.bytes ∷ []) (omega arith)
tells_long (Err r) ys h = refl

-- ---- the loans

same_world : {r t : List Row} {c d : Counters} {m n : ℕ} {p q : Pass} {f g h : List ℕ} → r ≡ t → c ≡ d → m ≡ n → p ≡ q
    → ◌≡◌ {A = World} (record { rows = r; counters = c; queued = m; pass = p; records = f; memory = g; queue = h })
    (record { rows = t; counters = d; queued = n; pass = q; records = f; memory = g; queue = h })
same_world e0 e1 e2 e3 = cc

-- the loans hold the world w, in words of which so many rows are in use
pub record Bears (l : Lent) (w : World) (used : ℕ) : Type 0 where
  pub carries : Carries l w
  pub first : used_in l.words ≡ used

carried : (over : World → List ℕ → List ℕ) (l : Lent) (x : Left) {used : ℕ} → Long l.words → 2 ≤ length l.answer
    → Keeps x.world (length l.words) used (over x.world l.words)
    → Bears (written (λ w ws. with_bytes (over w ws) counters_at (counter_words w.counters)) l x).lent x.world used
carried over l x long room K =
    let c = x.world.counters in
    let ks = over x.world l.words in
    let y = told x.answer in
    let h : Long ks = omega (arith, K.long) in
    record {
      carries =
          record {
            world = same_world (rows_kept ks c h ∙ K.rows) (counters_written ks c h) (queued_kept ks c h ∙ K.queued) (pass_kept ks c h ∙ K.pass);
            lent =
                and-true (is_kept_kept ks c h ∙ K.kept) (le-leb 2 (length (tells y l.answer)) (omega (arith, tells_long y l.answer room)));
          };
      first = ap high_half (first_kept ks c h) ∙ K.first;
    }

-- ---- a call

module _ {board : Board} (c : Call) (l : Lent) (of : board_in l.words ≡ board) (e : is_lent l ≡ true) where
  pub served_world
      : {used : ℕ} → let w = (call board (world_in l) c).world in sound board w ≡ true
      → length (used_rows w.rows) ≡ used → used_in l.words ≡ used → Bears (served c l).lent w used
  unfolding served
  served_world s m u =
      let x = call board (world_in l) c in
      rw (e, of)
      (carried kept_over l x (lent_words l e) (lent_room l e)
      (call_keeps board x.world s m l.words (lent_words l e) (and_left (is_kept l.words) (has_room l) e) u))

  -- the number that it returns
  pub served_number : (served c l).number ≡ code (told (call board (world_in l) c).answer)
  unfolding served
  served_number = rw (e, of) refl

-- ---- a boot

told_accepted : (a : AnswerOf) → Accepted a → is_ok (told a) ≡ true
told_accepted (Refused r) ok = absurd (ok r refl)
told_accepted (Done a n) ok = refl
told_accepted (Text t) ok = refl
told_accepted (Bytes t) ok = refl

boot_sound : {b : Board} → Fit b → (ms : List MemoryRegion) (w : World) → Accepted (boot_call b ms w).answer → sound b (boot_call b ms w).world ≡ true
unfolding world_after
boot_sound fit ms w ok = (demand_3 fit ms w ok []).whole

pub booted_world_lem : (ms : List MemoryRegion) (l : Lent) {used : ℕ} → is_roomy l ≡ true → Accepted (boot_in ms l).answer
    → length (used_rows (boot_in ms l).world.rows) ≡ used
    → Bears (booted ms l).lent (boot_in ms l).world used
unfolding booted
booted_world_lem ms l e ok m =
    let x = boot_in ms l in
    let long = leb-true state_words (length l.words) (and_left _ _ e) in
    let room = leb-true 2 (length l.answer) (and_right (leb state_words (length l.words)) (has_room l) e) in
    rw (e, told_accepted x.answer ok)
    (carried boot_over l x long room (boot_keeps standard x.world (boot_sound standard_fit ms (world_in l) ok) m l.words long))

-- the two premises, by the number that the boot returns
never_refused : (r : Refusal) → number_of r ≡ 0 → ⊥
never_refused r z = omega (arith, numbered r)

boot_number : (l : Lent) (x : Left) (t : Bool)
    → (cond t (written boot_state_over l x) (refused_as l (code (told x.answer)))).number ≡ code (told x.answer)
boot_number l x true = refl
boot_number l x false = refl

pub boot_returned : (ms : List MemoryRegion) (l : Lent) → (booted ms l).number ≡ 0 → (is_roomy l ≡ true) × Accepted (boot_in ms l).answer
unfolding booted
boot_returned ms l z = go (is_roomy l) refl z
  where
    x : Left
    x = boot_in ms l

    short : Refusal
    short = short_refusal (first_met (boot_sheet standard ms (length l.records) (length l.memory)))

    go : (t : Bool) → is_roomy l ≡ t → (cond t (boot_written l x) (refused_as l (number_of short))).number ≡ 0
        → (is_roomy l ≡ true) × Accepted x.answer
    go false e z = absurd (never_refused short z)
    go true e z =
        let y : code (told x.answer) ≡ 0 = sym (boot_number l x (is_ok (told x.answer))) ∙ z in
        (e, λ r h. never_refused r (rw h at y))
