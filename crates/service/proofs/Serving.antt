-- What it says of the loans that they are a state's, and what a call over them leaves and answers, by what it leaves of the world and
-- answers there.
use Prim.Native.Nat.{ℕ, ◌≤◌, ◌<◌}
use mathlib.Core.Bool.{Bool, true, false, cond, and-false}
use mathlib.Core.List.{List, [], ◌∷◌}
use mathlib.Core.Option.{Option, none, some}
use mathlib.Core.Path.{◌≡◌, refl, sym, ap, ◌∙◌}
use native.Mathlib.Omega.{arith}
use borrow.Author.Tests.{leb-true, le-leb, lt-leb, ne_eqb}
use lib.Dec.{leb}
use lib.ListN.{length, take}
use Rattle.definition.specs.declared.Counters.{Counters}
use Rattle.definition.specs.declared.MemoryRegion.{MemoryRegion}
use Rattle.definition.specs.declared.Refusal.{Refusal}
use Rattle.definition.specs.Board.{Board, standard}
use Rattle.definition.specs.Boot.{boot_sheet}
use Rattle.definition.specs.Refusal.{first_met, number_of}
use Rattle.definition.specs.Calls.{Answer as AnswerOf, Call, Read, Refused, Done, Text, Bytes, Stats}
use Rattle.definition.specs.World.{World}
use Rattle.definition.specs.Torn.{boot_call, booted as booted_world, call, unless_refused as unlessBootRefused}
use Rattle.definition.proofs.Tests.{and_left, and_right}
use Rattle.record.specs.Records.{with_bytes}
use Rattle.words.specs.Words.{board_in, Long, state_words, counters_at, Beside, word_in, is_kept, counters_in, counter_words}
use Rattle.words.proofs.Words.{beside_same, kept_again, kept_from, counters_again}
use Rattle.exam.specs.Promise.{Answer, state_with, world_of, Leaves, reply, told, unit_of}
use Rattle.boot.specs.Booting.{Boots as BootsOf, BootsOver}
use Rattle.std.specs.Prelude.{Result, Ok, Err, ⊤, is_ok}
use Rattle.world.proofs.Calling.{numbered}
use Rattle.counts.specs.declared.Report.{Report}
use Rattle.counts.specs.Counting.{text_of}
use Rattle.door.specs.Tested.{Finds, Reports as ReportsOf}
use Rattle.service.specs.Serving.{
  Lent,
  Served,
  Counted,
  Serves,
  ServesWith,
  Reports,
  ReportsBy,
  ReportsWith,
  Places,
  PlacesBy,
  PlacesWith,
  served,
  served_with,
  booted,
  booted_with,
  refused_as,
  stays,
  written,
  tells,
  is_lent,
  is_roomy,
  has_room,
  short_refusal,
  code,
  world_in,
  world_with,
  kept_over,
  boot_over,
  boot_state_over,
}

-- ---- what is told

-- a call that tells its answer is refused as that is
pub told_code : (y : Answer) {r : Result ⊤ Refusal} → r ≡ unit_of y → code r ≡ code y
told_code (Ok y) e = ap code e
told_code (Err t) e = ap code e

-- ---- the tests of the loans

pub kept_long : (ws : List ℕ) → is_kept ws ≡ true → Long ws
kept_long ws e = leb-true state_words (length ws) (and_left (leb state_words (length ws)) _ e)

module _ (l : Lent) (e : is_lent l ≡ true) where
  pub lent_words : Long l.words
  lent_words = kept_long l.words (and_left (is_kept l.words) (has_room l) e)

  pub lent_room : 2 ≤ length l.answer
  lent_room = leb-true 2 (length l.answer) (and_right (is_kept l.words) (has_room l) e)

  -- what is read out of the words and written over them again is the words
  pub kept_same : (k : Counters) → kept_over (world_with k l) l.words ≡ l.words
  kept_same k = kept_again l.words lent_words

-- ---- a call that is refused for its loans

module _ (c : Call) (l : Lent) where
  pub serves_torn : is_lent l ≡ false → Serves c l l 6
  unfolding served
  serves_torn e = rw e refl

  pub serves_with_torn : (k : Counters) → is_lent l ≡ false → ServesWith c k l k l 6
  unfolding served_with
  serves_with_torn k e = rw e refl

-- ---- a call that is made: it leaves words that stand beside those that it was given: these with its state written over them

module _ {c : Call} (l : Lent) (k : Counters) {k' : Counters} {words records memory queue : List ℕ} {y : Answer}
    (L : Leaves (board_in l.words) (world_with k l) c (world_of (state_with k' words) records memory queue) y)
    {answer : List ℕ} {r : ℕ} (told-answer : answer ≡ tells y l.answer) (told_number : r ≡ code y) (e : is_lent l ≡ true) where
  pub serves_with : length words ≡ length l.words → Beside l.words words
      → ServesWith c k l k' (record { words = words; records = records; memory = memory; queue = queue; answer = answer }) r
  unfolding served_with
  serves_with n b =
      rw (e, L.world, L.answer, kept_from l.words words (lent_words l e) n b, told-answer, told_number) refl

-- ---- the words with the counters: these are read out of the words and written over them

abbrev pub words_from : Counted → Served
words_from x =
    record {
      lent =
          record {
            words = with_bytes x.served.lent.words counters_at (counter_words x.counters);
            records = x.served.lent.records;
            memory = x.served.lent.memory;
            queue = x.served.lent.queue;
            answer = x.served.lent.answer;
          };
      number = x.served.number;
    }

-- the loans with the words of before
abbrev besides : Lent → (records memory queue answer : List ℕ) → Lent
besides l records memory queue answer = record { words = l.words; records = records; memory = memory; queue = queue; answer = answer }

module _ (c : Call) (l : Lent) (e : is_lent l ≡ true) where
  pub in_words : served c l ≡ words_from (served_with c (counters_in l.words) l)
  unfolding served served_with
  in_words = rw e refl

  -- where the counters that it leaves are written over the words that it leaves
  pub made_in_words : {k' : Counters} {l' : Lent} {r : ℕ} → ServesWith c (counters_in l.words) l k' l' r
      → served c l ≡ words_from (record { counters = k'; served = record { lent = l'; number = r } })
  made_in_words S = in_words ∙ ap words_from S

  -- where neither the words nor the counters change
  pub kept_in_words : {records memory queue answer : List ℕ} {r : ℕ}
      → ServesWith c (counters_in l.words) l (counters_in l.words) (besides l records memory queue answer) r
      → Serves c l (besides l records memory queue answer) r
  kept_in_words S = made_in_words S ∙ rw (counters_again l.words (lent_words l e)) refl

-- ---- a read

-- the place is the answer's first word
word_told : (t : Bool) (at len : ℕ) (ys : List ℕ) → let zs = cond t (with_bytes ys 0 (at ∷ len ∷ [])) ys in
    zs ≡ cond t (with_bytes ys 0 (word_in zs 0 ∷ len ∷ [])) ys
unfolding with_bytes
word_told true at len ys = refl
word_told false at len ys = refl

module _ (a off len : ℕ) (l : Lent) where
  pub places_refused : (w : World) {n : ℕ} → n ≡ 6 → PlacesBy w n a off len l l 6
  places_refused w e =
      record {
        number = sym e;
        words = refl;
        records = refl;
        memory = refl;
        queue = refl;
        answer = refl;
        bytes = λ z. absurd (omega arith);
      }

  module _ (k : Counters) {x : Result ℕ Refusal} (F : Finds (board_in l.words) (world_with k l) (Read a off len) len x)
      (e : is_lent l ≡ true) where
    -- a read that is refused
    pub places_not : (r : Refusal) → x ≡ Err r → PlacesWith a off len k l l (number_of r)
    unfolding served_with
    places_not r z =
        record {
          number = rw (e, F.answer, z) refl;
          words = refl;
          records = refl;
          memory = refl;
          queue = refl;
          answer = rw (ne_eqb (number_of r) 0 (λ n. omega (arith, numbered r))) refl;
          bytes = λ n. absurd (omega (arith, numbered r));
        }

    module _ (at : ℕ) (z : x ≡ Ok at) {answer : List ℕ} (told-answer : answer ≡ tells (Ok (reply at len)) l.answer) where
      placed : word_in answer 0 ≡ at
      unfolding tells with_bytes
      placed = rw told-answer refl

      answered : answer ≡ with_bytes l.answer 0 (word_in answer 0 ∷ len ∷ [])
      unfolding tells
      answered = rw placed told-answer

      pub places : PlacesWith a off len k l (besides l l.records l.memory l.queue answer) 0
      unfolding served_with
      places =
          record {
            number = rw (e, F.answer, z) refl;
            words = refl;
            records = refl;
            memory = refl;
            queue = refl;
            answer = answered;
            bytes = λ n. rw placed (F.bytes at z);
          }

  pub places_in_words : is_lent l ≡ true → {l' : Lent} {r : ℕ} → PlacesWith a off len (counters_in l.words) l l' r → Places a off len l l' r
  places_in_words e P = rw (in_words (Read a off len) l e) P

-- ---- the statistics

cond_same : {O : Type 0} (t : Bool) (x : O) → cond t x x ≡ x
cond_same true x = refl
cond_same false x = refl

module _ {b : Board} {O : Type 0} (fit : Bool) (w : World) {made refused : O} (text : List ℕ) where
  pub reports_short : length text < 368 → ReportsBy b O fit w made refused refused text text
  reports_short h = let n = lt-leb 368 (length text) h in record { loans = rw n refl; report = rw n refl }

  pub reports_torn : fit ≡ false → made ≡ refused → ReportsBy b O fit w made refused refused text text
  reports_torn e m = record {
    loans = rw m (cond_same (leb 368 (length text)) refused);
    report = rw (e, and-false (leb 368 (length text))) refl;
  }

-- a refusal has no text
refused_text : (a : AnswerOf) (r : Refusal) → told a ≡ Err r → text_of a ≡ []
refused_text (Refused t) r e = refl
refused_text (Done a n) r e = absurd (let z : ◌≡◌ {A = ℕ} 0 1 = cc in omega arith)
refused_text (Text t) r e = absurd (let z : ◌≡◌ {A = ℕ} 0 1 = cc in omega arith)
refused_text (Bytes t) r e = refl

with_none : (bs : List ℕ) → with_bytes bs 0 [] ≡ bs
unfolding with_bytes
with_none bs = refl

module _ (l : Lent) (text : List ℕ) where
  module _ (k : Counters) {x : Result Report Refusal} (R : ReportsOf (board_in l.words) (world_with k l) x) (h : 368 ≤ length text)
      (e : is_lent l ≡ true)
    where
      -- the statistics are refused
      pub reports_not : (r : Refusal) → x ≡ Err r → ReportsWith k l text k l text (number_of r)
      unfolding tells
      reports_not r z =
          let n = le-leb 368 (length text) h in
          record {
            loans = rw n (serves_with l k (record { world = R.world; answer = rw z at R.answer }) refl refl e refl beside_same);
            report = rw (n, e) no_text;
          }
        where
          none_told : text_of (call (board_in l.words) (world_with k l) Stats).answer ≡ []
          none_told = refused_text (call (board_in l.words) (world_with k l) Stats).answer r (rw z at R.answer)

          no_text : text ≡ with_bytes text 0 (text_of (call (board_in l.words) (world_with k l) Stats).answer)
          no_text = rw none_told (sym (with_none text))

      pub reports
          : (p : Report) → x ≡ Ok p → {answer text' : List ℕ} → answer ≡ tells (Ok (reply 0 p.len)) l.answer
          → text' ≡ with_bytes text 0 (take p.len p.text)
          → ReportsWith k l text k (besides l l.records l.memory l.queue answer) text' 0
      reports p z t b =
          let n = le-leb 368 (length text) h in
          record {
            loans = rw n (serves_with l k (record { world = R.world; answer = rw z at R.answer }) t refl e refl beside_same);
            report = rw (n, e) (b ∙ ap (with_bytes text 0) (R.text p z));
          }

  pub reports_in_words : {records memory queue answer text' : List ℕ} {r : ℕ} → is_lent l ≡ true
      → ReportsWith (counters_in l.words) l text (counters_in l.words) (besides l records memory queue answer) text' r
      → Reports l text (besides l records memory queue answer) text' r
  reports_in_words {records} {memory} {queue} {answer} {text'} {r} e R =
      record { loans = go (leb 368 (length text)) R.loans; report = R.report }
    where
      go : (t : Bool)
          → cond t (served_with Stats (counters_in l.words) l) (stays (counters_in l.words) l 6)
          ≡ record { counters = counters_in l.words; served = record { lent = besides l records memory queue answer; number = r } }
          → cond t (served Stats l) (refused_as l 6) ≡ record { lent = besides l records memory queue answer; number = r }
      go true S = kept_in_words Stats l e S
      go false S = ap (λ (x : Counted). x.served) S

-- ---- a boot

boot_or : (b : Board) (ms : List MemoryRegion) (w : World) (o : Option Refusal) (r : Refusal)
    → let x = unlessBootRefused w o (booted_world b ms w) in told x.answer ≡ Err r → x.world ≡ w
boot_or b ms w (some t) r e = refl
boot_or b ms w none r e = absurd (let z : ◌≡◌ {A = ℕ} 0 1 = cc in omega arith)

boot_leaves_lem : (b : Board) (ms : List MemoryRegion) (w : World) (r : Refusal)
    → told (boot_call b ms w).answer ≡ Err r → (boot_call b ms w).world ≡ w
unfolding boot_call
boot_leaves_lem b ms w = boot_or b ms w (first_met (boot_sheet b ms (length w.records) (length w.memory)))

module _ (l : Lent) (e : is_roomy l ≡ true) where
  pub roomy_words : Long l.words
  roomy_words = leb-true state_words (length l.words) (and_left (leb state_words (length l.words)) (has_room l) e)

  pub roomy_room : 2 ≤ length l.answer
  roomy_room = leb-true 2 (length l.answer) (and_right (leb state_words (length l.words)) (has_room l) e)

module _ (ms : List MemoryRegion) (l : Lent) where
  abbrev pub short_boot : ℕ
  short_boot = number_of (short_refusal (first_met (boot_sheet standard ms (length l.records) (length l.memory))))

  pub boots_short : is_roomy l ≡ false → {r : ℕ} → r ≡ short_boot → booted ms l ≡ refused_as l r
  unfolding booted
  boots_short e n = rw (e, n) refl

  pub boots_with_short : (k : Counters) → is_roomy l ≡ false → {r : ℕ} → r ≡ short_boot → booted_with ms k l ≡ stays k l r
  unfolding booted_with
  boots_with_short k e n = rw (e, n) refl

  -- one that is made: refused it leaves all loans as they were, accepted it has written them
  module _ (k : Counters) {k' : Counters} {words records : List ℕ} {y : Answer} (e : is_roomy l ≡ true)
      (B : BootsOf standard ms (world_with k l) (world_of (state_with k' words) records l.memory l.queue) y) (O : BootsOver l.words words y)
      {answer : List ℕ} {r : ℕ} (told-answer : answer ≡ tells y l.answer) (told_number : r ≡ code y) where
    same_world : (e : Refusal) → y ≡ Err e → world_of (state_with k' words) records l.memory l.queue ≡ world_with k l
    same_world e z = sym B.world ∙ boot_leaves_lem standard ms (world_with k l) e (B.answer ∙ z)

    abbrev pub boot_leaves : Counted
    boot_leaves = record {
      counters = k';
      served = refused_as
          (record { words = words; records = records; memory = l.memory; queue = l.queue; answer = answer }) r;
    }

    pub boots : booted_with ms k l ≡ boot_leaves
    unfolding booted_with tells
    boots = go y refl
      where
        go : (x : Answer) → y ≡ x → booted_with ms k l ≡ boot_leaves
        go (Ok x) z = rw (told-answer, told_number, e, B.answer, z, B.world, ← O.written x z) refl
        go (Err x) z =
            let w = same_world x z in
            rw (told-answer, told_number, e, B.answer, z, O.refused x z, ap (λ (v : World). v.records) w, ap (λ (v : World). v.counters) w)
            refl

  -- the words with the counters, whether they have room or not
  pub boot_in_words : Long l.words → booted ms l ≡ words_from (booted_with ms (counters_in l.words) l)
  unfolding booted booted_with
  boot_in_words h =
      let x = boot_call standard ms (world_in l) in
      rw (le-leb state_words (length l.words) h) (roomy (has_room l) (is_ok (told x.answer)))
    where
      stayed : (n : ℕ) → refused_as l n ≡ words_from (stays (counters_in l.words) l n)
      stayed n = rw (counters_again l.words h) refl

      roomy : (t u : Bool) → let x = boot_call standard ms (world_in l) in let n = code (told x.answer) in
          let made : Counted = record { counters = x.world.counters; served = written boot_over l x } in
          cond t (cond u (written boot_state_over l x) (refused_as l n)) (refused_as l short_boot)
          ≡ words_from (cond t (cond u made (stays (counters_in l.words) l n)) (stays (counters_in l.words) l short_boot))
      roomy true true = refl
      roomy true false = stayed (code (told (boot_call standard ms (world_in l)).answer))
      roomy false u = stayed short_boot
