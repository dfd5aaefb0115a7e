-- What a call can answer. The calls of a script but the statistics are refused or done, never answered by a text or by bytes, so that what
-- is told of an answer says all of it (`call_line`); the statistics of a sound world are answered by their text; a boot is accepted exactly
-- where what is told is `Ok`.
use Rattle.definition.specs.Basics.{everywhere}
use Prim.Native.Nat.{ℕ, ◌<◌}
use mathlib.Core.Bool.{Bool, true, false, false≢true, cond}
use mathlib.Core.List.{List}
use mathlib.Core.Option.{Option, none, some}
use mathlib.Core.Path.{◌≡◌, refl, sym, ap, ◌∙◌}
use Rattle.std.specs.Prelude.{is_ok}
use lib.ListN.{get_or, length}
use Rattle.definition.specs.declared.MemoryRegion.{MemoryRegion}
use Rattle.definition.specs.declared.Refusal.{Refusal}
use Rattle.definition.specs.declared.Refusal.TheVariants as R
use Rattle.definition.specs.Board.{Board}
use Rattle.definition.specs.Boot.{boot_sheet}
use Rattle.definition.specs.Calls.{mine, Call, Answer, Refused, Done, Text, Bytes, Stats, Outcome}
use Rattle.definition.specs.Calls.{hands, find_level, names, perform, sheet, step, tells, unless_refused}
use Rattle.definition.specs.Refusal.{first_met}
use Rattle.definition.specs.Script.{answer_line, is_accepted, layout_of}
use Rattle.definition.specs.Store.{Store}
use Rattle.definition.specs.Torn.{boot_call, booted, call, sound, written, untouched, unless_refused as unlessRefusedOn}
use Rattle.definition.specs.Tracker.{Granted, tracker_stats, try_alloc_frame, try_alloc_split_frames}
use Rattle.definition.specs.World.{World, decode}
use Rattle.exam.specs.Promise.{Answer as Told, told}
use Rattle.script.specs.Running.{line_by}
use Rattle.audit.proofs.Sheets.{sound_is}
use Rattle.world.proofs.Calling.{done_call}
use Rattle.world.proofs.Refusing.{nothing_refused}
use Rattle.world.proofs.RoundTrip.{decode_stands, round_trip}
use Rattle.lines.specs.declared.Ask.{Ask}
use Rattle.lines.specs.declared.Ask.TheVariants as A
use Rattle.lines.specs.Reading.{call_of}

-- ---- by numbers

-- refused or done
abbrev pub by_numbers : Answer → Bool
by_numbers (Refused r) = true
by_numbers (Done a n) = true
by_numbers (Text t) = false
by_numbers (Bytes t) = false

-- such an answer's line is that of what is told of it
pub numbers_line : (name : List ℕ) (a : Answer) → by_numbers a ≡ true → answer_line name a ≡ line_by name (told a)
numbers_line name (Refused r) e = refl
numbers_line name (Done a n) e = refl
numbers_line name (Text t) e = absurd (false≢true e)
numbers_line name (Bytes t) e = absurd (false≢true e)

-- whatever else holds of a refusal holds of an answer that may be refused
refused_or : (P : Answer → Bool) → ((r : Refusal) → P (Refused r) ≡ true) → (s : Store) (o : Outcome) (r : Option Refusal)
    → P o.answer ≡ true → P (unless_refused s r o).answer ≡ true
refused_or P f s o none e = e
refused_or P f s o (some r) e = f r

module _ (board : Board) where
  torn_or : (P : Answer → Bool) → ((r : Refusal) → P (Refused r) ≡ true) → (w : World) (o : Outcome) (t : Bool)
      → P o.answer ≡ true → P (cond t (written board w o) (untouched w R.Torn)).answer ≡ true
  torn_or P f w o true e = e
  torn_or P f w o false e = f R.Torn

  -- of every call, what holds of a refusal and of what it performs
  called : (P : Answer → Bool) → ((r : Refusal) → P (Refused r) ≡ true) → (c : Call) → ((s : Store) → P (perform board s c).answer ≡ true)
      → (w : World) → P (call board w c).answer ≡ true
  unfolding call step
  called P f c h w =
      let s = decode board w in
      torn_or P f w (unless_refused s (first_met (sheet board s (names c))) (perform board s c)) (sound board w)
      (refused_or P f s (perform board s c) (first_met (sheet board s (names c))) (h s))

  handed : (l : ℕ) (g : Granted) → by_numbers (hands board l g).answer ≡ true
  handed l g = go g.store g.page
    where
      go : (s : Store) (p : Option ℕ) → by_numbers (hands board l (record { store = s; page = p })).answer ≡ true
      go s none = refl
      go s (some p) = refl

  performed : (op : Ask) (n : ℕ → ℕ) (s : Store) → by_numbers (perform board s (call_of op n)).answer ≡ true
  unfolding perform mine
  performed A.Alloc n s =
      let l = find_level board (layout_of n) in
      handed l (try_alloc_frame board everywhere l (layout_of n).flags s)
  performed A.Take n s =
      let l = find_level board (layout_of n) in
      handed l (try_alloc_split_frames board everywhere l (layout_of n).flags s)
  performed A.Split n s = refl
  performed A.Free n s = refl
  performed A.Zero n s = refl
  performed A.Dirty n s = refl
  performed A.Find n s = refl
  performed A.Queue n s = refl
  performed A.Fill n s = refl
  performed A.Copy n s = refl
  performed A.Pcopy n s = refl
  performed A.Round n s = refl
  performed A.Lend n s = refl
  performed A.Back n s = refl
  performed A.Low n s = refl

  -- the line of a call that was told so
  pub call_line : (name : List ℕ) (op : Ask) (n : ℕ → ℕ) (w : World) {y : Told} → told (call board w (call_of op n)).answer ≡ y
      → line_by name y ≡ answer_line name (call board w (call_of op n)).answer
  call_line name op n w e =
      ap (line_by name) (sym e)
      ∙ sym (numbers_line name (call board w (call_of op n)).answer (called by_numbers (λ r. refl) (call_of op n) (performed op n) w))

-- ---- the boot

module _ (board : Board) where
  boot_numbers : (ms : List MemoryRegion) (w : World) → by_numbers (boot_call board ms w).answer ≡ true
  unfolding boot_call
  boot_numbers ms w = go (first_met (boot_sheet board ms (length w.records) (length w.memory)))
    where
      go : (r : Option Refusal) → by_numbers (unlessRefusedOn w r (booted board ms w)).answer ≡ true
      go none = refl
      go (some r) = refl

  pub boot_line : (name : List ℕ) (ms : List MemoryRegion) (w : World) {y : Told} → told (boot_call board ms w).answer ≡ y
      → line_by name y ≡ answer_line name (boot_call board ms w).answer
  boot_line name ms w e =
      ap (line_by name) (sym e) ∙ sym (numbers_line name (boot_call board ms w).answer (boot_numbers ms w))

accepts : (a : Answer) → is_accepted a ≡ is_ok (told a)
accepts (Refused r) = refl
accepts (Done a n) = refl
accepts (Text t) = refl
accepts (Bytes t) = refl

-- what is told says whether an answer accepts
pub accepted : (a : Answer) {y : Told} → told a ≡ y → is_accepted a ≡ is_ok y
accepted a e = accepts a ∙ ap (λ (y : Told). is_ok y) e

-- ---- the statistics

module _ (board : Board) where
  -- on a sound world they are told, and change nothing
  pub stats_call
      : (w : World) → sound board w ≡ true → ((i : ℕ) → get_or w.records i 0 < 256)
      → call board w Stats ≡ record { world = w; answer = Text (tracker_stats w.counters) }
  unfolding perform
  stats_call w t small =
      let S = sound_is board w t in
      done_call board w Stats t (tells (decode board w) (Text (tracker_stats w.counters))) w
      (nothing_refused board (decode board w))
      (rw (decode_stands w S).counters refl) (round_trip w S small)
