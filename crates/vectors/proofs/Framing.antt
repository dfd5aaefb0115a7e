-- Laws of the framing: what a heading that was spelt and found says of the file, that two headings, a script and its answers are a case,
-- and that a case joins those that were replayed before it.
use Prim.Native.Nat.{ℕ, ◌+◌, ◌-◌, ◌≤◌}
use mathlib.Core.Bool.{true}
use lib.Dec.{eqb}
use mathlib.Core.List.{List, ◌++◌, append_assoc}
use mathlib.Core.Path.{◌≡◌, refl, ap, sym, ◌∙◌}
use native.Mathlib.Omega.{arith}
use lib.ListN.{length, take, drop, length-append, length-drop, take-append-drop}
use lib.Seq.{length-take-le, drop-drop, take_all, take_at}
use Rattle.std.specs.List.{starts_with}
use Rattle.std.proofs.lemmas.Bool.Decides.{Decides-eqb}
use Rattle.std.proofs.lemmas.Slice.Eq.{starts_is}
use Rattle.definition.specs.Cases.{Case}
use Rattle.definition.specs.Script.{lines}
use Rattle.definition.specs.Text.{bytes_of, digits_of}
use Rattle.record.specs.Records.{with_bytes}
use Rattle.text.specs.Writing.{Wrote}
use Rattle.vectors.specs.declared.Heading.{Heading}
use Rattle.vectors.specs.declared.Places.{Places}
use Rattle.vectors.specs.declared.Tally.{Tally}
use Rattle.vectors.specs.Framing.{headed, tallied, part, case_at, Spelt, Heads, Frames}

pub spelt : {out text out' : List ℕ} {r : ℕ} → Wrote out 0 text out' r → r ≤ length out → Spelt text out' r
unfolding with_bytes
spelt {out} {text} {out'} {r} w h =
    let long : length text ≡ r = omega (arith, w.after) in
    let bytes : take r out' ≡ text = rw w.bytes (take_at text (drop (0 + length text) out) r long) in
    record {
      bytes = bytes;
      long = rw bytes (sym long);
      within = rw w.bytes (simp (length-append, length-drop) (omega arith));
    }

pub as_headed : (name : List ℕ) (n : ℕ) → (name ++ digits_of n) ++ bytes_of "\n" ≡ headed name n
as_headed name n = append_assoc name (digits_of n) (bytes_of "\n")

pub as_tallied : (t : Tally)
    → ((digits_of t.scripts ++ (bytes_of " scripts, " ++ digits_of t.lines)) ++ (bytes_of " lines, " ++ digits_of t.differ)) ++ bytes_of " differ\n"
    ≡ tallied t
as_tallied t = simp append_assoc

-- ---- parts of the file

pub parted : (file : List ℕ) (a e : ℕ) → a ≤ e → drop a file ≡ part file a e ++ drop e file
parted file a e h =
    let k : a + (e - a) ≡ e = omega arith in
    sym (take-append-drop (e - a) (drop a file)) ∙ ap (λ l. part file a e ++ l) (drop-drop (e - a) a file ∙ ap (λ n. drop n file) k)

pub part_long : (file : List ℕ) (a e : ℕ) → a ≤ e → e ≤ length file → length (part file a e) ≡ e - a
part_long file a e h k = length-take-le (e - a) (drop a file) (simp length-drop (omega arith))

-- a text in front of what lies behind `e` ends there
pub front : (file text : List ℕ) (a e : ℕ) → a ≤ e → e ≤ length file → drop a file ≡ text ++ drop e file → part file a e ≡ text
front file text a e h k eq =
    let long : length text ≡ e - a = omega (arith, simp (length-append, length-drop) at (ap length eq)) in
    rw eq (take_at text (drop e file) (e - a) long)

pub heads : {file name line : List ℕ} {at k v : ℕ} → Spelt (headed name v) line k → at ≤ length file
    → starts_with eqb (take (length file - at) (drop at file)) (take k line) ≡ true
    → Heads file at name (record { value = v; next = at + k })
unfolding bytes_of
heads {file} {name} {line} {at} {k} {v} s fits begins =
    let whole : take (length file - at) (drop at file) ≡ drop at file = take_all _ _ (simp length-drop (omega arith)) in
    let begun = (starts_is Decides-eqb (drop at file) (take k line) true (rw whole at (sym begins))).0 refl in
    let found : drop at file ≡ headed name v ++ drop (at + k) file = rw (← s.long, s.bytes, drop-drop) at begun in
    record {
      bytes = found;
      after = omega (arith, s.long, simp length-append at (ap length s.bytes));
      within = omega (arith, s.long, simp (length-append, length-drop) at (ap length begun));
    }

-- ---- a case

chain : {a b c d : List ℕ} (h s k o e : List ℕ) → a ≡ h ++ b → b ≡ s ++ c → c ≡ k ++ d → d ≡ o ++ e → a ≡ (h ++ (s ++ (k ++ o))) ++ e
chain h s k o e ha hb hc hd = rw (ha, hb, hc, hd) (simp append_assoc)

-- where the headings h, at `at`, and a, at `e`, say that a case lies
abbrev pub places_by : Heading → ℕ → Heading → Places
places_by h e a =
    record { lines = h.value; script = h.next; end = e; answers = a.next; next = a.next + a.value }

pub frames : (file : List ℕ) (at e : ℕ) (h a : Heading) → Heads file at (bytes_of "script,") h → Heads file e (bytes_of "answers,") a
    → h.value ≡ length (lines (part file h.next e)) → h.value ≤ 8191 → h.next ≤ e → a.next + a.value ≤ length file
    → Frames file at (places_by h e a)
frames file at e h a H A eh few order within =
    record {
      bytes =
          chain
          (headed (bytes_of "script,") (length (lines c.script)))
          c.script
          (headed (bytes_of "answers,") (length c.output))
          c.output
          (drop (a.next + a.value) file)
          (rw eh at H.bytes)
          (parted file h.next e order)
          (rw value at A.bytes)
          (parted file a.next (a.next + a.value) (omega arith));
      lines = eh;
      few = few;
      after = omega (arith, H.after, A.after);
      script = order;
      end = omega (arith, A.after, A.within);
      answers = omega arith;
      within = within;
    }
  where
    c : Case
    c = case_at file (places_by h e a)

    value : a.value ≡ length (part file a.next (a.next + a.value))
    value = omega (arith, part_long file a.next (a.next + a.value) (omega arith) within)
