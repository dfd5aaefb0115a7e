-- Laws of lines: the first of a script and those behind it, and a line read whole.
use Prim.Native.Nat.{ℕ, ◌+◌, ◌-◌, ◌≤◌, ◌<◌}
use mathlib.Core.List.{List, [], ◌∷◌}
use mathlib.Core.Path.{◌≡◌, refl, ◌∙◌}
use native.Mathlib.Omega.{arith}
use lib.ListN.{length, take, drop, length-drop, drop_of_length-le}
use lib.Seq.{drop-drop, take_all}
use borrow.Author.Tests.{le-leb, lt-leb}
use Rattle.std.specs.Prelude.{Option, Some, None, unwrap_or}
use Rattle.std.specs.List.{position}
use Rattle.definition.specs.Script.{parts_by, lines, fields, read_numbers, of_fields, read_line}
use Rattle.lines.specs.declared.Line.{Line}
use Rattle.lines.specs.declared.Named.{Named}
use Rattle.lines.specs.declared.Numbers.{Numbers}
use Rattle.lines.specs.Reading.{Reads, NextLine}
use Rattle.lines.specs.Steps.{no_numbers, gather, all_ops, pick, bad_line}
use Rattle.lines.proofs.Parting.{is_sep, first_part, last_field, last_line}
use Rattle.lines.proofs.Gathering.{gather_kept}
use Rattle.lines.proofs.Naming.{read_as, asked}

lines_none : (s : List ℕ) (at : ℕ) → length s ≤ at → lines (drop at s) ≡ []
unfolding parts_by
lines_none s at h = rw (drop_of_length-le s {i = at} h) refl

-- what `&s[at..]` is
abbrev pub from : ℕ → List ℕ → List ℕ
from at s = take (length s - at) (drop at s)

pub from_drop : (s : List ℕ) (at : ℕ) → from at s ≡ drop at s
from_drop s at = take_all (length s - at) (drop at s) (rw (length-drop at s) (omega arith))

pub line_fed : (s : List ℕ) (at i : ℕ) → at < length s → Some i ≡ position (is_sep 10) (from at s) → NextLine s at (at + i) (at + i + 1)
line_fed s at i h e =
    let f = first_part 10 (drop at s) [] i (rw (from_drop s at) at e) in
    let l : i < length s - at = rw (length-drop at s) at f.0 in
    let q : at + i - at ≡ i = omega arith in
    let n : at + (i + 1) ≡ at + i + 1 = omega arith in record {
      first = f.1 ∙ rw (q, drop-drop (i + 1) at s, n) refl;
      start_by = omega arith;
      end_by = omega arith;
      past = omega arith;
      next_by = omega arith;
    }

pub line_last : (s : List ℕ) (at : ℕ) → at < length s → None ≡ position (is_sep 10) (from at s) → NextLine s at (length s) (length s)
line_last s at h e =
    let l = last_line 10 (drop at s) (rw (from_drop s at) at e) (rw (length-drop at s) (omega arith)) in record {
      first = l ∙ rw (from_drop s at, lines_none s (length s) (omega arith)) refl;
      start_by = omega arith;
      end_by = omega arith;
      past = omega arith;
      next_by = omega arith;
    }

pub ruleset one_line = (line_fed, line_last)

-- ---- a line read whole

pub reads_long : (line : List ℕ) → 512 < length line → Reads line bad_line
unfolding read_line
reads_long line h = rw (lt-leb (length line) 512 h) refl

module _ (line : List ℕ) (short : length line ≤ 512) (o : Option Named) (n : Option Numbers) {r : Option Line} (e : r ≡ read_as o n) where
  reads_as : (f : List ℕ) (fs : List (List ℕ)) → fields line ≡ f ∷ fs → o ≡ pick f all_ops → n ≡ gather no_numbers fs
      → Reads line (unwrap_or r bad_line)
  unfolding read_line of_fields
  reads_as f fs p q g = rw (le-leb (length line) 512 short, p, e, q, g, gather_kept fs) (asked f (read_numbers fs))

  -- a line with numbers, the commas but the first one behind `&line[comma + 1..]`
  pub reads_more : (comma : ℕ) → Some comma ≡ position (is_sep 44) line → o ≡ pick (take comma line) all_ops
      → n ≡ gather no_numbers (fields (from (comma + 1) line)) → Reads line (unwrap_or r bad_line)
  reads_more comma h q g =
      let f = first_part 44 line ([] ∷ []) comma h in
      reads_as (take comma line) (fields (drop (comma + 1) line)) f.1 q (rw (from_drop line (comma + 1)) at g)

  -- a name alone
  pub reads_last : None ≡ position (is_sep 44) line → o ≡ pick line all_ops → n ≡ Some no_numbers → Reads line (unwrap_or r bad_line)
  unfolding gather
  reads_last h q g = reads_as line [] (last_field 44 line h) q g
