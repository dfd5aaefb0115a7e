-- The code's table is `all_ops`, and that is definition's table `ops`: an op that is picked by its name takes as many numbers, bounds the
-- last alike and asks the same. So what a line is read as asks what definition's `asks` does (`asked`).
use Prim.Native.Nat.{ℕ, ◌+◌, ◌-◌, ◌%◌, ◌≤◌, ◌<◌}
use mathlib.Core.Bool.{Bool, true, false, cond, ◌&&◌}
use mathlib.Core.List.{List, [], ◌∷◌}
use mathlib.Core.Option as maybe
use mathlib.Core.Path.{◌≡◌, refl, sym, ap, ◌∙◌}
use native.Mathlib.Omega.{arith}
use native.Mathlib.Numerals.{add-one}
use lib.Dec.{eqb, leb}
use lib.ListN.{length, get_or, drop, drop_of_length-le}
use lib.Seq.{drop-cons}
use borrow.Author.Tests.{eqb-true, ne_eqb, leb-true, leb-false}
use denote.Ref.{Bor}
use Rattle.std.specs.Prelude.{Option, Some, None, unwrap_or, option_and_then}
use Rattle.std.specs.Cmp.Lexicographic.{pointwise}
use Rattle.definition.specs.Text.{bytes_of}
use Rattle.definition.specs.Calls as Calls
use Rattle.definition.specs.Script.{Command, Asked, ops, op_named, same_bytes, fits, asks}
use Rattle.definition.specs.Script as Script
use Rattle.lines.specs.declared.Op.{Op}
use Rattle.lines.specs.declared.Line.{Line}
use Rattle.lines.specs.declared.Named.{Named}
use Rattle.lines.specs.Reading.{name_of, command_of, asks_if, asks_of}
use Rattle.lines.specs.declared.Numbers.{Numbers}
use Rattle.lines.specs.Steps.{named, all_ops, pick, bad_line, is_fit, line_from}
use Rattle.lines.proofs.Gathering.{five, kept, kept_of}

-- what an op of the table says of itself, and one of `all_ops`
record Form : Type 0 where
  name : List ℕ
  count : ℕ
  most : ℕ
  few : Bool

abbrev form_of : Script.Op → Form
form_of p = record { name = bytes_of p.name; count = p.count; most = p.most; few = true }

abbrev form_in : Named → Form
form_in o = record { name = name_of o.op; count = o.count; most = o.most; few = leb o.count 5 }

-- the command that both make of the same numbers
abbrev Makes : Script.Op → Named → Type 0
Makes p o = (ns : List ℕ) → get_or ns (p.count - 1) 0 ≤ p.most
    → maybe.some (p.make (λ i. get_or ns i 0)) ≡ command_of o.op (λ i. get_or (five ns) i 0)

data Means : maybe.Option Script.Op → Option Named → Type 0 where
  nothing : Means maybe.none None
  one : {p : Script.Op} {o : Named} → form_of p ≡ form_in o → Makes p o → Means (maybe.some p) (Some o)

data Alike : List Script.Op → List Named → Type 0 where
  end : Alike [] []
  more : {p : Script.Op} {o : Named} {ps : List Script.Op} {os : List Named} → form_of p ≡ form_in o → Makes p o → Alike ps os
      → Alike (p ∷ ps) (o ∷ os)

picked : (name : List ℕ) {ps : List Script.Op} {os : List Named} → Alike ps os → Means (op_named name ps) (pick name os)
unfolding op_named pick
picked name end = nothing
picked name (more {p} {o} {ps} {os} f m a) = rw (ap (λ x. x.name) f) (go (same_bytes name (name_of o.op)) (picked name a))
  where
    go : (t : Bool) → Means (op_named name ps) (pick name os)
        → Means (cond t (maybe.some p) (op_named name ps)) (cond t (Some o) (pick name os))
    go true r = one f m
    go false r = r

-- ---- the code's table

abbrev pub Row : Type 0
Row = Bor (List ℕ) × ℕ × ℕ × Op

abbrev pub op_of : Row → Named
op_of r = named r.3 r.1 r.2

-- `pick`, by the names that stand in the table
unfoldable pub pick_row : List ℕ → List Row → Option Named
pick_row name [] = None
pick_row name (r ∷ rs) = cond (same_bytes name r.0.now) (Some (op_of r)) (pick_row name rs)

same_pointwise : (a b : List ℕ) → pointwise eqb a b ≡ same_bytes a b
unfolding same_bytes
same_pointwise [] [] = refl
same_pointwise [] (y ∷ b) = refl
same_pointwise (x ∷ a) [] = refl
same_pointwise (x ∷ a) (y ∷ b) = rw (same_pointwise a b) refl

module _ (name : List ℕ) (rows : List Row) (i : ℕ) (d : Row) (inside : i < length rows) (t : Bool)
    (e : t ≡ pointwise eqb name (get_or rows i d).0.now) where
  at_row : pick_row name (drop i rows) ≡ cond t (Some (op_of (get_or rows i d))) (pick_row name (drop (i + 1) rows))
  unfolding pick_row
  at_row = rw (drop-cons rows i d inside, add-one i, e, same_pointwise name (get_or rows i d).0.now) refl

  pub row_named : t ≡ true → pick_row name (drop i rows) ≡ Some (op_of (get_or rows i d))
  row_named h = at_row ∙ rw h refl

  pub row_other : t ≡ false → pick_row name (drop i rows) ≡ pick_row name (drop (i + 1) rows)
  row_other h = at_row ∙ rw h refl

pub row_none : (name : List ℕ) (rows : List Row) (i : ℕ) → length rows ≤ i → pick_row name (drop i rows) ≡ None
unfolding pick_row
row_none name rows i h = rw (drop_of_length-le rows {i = i} h) refl

-- ---- definition's table

-- a byte stays as it is
filled : (a b c d : ℕ) → d ≤ 255
    → ◌≡◌ {A = maybe.Option Command} (maybe.some (Script.Ask (Calls.Fill a b c d))) (maybe.some (Script.Ask (Calls.Fill a b c (d % 256))))
filled a b c d h = let e : d % 256 ≡ d = omega arith in rw e refl

alike : Alike ops all_ops
unfolding ops all_ops bytes_of
alike =
    more refl (λ ns h. refl)
    (more refl (λ ns h. refl)
    (more refl (λ ns h. refl)
    (more refl (λ ns h. refl)
    (more refl (λ ns h. refl)
    (more refl (λ ns h. refl)
    (more refl (λ ns h. refl)
    (more refl (λ ns h. refl)
    (more refl (λ ns h. refl)
    (more refl (λ ns h. refl)
    (more refl (λ ns h. filled (get_or ns 0 0) (get_or ns 1 0) (get_or ns 2 0) (get_or ns 3 0) h)
    (more refl (λ ns h. refl)
    (more refl (λ ns h. refl)
    (more refl (λ ns h. refl)
    (more refl (λ ns h. refl)
    (more refl (λ ns h. refl)
    (more refl (λ ns h. refl)
    (more refl (λ ns h. refl) end)))))))))))))))))

-- ---- numbers that fit

and_right : (s t : Bool) → s && t ≡ true → t ≡ true
and_right true true e = refl
and_right true false e = e
and_right false true e = refl
and_right false false e = e

module _ (p : Script.Op) (o : Named) (f : form_of p ≡ form_in o) where
  few : o.count ≤ 5
  few = leb-true o.count 5 (sym (ap (λ x. x.few) f))

  -- more than five numbers fit no op
  fits_not : (ns : List ℕ) → 5 < length ns → fits p ns ≡ false
  fits_not ns h = rw (ap (λ x. x.count) f, ne_eqb (length ns) o.count (λ e. omega (arith, few))) refl

  fits_same : (ns : List ℕ) (t : Bool) → eqb (length ns) o.count ≡ t → fits p ns ≡ is_fit o (kept ns)
  fits_same ns true e =
      let c : length ns ≡ o.count = eqb-true (length ns) o.count e in
      rw (ap (λ x. x.count) f, ap (λ x. x.most) f, c) refl
  fits_same ns false e = rw (ap (λ x. x.count) f, e) refl

-- the line of an op and the numbers that were read
abbrev pub read_as : Option Named → Option Numbers → Option Line
read_as o ns = option_and_then (λ x. option_and_then (line_from x) ns) o

-- what it asks
abbrev pub asks_as : Option Line → maybe.Option Asked
asks_as l = asks_of (unwrap_or l bad_line)

module _ (p : Script.Op) (o : Named) (f : form_of p ≡ form_in o) (m : Makes p o) (ns : List ℕ) where
  abbrev line_if : Bool → Option Line
  line_if t = cond t (Some (record { op = o.op; numbers = five ns })) None

  asked_if : (t : Bool) → fits p ns ≡ t → asks (maybe.some p) (maybe.some ns) ≡ asks_as (line_if t)
  asked_if true e =
      let l : ℕ = get_or ns (p.count - 1) 0 in
      let h = leb-true l p.most (and_right (eqb (length ns) p.count) (leb l p.most) e) in
      rw e (ap (λ n. asks_if n (maybe.some (p.make (λ i. get_or ns i 0)))) (ap (λ x. x.name) f) ∙ ap (asks_if (name_of o.op)) (m ns h))
  asked_if false e = rw e refl

  asked_kept : (t : Bool) → leb (length ns) 5 ≡ t
      → asks (maybe.some p) (maybe.some ns) ≡ asks_as (read_as (Some o) (kept_of (maybe.some ns)))
  asked_kept true e =
      rw e (asked_if (fits p ns) refl ∙ ap (λ t. asks_as (line_if t)) (fits_same p o f ns (eqb (length ns) o.count) refl))
  asked_kept false e = rw (e, fits_not p o f ns (leb-false (length ns) 5 e)) refl

asked_by : {p : maybe.Option Script.Op} {o : Option Named} → Means p o → (ns : maybe.Option (List ℕ))
    → asks p ns ≡ asks_as (read_as o (kept_of ns))
asked_by nothing ns = refl
asked_by (one {p} {o} f m) maybe.none = refl
asked_by (one {p} {o} f m) (maybe.some ns) = asked_kept p o f m ns (leb (length ns) 5) refl

pub asked : (name : List ℕ) (ns : maybe.Option (List ℕ)) → asks (op_named name ops) ns ≡ asks_as (read_as (pick name all_ops) (kept_of ns))
asked name ns = asked_by (picked name alike) ns
