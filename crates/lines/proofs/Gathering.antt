-- Laws of numbers: one is read byte by byte, and `gather` reads all of a line. What it leaves is definition's `read_numbers`, the list
-- filled up to five (`gather_kept`).
use Prim.Native.Nat.{ℕ, ◌+◌, ◌-◌, ◌*◌, ◌^◌, ◌≤◌, ◌<◌}
use mathlib.Core.Bool.{Bool, true, false, cond, ◌&&◌}
use mathlib.Core.List.{List, [], ◌∷◌, ◌++◌, append_assoc, append-nil}
use mathlib.Core.Option as maybe
use mathlib.Core.Path.{◌≡◌, refl, sym, ap, ◌∙◌}
use native.Mathlib.Omega.{arith}
use native.Mathlib.Numerals.{add-one}
use lib.Dec.{ltb, leb}
use lib.ListN.{length, get_or, drop, length-append, drop_of_length-le}
use lib.Seq.{drop-cons}
use borrow.Author.Tests.{le-leb, lt-ltb, lt-leb, ltb-true}
use Rattle.std.specs.Prelude.{Option, Some, None, option_and_then}
use Rattle.definition.specs.Script.{is_digit, number_from, read_number, behind, read_numbers}
use Rattle.lines.specs.declared.Numbers.{Numbers}
use Rattle.lines.specs.Steps.{no_numbers, pushed, with_next, gather}

-- ---- one number

both : (p q : Bool) → (p ≡ true → q ≡ true → ⊥) → p && q ≡ false
both true true h = absurd (h refl refl)
both true false h = refl
both false q h = refl

-- v with the digit at i behind it
abbrev pub next : List ℕ → ℕ → ℕ → ℕ
next s v i = v * 10 + (get_or s i 0 - 48)

-- the answer from i on, and from i + 1 on
module _ (s : List ℕ) (v i : ℕ) (inside : i < length s) where
  pub more_at : is_digit (get_or s i 0) ≡ true → next s v i < 2 ^ 64 → number_from v (drop i s) ≡ number_from (next s v i) (drop (i + 1) s)
  unfolding number_from
  more_at d h = rw (drop-cons s i 0 inside, add-one i, d, lt-ltb (next s v i) (2 ^ 64) h) refl

  pub bad_at : (is_digit (get_or s i 0) ≡ true → next s v i < 2 ^ 64 → ⊥) → number_from v (drop i s) ≡ maybe.none
  unfolding number_from
  bad_at n =
      let b = both (is_digit (get_or s i 0)) (ltb (next s v i) (2 ^ 64)) (λ p r. n p (ltb-true (next s v i) (2 ^ 64) r)) in
      rw (drop-cons s i 0 inside, b) refl

pub some_from : (s : List ℕ) → 0 < length s → read_number s ≡ number_from 0 s
some_from [] h = absurd (omega arith)
some_from (x ∷ s) h = refl

pub end_at : (s : List ℕ) (v i : ℕ) → length s ≤ i → number_from v (drop i s) ≡ maybe.some v
unfolding number_from
end_at s v i h = rw (drop_of_length-le s {i = i} h) refl

pub ruleset one_number = (more_at, bad_at, some_from, end_at)

-- ---- all numbers of a line

pub gather_end : (r : Numbers) → gather r [] ≡ Some r
unfolding gather
gather_end r = refl

pub gather_more : (r : Numbers) (f : List ℕ) (fs : List (List ℕ)) (x : ℕ) (next : Numbers) → maybe.some x ≡ read_number f
    → Some next ≡ pushed r x → gather r (f ∷ fs) ≡ gather next fs
unfolding gather
gather_more r f fs x next e p = rw (← e, ← p) refl

pub gather_full : (r : Numbers) (f : List ℕ) (fs : List (List ℕ)) (x : ℕ) → maybe.some x ≡ read_number f → None ≡ pushed r x
    → gather r (f ∷ fs) ≡ None
unfolding gather
gather_full r f fs x e p = rw (← e, ← p) refl

pub gather_bad : (r : Numbers) (f : List ℕ) (fs : List (List ℕ)) → maybe.none ≡ read_number f → gather r (f ∷ fs) ≡ None
unfolding gather
gather_bad r f fs e = rw (← e) refl

-- the first five of a list, filled up with zeros
abbrev pub five : List ℕ → List ℕ
five ns = get_or ns 0 0 ∷ get_or ns 1 0 ∷ get_or ns 2 0 ∷ get_or ns 3 0 ∷ get_or ns 4 0 ∷ []

abbrev pub kept : List ℕ → Numbers
kept ns = record { count = length ns; last = get_or ns (length ns - 1) 0; list = five ns }

-- what is kept of the numbers that were read
abbrev pub kept_of : maybe.Option (List ℕ) → Option Numbers
kept_of maybe.none = None
kept_of (maybe.some ns) = cond (leb (length ns) 5) (Some (kept ns)) None

too_many : (ns : List ℕ) → 5 < length ns → kept_of (maybe.some ns) ≡ None
too_many ns h = rw (lt-leb (length ns) 5 h) refl

-- the numbers of the fields behind those already read
abbrev after : List ℕ → maybe.Option (List ℕ) → maybe.Option (List ℕ)
after ns maybe.none = maybe.none
after ns (maybe.some ms) = maybe.some (ns ++ ms)

after_one : (ns : List ℕ) (x : ℕ) (o : maybe.Option (List ℕ)) → after (ns ++ (x ∷ [])) o ≡ after ns (behind (maybe.some x) o)
after_one ns x maybe.none = refl
after_one ns x (maybe.some ms) = rw (append_assoc ns (x ∷ []) ms) refl

after_many : (ns : List ℕ) (x : ℕ) (o : maybe.Option (List ℕ)) → 5 ≤ length ns → kept_of (after ns (behind (maybe.some x) o)) ≡ None
after_many ns x maybe.none h = refl
after_many ns x (maybe.some ms) h = too_many (ns ++ (x ∷ ms)) (rw (length-append ns (x ∷ ms)) (omega arith))

abbrev Gathers : List ℕ → List (List ℕ) → Type 0
Gathers ns fs = gather (kept ns) fs ≡ kept_of (after ns (read_numbers fs))

-- one field more, where it spells x
gather_some : (ns : List ℕ) (x : ℕ) (fs : List (List ℕ)) → length ns ≤ 5 → (length ns < 5 → Gathers (ns ++ (x ∷ [])) fs)
    → option_and_then (λ n. gather n fs) (pushed (kept ns) x) ≡ kept_of (after ns (behind (maybe.some x) (read_numbers fs)))
gather_some [] x fs h ih = ih (omega arith) ∙ ap kept_of (after_one [] x (read_numbers fs))
gather_some (a ∷ []) x fs h ih = ih (omega arith) ∙ ap kept_of (after_one (a ∷ []) x (read_numbers fs))
gather_some (a ∷ b ∷ []) x fs h ih = ih (omega arith) ∙ ap kept_of (after_one (a ∷ b ∷ []) x (read_numbers fs))
gather_some (a ∷ b ∷ c ∷ []) x fs h ih = ih (omega arith) ∙ ap kept_of (after_one (a ∷ b ∷ c ∷ []) x (read_numbers fs))
gather_some (a ∷ b ∷ c ∷ d ∷ []) x fs h ih = ih (omega arith) ∙ ap kept_of (after_one (a ∷ b ∷ c ∷ d ∷ []) x (read_numbers fs))
gather_some (a ∷ b ∷ c ∷ d ∷ e ∷ []) x fs h ih = sym (after_many (a ∷ b ∷ c ∷ d ∷ e ∷ []) x (read_numbers fs) (omega arith))
gather_some (a ∷ b ∷ c ∷ d ∷ e ∷ f ∷ ns) x fs h ih = absurd (omega arith)

gather_after : (ns : List ℕ) (fs : List (List ℕ)) → length ns ≤ 5 → Gathers ns fs
unfolding gather read_numbers
gather_after ns [] h = rw (append-nil ns, le-leb (length ns) 5 h) refl
gather_after ns (f ∷ fs) h = go (read_number f) (λ x l. gather_after (ns ++ (x ∷ [])) fs (rw (length-append ns (x ∷ [])) (omega arith)))
  where
    go : (o : maybe.Option ℕ) → ((x : ℕ) → length ns < 5 → Gathers (ns ++ (x ∷ [])) fs)
        → with_next (kept ns) o (λ n. gather n fs) ≡ kept_of (after ns (behind o (read_numbers fs)))
    go maybe.none ih = refl
    go (maybe.some x) ih = gather_some ns x fs h (ih x)

after_none : (o : maybe.Option (List ℕ)) → after [] o ≡ o
after_none maybe.none = refl
after_none (maybe.some ns) = refl

pub gather_kept : (fs : List (List ℕ)) → gather no_numbers fs ≡ kept_of (read_numbers fs)
gather_kept fs = gather_after [] fs (omega arith) ∙ ap kept_of (after_none (read_numbers fs))
