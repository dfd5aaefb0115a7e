-- Five numbers are all that a call that answers by numbers takes, so that what is served by them is served.
use Prim.Native.Nat.{ℕ}
use mathlib.Core.List.{List, [], ◌∷◌}
use mathlib.Core.Path.{◌≡◌, refl, subst}
use lib.ListN.{get_or}
use Rattle.definition.specs.declared.Counters.{Counters}
use Rattle.lines.specs.declared.Ask.{Ask}
use Rattle.lines.specs.declared.Ask.TheVariants.{
  Alloc,
  Take,
  Split,
  Free,
  Zero,
  Dirty,
  Find,
  Queue,
  Fill,
  Copy,
  Pcopy,
  Round,
  Lend,
  Back,
  Low,
}
use Rattle.lines.specs.Reading.{call_of}
use Rattle.service.specs.Serving.{Lent, ServesWith}
use Rattle.store.specs.Lending.{five_in, numbers_of}

five_numbers : (a : Ask) (f : ℕ → ℕ) → call_of a (λ i. get_or (f 0 ∷ f 1 ∷ f 2 ∷ f 3 ∷ f 4 ∷ []) i 0) ≡ call_of a f
five_numbers Alloc f = refl
five_numbers Take f = refl
five_numbers Split f = refl
five_numbers Free f = refl
five_numbers Zero f = refl
five_numbers Dirty f = refl
five_numbers Find f = refl
five_numbers Queue f = refl
five_numbers Fill f = refl
five_numbers Copy f = refl
five_numbers Pcopy f = refl
five_numbers Round f = refl
five_numbers Lend f = refl
five_numbers Back f = refl
five_numbers Low f = refl

pub serves_five : (a : Ask) (ns xs : List ℕ) (k : Counters) (l : Lent) {k' : Counters} {l' : Lent} {r : ℕ}
    → xs ≡ five_in ns
    → ServesWith (call_of a (λ i. get_or xs i 0)) k l k' l' r
    → ServesWith (call_of a (numbers_of ns)) k l k' l' r
serves_five a ns xs k l {k'} {l'} {r} x S =
    rw (five_numbers a (numbers_of ns)) at (subst (λ (ys : List ℕ). ServesWith (call_of a (λ i. get_or ys i 0)) k l k' l' r) x S)
