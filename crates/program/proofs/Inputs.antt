-- A law of reading: `reads_more`, that what was read joins what was read before it.
use Rattle.std.proofs.Common.{◌≡◌, ℕ, ◌+◌, ◌≤◌, List, ◌++◌, length, take, ◌∙◌, refl, le_refl, drop_at, length-take-le, Option}
use Rattle.std.proofs.lemmas.Slice.{take-put_mid_below}
use Rattle.std.specs.Io.KnownBytes.{Consumes}
use Rattle.std.proofs.KnownBytes.{Consumes-trans}
use borrow.Rule.Slice.PartMut.{put_mid, post_of}
use lib.Seq.{take-add, take-append-le}

front : (a k n : ℕ) (old new : List ℕ) → a ≤ length old → n ≤ length new → take (a + n) (put_mid a k old new) ≡ take a old ++ take n new
front a k n old new within fits =
    let rest = post_of a k old in
    take-add a n (put_mid a k old new)
    ∙ rw (
      take-put_mid_below a k old new a (le_refl a) within,
      drop_at (take a old) (new ++ rest) a (length-take-le a old within),
      take-append-le n new rest fits,
    ) refl

pub reads_more : (A B C : Option (List ℕ)) (a k n : ℕ) (old new : List ℕ) → a ≤ length old → n ≤ length new → Consumes A B (take a old)
    → Consumes B C (take n new) → Consumes A C (take (a + n) (put_mid a k old new))
reads_more A B C a k n old new within fits before read = rw (front a k n old new within fits) (Consumes-trans A B C _ _ before read)
