-- The scan's invariant and its turns: what is left from a page on decides as the whole does, and the pages held so far with those of what
-- is left are the whole's.
use Rattle.std.proofs.Common.{◌≡◌, ℕ, zero, suc, ◌+◌, ◌-◌, ◌<◌, ◌≤◌, Bool, true, false, ◌&&◌, List, sym, refl, ap, ◌∙◌, arith, ne_eqb}
use Rattle.definition.specs.Basics.{all, sum}
use Rattle.definition.specs.Frame.{size}
use Rattle.definition.specs.World.{allocated_bit}
use Rattle.definition.specs.Torn.{Records, pages_of_record, heads_from, alone_if_held, held_as}
use Rattle.definition.proofs.Tests.{and-true}
use Rattle.record.specs.Records.{free_page}
use Rattle.record.proofs.Decoding.{free_facts}
use Rattle.scan.specs.Sheet.{head_at, tiled_at, alone_at, held_at, Free, Tally}
use Rattle.scan.proofs.Members.{all_both}
use Rattle.scan.proofs.Heads.{head_small, pages_small, heads_end, heads_step}
use Rattle.scan.proofs.Tallies.{alone_free, held_free}

module _ (f : Records) (from base past : ℕ) where
  abbrev good : ℕ → Bool
  good h = head_at f from base past h && alone_if_held (f h)

  abbrev left : ℕ → List ℕ
  left at = heads_from f (past - at) at past

  abbrev held_left : Bool → ℕ → ℕ
  held_left kernel at = sum (λ h. held_as kernel (f h)) (left at)

  pub record Scanning (page kernel at : ℕ) : Type 0 where
    pub low : base ≤ at
    pub high : at ≤ past
    pub few : base + page + kernel ≤ at
    pub tests : all good (left base) ≡ all good (left at)
    pub pages : held_left false base ≡ page + held_left false at
    pub kernels : held_left true base ≡ kernel + held_left true at

  pub scan_start : base ≤ past → Scanning 0 0 base
  scan_start l =
      record { low = omega arith; high = l; few = omega arith; tests = refl; pages = omega arith; kernels = omega arith }

  tests_step : (at s : ℕ) → at < past → s ≡ pages_of_record (f at) → all good (left at) ≡ (good at && all good (left (at + s)))
  unfolding all
  tests_step at s l e = ap (all good) (heads_step f past at s l e)

  held_step : (kernel : Bool) (at s : ℕ) → at < past → s ≡ pages_of_record (f at)
      → held_left kernel at ≡ held_as kernel (f at) + held_left kernel (at + s)
  unfolding sum
  held_step kernel at s l e = ap (sum (λ h. held_as kernel (f h))) (heads_step f past at s l e)

  -- a head that passed, of s pages
  pub scan_turn : (page kernel at s p k : ℕ) → Scanning page kernel at → at < past → good at ≡ true → s ≡ pages_of_record (f at)
      → at + s ≤ past → p ≡ page + held_as false (f at) → k ≡ kernel + held_as true (f at) → held_as false (f at) + held_as true (f at) ≤ s
      → Scanning p k (at + s)
  scan_turn page kernel at s p k i l g e fits ep ek most =
      record {
        low = omega arith;
        high = fits;
        few = omega arith;
        tests = i.tests ∙ tests_step at s l e ∙ rw g;
        pages = omega (arith, i.pages, held_step false at s l e);
        kernels = omega (arith, i.kernels, held_step true at s l e);
      }

  -- an unheld frame of one page
  pub scan_free : (page kernel at : ℕ) → Scanning page kernel at → at < past → free_page (f at) ≡ true → Scanning page kernel (at + 1)
  scan_free page kernel at i l t =
      let d = free_facts (f at) t in
      let u = ne_eqb (allocated_bit (f at).marks) 1 (omega (arith, d.1)) in
      let one : 1 ≡ pages_of_record (f at) = sym (pages_small (f at) (omega (arith, d.3)) ∙ ap size d.3) in
      let p = held_free (f at) (f at).marks refl u false in
      let k = held_free (f at) (f at).marks refl u true in
      let h = head_small f from base past at d.0 d.2 d.3 l in
      scan_turn page kernel at 1 page kernel i l (and-true h (alone_free (f at) (f at).marks refl u)) one
      (omega arith) (omega arith) (omega arith) (omega arith)

  -- a run of them
  pub scan_run : (page kernel at r : ℕ) → Scanning page kernel at → at ≤ r → r ≤ past → Free f at r → Scanning page kernel r
  scan_run page kernel at r i l fits free = go (r - at) at i (omega arith) free
    where
      go : (n at : ℕ) → Scanning page kernel at → at + n ≡ r → Free f at r → Scanning page kernel r
      go zero at i e free = let same : at ≡ r = omega arith in rw same at i
      go (suc n) at i e free =
          go n (at + 1) (scan_free page kernel at i (omega arith) (free at (omega arith) (omega arith)))
          (omega arith) (λ q low. free q (omega arith))

  apart : all good (left base) ≡ (tiled_at f from base past && alone_at f base past)
  unfolding tiled_at alone_at
  apart = all_both (head_at f from base past) (λ h. alone_if_held (f h)) (left base)

  pub scan_bad : (page kernel at : ℕ) → Scanning page kernel at → at < past → good at ≡ false
      → (tiled_at f from base past && alone_at f base past) ≡ false
  scan_bad page kernel at i l g = sym apart ∙ i.tests ∙ tests_step at (pages_of_record (f at)) l refl ∙ rw g

  module _ (page kernel at : ℕ) (i : Scanning page kernel at) (l : past ≤ at) where
    all_good : all good (left base) ≡ true
    unfolding all
    all_good = i.tests ∙ ap (all good) (heads_end f past at l)

    none_left : (b : Bool) → held_left b at ≡ 0
    unfolding sum
    none_left b = ap (sum (λ h. held_as b (f h))) (heads_end f past at l)

    pub scan_done : Tally f from base past (record { page = page; kernel = kernel })
    unfolding held_at
    scan_done =
        record {
          whole = sym apart ∙ all_good;
          page = omega (arith, i.pages, none_left false);
          kernel = omega (arith, i.kernels, none_left true);
          few = omega arith;
        }
