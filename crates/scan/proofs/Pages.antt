-- The pages of a tiled region: each is of one head, which is held, with KERNEL or without, or belongs on one of the six lists. So the pages held and the
-- pages of the heads that belong on lists are all.
use Rattle.std.proofs.Common.{◌≡◌, ℕ, zero, suc, ◌+◌, ◌-◌, ◌*◌, ◌/◌, ◌^◌, ◌<◌, ◌≤◌, Bool, true, false, cond, not, ◌&&◌, eqb, List, [], ◌∷◌, get_or, sym, refl, ap, ◌∙◌, mul-le-mul_right, arith, lit<}
use Rattle.definition.specs.declared.Record.{Record}
use Rattle.definition.specs.declared.Links.{Links}
use Rattle.definition.specs.Basics.{all, sum, range}
use Rattle.definition.specs.Frame.{size, levels}
use Rattle.definition.specs.World.{kernel_in, level_in, no_links}
use Rattle.definition.specs.Torn.{Placed, Records, pages_of_record, is_held_record, class_of, held_as, listed_pages}
use Rattle.definition.proofs.Tests.{and_left, and_right}
use Rattle.level.proofs.Sizes.{size_most}
use Rattle.scan.specs.Sheet.{head_at, heads_of, tiled_at, held_at}
use Rattle.scan.proofs.Heads.{Steps, steps_of, head_facts, pages_small}
use Rattle.scan.proofs.Tallies.{held_free, held_kernel, held_page}

-- 1 for an unheld head that belongs on the list k
abbrev pub unheld_as : ℕ → Record → ℕ
unheld_as k r = cond (not (is_held_record r) && eqb (class_of r) k) 1 0

unfoldable pub unheld_at : ℕ → Records → (base past : ℕ) → ℕ
unheld_at k f base past = sum (λ h. unheld_as k (f h)) (heads_of f base past)

-- so many frames of each of the six lists, in pages
abbrev pub pages_of_six : (ℕ → ℕ) → ℕ
pages_of_six n = n 0 + n 1 + 512 * n 2 + 512 * n 3 + 262144 * n 4 + 262144 * n 5

pub listed_six : (x : Placed) → listed_pages x ≡ pages_of_six (λ k. (get_or x.row.lists k no_links).count)
unfolding sum range
listed_six x = omega arith

pub same_six : (n m : ℕ → ℕ) → ((k : ℕ) → k < 6 → n k ≡ m k) → pages_of_six n ≡ pages_of_six m
same_six n m e =
    omega (arith, e 0 (lit< tt), e 1 (lit< tt), e 2 (lit< tt), e 3 (lit< tt), e 4 (lit< tt), e 5 (lit< tt))

-- no more of each, and as many pages: as many of each
module _ (n m : ℕ → ℕ) (l : (k : ℕ) → k < 6 → n k ≤ m k) (e : pages_of_six n ≡ pages_of_six m) where
  all_same : (n 0 ≡ m 0) × (n 1 ≡ m 1) × (n 2 ≡ m 2) × (n 3 ≡ m 3) × (n 4 ≡ m 4) × (n 5 ≡ m 5)
  all_same =
      let a = l 0 (lit< tt) in
      let b = l 1 (lit< tt) in
      let c = l 2 (lit< tt) in
      let d = l 3 (lit< tt) in
      let g = l 4 (lit< tt) in
      let h = l 5 (lit< tt) in
      (omega arith, omega arith, omega arith, omega arith, omega arith, omega arith)

  pub six_same : (k : ℕ) → k < 6 → n k ≡ m k
  six_same zero h = all_same.0
  six_same (suc zero) h = all_same.1
  six_same (suc (suc zero)) h = all_same.2
  six_same (suc (suc (suc zero))) h = all_same.3
  six_same (suc (suc (suc (suc zero)))) h = all_same.4
  six_same (suc (suc (suc (suc (suc zero))))) h = all_same.5
  six_same (suc (suc (suc (suc (suc (suc k)))))) h = absurd (omega arith)

-- ---- one head

unheld_pages : (c : ℕ) → c < 6 → pages_of_six (λ k. cond (eqb c k) 1 0) ≡ size (c / 2)
unheld_pages zero h = refl
unheld_pages (suc zero) h = refl
unheld_pages (suc (suc zero)) h = refl
unheld_pages (suc (suc (suc zero))) h = refl
unheld_pages (suc (suc (suc (suc zero)))) h = refl
unheld_pages (suc (suc (suc (suc (suc zero))))) h = refl
unheld_pages (suc (suc (suc (suc (suc (suc c)))))) h = absurd (omega arith)

head_pages_lem : (r : Record) → level_in r.level < levels → pages_of_six (λ k. unheld_as k r) + held_as false r + held_as true r ≡ pages_of_record r
head_pages_lem r l = go (is_held_record r) refl (kernel_in r.marks) refl
  where
    go : (t : Bool) → is_held_record r ≡ t → (u : Bool) → kernel_in r.marks ≡ u
        → pages_of_six (λ k. unheld_as k r) + held_as false r + held_as true r ≡ pages_of_record r
    go true e true d =
        let n : pages_of_six (λ k. unheld_as k r) ≡ 0 = rw e in
        omega (arith, held_kernel r r.marks refl e d)
    go true e false d =
        let n : pages_of_six (λ k. unheld_as k r) ≡ 0 = rw e in
        omega (arith, held_page r r.marks refl e d)
    go false e u d =
        let c : class_of r / 2 ≡ level_in r.level = omega arith in
        let n : pages_of_six (λ k. unheld_as k r) ≡ size (class_of r / 2) = rw e (unheld_pages (class_of r) (omega arith)) in
        let s : size (class_of r / 2) ≡ pages_of_record r = ap size c ∙ sym (pages_small r l) in
        omega (arith, held_free r r.marks refl e false, held_free r r.marks refl e true)

-- ---- the lists of a row

pub sum_last : (w : ℕ → ℕ) (a n : ℕ) → sum w (range a (n + 1)) ≡ sum w (range a n) + w (a + n)
unfolding sum range
sum_last w a zero = let e : a + 0 ≡ a = omega arith in rw e (omega arith)
sum_last w a (suc n) =
    let e : a + 1 + n ≡ a + suc n = omega arith in
    let s : suc n + 1 ≡ suc (n + 1) = omega arith in
    rw s (omega (arith, rw e at (sum_last w (a + 1) n)))

-- the pages on the list k of six, which is of the level k / 2
abbrev pub list_weight : List Links → ℕ → ℕ
list_weight lists k = size (k / 2) * (get_or lists k no_links).count

pub weight_most : (lists : List Links) (k : ℕ) → k < 6 → (get_or lists k no_links).count < 4294967296 → list_weight lists k ≤ 2 ^ 50
weight_most lists k h m =
    let l : k / 2 < levels = omega arith in
    omega (arith, mul-le-mul_right (get_or lists k no_links).count (size_most l))

-- ---- all heads

module _ (f : Records) (from base past : ℕ) where
  heads_pages : (at : ℕ) (hs : List ℕ) → at ≤ past → Steps f past at hs → all (head_at f from base past) hs ≡ true
      → pages_of_six (λ k. sum (λ h. unheld_as k (f h)) hs) + sum (λ h. held_as false (f h)) hs + sum (λ h. held_as true (f h)) hs ≡ past - at
  unfolding all sum
  heads_pages at [] l s t = omega arith
  heads_pages at (h ∷ hs) l s t =
      let d = head_facts f from base past h (and_left _ _ t) in
      let e : pages_of_record (f h) ≡ size (level_in (f h).level) = pages_small (f h) d.level in
      let q : pages_of_record (f at) ≡ pages_of_record (f h) = ap (λ (x : ℕ). pages_of_record (f x)) (sym s.0) in
      let more = heads_pages (at + pages_of_record (f at)) hs (omega (arith, s.0, d.fits)) s.2 (and_right (head_at f from base past h) _ t) in
      omega (arith, s.0, d.fits, head_pages_lem (f h) d.level, more)

  pub region_pages : tiled_at f from base past ≡ true → base ≤ past
      → pages_of_six (λ k. unheld_at k f base past) + held_at false f base past + held_at true f base past ≡ past - base
  unfolding tiled_at unheld_at held_at
  region_pages t l = heads_pages base (heads_of f base past) l (steps_of f past (past - base) base (omega arith)) t
