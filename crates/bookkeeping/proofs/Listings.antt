-- Each list of a region holds its unheld frames of one level and mark, each once, and the book has the held ones; the counters count what stands on the lists
-- and what the heads' marks say. Each law is of any list of blocks that is fine.
use Prim.Native.Nat.{ℕ, zero, suc, ◌+◌, ◌*◌, ◌≤◌, ◌<◌}
use native.Mathlib.Omega.{arith}
use mathlib.Core.Bool.{Bool, true, false, not, cond, ◌&&◌, ◌||◌, false≢true}
use mathlib.Core.List.{List, [], ◌∷◌, ◌++◌}
use mathlib.Core.Option.{Option, none, some}
use mathlib.Core.Path.{◌≡◌, refl, sym, ap, ◌∙◌}
use lib.Dec.{eqb}
use lib.ListN.{length}
use borrow.Author.Tests.{eqb-true, eq-eqb}
use Rattle.definition.specs.Board.{Board}
use Rattle.definition.specs.Basics.{sum, any, bit, range, member}
use Rattle.definition.specs.Frame.{Frame, Frames, size, slot}
use Rattle.definition.specs.Allocator.{AllocationRegion, first, end, contains}
use Rattle.definition.specs.Book.{Held}
use Rattle.bookkeeping.specs.Blocks.{
  Block,
  All,
  on_list,
  region_blocks,
  listed,
  holding,
  pages_of,
  pages_with_kernel,
  pages_without,
  manages,
  home,
  lies,
  tables,
}
use Rattle.bookkeeping.specs.Blocks.All.{all_none, all_more}
use Rattle.bookkeeping.specs.Good.{heads, times, IsFree, Lists, same, held_as, in_book, listed_pages, held_pages, head_pages}
use Rattle.bookkeeping.proofs.Blocks.{sum_append, block, starts_at, weigh, Fine, size_pos}
use Rattle.bookkeeping.proofs.Frames.{frame_right}
use Rattle.bookkeeping.proofs.Lists.{lone}
use Rattle.bookkeeping.proofs.Search.{alien, alien_facts, strays}
use Rattle.bookkeeping.proofs.Invariant.{and-true}
use Rattle.bookkeeping.proofs.Tilings.{Among, all_among, contains_in, heads_law, sum_alike, sum_ext}

-- ---- tests

same_self : (t : Bool) → same t t ≡ true
same_self true = refl
same_self false = refl

same_eq : (t u : Bool) → same t u ≡ true → t ≡ u
same_eq true true e = refl
same_eq true false e = sym e
same_eq false true e = e
same_eq false false e = refl

bit_one : (t : Bool) → 1 ≤ bit t → t ≡ true
bit_one true h = refl
bit_one false h = absurd (omega arith)

bit_most : (t : Bool) → bit t ≤ 1
bit_most true = omega arith
bit_most false = omega arith

-- ---- how often a page is on a list

times_all : {P : ℕ → Type 0} (xs : List ℕ) → ((p : ℕ) → 1 ≤ times p xs → P p) → All P xs
unfolding times
times_all [] h = all_none
times_all (x ∷ xs) h = all_more {x = x} (h x (rw (eq-eqb x x refl) (omega arith))) (times_all xs (λ p i. h p (omega arith)))

times_member : (p : ℕ) (xs : List ℕ) → 1 ≤ times p xs → member p xs ≡ true
unfolding times member any
times_member p [] h = absurd (omega arith)
times_member p (x ∷ xs) h = go (eqb p x) refl (λ i. times_member p xs i)
  where
    go : (t : Bool) → eqb p x ≡ t → (1 ≤ times p xs → member p xs ≡ true) → (t || member p xs) ≡ true
    go true e more = refl
    go false e more = more (omega (arith, rw e at h))

-- ---- a region's lists

-- weight: 1 if the block is unheld, of the level l and the mark z
abbrev free_as : ℕ → Bool → Block → ℕ
free_as l z x = bit (not x.held && (eqb x.level l && same x.mark z))

count_if
    : (p l : ℕ) (z : Bool) (j : ℕ) (y : Bool) (ps : List ℕ) (t : Bool) → (eqb j l && same y z) ≡ t
    → sum (starts_at p (free_as l z)) (on_list j y ps) ≡ cond t (times p ps) 0
unfolding sum on_list times
count_if p l z j y [] true e = refl
count_if p l z j y [] false e = refl
count_if p l z j y (q ∷ qs) true e = rw e (go (eqb p q) (count_if p l z j y qs true e))
  where
    go : (t : Bool) → sum (starts_at p (free_as l z)) (on_list j y qs) ≡ times p qs → cond t 1 0 + sum (starts_at p (free_as l z)) (on_list j y qs) ≡ bit t + times p qs
    go true i = omega arith
    go false i = omega arith
count_if p l z j y (q ∷ qs) false e = rw e (go (eqb p q) (count_if p l z j y qs false e))
  where
    go : (t : Bool) → sum (starts_at p (free_as l z)) (on_list j y qs) ≡ 0 → cond t 0 0 + sum (starts_at p (free_as l z)) (on_list j y qs) ≡ 0
    go true i = omega arith
    go false i = omega arith

count_on
    : (p l : ℕ) (z : Bool) (j : ℕ) (y : Bool) (ps : List ℕ) → sum (starts_at p (free_as l z)) (on_list j y ps) ≡ cond (eqb j l && same y z) (times p ps) 0
count_on p l z j y ps = count_if p l z j y ps (eqb j l && same y z) refl

count_region : (p l : ℕ) (z : Bool) (free : ℕ → List ℕ) → l ≤ 2 → sum (starts_at p (free_as l z)) (region_blocks free) ≡ times p (free (slot l z))
unfolding region_blocks
count_region p zero true free h = simp (sum_append, count_on) (omega arith)
count_region p zero false free h = simp (sum_append, count_on) (omega arith)
count_region p (suc zero) true free h = simp (sum_append, count_on) (omega arith)
count_region p (suc zero) false free h = simp (sum_append, count_on) (omega arith)
count_region p (suc (suc zero)) true free h = simp (sum_append, count_on) (omega arith)
count_region p (suc (suc zero)) false free h = simp (sum_append, count_on) (omega arith)
count_region p (suc (suc (suc l))) z free h = absurd (omega arith)

-- what the book holds is not unheld
count_held : (p l : ℕ) (z : Bool) (hs : List Held) → sum (starts_at p (free_as l z)) (holding hs) ≡ 0
unfolding sum holding
count_held p l z [] = refl
count_held p l z (h ∷ hs) = go (eqb p h.page) (count_held p l z hs)
  where
    go : (t : Bool) → sum (starts_at p (free_as l z)) (holding hs) ≡ 0 → cond t 0 0 + sum (starts_at p (free_as l z)) (holding hs) ≡ 0
    go true i = omega arith
    go false i = omega arith

-- a region's lists have no page outside it
strange : (low high p : ℕ) → (low ≤ p → p < high → ⊥) → (w : Block → ℕ) (xs : List Block) → sum (alien low high) xs ≡ 0 → sum (starts_at p w) xs ≡ 0
unfolding sum
strange low high p n w [] h = refl
strange low high p n w (x ∷ xs) h = go (eqb p x.page) refl (strange low high p n w xs (omega arith))
  where
    go : (t : Bool) → eqb p x.page ≡ t → sum (starts_at p w) xs ≡ 0 → cond t (w x) 0 + sum (starts_at p w) xs ≡ 0
    go true e i =
        let f = alien_facts low high x (omega arith) in
        let d : p ≡ x.page = eqb-true p x.page e in
        absurd (n (omega (arith, f.0)) (omega (arith, f.1, size_pos x.level)))
    go false e i = omega arith

stranger
    : (b : Board) (r : AllocationRegion) (p : ℕ) → contains b r p ≡ false → strays b r ≡ 0 → (w : Block → ℕ) → sum (starts_at p w) (region_blocks r.free) ≡ 0
stranger b r p e o w = strange (first b r) (end b r) p (λ i j. false≢true (sym e ∙ contains_in b r p i j)) w (region_blocks r.free) o

strangers
    : (b : Board) (rs : List AllocationRegion) (p : ℕ) → sum (manages b p) rs ≡ 0 → sum (strays b) rs ≡ 0 → (w : Block → ℕ)
    → sum (starts_at p w) (listed rs) ≡ 0
unfolding sum listed
strangers b [] p e o w = refl
strangers b (r ∷ rs) p e o w = simp sum_append (go (contains b r p) refl (strangers b rs p (omega arith) (omega arith) w))
  where
    go : (t : Bool) → contains b r p ≡ t → sum (starts_at p w) (listed rs) ≡ 0 → sum (starts_at p w) (region_blocks r.free) + sum (starts_at p w) (listed rs) ≡ 0
    go true i j = absurd (omega (arith, rw i at e))
    go false i j = omega (arith, stranger b r p i (omega arith) w)

listed_append : (w : Block → ℕ) (rs ts : List AllocationRegion) → sum w (listed (rs ++ ts)) ≡ sum w (listed rs) + sum w (listed ts)
unfolding listed sum
listed_append w [] ts = omega arith
listed_append w (r ∷ rs) ts = simp sum_append (omega (arith, listed_append w rs ts))

-- ---- the book

-- weight: 1 if the block is held, of the level l, and was granted with KERNEL or without as said
abbrev held_with : ℕ → Bool → Block → ℕ
held_with l kernel x = bit (x.held && (eqb x.level l && same x.mark kernel))

-- the pages of such a block of any level
abbrev held_weight : Bool → Block → ℕ
held_weight kernel x = cond (x.held && same x.mark kernel) (pages_of x) 0

book_count : (p l : ℕ) (kernel : Bool) (hs : List Held) → in_book p l kernel hs ≡ sum (starts_at p (held_with l kernel)) (holding hs)
unfolding sum holding in_book
book_count p l kernel [] = refl
book_count p l kernel (h ∷ hs) = go (eqb p h.page) (book_count p l kernel hs)
  where
    go
        : (t : Bool) → in_book p l kernel hs ≡ sum (starts_at p (held_with l kernel)) (holding hs)
        → bit (t && (eqb h.level l && same h.kernel kernel)) + in_book p l kernel hs
        ≡ cond t (bit (eqb h.level l && same h.kernel kernel)) 0 + sum (starts_at p (held_with l kernel)) (holding hs)
    go true i = omega arith
    go false i = omega arith

-- a weight that is 0 for each unheld block
on_unheld : (w : Block → ℕ) → ((p l : ℕ) (z : Bool) → w (lone p l z) ≡ 0) → (l : ℕ) (z : Bool) (ps : List ℕ) → sum w (on_list l z ps) ≡ 0
unfolding sum on_list
on_unheld w h l z [] = refl
on_unheld w h l z (p ∷ ps) = omega (arith, h p l z, on_unheld w h l z ps)

listed_unheld : (w : Block → ℕ) (rs : List AllocationRegion) → ((p l : ℕ) (z : Bool) → w (lone p l z) ≡ 0) → sum w (listed rs) ≡ 0
unfolding sum listed region_blocks
listed_unheld w [] h = refl
listed_unheld w (r ∷ rs) h = simp (sum_append, on_unheld w h) (omega (arith, listed_unheld w rs h))

at_unheld : (p l : ℕ) (kernel : Bool) (q j : ℕ) (z : Bool) → starts_at p (held_with l kernel) (lone q j z) ≡ 0
at_unheld p l kernel q j z = go (eqb p q)
  where
    go : (t : Bool) → ◌≡◌ {A = ℕ} (cond t 0 0) 0
    go true = refl
    go false = refl

weigh_held : (p l : ℕ) (kernel : Bool) (o : Option Frame) → weigh (held_with l kernel) p o ≡ held_as l kernel o
weigh_held p l kernel none = refl
weigh_held p l kernel (some f) = go f.allocated
  where
    go : (t : Bool) → bit (t && (eqb f.level l && same (cond t f.kernel f.zeroed) kernel)) ≡ bit (t && (eqb f.level l && same f.kernel kernel))
    go true = refl
    go false = refl

weigh_pages : (kernel : Bool) (p : ℕ) (o : Option Frame) → weigh (held_weight kernel) p o ≡ held_pages kernel o
weigh_pages kernel p none = refl
weigh_pages kernel p (some f) = go f.allocated
  where
    go : (t : Bool) → cond (t && same (cond t f.kernel f.zeroed) kernel) (size f.level) 0 ≡ cond (t && same f.kernel kernel) (size f.level) 0
    go true = refl
    go false = refl

-- the held pages with KERNEL, and those without
pub kernel_weight : (hs : List Held) → sum pages_with_kernel (holding hs) ≡ sum (held_weight true) (holding hs)
unfolding sum holding
kernel_weight [] = refl
kernel_weight (h ∷ hs) = go h.kernel (kernel_weight hs)
  where
    go
        : (t : Bool) → sum pages_with_kernel (holding hs) ≡ sum (held_weight true) (holding hs)
        → cond t (size h.level) 0 + sum pages_with_kernel (holding hs) ≡ cond (same t true) (size h.level) 0 + sum (held_weight true) (holding hs)
    go true i = omega arith
    go false i = omega arith

pub other_weight : (hs : List Held) → sum pages_without (holding hs) ≡ sum (held_weight false) (holding hs)
unfolding sum holding
other_weight [] = refl
other_weight (h ∷ hs) = go h.kernel (other_weight hs)
  where
    go
        : (t : Bool) → sum pages_without (holding hs) ≡ sum (held_weight false) (holding hs)
        → cond t 0 (size h.level) + sum pages_without (holding hs) ≡ cond (same t false) (size h.level) 0 + sum (held_weight false) (holding hs)
    go true i = omega arith
    go false i = omega arith

-- the pages on a region's lists
on_pages : (l : ℕ) (z : Bool) (ps : List ℕ) → sum pages_of (on_list l z ps) ≡ size l * length ps
unfolding sum on_list
on_pages l z [] = omega arith
on_pages l z (p ∷ ps) = omega (arith, on_pages l z ps)

region_pages : (r : AllocationRegion) → sum pages_of (region_blocks r.free) ≡ listed_pages r
unfolding region_blocks sum range
region_pages r = simp (sum_append, on_pages) (omega arith)

pub idle_pages_lem : (b : Board) (rs : List AllocationRegion) → sum pages_of (listed rs) + sum (tables b) rs ≡ sum (λ r. listed_pages r + tables b r) rs
unfolding listed sum
idle_pages_lem b [] = refl
idle_pages_lem b (r ∷ rs) = omega (arith, sum_append pages_of (region_blocks r.free) (listed rs), region_pages r, idle_pages_lem b rs)

module _ (b : Board) (rs : List AllocationRegion) (hs : List Held) {pages : ℕ} {fs : Frames}
    (h : Fine (home b rs) (lies b rs) pages fs (listed rs ++ holding hs)) where
  marks : (p : ℕ) (w : Block → ℕ) → sum (starts_at p w) (listed rs) + sum (starts_at p w) (holding hs) ≡ weigh w p (fs p)
  marks p w = simp sum_append at (h.marks p w)

  module _ (own : sum (strays b) rs ≡ 0) (r : AllocationRegion) (at : Among r rs) where
    owns : sum (strays b) at.before + (strays b r + sum (strays b) at.behind) ≡ 0
    unfolding sum
    owns = sym (sum_append (strays b) at.before (r ∷ at.behind)) ∙ (sym (ap (sum (strays b)) at.whole) ∙ own)

    homes : (q : ℕ) → sum (manages b q) at.before + (manages b q r + sum (manages b q) at.behind) ≡ home b rs q
    unfolding home sum
    homes q = sym (sum_append (manages b q) at.before (r ∷ at.behind)) ∙ sym (ap (sum (manages b q)) at.whole)

    lists : (w : Block → ℕ) → sum w (listed rs) ≡ sum w (listed at.before) + (sum w (region_blocks r.free) + sum w (listed at.behind))
    unfolding listed
    lists w =
        ap (λ (l : List AllocationRegion). sum w (listed l)) at.whole
        ∙ (listed_append w at.before (r ∷ at.behind)
        ∙ ap (λ n. sum w (listed at.before) + n) (sum_append w (region_blocks r.free) (listed at.behind)))

    -- how often a page of the region is on its lists, and any other page
    count_in : (p l : ℕ) (z : Bool) → l ≤ 2 → contains b r p ≡ true → times p (r.free (slot l z)) ≡ weigh (free_as l z) p (fs p)
    count_in p l z i e =
        let x : manages b p r ≡ 1 = rw e in
        let y : sum (manages b p) at.before ≡ 0 = omega (arith, homes p, h.once p) in
        let v : sum (manages b p) at.behind ≡ 0 = omega (arith, homes p, h.once p) in
        omega (
          arith,
          marks p (free_as l z),
          count_held p l z hs,
          lists (starts_at p (free_as l z)),
          strangers b at.before p y (omega (arith, owns)) (free_as l z),
          strangers b at.behind p v (omega (arith, owns)) (free_as l z),
          count_region p l z r.free i,
        )

    count_out : (p l : ℕ) (z : Bool) → l ≤ 2 → contains b r p ≡ false → times p (r.free (slot l z)) ≡ 0
    count_out p l z i e = omega (arith, count_region p l z r.free i, stranger b r p e (omega (arith, owns)) (free_as l z))

    region_lists : Lists b fs r
    region_lists = record { each = each; once = once; every = every }
      where
        found : (p l : ℕ) (z : Bool) → contains b r p ≡ true → (o : Option Frame) → fs p ≡ o → 1 ≤ weigh (free_as l z) p o → IsFree b fs r l z p
        found p l z i none e k = absurd (omega arith)
        found p l z i (some f) e k = on f.allocated refl k
          where
            on
                : (t : Bool) → f.allocated ≡ t → 1 ≤ bit (not t && (eqb f.level l && same (cond t f.kernel f.zeroed) z))
                → IsFree b fs r l z p
            on true j k = absurd (omega arith)
            on false j k =
                let x = and-true (eqb f.level l) (same f.zeroed z) (bit_one (eqb f.level l && same f.zeroed z) k) in
                record { inside = i; frame = f; here = e; unheld = j; level = eqb-true f.level l x.0; zeroed = same_eq f.zeroed z x.1 }

        each : (l : ℕ) (z : Bool) → l < 3 → All (IsFree b fs r l z) (r.free (slot l z))
        each l z i = times_all (r.free (slot l z)) (λ p j. go p (contains b r p) refl j)
          where
            go : (p : ℕ) (t : Bool) → contains b r p ≡ t → 1 ≤ times p (r.free (slot l z)) → IsFree b fs r l z p
            go p true e j = found p l z e (fs p) refl (omega (arith, count_in p l z (omega arith) e))
            go p false e j = absurd (omega (arith, count_out p l z (omega arith) e))

        most : (p l : ℕ) (z : Bool) (o : Option Frame) → weigh (free_as l z) p o ≤ 1
        most p l z none = omega arith
        most p l z (some f) = bit_most (not f.allocated && (eqb f.level l && same (cond f.allocated f.kernel f.zeroed) z))

        once : (l : ℕ) (z : Bool) → l < 3 → (p : ℕ) → times p (r.free (slot l z)) ≤ 1
        once l z i p = go (contains b r p) refl
          where
            go : (t : Bool) → contains b r p ≡ t → times p (r.free (slot l z)) ≤ 1
            go true e = omega (arith, count_in p l z (omega arith) e, most p l z (fs p))
            go false e = omega (arith, count_out p l z (omega arith) e)

        unheld : (p : ℕ) (f : Frame) → f.allocated ≡ false → free_as f.level f.zeroed (block p f) ≡ 1
        unheld p f e =
            ap (λ (t : Bool). bit (not t && (eqb f.level f.level && same (cond t f.kernel f.zeroed) f.zeroed))) e
            ∙ rw (eq-eqb f.level f.level refl, same_self f.zeroed)

        every : (p : ℕ) (f : Frame) → contains b r p ≡ true → fs p ≡ some f → f.allocated ≡ false → member p (r.free (slot f.level f.zeroed)) ≡ true
        every p f i e j =
            let k : weigh (free_as f.level f.zeroed) p (fs p) ≡ 1 = rw e (unheld p f j) in
            times_member p (r.free (slot f.level f.zeroed)) (omega (arith, count_in p f.level f.zeroed (omega (arith, frame_right h p f e)) i))

  pub all_lists : sum (strays b) rs ≡ 0 → All (Lists b fs) rs
  all_lists own = all_among rs (λ r at. region_lists own r at)

  -- ---- the book

  pub all_booked : (p l : ℕ) (kernel : Bool) → in_book p l kernel hs ≡ held_as l kernel (fs p)
  all_booked p l kernel =
      omega (arith, marks p (held_with l kernel), listed_unheld (starts_at p (held_with l kernel)) rs (at_unheld p l kernel), book_count p l kernel hs)
      ∙ weigh_held p l kernel (fs p)

  -- ---- the counters

  pub pages_held_lem : All (λ r. tables b r ≤ r.pages) rs → (kernel : Bool) → sum (held_weight kernel) (holding hs) ≡ sum (head_pages b fs kernel) rs
  unfolding sum
  pages_held_lem fit kernel =
      omega (
        arith,
        sum_append (held_weight kernel) (listed rs) (holding hs),
        listed_unheld (held_weight kernel) rs (λ p l z. refl),
        heads_law b rs fit h (held_weight kernel),
      )
      ∙ sum_alike (λ r. sum (λ q. weigh (held_weight kernel) q (fs q)) (heads b fs r)) (head_pages b fs kernel) rs
      (all_among rs (λ r at. sum_ext (λ q. weigh (held_weight kernel) q (fs q)) (λ q. held_pages kernel (fs q)) (heads b fs r) (λ q. weigh_pages kernel q (fs q))))
