-- A good store whose books are kept is `Sane`, as likeness asks of it: its counters and lists tell the truth about its frames. A reader takes from here
-- `sane_of`: the four facts of `Sane` come from demand 3, so that beside common ground demand 2 rests on nothing else.
use Prim.Native.Nat.{ℕ, zero, suc, ◌+◌, ◌-◌, ◌*◌, ◌/◌, ◌≤◌, ◌<◌}
use mathlib.Core.Bool.{Bool, true, false, not, cond, ◌&&◌, ◌||◌, false≢true}
use mathlib.Core.List.{List, [], ◌∷◌, ◌++◌}
use mathlib.Core.Option.{Option, none, some}
use mathlib.Core.Path.{◌≡◌, refl, sym, ap, ◌∙◌}
use native.Mathlib.Omega.{arith}
use borrow.Author.Tests.{eq-eqb, eqb-true}
use lib.Dec.{eqb}
use lib.ListN.{length}
use Rattle.definition.proofs.Boards.{page_positive}
use Rattle.definition.proofs.Bytes.{bytes_order, pages_none}
use Rattle.definition.specs.Board.{Fit}
use Rattle.definition.specs.Basics.{everywhere, all, any, sum, range, bit}
use Rattle.definition.specs.Board.{Board}
use Rattle.definition.specs.Frame.{Frame, Frames, size, slot}
use Rattle.definition.specs.Allocator.{AllocationRegion, is_listed}
use Rattle.definition.specs.Boot.{managed_pages}
use Rattle.definition.specs.Book.{Held, Book}
use Rattle.definition.specs.Rust.{old_count}
use Rattle.definition.specs.Store.{Store}
use Rattle.definition.proofs.Tests.{and_left, and_right, and-true}
use Rattle.level.proofs.Sizes.{size_rises}
use Rattle.likeness.specs.Likeness.{IdleCovers, has_level, pages_held, HeldBooked, CountsFit, Sane}
use Rattle.likeness.proofs.Booking.{standing, booked_of}
use Rattle.bookkeeping.specs.Blocks.{Block, All, listed, holding, pages_of, pages_with_kernel, pages_without, tables}
use Rattle.bookkeeping.specs.Blocks.All.{all_none, all_more}
use Rattle.bookkeeping.specs.Claim.{bytes_of, Bookkeeping}
use Rattle.bookkeeping.specs.Good.{same, held_as, in_book, listed_pages, IsFree, Lists, Good}
use Rattle.bookkeeping.proofs.Blocks.{sum_append}
use Rattle.bookkeeping.proofs.Accepts.{emptied_sums}

-- ---- where a frame of a level or above is listed, as many pages are idle

record Among (test : ℕ → Bool) (a n : ℕ) : Type 0 where
  at : ℕ
  low : a ≤ at
  high : at < a + n
  passes : test at ≡ true

any_range : (test : ℕ → Bool) (a n : ℕ) → any test (range a n) ≡ true → Among test a n
unfolding any range
any_range test a zero e = absurd (false≢true e)
any_range test a (suc n) e = go (test a) refl e (any_range test (a + 1) n)
  where
    go : (t : Bool) → test a ≡ t → t || any test (range (a + 1) n) ≡ true → (any test (range (a + 1) n) ≡ true → Among test (a + 1) n) → Among test a (suc n)
    go true i j more = record { at = a; low = omega arith; high = omega arith; passes = i }
    go false i j more = let k = more j in record { at = k.at; low = omega (arith, k.low); high = omega (arith, k.high); passes = k.passes }

sum_has : (v : ℕ → ℕ) (a n k : ℕ) → a ≤ k → k < a + n → v k ≤ sum v (range a n)
unfolding sum range
sum_has v a zero k l h = absurd (omega arith)
sum_has v a (suc n) k l h = go (eqb a k) refl (sum_has v (a + 1) n k)
  where
    go : (t : Bool) → eqb a k ≡ t → (a + 1 ≤ k → k < a + 1 + n → v k ≤ sum v (range (a + 1) n)) → v k ≤ v a + sum v (range (a + 1) n)
    go true e more = omega (arith, ap v (eqb-true a k e))
    go false e more = let n : a ≡ k → ⊥ = λ d. false≢true (sym e ∙ eq-eqb a k d) in omega (arith, more (omega arith) (omega arith))

some_times : (xs : List ℕ) (n : ℕ) → any everywhere xs ≡ true → n ≤ n * length xs
unfolding any
some_times [] n e = absurd (false≢true e)
some_times (x ∷ xs) n e = omega arith

region_idle : (l : ℕ) (r : AllocationRegion) → any (λ k. any everywhere (r.free k)) (range (slot l false) (6 - slot l false)) ≡ true → size l ≤ listed_pages r
region_idle l r e =
    let k = any_range (λ k. any everywhere (r.free k)) (l * 2) (6 - l * 2) e in
    let big : size l ≤ size (k.at / 2) = size_rises (omega (arith, k.low)) in
    omega (
      arith,
      big,
      some_times (r.free k.at) (size (k.at / 2)) k.passes,
      sum_has (λ j. size (j / 2) * length (r.free j)) 0 6 k.at (omega arith) (omega (arith, k.low, k.high)),
    )

module _ (board : Board) where
  all_idle : (l : ℕ) (rs : List AllocationRegion) → is_listed everywhere l rs ≡ true → size l ≤ sum (λ r. listed_pages r + tables board r) rs
  unfolding is_listed any sum
  all_idle l [] e = absurd (false≢true e)
  all_idle l (r ∷ rs) e = go (any (λ k. any everywhere (r.free k)) (range (slot l false) (6 - slot l false))) refl e (all_idle l rs)
    where
      go : (t : Bool) → any (λ k. any everywhere (r.free k)) (range (slot l false) (6 - slot l false)) ≡ t → t || is_listed everywhere l rs ≡ true
          → (is_listed everywhere l rs ≡ true → size l ≤ sum (λ r. listed_pages r + tables board r) rs)
          → size l ≤ listed_pages r + tables board r + sum (λ r. listed_pages r + tables board r) rs
      go true i j more = omega (arith, region_idle l r i)
      go false i j more = omega (arith, more j)

-- ---- a listed frame has the level of its list

module _ {board : Board} where
  list_level : {fs : Frames} {r : AllocationRegion} {l : ℕ} {z : Bool} {ps : List ℕ} → All (IsFree board fs r l z) ps → all (λ p. has_level l (fs p)) ps ≡ true
  unfolding all
  list_level all_none = refl
  list_level {fs} {l = l} (all_more {x = p} i more) =
      let here : has_level l (fs p) ≡ true = rw i.here (eq-eqb i.frame.level l i.level) in
      and-true here (list_level more)

  lists_level : {fs : Frames} {rs : List AllocationRegion} → All (Lists board fs) rs → (l : ℕ) (z : Bool) → l < 3
      → all (λ r. all (λ p. has_level l (fs p)) (r.free (slot l z))) rs ≡ true
  unfolding all
  lists_level all_none l z h = refl
  lists_level (all_more L more) l z h = and-true (list_level (L.each l z h)) (lists_level more l z h)

-- ---- the counters have the pages of whatever frames are held

same_kernel : (k t : Bool) → cond t k (not k) ≡ same k t
same_kernel true true = refl
same_kernel true false = refl
same_kernel false true = refl
same_kernel false false = refl

-- the pages of a held frame of the book, with KERNEL or without as asked
abbrev held_weight : Bool → Held → ℕ
held_weight t h = cond (same h.kernel t) (size h.level) 0

book_stands : (t : Bool) (p l : ℕ) (hs : List Held) → 1 ≤ in_book p l t hs → size l ≤ standing (λ (h : Held). h.page) (held_weight t) hs p
unfolding in_book sum
book_stands t p l [] e = absurd (omega arith)
book_stands t p l (h ∷ hs) e =
    go (eqb p h.page && (eqb h.level l && same h.kernel t)) refl e (book_stands t p l hs)
  where
    go : (u : Bool) → (eqb p h.page && (eqb h.level l && same h.kernel t)) ≡ u → 1 ≤ bit u + in_book p l t hs
        → (1 ≤ in_book p l t hs → size l ≤ standing (λ (h : Held). h.page) (held_weight t) hs p)
        → size l ≤ cond (eqb h.page p) (held_weight t h) 0 + standing (λ (h : Held). h.page) (held_weight t) hs p
    go false i j more = omega (arith, more (omega arith))
    go true i j more =
        let a = eqb-true p h.page (and_left _ _ i) in
        let b = and_right (eqb p h.page) _ i in
        let c = eqb-true h.level l (and_left _ _ b) in
        rw (eq-eqb h.page p (sym a), and_right (eqb h.level l) _ b, c) (omega arith)

frame_stands : (t : Bool) (p : ℕ) (o : Option Frame) (hs : List Held) → ((l : ℕ) → in_book p l t hs ≡ held_as l t o)
    → pages_held t o ≤ standing (λ (h : Held). h.page) (held_weight t) hs p
frame_stands t p none hs e = omega arith
frame_stands t p (some f) hs e = go (f.allocated && cond t f.kernel (not f.kernel)) refl
  where
    go : (u : Bool) → (f.allocated && cond t f.kernel (not f.kernel)) ≡ u
        → cond u (size f.level) 0 ≤ standing (λ (h : Held). h.page) (held_weight t) hs p
    go false i = omega arith
    go true i =
        let a : f.allocated ≡ true = and_left _ _ i in
        let k : same f.kernel t ≡ true = sym (same_kernel f.kernel t) ∙ and_right f.allocated _ i in
        let one : held_as f.level t (some f) ≡ 1 = ap bit (and-true a (and-true (eq-eqb f.level f.level refl) k)) in
        book_stands t p f.level hs (omega (arith, e f.level))

same_true : (k : Bool) → same k true ≡ k
same_true true = refl
same_true false = refl

same_false : (k : Bool) → same k false ≡ not k
same_false true = refl
same_false false = refl

not_cond : (k : Bool) (n : ℕ) → cond (not k) n 0 ≡ cond k 0 n
not_cond true n = refl
not_cond false n = refl

kernel_sum : (hs : List Held) → sum (held_weight true) hs ≡ sum pages_with_kernel (holding hs)
unfolding sum holding
kernel_sum [] = refl
kernel_sum (h ∷ hs) = rw (same_true h.kernel, kernel_sum hs)

page_sum : (hs : List Held) → sum (held_weight false) hs ≡ sum pages_without (holding hs)
unfolding sum holding
page_sum [] = refl
page_sum (h ∷ hs) = rw (same_false h.kernel, not_cond h.kernel (size h.level), page_sum hs)

-- ---- the pages counted are the regions'

module _ (board : Board) where
  bytes_sum : (xs : List Block) → sum (bytes_of board) xs ≡ board.page * sum pages_of xs
  unfolding sum
  bytes_sum [] = sym (pages_none board.page)
  bytes_sum (x ∷ xs) = omega (arith, bytes_sum xs)

both_sum : (xs : List Block) → sum pages_with_kernel xs + sum pages_without xs ≡ sum pages_of xs
unfolding sum
both_sum [] = refl
both_sum (x ∷ xs) = go x.mark (both_sum xs)
  where
    go : (t : Bool) → sum pages_with_kernel xs + sum pages_without xs ≡ sum pages_of xs
        → cond t (pages_of x) 0 + sum pages_with_kernel xs + (cond t 0 (pages_of x) + sum pages_without xs) ≡ pages_of x + sum pages_of xs
    go true e = omega arith
    go false e = omega arith

-- ---- the four facts

module _ {board : Board} (fit : Fit board) where
  module _ {s : Store} {k : Book} (G : Good board s k) (B : Bookkeeping board s k) where
    idle : IdleCovers s
    idle l e = rw G.idle (all_idle board l s.allocator.regions e)

    booked : HeldBooked s
    booked t ps once =
        let h =
        booked_of (λ (h : Held). h.page) (held_weight t) k.held s.allocator.frames t
        (λ p. frame_stands t p (s.allocator.frames p) k.held (λ l. G.booked p l t)) ps once in
        go t h
      where
        go : (u : Bool) → sum (λ p. pages_held t (s.allocator.frames p)) ps ≤ sum (held_weight u) k.held
            → sum (λ p. pages_held t (s.allocator.frames p)) ps ≤ old_count u s.counters
        go true h = omega (arith, kernel_sum k.held, B.kernel_pages)
        go false h = omega (arith, page_sum k.held, B.page_data)

    fits : CountsFit s
    fits =
        let kept = k.regions in
        let xs = listed s.allocator.regions in
        let ys = holding k.held in
        let few : sum pages_of (xs ++ ys) ≤ managed_pages board kept = bytes_order board.page (page_positive fit) (omega (arith, bytes_sum board (xs ++ ys), B.adds)) in
        omega (
          arith,
          B.idle,
          B.kernel_pages,
          B.page_data,
          both_sum ys,
          sum_append pages_of xs ys,
          few,
          emptied_sums board s.allocator.regions G.placed.as_boot,
          ap (λ l. managed_pages board l + sum (tables board) l) G.regions,
          G.placed.pages,
        )

    pub sane_of : Sane s
    sane_of = record { idle = idle; listed = lists_level G.lists; booked = booked; fits = fits }
