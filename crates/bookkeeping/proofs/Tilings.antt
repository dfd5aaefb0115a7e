-- The frames of an agreeing store tile its regions: stepping from a region's first managed page meets frames up to its end. Every weight of the listed and held
-- blocks adds up over the heads that are met, which turns the book's counts into counts of marks.
use Prim.Native.Nat.{ℕ, zero, suc, ◌+◌, ◌-◌, ◌*◌, ◌%◌, ◌≤◌, ◌<◌}
use native.Mathlib.Omega.{arith}
use mathlib.Core.Bool.{Bool, true, false, cond}
use mathlib.Core.List.{List, [], ◌∷◌, ◌++◌, append_assoc}
use mathlib.Core.Logic.{◌≢◌}
use mathlib.Core.Option.{Option, none, some}
use mathlib.Core.Path.{◌≡◌, refl, sym, ap, ◌∙◌, subst}
use lib.Dec.{leb, ltb, eqb}
use borrow.Author.Tests.{leb-true, leb-false, ltb-true, eqb-true, eqb-false, le-leb, lt-ltb}
use Rattle.definition.specs.Board.{Board}
use Rattle.definition.specs.Basics.{sum, range}
use Rattle.definition.specs.Frame.{Frame, Frames, size}
use Rattle.definition.specs.Allocator.{AllocationRegion, first, managed, end, contains}
use Rattle.definition.specs.Contents.{size_of}
use Rattle.bookkeeping.specs.Blocks.{Block, All, spans, pages_of, covers, manages, home, between, has_room, lies, tables}
use Rattle.bookkeeping.specs.Blocks.All.{all_none, all_more}
use Rattle.bookkeeping.specs.Good.{heads_from, heads, IsHead}
use Rattle.bookkeeping.proofs.Blocks.{
  sum_append,
  size_pos,
  spans_in,
  spans_facts,
  spans_first,
  spans_before,
  spans_after,
  spans_none,
  spans_more,
  spans_one,
  block,
  starts_at,
  weigh,
  wrong,
  Fine,
  fine_same,
}
use Rattle.bookkeeping.proofs.Frames.{Head, head_of, frames_apart, managed_over}
use Rattle.bookkeeping.proofs.Search.{between_one, between_facts}
use Rattle.bookkeeping.proofs.Invariant.{and-true}
use Rattle.bookkeeping.proofs.Boots.{manages_spans}

-- ---- a region at its place among the others

pub record Among (r : AllocationRegion) (rs : List AllocationRegion) : Type 0 where
  pub before : List AllocationRegion
  pub behind : List AllocationRegion
  pub whole : rs ≡ before ++ (r ∷ behind)

all_from
    : {P : AllocationRegion → Type 0} (pre rs : List AllocationRegion) → ((r : AllocationRegion) → Among r (pre ++ rs) → P r) → All P rs
all_from pre [] h = all_none
all_from {P} pre (r ∷ rs) h =
    all_more {x = r} (h r (record { before = pre; behind = rs; whole = refl }))
    (all_from (pre ++ (r ∷ [])) rs (λ t i. h t (subst (λ (l : List AllocationRegion). Among t l) (append_assoc pre (r ∷ []) rs) i)))

-- a fact of each region, from one of a region among the others
pub all_among : {P : AllocationRegion → Type 0} (rs : List AllocationRegion) → ((r : AllocationRegion) → Among r rs → P r) → All P rs
all_among rs h = all_from [] rs h

-- ---- the frame that covers a page

pub record Owner (room : ℕ → ℕ → ℕ) (fs : Frames) (q : ℕ) : Type 0 where
  pub page : ℕ
  pub frame : Frame
  pub here : fs page ≡ some frame
  pub over : spans page (size frame.level) q ≡ 1
  pub right : wrong room (block page frame) ≡ 0

module _ {fit : ℕ → ℕ} {room : ℕ → ℕ → ℕ} {pages : ℕ} {fs : Frames} where
  owner : (xs rest : List Block) (q : ℕ) → sum (covers q) xs ≡ 1 → Fine fit room pages fs (xs ++ rest) → Owner room fs q
  unfolding sum
  owner [] rest q e h = absurd (omega arith)
  owner (x ∷ xs) rest q e h = go (covers q x) refl (λ k. owner xs (x ∷ rest) q k (fine_same (λ w. simp sum_append (omega arith)) h))
    where
      on : Head fs x → covers q x ≡ 1 → Owner room fs q
      on i k =
          record {
            page = x.page;
            frame = i.frame;
            here = i.here;
            over = rw (i.alike (λ y. y.level)) k;
            right = omega (arith, h.right, i.alike (wrong room));
          }

      go : (n : ℕ) → covers q x ≡ n → (sum (covers q) xs ≡ 1 → Owner room fs q) → Owner room fs q
      go zero k more = more (omega arith)
      go (suc zero) k more = on (head_of h) k
      go (suc (suc n)) k more = absurd (omega (arith, spans_one x.page (pages_of x) q))

  module _ {xs : List Block} (h : Fine fit room pages fs xs) where
    pub owned : (q : ℕ) → fit q ≡ 1 → Owner room fs q
    unfolding sum
    owned q e = owner xs [] q (h.tiles q ∙ e) (fine_same (λ w. simp sum_append (omega arith)) h)

    -- a page inside a frame starts none
    pub inside_none : (p : ℕ) (f : Frame) → fs p ≡ some f → (q : ℕ) → p < q → q < p + size f.level → fs q ≡ none
    inside_none p f e q a c = go (fs q) refl
      where
        go : (o : Option Frame) → fs q ≡ o → fs q ≡ none
        go none k = k
        go (some g) k =
            absurd (omega (
              arith,
              frames_apart h p q f g (λ i. omega arith) e k q,
              spans_in p (size f.level) q (omega arith) c,
              spans_first q (size g.level) q (size_pos g.level) refl,
            ))

    -- a page that is not managed starts none
    pub bare_none : (q : ℕ) → fit q ≡ 0 → fs q ≡ none
    bare_none q e = go (fs q) refl
      where
        go : (o : Option Frame) → fs q ≡ o → fs q ≡ none
        go none k = k
        go (some f) k = absurd (omega (arith, managed_over h q f k q (spans_first q (size f.level) q (size_pos f.level) refl)))

    -- a frame begins where one ends
    next_head : (p : ℕ) (f : Frame) → fs p ≡ some f → (o : Owner room fs (p + size f.level)) → o.page ≡ p + size f.level
    next_head p f e o = go (eqb o.page (p + size f.level)) refl (eqb p o.page) refl
      where
        under : (o.page ≤ p + size f.level) × (p + size f.level < o.page + size o.frame.level)
        under = spans_facts o.page (size o.frame.level) (p + size f.level) o.over

        below : (a b : ℕ) → a ≤ b → eqb a b ≡ false → a ≤ b - 1
        below a b i k = let d : a ≢ b = eqb-false a b k in omega arith

        go : (t : Bool) → eqb o.page (p + size f.level) ≡ t → (u : Bool) → eqb p o.page ≡ u → o.page ≡ p + size f.level
        go true k u j = eqb-true o.page (p + size f.level) k
        go false k true j =
            let i : p ≡ o.page = eqb-true p o.page j in
            let same : f ≡ o.frame = cc o.here in
            let sizes : size f.level ≡ size o.frame.level = ap (λ (g : Frame). size g.level) same in
            absurd (omega (arith, under.1))
        go false k false j =
            absurd (omega (
              arith,
              frames_apart h p o.page f o.frame (eqb-false p o.page j) e o.here (p + size f.level - 1),
              spans_in p (size f.level) (p + size f.level - 1) (omega (arith, size_pos f.level)) (omega (arith, size_pos f.level)),
              spans_in o.page (size o.frame.level) (p + size f.level - 1) (below o.page (p + size f.level) under.0 k)
                  (omega (arith, under.1)),
            ))

-- ---- a frame lies in the region that has one of its pages

room_covers : (b : Board) (r : AllocationRegion) (p n q : ℕ) → p ≤ q → q < p + n → has_room b p n r ≤ manages b q r
room_covers b r p n q i j = go (between (first b r) (end b r) p n) refl
  where
    go : (x : ℕ) → between (first b r) (end b r) p n ≡ x → x ≤ manages b q r
    go zero e = omega arith
    go (suc zero) e =
        let x = between_facts (first b r) (end b r) p n e in
        rw (le-leb (first b r) q (omega (arith, x.0)), lt-ltb q (end b r) (omega (arith, x.1))) (omega arith)
    go (suc (suc x)) e = absurd (omega (arith, between_one (first b r) (end b r) p n))

rooms_cover : (b : Board) (rs : List AllocationRegion) (p n q : ℕ) → p ≤ q → q < p + n → sum (has_room b p n) rs ≤ sum (manages b q) rs
unfolding sum
rooms_cover b [] p n q i j = omega arith
rooms_cover b (r ∷ rs) p n q i j = omega (arith, room_covers b r p n q i j, rooms_cover b rs p n q i j)

module _ (b : Board) (rs : List AllocationRegion) (r : AllocationRegion) (at : Among r rs) (once : (q : ℕ) → home b rs q ≤ 1) where
  homes : (q : ℕ) → home b rs q ≡ sum (manages b q) at.before + (manages b q r + sum (manages b q) at.behind)
  unfolding home sum
  homes q = ap (sum (manages b q)) at.whole ∙ sum_append (manages b q) at.before (r ∷ at.behind)

  rooms : (p n : ℕ) → lies b rs p n ≡ sum (has_room b p n) at.before + (has_room b p n r + sum (has_room b p n) at.behind)
  unfolding lies sum
  rooms p n = ap (sum (has_room b p n)) at.whole ∙ sum_append (has_room b p n) at.before (r ∷ at.behind)

  pub managed_one : (q : ℕ) → contains b r q ≡ true → home b rs q ≡ 1
  managed_one q e = let x : manages b q r ≡ 1 = rw e in omega (arith, homes q, once q)

  pub inside_region : (p n q : ℕ) → p ≤ q → q < p + n → contains b r q ≡ true → 1 ≤ lies b rs p n → (first b r ≤ p) × (p + n ≤ end b r)
  inside_region p n q i j e h =
      between_facts (first b r) (end b r) p n (omega (
        arith,
        (let x : manages b q r ≡ 1 = rw e in x),
        homes q,
        rooms p n,
        once q,
        rooms_cover b at.before p n q i j,
        rooms_cover b at.behind p n q i j,
        between_one (first b r) (end b r) p n,
      ))

-- ---- stepping through a region

pub contains_in : (b : Board) (r : AllocationRegion) (q : ℕ) → first b r ≤ q → q < end b r → contains b r q ≡ true
contains_in b r q i j = rw (le-leb (first b r) q i, lt-ltb q (end b r) j)

pub contains_facts : (b : Board) (r : AllocationRegion) (q : ℕ) → contains b r q ≡ true → (first b r ≤ q) × (q < end b r)
contains_facts b r q e = let x = and-true (leb (first b r) q) (ltb q (end b r)) e in (leb-true (first b r) q x.0, ltb-true q (end b r) x.1)

module _ (b : Board) {rs : List AllocationRegion} {pages : ℕ} {fs : Frames} {xs : List Block} (h : Fine (home b rs) (lies b rs) pages fs xs)
    (r : AllocationRegion) (at : Among r rs) where
  -- the frame that has a page of the region, and lies in it
  abbrev Here : ℕ → Type 0
  Here p = (o : Owner (lies b rs) fs p) × (o.page ≡ p)

  covering : (q : ℕ) → first b r ≤ q → q < end b r → Owner (lies b rs) fs q
  covering q i j = owned h q (managed_one b rs r at h.once q (contains_in b r q i j))

  stays : (q : ℕ) (o : Owner (lies b rs) fs q) → first b r ≤ q → q < end b r → (first b r ≤ o.page) × (o.page + size o.frame.level ≤ end b r)
  stays q o i j =
      let x = spans_facts o.page (size o.frame.level) q o.over in
      inside_region b rs r at h.once o.page (size o.frame.level) q x.0 x.1 (contains_in b r q i j) (omega (arith, o.right))

  head_here : (p : ℕ) → first b r ≤ p → p < end b r → Here p → IsHead b fs r p
  head_here p i j (o, e) =
      record {
        frame = o.frame;
        here = rw e at o.here;
        level = omega (arith, o.right);
        aligned = rw e at aligned;
        ends = rw e at (stays p o i j).1;
        inside = inside_none h p o.frame (rw e at o.here);
      }
    where
      aligned : o.page % size o.frame.level ≡ 0
      aligned = omega (arith, o.right)

  step_heads : (fuel p : ℕ) → first b r ≤ p → (p < end b r → Here p) → All (IsHead b fs r) (heads_from fs fuel p (end b r))
  unfolding heads_from
  step_heads zero p i k = all_none
  step_heads (suc fuel) p i k = go (leb (end b r) p) refl (λ n a c. step_heads fuel n a c)
    where
      go
          : (t : Bool) → leb (end b r) p ≡ t → ((n : ℕ) → first b r ≤ n → (n < end b r → Here n) → All (IsHead b fs r) (heads_from fs fuel n (end b r)))
          → All (IsHead b fs r) (cond t [] (p ∷ heads_from fs fuel (p + size_of (fs p)) (end b r)))
      go true e more = all_none
      go false e more =
          let j : p < end b r = leb-false (end b r) p e in
          let x = head_here p i j (k j) in
          all_more {xs = heads_from fs fuel (p + size_of (fs p)) (end b r)} x (rw x.here (more (p + size x.frame.level) (omega arith)
          (λ l. let o = covering (p + size x.frame.level) (omega arith) l in (o, next_head h p x.frame x.here o))))

  pub region_heads : All (IsHead b fs r) (heads b fs r)
  region_heads = step_heads (managed b r) (first b r) (omega arith) (λ j. let o = covering (first b r) (omega arith) j in (o, start o j))
    where
      start : (o : Owner (lies b rs) fs (first b r)) → first b r < end b r → o.page ≡ first b r
      start o j =
          let x = stays (first b r) o (omega arith) j in
          let y = spans_facts o.page (size o.frame.level) (first b r) o.over in
          omega (arith, x.0, y.0)

-- ---- sums over pages

range_split : (g : ℕ → ℕ) (p m n : ℕ) → sum g (range p (m + n)) ≡ sum g (range p m) + sum g (range (p + m) n)
unfolding sum range
range_split g p zero n =
    let e : 0 + n ≡ n = omega arith in
    let d : p + 0 ≡ p = omega arith in rw (e, d) (omega arith)
range_split g p (suc m) n =
    let e : suc m + n ≡ suc (m + n) = omega arith in
    let d : p + 1 + m ≡ p + suc m = omega arith in
    rw e (omega (arith, range_split g (p + 1) m n, ap (λ q. sum g (range q n)) d))

range_none : (g : ℕ → ℕ) (p n : ℕ) → ((q : ℕ) → p ≤ q → q < p + n → g q ≡ 0) → sum g (range p n) ≡ 0
unfolding sum range
range_none g p zero h = refl
range_none g p (suc n) h = omega (arith, h p (omega arith) (omega arith), range_none g (p + 1) n (λ q i j. h q (omega arith) (omega arith)))

-- a frame's pages count as its first
range_first : (g : ℕ → ℕ) (p n : ℕ) → 1 ≤ n → ((q : ℕ) → p < q → q < p + n → g q ≡ 0) → sum g (range p n) ≡ g p
unfolding sum range
range_first g p zero i h = absurd (omega arith)
range_first g p (suc n) i h = omega (arith, range_none g (p + 1) n (λ q j k. h q (omega arith) (omega arith)))

sum_heads
    : (b : Board) (fs : Frames) (r : AllocationRegion) (g : ℕ → ℕ) → ((q : ℕ) → fs q ≡ none → g q ≡ 0) → (fuel p : ℕ) → end b r - p ≤ fuel
    → All (IsHead b fs r) (heads_from fs fuel p (end b r)) → sum g (heads_from fs fuel p (end b r)) ≡ sum g (range p (end b r - p))
unfolding heads_from sum range
sum_heads b fs r g z zero p i h = let e : end b r - p ≡ 0 = omega arith in rw e
sum_heads b fs r g z (suc fuel) p i h = go (leb (end b r) p) refl (λ n j k. sum_heads b fs r g z fuel n j k) h
  where
    go
        : (t : Bool) → leb (end b r) p ≡ t
        → ((n : ℕ) → end b r - n ≤ fuel → All (IsHead b fs r) (heads_from fs fuel n (end b r))
        → sum g (heads_from fs fuel n (end b r)) ≡ sum g (range n (end b r - n)))
        → All (IsHead b fs r) (cond t [] (p ∷ heads_from fs fuel (p + size_of (fs p)) (end b r)))
        → sum g (cond t [] (p ∷ heads_from fs fuel (p + size_of (fs p)) (end b r))) ≡ sum g (range p (end b r - p))
    go true e more h = let d : end b r - p ≡ 0 = omega (arith, leb-true (end b r) p e) in rw d
    go false e more (all_more x hs) =
        let n = size x.frame.level in
        let s : size_of (fs p) ≡ n = rw x.here in
        let d : end b r - p ≡ n + (end b r - (p + n)) = omega (arith, x.ends) in
        let k : sum g (heads_from fs fuel (p + n) (end b r)) ≡ sum g (range (p + n) (end b r - (p + n)))
        = more (p + n) (omega (arith, size_pos x.frame.level, x.ends, leb-false (end b r) p e)) (rw s at hs) in
        rw (s, d) (omega (arith, k, range_split g p n (end b r - (p + n)), range_first g p n (size_pos x.frame.level) (λ q i j. z q (x.inside q i j))))

-- the heads' pages are all from p to the region's end
heads_end
    : (b : Board) (fs : Frames) (r : AllocationRegion) (fuel p : ℕ) → end b r - p ≤ fuel → All (IsHead b fs r) (heads_from fs fuel p (end b r))
    → sum (λ h. size_of (fs h)) (heads_from fs fuel p (end b r)) ≡ end b r - p
unfolding heads_from sum
heads_end b fs r zero p i h = omega arith
heads_end b fs r (suc fuel) p i h = go (leb (end b r) p) refl (λ n j k. heads_end b fs r fuel n j k) h
  where
    go
        : (t : Bool) → leb (end b r) p ≡ t
        → ((n : ℕ) → end b r - n ≤ fuel → All (IsHead b fs r) (heads_from fs fuel n (end b r))
        → sum (λ h. size_of (fs h)) (heads_from fs fuel n (end b r)) ≡ end b r - n)
        → All (IsHead b fs r) (cond t [] (p ∷ heads_from fs fuel (p + size_of (fs p)) (end b r)))
        → sum (λ h. size_of (fs h)) (cond t [] (p ∷ heads_from fs fuel (p + size_of (fs p)) (end b r))) ≡ end b r - p
    go true e more h = omega (arith, leb-true (end b r) p e)
    go false e more (all_more x hs) =
        let n = size x.frame.level in
        let s : size_of (fs p) ≡ n = rw x.here in
        let k : sum (λ h. size_of (fs h)) (heads_from fs fuel (p + n) (end b r)) ≡ end b r - (p + n)
        = more (p + n) (omega (arith, size_pos x.frame.level, x.ends, leb-false (end b r) p e)) (rw s at hs) in
        rw s (omega (arith, k, x.ends))

pub region_end
    : (b : Board) (fs : Frames) (r : AllocationRegion) → tables b r ≤ r.pages → All (IsHead b fs r) (heads b fs r)
    → sum (λ h. size_of (fs h)) (heads b fs r) ≡ managed b r
region_end b fs r t h = omega (arith, heads_end b fs r (managed b r) (first b r) (omega arith) h)

-- ---- every weight of the blocks adds up over the pages of the regions

sum_plus : {A : Type 0} (f g : A → ℕ) (xs : List A) → sum (λ x. f x + g x) xs ≡ sum f xs + sum g xs
unfolding sum
sum_plus f g [] = refl
sum_plus f g (x ∷ xs) = omega (arith, sum_plus f g xs)

pub sum_alike : {A : Type 0} (f g : A → ℕ) (xs : List A) → All (λ x. f x ≡ g x) xs → sum f xs ≡ sum g xs
unfolding sum
sum_alike f g [] all_none = refl
sum_alike f g (x ∷ xs) (all_more e h) = omega (arith, e, sum_alike f g xs h)

pub sum_ext : {A : Type 0} (f g : A → ℕ) (xs : List A) → ((x : A) → f x ≡ g x) → sum f xs ≡ sum g xs
unfolding sum
sum_ext f g [] h = refl
sum_ext f g (x ∷ xs) h = omega (arith, h x, sum_ext f g xs h)

other_page : (p c : ℕ) → eqb p c ≡ false → spans p 1 c ≡ 0
other_page p c e = go (leb p c) refl
  where
    go : (t : Bool) → leb p c ≡ t → spans p 1 c ≡ 0
    go true i = let d : p ≢ c = eqb-false p c e in spans_after p 1 c (omega (arith, leb-true p c i))
    go false i = spans_before p 1 c (leb-false p c i)

-- v at the page c
at_page : (c v p n : ℕ) → sum (λ q. cond (eqb q c) v 0) (range p n) ≡ v * spans p n c
unfolding sum range
at_page c v p zero = rw (spans_none p c) (omega arith)
at_page c v p (suc n) = rw whole (go (eqb p c) refl (at_page c v (p + 1) n))
  where
    whole : spans p (suc n) c ≡ spans p 1 c + spans (p + 1) n c
    whole = let e : suc n ≡ 1 + n = omega arith in rw e (sym (spans_more p 1 n c))

    go
        : (t : Bool) → eqb p c ≡ t → sum (λ q. cond (eqb q c) v 0) (range (p + 1) n) ≡ v * spans (p + 1) n c
        → cond t v 0 + sum (λ q. cond (eqb q c) v 0) (range (p + 1) n) ≡ v * (spans p 1 c + spans (p + 1) n c)
    go true e h = rw (spans_first p 1 c (omega arith) (eqb-true p c e)) (omega arith)
    go false e h = rw (other_page p c e) (omega arith)

module _ (b : Board) (rs : List AllocationRegion) (fit : All (λ r. tables b r ≤ r.pages) rs) where
  -- the weights that start at the pages of the regions
  abbrev at_pages : (Block → ℕ) → List Block → AllocationRegion → ℕ
  at_pages w xs r = sum (λ q. sum (starts_at q w) xs) (range (first b r) (managed b r))

  one_block
      : (w : Block → ℕ) (x : Block) (ts : List AllocationRegion) → All (λ r. tables b r ≤ r.pages) ts
      → sum (λ r. sum (λ q. starts_at q w x) (range (first b r) (managed b r))) ts ≡ w x * home b ts x.page
  unfolding home sum
  one_block w x [] all_none = omega arith
  one_block w x (r ∷ ts) (all_more i is) =
      omega (arith, at_page x.page (w x) (first b r) (managed b r), ap (λ n. w x * n) (manages_spans b r i x.page), one_block w x ts is)

  all_pages : (w : Block → ℕ) (xs : List Block) → ((q : ℕ) → sum (covers q) xs ≤ home b rs q) → ((q : ℕ) → home b rs q ≤ 1) → sum (at_pages w xs) rs ≡ sum w xs
  unfolding sum
  all_pages w [] h o = none_there rs
    where
      none_there : (ts : List AllocationRegion) → sum (at_pages w []) ts ≡ 0
      none_there [] = refl
      none_there (r ∷ ts) = omega (arith, none_there ts, range_none (λ q. 0) (first b r) (managed b r) (λ q i j. refl))
  all_pages w (x ∷ xs) h o =
      let one : home b rs x.page ≡ 1 = omega (arith, h x.page, o x.page, spans_first x.page (pages_of x) x.page (size_pos x.level) refl) in
      omega (
        arith,
        all_pages w xs (λ q. omega (arith, h q)) o,
        sum_ext (at_pages w (x ∷ xs)) (λ r. sum (λ q. starts_at q w x) (range (first b r) (managed b r)) + at_pages w xs r) rs
            (λ r. sum_plus (λ q. starts_at q w x) (λ q. sum (starts_at q w) xs) (range (first b r) (managed b r))),
        sum_plus (λ r. sum (λ q. starts_at q w x) (range (first b r) (managed b r))) (at_pages w xs) rs,
        one_block w x rs fit,
        ap (λ n. w x * n) one,
      )

  -- and so over the heads
  pub heads_law
      : {pages : ℕ} {fs : Frames} {xs : List Block} → Fine (home b rs) (lies b rs) pages fs xs → (w : Block → ℕ)
      → sum w xs ≡ sum (λ r. sum (λ q. weigh w q (fs q)) (heads b fs r)) rs
  heads_law {fs = fs} {xs = xs} h w =
      sym (all_pages w xs (λ q. omega (arith, h.tiles q)) h.once)
      ∙ sum_alike (at_pages w xs) (λ r. sum (λ q. weigh w q (fs q)) (heads b fs r)) rs (all_among rs (λ r at. each r at))
    where
      bare : (q : ℕ) → fs q ≡ none → weigh w q (fs q) ≡ 0
      bare q e = rw e

      each : (r : AllocationRegion) → Among r rs → at_pages w xs r ≡ sum (λ q. weigh w q (fs q)) (heads b fs r)
      each r at =
          let e : end b r - first b r ≡ managed b r = omega arith in
          sum_ext (λ q. sum (starts_at q w) xs) (λ q. weigh w q (fs q)) (range (first b r) (managed b r)) (λ q. h.marks q w)
          ∙ sym (rw e at (sum_heads b fs r (λ q. weigh w q (fs q)) bare (managed b r) (first b r) (omega arith) (region_heads b h r at)))
