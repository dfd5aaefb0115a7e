-- The invariant of the frames by weights, and what marking, splitting and laying out a frame keep of it. Two lists have the same blocks where every weight adds
-- up alike over both (`Same`); `Fine` says of a list that its blocks are the frames of a store, each once, aligned, in one region each and with every page.
use Prim.Native.Nat.{ℕ, zero, suc, ◌+◌, ◌-◌, ◌*◌, ◌%◌, ◌^◌, ◌≤◌, ◌<◌}
use native.Mathlib.Omega.{arith}
use native.Mathlib.Nat.{add-mul-mod_self_right, mod-mod_of_dvd, dvd-mul_left, zero-mod, pow-succ'}
use mathlib.Core.Bool.{Bool, true, false, cond}
use mathlib.Core.List.{List, [], ◌∷◌, ◌++◌}
use mathlib.Core.Logic.{◌⊎◌, inl, inr}
use mathlib.Core.Option.{Option, none, some}
use mathlib.Core.Path.{◌≡◌, refl, sym, ap, ◌∙◌}
use lib.Dec.{leb, ltb, eqb}
use borrow.Author.Tests.{leb-true, leb-false, ltb-true, ltb-false, eqb-true, le-leb, lt-leb}
use Rattle.definition.specs.Basics.{upd, sum, bit}
use Rattle.definition.specs.Frame.{Frame, Frames, size, kept}
use Rattle.bookkeeping.specs.Blocks.{Block, spans, pages_of, covers}

-- ---- sums

pub sum_append : {A : Type 0} (w : A → ℕ) (xs ys : List A) → sum w (xs ++ ys) ≡ sum w xs + sum w ys
unfolding sum
sum_append w [] ys = omega arith
sum_append w (x ∷ xs) ys = omega (arith, sum_append w xs ys)

-- xs and ys have the same blocks, each as often
abbrev pub Same : List Block → List Block → Type 0
Same xs ys = (w : Block → ℕ) → sum w xs ≡ sum w ys

pub size_pos : (l : ℕ) → 1 ≤ 512 ^ l
size_pos zero = omega arith
size_pos (suc l) = omega (arith, size_pos l)

-- ---- the pages from a on

-- 1 if a ≤ q, else 0
at_most : ℕ → ℕ → ℕ
at_most a q = bit (leb a q)

at_most_yes : (a q : ℕ) → a ≤ q → at_most a q ≡ 1
unfolding at_most
at_most_yes a q h = rw le-leb

at_most_no : (a q : ℕ) → q < a → at_most a q ≡ 0
unfolding at_most
at_most_no a q h = rw lt-leb

at_most_le : (a b q : ℕ) → a ≤ b → at_most b q ≤ at_most a q
at_most_le a b q h = go (leb b q) refl
  where
    go : (t : Bool) → leb b q ≡ t → at_most b q ≤ at_most a q
    go true e = let k : b ≤ q = leb-true b q e in omega (arith, at_most_yes b q k, at_most_yes a q (omega arith))
    go false e = omega (arith, at_most_no b q (leb-false b q e))

at_most_one : (a q : ℕ) → at_most a q ≤ 1
unfolding at_most
at_most_one a q = go (leb a q)
  where
    go : (t : Bool) → bit t ≤ 1
    go true = omega arith
    go false = omega arith

spans_is : (a m q : ℕ) → spans a m q ≡ at_most a q - at_most (a + m) q
unfolding spans at_most
spans_is a m q = go (leb a q) (ltb q (a + m)) refl refl
  where
    go : (t u : Bool) → leb a q ≡ t → ltb q (a + m) ≡ u → spans a m q ≡ at_most a q - at_most (a + m) q
    go true true e f = rw (e, f, lt-leb (a + m) q (ltb-true q (a + m) f))
    go true false e f = rw (e, f, le-leb (a + m) q (ltb-false q (a + m) f))
    go false u e f = let h : q < a = leb-false a q e in rw (e, lt-leb (a + m) q (omega arith))

pub spans_more : (a m k q : ℕ) → spans a m q + spans (a + m) k q ≡ spans a (m + k) q
spans_more a m k q =
    let e : at_most (a + m + k) q ≡ at_most (a + (m + k)) q = ap (λ n. at_most n q) (omega arith) in
    let i = at_most_le a (a + m) q (omega arith) in
    let j = at_most_le (a + m) (a + m + k) q (omega arith) in
    omega (arith, spans_is a m q, spans_is (a + m) k q, spans_is a (m + k) q)

pub spans_none : (a q : ℕ) → spans a 0 q ≡ 0
spans_none a q = let e : at_most (a + 0) q ≡ at_most a q = ap (λ n. at_most n q) (omega arith) in omega (arith, spans_is a 0 q)

pub spans_one : (a m q : ℕ) → spans a m q ≤ 1
spans_one a m q = omega (arith, spans_is a m q, at_most_one a q)

pub spans_first : (a m q : ℕ) → 1 ≤ m → a ≡ q → spans a m q ≡ 1
spans_first a m q h e = omega (arith, spans_is a m q, at_most_yes a q (omega arith), at_most_no (a + m) q (omega arith))

pub spans_before : (a m q : ℕ) → q < a → spans a m q ≡ 0
spans_before a m q h = omega (arith, spans_is a m q, at_most_no a q h)

pub spans_after : (a m q : ℕ) → a + m ≤ q → spans a m q ≡ 0
spans_after a m q h = omega (arith, spans_is a m q, at_most_yes (a + m) q h, at_most_yes a q (omega arith))

pub spans_part : (a m b n q : ℕ) → a ≤ b → b + n ≤ a + m → spans b n q ≡ 1 → spans a m q ≡ 1
spans_part a m b n q h k e =
    omega (arith, spans_is a m q, spans_is b n q, at_most_one a q, at_most_le a b q h, at_most_le (b + n) (a + m) q k, at_most_le b (b + n) q (omega arith))

pub spans_in : (a m q : ℕ) → a ≤ q → q < a + m → spans a m q ≡ 1
spans_in a m q h k = omega (arith, spans_is a m q, at_most_yes a q h, at_most_no (a + m) q k)

pub spans_facts : (a m q : ℕ) → spans a m q ≡ 1 → (a ≤ q) × (q < a + m)
spans_facts a m q e = go (leb a q) refl (ltb q (a + m)) refl
  where
    go : (t : Bool) → leb a q ≡ t → (u : Bool) → ltb q (a + m) ≡ u → (a ≤ q) × (q < a + m)
    go true i true j = (leb-true a q i, ltb-true q (a + m) j)
    go true i false j = absurd (omega (arith, spans_after a m q (ltb-false q (a + m) j)))
    go false i u j = absurd (omega (arith, spans_before a m q (leb-false a q i)))

pub spans_apart : (a m b n q : ℕ) → a + m ≤ b → spans a m q + spans b n q ≤ 1
spans_apart a m b n q h = omega (arith, spans_is a m q, spans_is b n q, at_most_one a q, at_most_le a (a + m) q (omega arith), at_most_le (a + m) b q h)

-- ---- blocks against the frames of a store

-- the block that the frame f at the page p stands for
abbrev pub block : ℕ → Frame → Block
block p f = record { page = p; level = f.level; held = f.allocated; mark = cond f.allocated f.kernel f.zeroed }

-- w of what starts at the page q
abbrev pub starts_at : ℕ → (Block → ℕ) → Block → ℕ
starts_at q w x = cond (eqb q x.page) (w x) 0

abbrev pub weigh : (Block → ℕ) → ℕ → Option Frame → ℕ
weigh w q none = 0
weigh w q (some f) = w (block q f)

-- how far a block is from its alignment, above level 2, and in no region
abbrev pub wrong : (ℕ → ℕ → ℕ) → Block → ℕ
wrong room x = x.page % pages_of x + (x.level - 2) + (1 - room x.page (pages_of x))

-- The blocks xs are the frames fs, each once; they are aligned, lie where there is room, and cover the pages that `fit` counts, once each.
pub record Fine (fit : ℕ → ℕ) (room : ℕ → ℕ → ℕ) (pages : ℕ) (fs : Frames) (xs : List Block) : Type 0 where
  pub once : (q : ℕ) → fit q ≤ 1
  pub parts : (a m c n : ℕ) → a ≤ c → c + n ≤ a + m → room a m ≤ room c n
  pub tiles : (q : ℕ) → sum (covers q) xs ≡ fit q
  pub marks : (q : ℕ) (w : Block → ℕ) → sum (starts_at q w) xs ≡ weigh w q (fs q)
  pub right : sum (wrong room) xs ≡ 0
  pub adds : sum pages_of xs ≡ pages

-- what covers no page q starts at none
pub starts_none : (q : ℕ) (w : Block → ℕ) (xs : List Block) → sum (covers q) xs ≡ 0 → sum (starts_at q w) xs ≡ 0
unfolding sum
starts_none q w [] h = refl
starts_none q w (x ∷ xs) h = go (starts_none q w xs (omega arith)) (eqb q x.page) refl
  where
    go : sum (starts_at q w) xs ≡ 0 → (t : Bool) → eqb q x.page ≡ t → starts_at q w x + sum (starts_at q w) xs ≡ 0
    go i true e = let e' : x.page ≡ q = sym (eqb-true q x.page e) in omega (arith, spans_first x.page (pages_of x) q (size_pos x.level) e')
    go i false e = rw e (omega arith)

-- ---- the children 1 to k of a frame, as the frame f each

unfoldable pub child_blocks : ℕ → ℕ → Frame → List Block
child_blocks zero p f = []
child_blocks (suc i) p f = block (p + suc i * size f.level) f ∷ child_blocks i p f

-- a page starts one of them, or none
pub record Hit (fs : Frames) (q k p : ℕ) (f : Frame) : Type 0 where
  pub frame : kept k fs p f.level f q ≡ some f
  pub weight : (w : Block → ℕ) → sum (starts_at q w) (child_blocks k p f) ≡ w (block q f)
  pub low : p + size f.level ≤ q
  pub high : q ≤ p + k * size f.level

pub record Miss (fs : Frames) (q k p : ℕ) (f : Frame) : Type 0 where
  pub frame : kept k fs p f.level f q ≡ fs q
  pub weight : (w : Block → ℕ) → sum (starts_at q w) (child_blocks k p f) ≡ 0

pub children_marks : (fs : Frames) (q k p : ℕ) (f : Frame) → Hit fs q k p f ⊎ Miss fs q k p f
unfolding sum child_blocks kept upd
children_marks fs q zero p f = inr (record { frame = refl; weight = λ w. refl })
children_marks fs q (suc k) p f = go (children_marks fs q k p f) (eqb q (p + suc k * size f.level)) refl
  where
    go : Hit fs q k p f ⊎ Miss fs q k p f → (t : Bool) → eqb q (p + suc k * size f.level) ≡ t → Hit fs q (suc k) p f ⊎ Miss fs q (suc k) p f
    go (inl i) true e = absurd (omega (arith, eqb-true q (p + suc k * size f.level) e, size_pos f.level))
    go (inl i) false e = inl (record { frame = rw e i.frame; weight = λ w. rw e (omega (arith, i.weight w)); low = i.low; high = omega arith })
    go (inr i) true e =
        let e' : p + suc k * size f.level ≡ q = sym (eqb-true q (p + suc k * size f.level) e) in
        inl (record {
          frame = rw e;
          weight = λ w. rw e (omega (arith, i.weight w, ap (λ p. w (block p f)) e'));
          low = omega arith;
          high = omega arith;
        })
    go (inr i) false e = inr (record { frame = rw e i.frame; weight = λ w. rw e (omega (arith, i.weight w)) })

pub children_covers : (q k p : ℕ) (f : Frame) → sum (covers q) (child_blocks k p f) ≡ spans (p + size f.level) (k * size f.level) q
unfolding sum child_blocks
children_covers q zero p f = let e : 0 * size f.level ≡ 0 = omega arith in rw e (sym (spans_none (p + size f.level) q))
children_covers q (suc k) p f =
    let n = size f.level in
    let e : spans (p + suc k * n) n q ≡ spans (p + n + k * n) n q = ap (λ a. spans a n q) (omega arith) in
    let d : spans (p + n) (k * n + n) q ≡ spans (p + n) (suc k * n) q = ap (λ a. spans (p + n) a q) (omega arith) in
    omega (arith, children_covers q k p f, spans_more (p + n) (k * n) n q)

-- a weight that is the same for each child
pub children_each : (w : Block → ℕ) (c k p : ℕ) (f : Frame) → ((q : ℕ) → w (block q f) ≡ c) → sum w (child_blocks k p f) ≡ k * c
unfolding sum child_blocks
children_each w c zero p f h = omega arith
children_each w c (suc k) p f h = omega (arith, h (p + suc k * size f.level), children_each w c k p f h)

-- a weight that is 0 for each child
pub children_none : (w : Block → ℕ) (k p : ℕ) (f : Frame) → ((i : ℕ) → i < k → w (block (p + suc i * size f.level) f) ≡ 0) → sum w (child_blocks k p f) ≡ 0
unfolding sum child_blocks
children_none w zero p f h = refl
children_none w (suc k) p f h = omega (arith, h k (omega arith), children_none w k p f (λ i j. h i (omega arith)))

-- a child's place in its parent
pub child_within : (i k n p : ℕ) → i < k → (p ≤ p + suc i * n) × (p + suc i * n + n ≤ p + suc k * n)
child_within i k n p h = (omega arith, go (k - suc i) (omega arith))
  where
    go : (d : ℕ) → d + suc i ≡ k → p + suc i * n + n ≤ p + suc k * n
    go d e = let f : k * n ≡ d * n + suc i * n = rw (sym e) (omega arith) in omega arith

module _ {fit : ℕ → ℕ} {room : ℕ → ℕ → ℕ} {pages : ℕ} {fs : Frames} where
  pub fine_same : {xs ys : List Block} → Same xs ys → Fine fit room pages fs xs → Fine fit room pages fs ys
  fine_same e h =
      record {
        once = h.once;
        parts = h.parts;
        tiles = λ q. sym (e (covers q)) ∙ h.tiles q;
        marks = λ q w. sym (e (starts_at q w)) ∙ h.marks q w;
        right = sym (e (wrong room)) ∙ h.right;
        adds = sym (e pages_of) ∙ h.adds;
      }

  -- the other blocks do not cover what the first does
  apart : {x : Block} {xs : List Block} → Fine fit room pages fs (x ∷ xs) → (q : ℕ) → covers q x ≡ 1 → sum (covers q) xs ≡ 0
  unfolding sum
  apart h q k = omega (arith, h.tiles q, h.once q)

  -- the first block gets another frame of its level
  pub remark
      : {x : Block} {xs : List Block} (f : Frame) → f.level ≡ x.level → Fine fit room pages fs (x ∷ xs)
      → Fine fit room pages (upd fs x.page (some f)) (block x.page f ∷ xs)
  unfolding sum upd
  remark {x} {xs} f e h =
      record {
        once = h.once;
        parts = h.parts;
        tiles = λ q. rw e (h.tiles q);
        marks = λ q w. go q w (eqb q x.page) refl;
        right = rw e h.right;
        adds = rw e h.adds;
      }
    where
      go
          : (q : ℕ) (w : Block → ℕ) (t : Bool) → eqb q x.page ≡ t
          → cond (eqb q x.page) (w (block x.page f)) 0 + sum (starts_at q w) xs ≡ weigh w q (cond (eqb q x.page) (some f) (fs q))
      go q w true k =
          let e' : x.page ≡ q = sym (eqb-true q x.page k) in
          let c : covers q x ≡ 1 = spans_first x.page (pages_of x) q (size_pos x.level) e' in
          let o : w (block x.page f) ≡ w (block q f) = ap (λ p. w (block p f)) e' in
          rw k (omega (arith, starts_none q w xs (apart h q c)))
      go q w false k = rw k (rw k at (h.marks q w))

  -- the first block becomes 512 of the level below
  pub cut
      : {x : Block} {xs : List Block} (f : Frame) → x.level ≡ suc f.level → Fine fit room pages fs (x ∷ xs)
      → Fine fit room pages (upd (kept 511 fs x.page f.level f) x.page (some f)) (block x.page f ∷ (child_blocks 511 x.page f ++ xs))
  unfolding sum upd
  cut {x} {xs} f e h =
      record {
        once = h.once;
        parts = h.parts;
        tiles = λ q. simp sum_append (omega (arith, h.tiles q, unit q));
        marks = λ q w. mark q w (eqb q x.page) refl;
        right = simp sum_append (omega (
          arith,
          h.right,
          aligned,
          roomy x.page (omega arith) (omega (arith, whole, size_pos f.level)),
          children_none (wrong room) 511 x.page f good,
        ));
        adds = simp sum_append (omega (arith, children_each pages_of (size f.level) 511 x.page f (λ q. refl), h.adds, whole));
      }
    where
      whole : pages_of x ≡ 512 * size f.level
      whole = rw e (pow-succ' 512 f.level)

      aligned : x.page % size f.level ≡ 0
      aligned =
          let b : x.page % pages_of x ≡ 0 = omega (arith, h.right) in
          let a : x.page % (512 * size f.level) ≡ 0 = rw whole at b in
          sym (mod-mod_of_dvd (size f.level) x.page (dvd-mul_left (size f.level) 512)) ∙ rw a (zero-mod (size f.level))

      roomy : (c : ℕ) → x.page ≤ c → c + size f.level ≤ x.page + pages_of x → 1 ≤ room c (size f.level)
      roomy c i j = omega (arith, h.right, h.parts x.page (pages_of x) c (size f.level) i j)

      good : (i : ℕ) → i < 511 → wrong room (block (x.page + suc i * size f.level) f) ≡ 0
      good i j =
          let c = child_within i 511 (size f.level) x.page j in
          omega (
            arith,
            h.right,
            add-mul-mod_self_right x.page (suc i) (size f.level),
            aligned,
            roomy (x.page + suc i * size f.level) c.0 (omega (arith, whole, c.1)),
          )

      unit : (q : ℕ) → covers q (block x.page f) + sum (covers q) (child_blocks 511 x.page f) ≡ covers q x
      unit q =
          let n = size f.level in
          let d : spans x.page (n + 511 * n) q ≡ covers q x = ap (λ m. spans x.page m q) (omega (arith, whole)) in
          omega (arith, children_covers q 511 x.page f, spans_more x.page n (511 * n) q)

      mark
          : (q : ℕ) (w : Block → ℕ) (t : Bool) → eqb q x.page ≡ t
          → cond (eqb q x.page) (w (block x.page f)) 0 + sum (starts_at q w) (child_blocks 511 x.page f ++ xs)
          ≡ weigh w q (cond (eqb q x.page) (some f) (kept 511 fs x.page f.level f q))
      mark q w t k = rw k (simp sum_append (go t k (children_marks fs q 511 x.page f)))
        where
          go
              : (t : Bool) → eqb q x.page ≡ t → Hit fs q 511 x.page f ⊎ Miss fs q 511 x.page f
              → cond t (w (block x.page f)) 0 + (sum (starts_at q w) (child_blocks 511 x.page f) + sum (starts_at q w) xs)
              ≡ weigh w q (cond t (some f) (kept 511 fs x.page f.level f q))
          go true k (inl i) = absurd (omega (arith, eqb-true q x.page k, size_pos f.level))
          go true k (inr i) =
              let e' : x.page ≡ q = sym (eqb-true q x.page k) in
              let c : covers q x ≡ 1 = spans_first x.page (pages_of x) q (size_pos x.level) e' in
              omega (arith, i.weight w, ap (λ p. w (block p f)) e', starts_none q w xs (apart h q c))
          go false k (inl i) =
              let c : covers q x ≡ 1 = spans_in x.page (pages_of x) q (omega arith) (omega (arith, whole, size_pos f.level)) in
              rw i.frame (omega (arith, i.weight w, starts_none q w xs (apart h q c)))
          go false k (inr i) = rw i.frame (omega (arith, i.weight w, rw k at (h.marks q w)))

  -- pages that nothing covers come in as a block
  pub grow
      : {xs : List Block} (p : ℕ) (f : Frame) → f.level ≤ 2 → p % size f.level ≡ 0 → 1 ≤ room p (size f.level)
      → ((q : ℕ) → fit q + spans p (size f.level) q ≤ 1) → Fine fit room pages fs xs
      → Fine (λ q. fit q + spans p (size f.level) q) room (pages + size f.level) (upd fs p (some f)) (block p f ∷ xs)
  unfolding sum upd
  grow {xs} p f l a i o h =
      record {
        once = o;
        parts = h.parts;
        tiles = λ q. omega (arith, h.tiles q);
        marks = λ q w. go q w (eqb q p) refl;
        right = omega (arith, h.right);
        adds = omega (arith, h.adds);
      }
    where
      go : (q : ℕ) (w : Block → ℕ) (t : Bool) → eqb q p ≡ t → cond t (w (block p f)) 0 + sum (starts_at q w) xs ≡ weigh w q (cond t (some f) (fs q))
      go q w true k =
          let e : p ≡ q = sym (eqb-true q p k) in
          omega (arith, ap (λ p. w (block p f)) e, starts_none q w xs (omega (arith, h.tiles q, o q, spans_first p (size f.level) q (size_pos f.level) e)))
      go q w false k = omega (arith, h.marks q w)

-- what has room has it by another measure that gives as much
wrong_less : (room room' : ℕ → ℕ → ℕ) → ((p n : ℕ) → 1 ≤ n → room p n ≤ room' p n) → (xs : List Block) → sum (wrong room') xs ≤ sum (wrong room) xs
unfolding sum
wrong_less room room' h [] = omega arith
wrong_less room room' h (x ∷ xs) = omega (arith, h x.page (pages_of x) (size_pos x.level), wrong_less room room' h xs)

-- the same blocks over other regions, with room for each of them
pub fine_over
    : {fit fit' : ℕ → ℕ} {room room' : ℕ → ℕ → ℕ} {pages pages' : ℕ} {fs : Frames} {xs : List Block} → ((q : ℕ) → fit q ≡ fit' q)
    → ((p n : ℕ) → 1 ≤ n → room p n ≤ room' p n) → ((a m c n : ℕ) → a ≤ c → c + n ≤ a + m → room' a m ≤ room' c n) → pages ≡ pages'
    → Fine fit room pages fs xs → Fine fit' room' pages' fs xs
fine_over {room = room} {room' = room'} {xs = xs} e r parts d h =
    record {
      once = λ q. omega (arith, e q, h.once q);
      parts = parts;
      tiles = λ q. h.tiles q ∙ e q;
      marks = h.marks;
      right = omega (arith, h.right, wrong_less room room' r xs);
      adds = h.adds ∙ d;
    }

pub fine_home
    : {fit fit' : ℕ → ℕ} {room : ℕ → ℕ → ℕ} {pages pages' : ℕ} {fs : Frames} {xs : List Block} → ((q : ℕ) → fit q ≡ fit' q) → pages ≡ pages'
    → Fine fit room pages fs xs → Fine fit' room pages' fs xs
fine_home e d h = fine_over e (λ p n i. omega arith) h.parts d h
