-- What striking and splitting make of the book, in weights. A reader should take from here that the book has each held frame of the store once, so that what is
-- done to a frame in the store is done to one entry of the book.
use Prim.Native.Nat.{ℕ, zero, suc, ◌+◌, ◌*◌}
use native.Mathlib.Omega.{arith}
use mathlib.Core.Bool.{Bool, true, false, cond}
use mathlib.Core.List.{List, [], ◌∷◌, ◌++◌}
use mathlib.Core.Option.{some}
use mathlib.Core.Path.{◌≡◌, refl, sym, ap, ◌∙◌}
use lib.Dec.{eqb}
use borrow.Author.Tests.{eqb-true, eqb-false, eq-eqb, ne_eqb}
use Rattle.definition.specs.Basics.{sum}
use Rattle.definition.specs.Frame.{Frame, Frames, size}
use Rattle.definition.specs.Allocator.{AllocationRegion}
use Rattle.definition.specs.Book.{Held, pieces, broken, struck, replace}
use Rattle.bookkeeping.specs.Blocks.{Block, on_list, region_blocks, listed, held_block, holding, pages_with_kernel, pages_without}
use Rattle.bookkeeping.proofs.Blocks.{sum_append, block, starts_at, Fine, child_blocks, children_each}
use Rattle.bookkeeping.proofs.Frames.{one, if_held, if_marked, bit_inj, none_starts}

pub holding_append : (w : Block → ℕ) (a b : List Held) → sum w (holding (a ++ b)) ≡ sum w (holding a) + sum w (holding b)
unfolding sum holding
holding_append w [] b = omega arith
holding_append w (h ∷ a) b = omega (arith, holding_append w a b)

-- nothing on a list is held
at_zero : (q : ℕ) (x : Block) → if_held x ≡ 0 → starts_at q if_held x ≡ 0
at_zero q x h = go (eqb q x.page)
  where
    go : (t : Bool) → cond t (if_held x) 0 ≡ 0
    go true = h
    go false = refl

on_free : (q l : ℕ) (z : Bool) (ps : List ℕ) → sum (starts_at q if_held) (on_list l z ps) ≡ 0
unfolding sum on_list
on_free q l z [] = refl
on_free q l z (p ∷ ps) = omega (arith, on_free q l z ps, at_zero q (record { page = p; level = l; held = false; mark = z }) refl)

pub listed_free : (q : ℕ) (rs : List AllocationRegion) → sum (starts_at q if_held) (listed rs) ≡ 0
unfolding sum listed region_blocks
listed_free q [] = refl
listed_free q (r ∷ rs) = simp (sum_append, on_free) (omega (arith, listed_free q rs))

pub all_held : (q : ℕ) (hs : List Held) → sum (starts_at q if_held) (holding hs) ≡ sum (starts_at q one) (holding hs)
unfolding sum holding
all_held q [] = refl
all_held q (h ∷ hs) = rw (all_held q hs)

pub eqb_flip : (a b : ℕ) (t : Bool) → eqb a b ≡ t → eqb b a ≡ t
eqb_flip a b true e = eq-eqb b a (sym (eqb-true a b e))
eqb_flip a b false e = ne_eqb b a (λ i. eqb-false a b e (sym i))

-- the one frame of the book that starts at p, and what g makes of it
pub record Replaced (g : Held → List Held) (p : ℕ) (hs : List Held) (h : Held) : Type 0 where
  pub here : (w : Block → ℕ) → sum (starts_at p w) (holding hs) ≡ w (held_block h)
  pub before : (w : Block → ℕ) → sum w (holding hs) ≡ w (held_block h) + sum w (holding (replace struck p hs))
  pub after : (w : Block → ℕ) → sum w (holding (replace g p hs)) ≡ sum w (holding (g h)) + sum w (holding (replace struck p hs))

replaced : (g : Held → List Held) (p : ℕ) (hs : List Held) → sum (starts_at p one) (holding hs) ≡ 1 → (h : Held) × Replaced g p hs h
unfolding sum holding replace
replaced g p [] e = absurd (omega arith)
replaced g p (h ∷ hs) e = go (λ i. replaced g p hs i) (eqb h.page p) refl
  where
    go
        : (sum (starts_at p one) (holding hs) ≡ 1 → (h' : Held) × Replaced g p hs h') → (t : Bool) → eqb h.page p ≡ t
        → (h' : Held) × Replaced g p (h ∷ hs) h'
    go i true k =
        let k' : eqb p h.page ≡ true = eqb_flip h.page p true k in
        let z : sum (starts_at p one) (holding hs) ≡ 0 = omega (arith, rw k' at e) in
        (h, record { here = λ w. rw k' (omega (arith, none_starts p w (holding hs) z)); before = λ w. rw k; after = λ w. rw k (holding_append w (g h) hs) })
    go i false k = on k (eqb_flip h.page p false k) (i (omega (arith, rw (eqb_flip h.page p false k) at e)))
      where
        on
            : eqb h.page p ≡ false → eqb p h.page ≡ false → ((h' : Held) × Replaced g p hs h')
            → (h' : Held) × Replaced g p (h ∷ hs) h'
        on k k' (x, j) = (
          x,
          record {
            here = λ w. rw k' (omega (arith, j.here w));
            before = λ w. rw k (omega (arith, j.before w));
            after = λ w. rw k (omega (arith, j.after w));
          },
        )

abbrev pub held_of : ℕ → Frame → Held
held_of p f = record { page = p; level = f.level; kernel = f.kernel }

-- the book has the held frame of a store
pub in_book_lem
    : {fit : ℕ → ℕ} {room : ℕ → ℕ → ℕ} {pages : ℕ} {fs : Frames} (g : Held → List Held) (rs : List AllocationRegion) (hs : List Held) (p : ℕ) (f : Frame)
    → Fine fit room pages fs (listed rs ++ holding hs) → fs p ≡ some f → f.allocated ≡ true → Replaced g p hs (held_of p f)
in_book_lem {fs = fs} g rs hs p f h e k = go (replaced g p hs single)
  where
    marks : (w : Block → ℕ) → sum (starts_at p w) (listed rs) + sum (starts_at p w) (holding hs) ≡ w (block p f)
    marks w = rw e at (simp sum_append at (h.marks p w))

    single : sum (starts_at p one) (holding hs) ≡ 1
    single = let i : if_held (block p f) ≡ 1 = rw k in omega (arith, marks if_held, listed_free p rs, all_held p hs)

    only : (w : Block → ℕ) → sum (starts_at p w) (holding hs) ≡ w (block p f)
    only w = omega (arith, marks w, none_starts p w (listed rs) (omega (arith, marks one, single)))

    go : ((x : Held) × Replaced g p hs x) → Replaced g p hs (held_of p f)
    go (x, j) =
        let same : (w : Block → ℕ) → w (held_block x) ≡ w (block p f) = λ w. sym (j.here w) ∙ only w in
        let ek : x.kernel ≡ f.kernel = bit_inj x.kernel f.kernel (rw k at (same if_marked)) in
        let path : x ≡ held_of p f = λ i. record { page = same (λ y. y.page) i; level = same (λ y. y.level) i; kernel = ek i } in
        rw path at j

-- where none starts there is nothing to replace
pub replace_none : (g : Held → List Held) (p : ℕ) (hs : List Held) → sum (starts_at p one) (holding hs) ≡ 0 → replace g p hs ≡ hs
unfolding replace holding sum
replace_none g p [] e = refl
replace_none g p (h ∷ hs) e = go (λ i. replace_none g p hs i) (eqb h.page p) refl
  where
    go : (sum (starts_at p one) (holding hs) ≡ 0 → replace g p hs ≡ hs) → (t : Bool) → eqb h.page p ≡ t → cond t (g h ++ hs) (h ∷ replace g p hs) ≡ h ∷ hs
    go i true k = absurd (omega (arith, rw (eqb_flip h.page p true k) at e))
    go i false k = rw (i (omega (arith, rw (eqb_flip h.page p false k) at e)))

-- ---- a held frame's pieces

abbrev pub held_frame : ℕ → Bool → Bool → Frame
held_frame l z k = record { level = l; allocated = true; zeroed = z; kernel = k }

pieces_last
    : (w : Block → ℕ) (n p l : ℕ) (k : Bool)
    → sum w (holding (pieces (suc n) p l k)) ≡ sum w (holding (pieces n p l k)) + w (held_block (record { page = p + n * size l; level = l; kernel = k }))
unfolding sum holding pieces
pieces_last w zero p l k =
    let e : p ≡ p + 0 * size l = omega arith in
    omega (arith, ap (λ (q : ℕ). w (held_block (record { page = q; level = l; kernel = k }))) e)
pieces_last w (suc n) p l k =
    let e : p + size l + n * size l ≡ p + suc n * size l = omega arith in
    omega (arith, pieces_last w n (p + size l) l k, ap (λ (q : ℕ). w (held_block (record { page = q; level = l; kernel = k }))) e)

pub pieces_children
    : (w : Block → ℕ) (n p l : ℕ) (z k : Bool)
    → sum w (holding (pieces (suc n) p l k)) ≡ w (block p (held_frame l z k)) + sum w (child_blocks n p (held_frame l z k))
unfolding sum holding pieces child_blocks
pieces_children w zero p l z k = refl
pieces_children w (suc n) p l z k = omega (arith, pieces_last w (suc n) p l k, pieces_children w n p l z k)

pub broken_zero : (w : Block → ℕ) (h : Held) → h.level ≡ 0 → sum w (holding (broken h)) ≡ w (held_block h)
unfolding holding sum
broken_zero w h e = rw e (omega arith)

pub broken_suc
    : (w : Block → ℕ) (h : Held) (l : ℕ) (z : Bool) → h.level ≡ suc l
    → sum w (holding (broken h)) ≡ w (block h.page (held_frame l z h.kernel)) + sum w (child_blocks 511 h.page (held_frame l z h.kernel))
broken_suc w h l z e = rw e (pieces_children w 511 h.page l z h.kernel)

-- breaking keeps the pages with KERNEL, and those without
pub broken_kernel : (h : Held) → sum pages_with_kernel (holding (broken h)) ≡ pages_with_kernel (held_block h)
broken_kernel h = go h.level h.kernel refl refl
  where
    go : (l : ℕ) (k : Bool) → h.level ≡ l → h.kernel ≡ k → sum pages_with_kernel (holding (broken h)) ≡ pages_with_kernel (held_block h)
    go zero k e f = broken_zero pages_with_kernel h e
    go (suc l) true e f =
        broken_suc pages_with_kernel h l false e
        ∙ rw (f, e) (omega (arith, children_each pages_with_kernel (size l) 511 h.page (held_frame l false true) (λ q. refl)))
    go (suc l) false e f =
        broken_suc pages_with_kernel h l false e
        ∙ rw f (omega (arith, children_each pages_with_kernel 0 511 h.page (held_frame l false false) (λ q. refl)))

pub broken_other : (h : Held) → sum pages_without (holding (broken h)) ≡ pages_without (held_block h)
broken_other h = go h.level h.kernel refl refl
  where
    go : (l : ℕ) (k : Bool) → h.level ≡ l → h.kernel ≡ k → sum pages_without (holding (broken h)) ≡ pages_without (held_block h)
    go zero k e f = broken_zero pages_without h e
    go (suc l) false e f =
        broken_suc pages_without h l false e
        ∙ rw (f, e) (omega (arith, children_each pages_without (size l) 511 h.page (held_frame l false false) (λ q. refl)))
    go (suc l) true e f =
        broken_suc pages_without h l false e
        ∙ rw f (omega (arith, children_each pages_without 0 511 h.page (held_frame l false true) (λ q. refl)))
