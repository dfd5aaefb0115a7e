-- What `Fine` says of the frame at a page, and how a fact of the pages of the frames marked ZEROED is kept (`Clean`). The fact is left open: it will be that
-- each byte of the page is zero.
use Prim.Native.Nat.{ℕ, suc, ◌+◌, ◌*◌, ◌≤◌}
use native.Mathlib.Omega.{arith}
use native.Mathlib.Nat.{pow-succ'}
use mathlib.Core.Bool.{Bool, true, false, cond}
use mathlib.Core.List.{List, [], ◌∷◌}
use mathlib.Core.Logic.{◌⊎◌, inl, inr}
use mathlib.Core.Option.{Option, none, some}
use mathlib.Core.Path.{◌≡◌, refl, sym, ◌∙◌}
use lib.Dec.{eqb}
use borrow.Author.Tests.{eqb-true, eqb-false, eq-eqb}
use Rattle.definition.specs.Basics.{upd, sum, bit}
use Rattle.definition.specs.Frame.{Frame, Frames, size, kept}
use Rattle.bookkeeping.specs.Blocks.{Block, spans, covers}
use Rattle.bookkeeping.proofs.Blocks.{spans_part, block, starts_at, weigh, wrong, Fine, Hit, Miss, children_marks}

-- weights: 1 for each block, and for each held one
abbrev pub one : Block → ℕ
one x = 1

abbrev pub if_held : Block → ℕ
if_held x = bit x.held

abbrev pub if_marked : Block → ℕ
if_marked x = bit x.mark

pub bit_inj : (a b : Bool) → bit a ≡ bit b → a ≡ b
bit_inj true true e = refl
bit_inj false false e = refl
bit_inj true false e = absurd (omega arith)
bit_inj false true e = absurd (omega arith)

-- a weight counts only where something starts
pub none_starts : (q : ℕ) (w : Block → ℕ) (xs : List Block) → sum (starts_at q one) xs ≡ 0 → sum (starts_at q w) xs ≡ 0
unfolding sum
none_starts q w [] h = refl
none_starts q w (x ∷ xs) h = go (none_starts q w xs (omega arith)) (eqb q x.page) refl
  where
    go : sum (starts_at q w) xs ≡ 0 → (t : Bool) → eqb q x.page ≡ t → cond t (w x) 0 + sum (starts_at q w) xs ≡ 0
    go i true e = absurd (omega (arith, rw e at h))
    go i false e = omega arith

-- two pages' weights are parts of the whole
pub both : (p p' : ℕ) (w : Block → ℕ) (xs : List Block) → (p ≡ p' → ⊥) → sum (starts_at p w) xs + sum (starts_at p' w) xs ≤ sum w xs
unfolding sum
both p p' w [] h = omega arith
both p p' w (x ∷ xs) h = go (both p p' w xs h) (eqb p x.page) refl (eqb p' x.page) refl
  where
    go
        : sum (starts_at p w) xs + sum (starts_at p' w) xs ≤ sum w xs → (t : Bool) → eqb p x.page ≡ t → (u : Bool) → eqb p' x.page ≡ u
        → cond t (w x) 0 + sum (starts_at p w) xs + (cond u (w x) 0 + sum (starts_at p' w) xs) ≤ w x + sum w xs
    go i true e true f = absurd (h (eqb-true p x.page e ∙ sym (eqb-true p' x.page f)))
    go i true e false f = omega arith
    go i false e true f = omega arith
    go i false e false f = omega arith

-- the frame that a block stands for
pub record Head (fs : Frames) (x : Block) : Type 0 where
  pub frame : Frame
  pub here : fs x.page ≡ some frame
  pub alike : (w : Block → ℕ) → w (block x.page frame) ≡ w x

module _ {fit : ℕ → ℕ} {room : ℕ → ℕ → ℕ} {pages : ℕ} {fs : Frames} where
  pub head_of : {x : Block} {xs : List Block} → Fine fit room pages fs (x ∷ xs) → Head fs x
  unfolding sum
  head_of {x} {xs} h = go (fs x.page) refl
    where
      here : (w : Block → ℕ) → w x + sum (starts_at x.page w) xs ≡ weigh w x.page (fs x.page)
      here w = rw (eq-eqb x.page x.page refl) at (h.marks x.page w)

      go : (o : Option Frame) → fs x.page ≡ o → Head fs x
      go none e = absurd (omega (arith, rw e at (here one)))
      go (some f) e =
          record {
            frame = f;
            here = e;
            alike = λ w. omega (arith, rw e at (here w), none_starts x.page w xs (omega (arith, rw e at (here one))));
          }

  module _ {xs : List Block} (h : Fine fit room pages fs xs) where
    -- the pages of two frames are apart
    pub frames_apart
        : (p p' : ℕ) (f f' : Frame) → (p ≡ p' → ⊥) → fs p ≡ some f → fs p' ≡ some f' → (q : ℕ) → covers q (block p f) + covers q (block p' f') ≤ 1
    frames_apart p p' f f' n e e' q =
        omega (arith, both p p' (covers q) xs n, rw e at (h.marks p (covers q)), rw e' at (h.marks p' (covers q)), h.tiles q, h.once q)

    -- a frame's pages are managed, and it is as it should be
    pub managed_over : (p : ℕ) (f : Frame) → fs p ≡ some f → (q : ℕ) → spans p (size f.level) q ≡ 1 → fit q ≡ 1
    managed_over p f e q i = omega (arith, both p (suc p) (covers q) xs (λ k. omega arith), rw e at (h.marks p (covers q)), h.tiles q, h.once q)

    pub frame_right : (p : ℕ) (f : Frame) → fs p ≡ some f → wrong room (block p f) ≡ 0
    frame_right p f e = omega (arith, both p (suc p) (wrong room) xs (λ k. omega arith), rw e at (h.marks p (wrong room)), h.right)

-- ---- a fact Z of each page of each frame marked ZEROED

abbrev pub Clean : (ℕ → Type 0) → Frames → Type 0
Clean Z fs = (p : ℕ) (f : Frame) → fs p ≡ some f → f.zeroed ≡ true → (q : ℕ) → spans p (size f.level) q ≡ 1 → Z q

module _ (Z : ℕ → Type 0) where
  pub clean_upd
      : (fs : Frames) (p : ℕ) (f : Frame) → (f.zeroed ≡ true → (q : ℕ) → spans p (size f.level) q ≡ 1 → Z q) → Clean Z fs → Clean Z (upd fs p (some f))
  unfolding upd
  clean_upd fs p f h c p' f' e = go (eqb p' p) refl e
    where
      go : (t : Bool) → eqb p' p ≡ t → cond t (some f) (fs p') ≡ some f' → f'.zeroed ≡ true → (q : ℕ) → spans p' (size f'.level) q ≡ 1 → Z q
      go true k e z q i = let d : f' ≡ f = cc in let x : p ≡ p' = sym (eqb-true p' p k) in h (rw d at z) q (rw (x, ← d) i)
      go false k e z q i = c p' f' e z q i

  -- a frame g becomes 512 of the level below, marked as it is
  pub clean_cut
      : (fs : Frames) (p : ℕ) (g f : Frame) → fs p ≡ some g → g.level ≡ suc f.level → f.zeroed ≡ g.zeroed → Clean Z fs
      → Clean Z (upd (kept 511 fs p f.level f) p (some f))
  clean_cut fs p g f e l z c =
      clean_upd (kept 511 fs p f.level f) p f
      (λ y q w. c p g e (sym z ∙ y) q (spans_part p (size g.level) p (size f.level) q (omega arith) (omega (arith, whole)) w))
      (λ q h. go q h (children_marks fs q 511 p f))
    where
      whole : size g.level ≡ 512 * size f.level
      whole = rw l (pow-succ' 512 f.level)

      go
          : (q : ℕ) (h : Frame) → Hit fs q 511 p f ⊎ Miss fs q 511 p f → kept 511 fs p f.level f q ≡ some h → h.zeroed ≡ true → (x : ℕ)
          → spans q (size h.level) x ≡ 1 → Z x
      go q h (inl i) k y x w =
          let d : h ≡ f = cc (i.frame, k) in
          c p g e (sym z ∙ (rw d at y)) x (spans_part p (size g.level) q (size f.level) x (omega arith) (omega (arith, whole)) (rw d at w))
      go q h (inr i) k y x w = c q h (sym i.frame ∙ k) y x w

  -- a write to the pages of the frame at p
  pub clean_write
      : (Z' : ℕ → Type 0) {fit : ℕ → ℕ} {room : ℕ → ℕ → ℕ} {pages : ℕ} {fs : Frames} {xs : List Block} → Fine fit room pages fs xs
      → (p : ℕ) (f g : Frame) → fs p ≡ some f → g.level ≡ f.level → ((q : ℕ) → spans p (size f.level) q ≡ 0 → Z q → Z' q)
      → (g.zeroed ≡ true → (q : ℕ) → spans p (size f.level) q ≡ 1 → Z' q) → Clean Z fs → Clean Z' (upd fs p (some g))
  unfolding upd
  clean_write Z' {fs = fs} h p f g e l out inn c p' f' k = go (eqb p' p) refl k
    where
      go : (t : Bool) → eqb p' p ≡ t → cond t (some g) (fs p') ≡ some f' → f'.zeroed ≡ true → (q : ℕ) → spans p' (size f'.level) q ≡ 1 → Z' q
      go true j k z q i = let d : f' ≡ g = cc in let x : p ≡ p' = sym (eqb-true p' p j) in inn (rw d at z) q (rw (x, ← l, ← d) i)
      go false j k z q i = out q (omega (arith, frames_apart h p p' f f' (λ x. eqb-false p' p j (sym x)) e k q)) (c p' f' k z q i)
