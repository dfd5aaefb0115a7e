-- A reclaim round on common ground: every address in the queue can be freed and stands there once, so each is freed in both readings alike, and the
-- rest of the queue is on common ground again. Take from it that no address is dropped there and that the Rust's reclaim thread doesn't stop.
use Prim.Native.Nat.{ℕ, zero, suc, ◌+◌, ◌*◌, ◌/◌, ◌%◌}
use mathlib.Core.Bool.{Bool, true, false, not, cond, ◌&&◌, false≢true}
use mathlib.Core.List.{List, [], ◌∷◌, ◌++◌}
use mathlib.Core.Option.{Option, none, some}
use mathlib.Core.Path.{◌≡◌, refl, sym, ap, ap₂, ◌∙◌, subst}
use native.Mathlib.Nat.{div-add-mod'}
use lib.Dec.{eqb}
use borrow.Author.Tests.{eqb-true, eqb-false, not-true}
use Rattle.definition.proofs.Basics.{upd_other}
use Rattle.definition.proofs.Tests.{and_left, and_right, and-true}
use Rattle.definition.specs.Board.{Board}
use Rattle.definition.specs.Basics.{all, is_some, Popped, pop_back}
use Rattle.definition.specs.Frame.{Frame, Frames, size, is_allocated}
use Rattle.definition.specs.Allocator.{free_in, is_managed}
use Rattle.definition.specs.Store.{Store, with_allocator, with_counters, with_queue}
use Rattle.definition.specs.Tracker.{
  count_free,
  freed_frame,
  free_frame,
  can_be_freed,
  starts_frame,
  is_held,
  should_reclaim,
  one_more,
  free_or_drop,
  reclaim_up_to,
  reclaim_round,
  end_pass,
  after_round,
}
use Rattle.definition.specs.Calls.{reports}
use Rattle.definition.specs.Rust as Rust
use Rattle.definition.specs.Rust.{all_once}
use Rattle.likeness.proofs.Lists.{popped_back, all_rest, all_last, once_rest, once_last}
use Rattle.likeness.proofs.Frees.{Books, after_free, freed_frames_lem, freed_managed, free_like}

-- a test that follows of two others, over a list
all_both : {A : Type 0} (p q r : A → Bool) → ((x : A) → p x ≡ true → q x ≡ true → r x ≡ true) → (xs : List A)
    → all p xs ≡ true → all q xs ≡ true → all r xs ≡ true
unfolding all
all_both p q r f [] h k = refl
all_both p q r f (x ∷ xs) h k =
    and-true (f x (and_left (p x) _ h) (and_left (q x) _ k)) (all_both p q r f xs (and_right (p x) _ h) (and_right (q x) _ k))

-- the frame at a page, where one is held
held_frame_lem : (o : Option Frame) → is_allocated o ≡ true → (f : Frame) × (o ≡ some f) × (f.allocated ≡ true)
held_frame_lem none h = absurd (false≢true h)
held_frame_lem (some f) h = (f, refl, h)

module _ (b : Board) where
  -- addresses on page edges that differ are in pages that differ
  pages_apart : (x y : ℕ) → x % b.page ≡ 0 → y % b.page ≡ 0 → (x ≡ y → ⊥) → x / b.page ≡ y / b.page → ⊥
  pages_apart x y h k n e =
      n (sym (div-add-mod' x b.page) ∙ ap₂ (λ (q r : ℕ). q * b.page + r) e (h ∙ sym k) ∙ div-add-mod' y b.page)

  pub record Ready (s : Store) : Type 0 where
    pub books : Books s.allocator.frames s.counters
    pub freeable : all (can_be_freed b s) s.queue ≡ true
    pub once : all_once s.queue ≡ true

  module _ (s : Store) (a : ℕ) (h : can_be_freed b s a ≡ true) where
    managed : is_managed b s.allocator.regions (a / b.page) ≡ true
    managed = and_left (is_managed b s.allocator.regions (a / b.page)) _ h

    starts_held : (starts_frame b s a && is_held b s a) ≡ true
    starts_held = and_right (is_managed b s.allocator.regions (a / b.page)) _ h

    held : is_allocated (s.allocator.frames (a / b.page)) ≡ true
    held = and_right (starts_frame b s a) _ starts_held

    on_edge : a % b.page ≡ 0
    on_edge = eqb-true (a % b.page) 0 (and_left (eqb (a % b.page) 0) _ (and_left (starts_frame b s a) _ starts_held))

  -- another address can be freed after a free as before
  module _ (s : Store) (a : ℕ) (h : can_be_freed b s a ≡ true) (f : Frame) (at : s.allocator.frames (a / b.page) ≡ some f) where
    abbrev after : Store
    after =
        with_counters (with_allocator s (free_in b (a / b.page) s.allocator.frames s.allocator.regions))
        (count_free (size f.level) f.kernel s.counters)

    freed_store : free_frame b s (a / b.page) ≡ after
    unfolding free_frame
    freed_store = ap (freed_frame b s (a / b.page)) at

    still : (x : ℕ) → can_be_freed b s x ≡ true → not (eqb x a) ≡ true → can_be_freed b after x ≡ true
    still x k n =
        let apart = pages_apart x a (on_edge s x k) (on_edge s a h) (eqb-false x a (not-true (eqb x a) n)) in
        let frames = freed_frames_lem b (a / b.page) s.allocator.frames f at s.allocator.regions (managed s a h) in
        ap₂ (λ (m : Bool) (o : Option Frame). m && ((eqb (x % b.page) 0 && is_some o) && is_allocated o))
        (freed_managed b (a / b.page) s.allocator.frames s.allocator.regions (x / b.page))
        (ap (λ (fs : Frames). fs (x / b.page)) frames ∙ upd_other s.allocator.frames (a / b.page) _ (x / b.page) apart)
        ∙ k

    after_books : Books s.allocator.frames s.counters → Books after.allocator.frames after.counters
    after_books B =
        subst (λ (fs : Frames). Books fs after.counters)
        (sym (freed_frames_lem b (a / b.page) s.allocator.frames f at s.allocator.regions (managed s a h)))
        (after_free B (a / b.page) f at (subst (λ (o : Option Frame). is_allocated o ≡ true) at (held s a h)))

  module _ (s : Store) (R : Ready s) (e : Popped) (popped : pop_back s.queue ≡ some e) where
    abbrev rest : Store
    rest = with_queue s e.rest

    back : s.queue ≡ e.rest ++ (e.last ∷ [])
    back = popped_back s.queue e popped

    freeable_back : all (can_be_freed b s) (e.rest ++ (e.last ∷ [])) ≡ true
    freeable_back = subst (λ (xs : List ℕ). all (can_be_freed b s) xs ≡ true) back R.freeable

    once_back : all_once (e.rest ++ (e.last ∷ [])) ≡ true
    once_back = subst (λ (xs : List ℕ). all_once xs ≡ true) back R.once

    last_free : can_be_freed b rest e.last ≡ true
    last_free = all_last (can_be_freed b s) e.rest e.last freeable_back

    next_ready : Ready (free_frame b rest (e.last / b.page))
    next_ready =
        let w = held_frame_lem (s.allocator.frames (e.last / b.page)) (held rest e.last last_free) in
        subst Ready (sym (freed_store rest e.last last_free w.0 w.1))
        (record {
          books = after_books rest e.last last_free w.0 w.1 R.books;
          freeable =
              all_both (can_be_freed b s) (λ x. not (eqb x e.last)) (can_be_freed b (after rest e.last last_free w.0 w.1))
              (still rest e.last last_free w.0 w.1) e.rest
              (all_rest (can_be_freed b s) e.rest e.last freeable_back) (once_last e.rest e.last once_back);
          once = once_rest e.rest e.last once_back;
        })

  reclaim_like : (k : ℕ) (s : Store) → Ready s → Rust.reclaim_up_to b k s ≡ some (reclaim_up_to b k s)
  unfolding Rust.reclaim_up_to reclaim_up_to
  reclaim_like zero s R = refl
  reclaim_like (suc k) s R = go (pop_back s.queue) refl (reclaim_like k)
    where
      go : (o : Option Popped) → pop_back s.queue ≡ o → ((u : Store) → Ready u → Rust.reclaim_up_to b k u ≡ some (reclaim_up_to b k u))
          → Rust.free_next b (Rust.reclaim_up_to b k) s o ≡ some (free_or_drop b (reclaim_up_to b k) s o)
      go none e later = refl
      go (some d) e later =
          let t : Store = with_queue s d.rest in
          let free = last_free s R d e in
          ap (Rust.and_then (Rust.reclaim_up_to b k)) (free_like b t R.books (d.last / b.page) (held t d.last free))
          ∙ ap Rust.one_more_if (later (free_frame b t (d.last / b.page)) (next_ready s R d e))
          ∙ sym (ap (λ (c : Bool). some (cond c (one_more (reclaim_up_to b k (free_frame b t (d.last / b.page)))) (reclaim_up_to b k t))) free)

  pub round_like : (s : Store) → Ready s → Rust.reclaim_round b s ≡ some (reports (reclaim_round b s))
  unfolding Rust.reclaim_round reclaim_round
  round_like s R = go (should_reclaim b s.counters)
    where
      go : (low : Bool)
          → cond low (Rust.round_after b s.pass (Rust.reclaim_up_to b b.per_round s)) (some (reports (end_pass s s.pass)))
          ≡ some (reports (cond low (after_round b s.pass (reclaim_up_to b b.per_round s)) (end_pass s s.pass)))
      go true = ap (Rust.round_after b s.pass) (reclaim_like b.per_round s R)
      go false = refl
