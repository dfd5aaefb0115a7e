-- A held frame is split into held ones.
use Prim.Native.Nat.{ℕ, zero, suc, ◌+◌, ◌*◌, ◌≤◌, ◌<◌}
use mathlib.Core.Bool.{Bool, true, false, cond}
use mathlib.Core.Logic.{◌≢◌}
use mathlib.Core.Option.{Option, none, some}
use mathlib.Core.Path.{◌≡◌, refl, sym, ap, ◌∙◌, fun_ext}
use native.Mathlib.Numerals.{add-one}
use native.Mathlib.Omega.{arith}
use lib.Dec.{eqb}
use Rattle.definition.specs.Board.{Board}
use Rattle.definition.specs.Basics.{upd}
use Rattle.definition.specs.Frame.{Frame, Levels, is_allocated, kept, size, split_and_keep}
use Rattle.definition.specs.World.{level_of, marks_of, slot_of}
use Rattle.definition.specs.declared.Record.{Record}
use Rattle.definition.specs.declared.Row.{Row}
use Rattle.list.specs.Linked.{In}
use Rattle.region.specs.Rep.{Becomes, Held, Inside, Rep, Splits, Whole, kept_levels}
use Rattle.region.proofs.Laws.{then, stays, marked_as}
use Rattle.level.proofs.Sizes.{size_positive}
use Rattle.region.proofs.Splitting.{child_inside, child_ends}
use Rattle.region.proofs.Tiling.{Good, Ready, At, all_parts, rep_kept, splits, aligned, clear, followed, whole_parts}
use Rattle.region.proofs.Tiling.At.{hit, miss}
use Rattle.region.proofs.Freeing.{held_out}

module _ {board : Board} where
  pub held_frame_lem : {s : Levels} {first pages p : ℕ} → Held board s first pages p → (a : Frame) × (s.frames p ≡ some a) × (a.allocated ≡ true)
  held_frame_lem {s} {first} {pages} {p} H = go (s.frames p) refl H.held
    where
      go : (x : Option Frame) → s.frames p ≡ x → is_allocated x ≡ true → (a : Frame) × (s.frames p ≡ some a) × (a.allocated ≡ true)
      go none e h = let z : ◌≡◌ {A = ℕ} 0 1 = cc in absurd (omega arith)
      go (some a) e h = (a, e, h)

-- v at the places 1 to i from p on, a step apart
unfoldable pub many : {A : Type 0} → ℕ → (ℕ → A) → ℕ → ℕ → A → ℕ → A
many zero f p step v = f
many (suc i) f p step v = upd (many i f p step v) (p + suc i * step) v

-- the same value at two places, in either order
upd_either : {A : Type 0} (f : ℕ → A) (a b : ℕ) (v : A) → upd (upd f a v) b v ≡ upd (upd f b v) a v
unfolding upd
upd_either f a b v = fun_ext (λ q. either (eqb q b) (eqb q a) v (f q))
  where
    either : {A : Type 0} (s t : Bool) (v x : A) → cond s v (cond t v x) ≡ cond t v (cond s v x)
    either true true v x = refl
    either true false v x = refl
    either false true v x = refl
    either false false v x = refl

-- v at the places 0 to i - 1 from p on
unfoldable pub many_from : {A : Type 0} → ℕ → (ℕ → A) → ℕ → ℕ → A → ℕ → A
many_from zero f p step v = f
many_from (suc i) f p step v = upd (many i f p step v) p v

pub many_next
    : {A : Type 0} (i : ℕ) (f : ℕ → A) (p step : ℕ) (v : A)
    → upd (many_from i f p step v) (p + i * step) v ≡ many_from (suc i) f p step v
unfolding many many_from
many_next zero f p step v = let e : p + 0 * step ≡ p = omega arith in rw e refl
many_next (suc i) f p step v = upd_either (many i f p step v) p (p + suc i * step) v

module _ {board : Board} where
  module _
      {f : ℕ → Record} {n first from : ℕ} {row : Row} {s : Levels} {p : ℕ} (R : Rep board f n first row s) (Wh : Whole board s none from first row.pages)
      (H : Held board s first row.pages p) (a : Frame) (here : s.frames p ≡ some a) (so : a.allocated ≡ true)
    where
      level : (f p).level ≡ a.level
      level = R.level p H.inside ∙ ap level_of here

      pub keep_same : (f p).level ≡ 0 → kept_levels s p ≡ s
      unfolding split_and_keep
      keep_same e = let d : a.level ≡ 0 = sym level ∙ e in rw (here, d) refl

      module _ (l : ℕ) (e : (f p).level ≡ l + 1) where
        abbrev c : Frame
        c = record { level = l; allocated = true; zeroed = a.zeroed; kernel = a.kernel }

        pub keep_parts : kept_levels s p ≡ record { frames = all_parts s p l c; free = s.free }
        unfolding split_and_keep
        keep_parts = let d : a.level ≡ suc l = sym level ∙ e ∙ add-one l in rw (here, d) refl

        ready : Ready board s first row.pages (l + 1) p true
        ready = record { frame = a; here = here; level = sym level ∙ e; held_so = so; inside = H.inside; out = held_out R H }

        G : Good board s (some p) from first row.pages
        G =
            record {
              kept = rep_kept R;
              whole = record { opens = Wh.opens; tile = Wh.tile; full = λ q m i h. Wh.full q (λ d. let z : ◌≡◌ {A = ℕ} 0 1 = cc in omega arith) i h };
            }

        pub keep_splits : Splits board s first row.pages p l
        keep_splits = splits l G ready

        abbrev v : Record
        v = record { marks = (f p).marks; level = l; earlier = 0; later = 0 }

        marks : (f p).marks ≡ marks_of (some c)
        marks = R.marks p H.inside ∙ ap marks_of here ∙ rw so refl

        abbrev mid : ℕ → Levels
        mid i = record { frames = kept i s.frames p l c; free = s.free }

        -- the children's records are stored one after another
        pub keep_many : (i : ℕ) → i ≤ 511 → Becomes board f first row (many i f p (size l) v) n row (mid i)
        unfolding kept many
        keep_many zero h = stays R
        keep_many (suc i) h =
            let B = keep_many i (omega arith) in
            then B
            (marked_as (some c) B.rep (child_inside keep_splits true (suc i) (omega arith))
            (keep_splits.out (p + suc i * size l) (omega arith) (omega (arith, child_ends (suc i) (size l) (omega arith), size_positive l)))
            marks refl (record { earlier = refl; later = refl }))

        pub keep_last : Becomes board f first row (many_from 512 f p (size l) v) n row (kept_levels s p)
        unfolding many_from
        keep_last =
            let B = keep_many 511 (omega arith) in
            rw keep_parts (then B (marked_as (some c) B.rep H.inside (held_out R H) marks refl (record { earlier = refl; later = refl })))

        pub keep_whole : Whole board (kept_levels s p) none from first row.pages
        keep_whole =
            rw keep_parts
            (whole_parts c refl s.free Wh keep_splits here (aligned l G ready) (clear l G ready) (followed l G ready) full)
          where
            full : (q : ℕ) → none ≢ some q → Inside board first row.pages q → slot_of (all_parts s p l c q) < 6 → At s p l c (all_parts s p l c) 0 511 q
                → In q (s.free (slot_of (all_parts s p l c q)))
            full q m i h (hit j x y e w) = let g = ap slot_of w in absurd (omega arith)
            full q m i h (miss x w) = rw w (Wh.full q m i (rw w at h))
