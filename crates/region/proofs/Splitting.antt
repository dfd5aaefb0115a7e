-- A frame is split.
use Prim.Native.Nat.{ℕ, zero, suc, ◌+◌, ◌*◌, ◌/◌, ◌%◌, ◌≤◌, ◌<◌}
use mathlib.Core.Bool.{Bool, true, false}
use mathlib.Core.Logic.{◌≢◌}
use mathlib.Core.Option.{Option, none, some}
use mathlib.Core.Path.{◌≡◌, refl, subst}
use native.Mathlib.Decide.{ℕ_discrete}
use native.Mathlib.Nat.{mul-le-mul_right, suc-mul}
use native.Mathlib.Omega.{arith}
use lib.Dec.{eqb}
use Rattle.definition.specs.Board.{Board}
use Rattle.definition.proofs.Basics.{upd_other, upd_same}
use Rattle.definition.specs.Frame.{Frame, Levels, children, is_zeroed, size, slot, split}
use Rattle.definition.specs.World.{marks_of}
use Rattle.definition.specs.declared.Record.{Record}
use Rattle.definition.specs.declared.Row.{Row}
use Rattle.list.proofs.Laws.{all_append}
use Rattle.list.specs.Linked.{Out}
use Rattle.list.specs.Linked.All.{all_more, all_none}
use Rattle.level.proofs.Sizes.{size_positive}
use Rattle.region.specs.Rep.{Becomes, Inside, Rep, SoundRow, Splits, list_up, state_of}
use Rattle.region.proofs.Laws.{rep_state, rep_sound, then}

module _ {board : Board} where
  -- whether a record's frame is zeroed
  pub zeroed_mark : {f : ℕ → Record} {n first : ℕ} {row : Row} {s : Levels} (p : ℕ) → Inside board first row.pages p → Rep board f n first row s → eqb ((f p).marks / 4 % 2) 1 ≡ is_zeroed (s.frames p)
  zeroed_mark {s = s} p i R = rw (R.marks p i) (go (s.frames p))
    where
      go : (x : Option Frame) → eqb (marks_of x / 4 % 2) 1 ≡ is_zeroed x
      go none = refl
      go (some a) = bits a.allocated a.zeroed a.kernel
        where
          bits : (x y z : Bool) → eqb (marks_of (some (record { level = 0; allocated = x; zeroed = y; kernel = z })) / 4 % 2) 1 ≡ y
          bits true true true = refl
          bits true true false = refl
          bits true false true = refl
          bits true false false = refl
          bits false true true = refl
          bits false true false = refl
          bits false false true = refl
          bits false false false = refl

-- ---- a frame listed after another change

module _ {board : Board} where
  module _ {f g : ℕ → Record} {n first : ℕ} {row r : Row} {u : Levels} (B : Becomes board f first row g n r u) where
    pub ready
        : {p l : ℕ} → l < 3 → Inside board first row.pages p → ((k : ℕ) → Out p (u.free k))
        → SoundRow board g n first r × (((l < 3) × Inside board first r.pages p) × ((k : ℕ) → Out p ((state_of g r).free k)))
    ready h i o = (rep_sound B.rep, ((h, rw B.pages i), rw (rep_state B.rep) o))

    pub next
        : {h : ℕ → Record} {m : ℕ} {t : Row} (p l : ℕ) (z k : Bool) → Becomes board g first r h m t (list_up (state_of g r) p l z k)
        → Becomes board f first row h m t (list_up u p l z k)
    next {h} {m} {t} p l z k C =
        then B (subst (λ (x : Levels). Becomes board g first r h m t (list_up x p l z k)) (rep_state B.rep) C)

-- ---- children

module _ (s : Levels) (page l : ℕ) (z : Bool) where
  pub children_out
      : (i q : ℕ) → ((j : ℕ) → 1 ≤ j → j ≤ i → q ≢ page + j * size l) → ((k : ℕ) → Out q (s.free k))
      → (k : ℕ) → Out q ((children i s page l z).free k)
  unfolding children
  children_out zero q m o k = o k
  children_out (suc i) q m o k = at (children_out i q (λ j a b. m j a (omega arith)) o) (ℕ_discrete k (slot l z))
    where
      at : ((k : ℕ) → Out q ((children i s page l z).free k)) → Dec (k ≡ slot l z) → Out q ((children (suc i) s page l z).free k)
      at ih (yes e) =
          rw (e, upd_same (children i s page l z).free (slot l z) _)
          (all_append (ih (slot l z)) (all_more (m (suc i) (omega arith) (omega arith)) all_none))
      at ih (no d) = rw (upd_other (children i s page l z).free (slot l z) _ k d) (ih k)

-- the child i, of 512, ends by the frame's end
pub child_ends : (i m : ℕ) → i < 512 → i * m + m ≤ 512 * m
child_ends i m h = omega (arith, mul-le-mul_right {m = suc i} {n = 512} m (omega arith), suc-mul i m)

pub child_after : (i j m : ℕ) → j < i → j * m + m ≤ i * m
child_after i j m h = omega (arith, mul-le-mul_right {m = suc j} {n = i} m (omega arith), suc-mul j m)

module _ {board : Board} where
  module _ {s : Levels} {first pages page l : ℕ} (S : Splits board s first pages page l) (z : Bool) where
    pub child_inside : (i : ℕ) → i < 512 → Inside board first pages (page + i * size l)
    child_inside i h =
        record {
          low = omega (arith, S.low);
          high = omega (arith, S.high, child_ends i (size l) h, size_positive l);
        }

    pub page_inside : Inside board first pages page
    page_inside = record { low = S.low; high = omega (arith, S.high, size_positive l) }

    pub child_out : (i : ℕ) → i < 511 → (k : ℕ) → Out (page + suc i * size l) ((children i s page l z).free k)
    child_out i h =
        children_out s page l z i (page + suc i * size l)
        (λ j a b e. absurd (omega (arith, child_after (suc i) j (size l) (omega arith), size_positive l)))
        (S.out (page + suc i * size l) (omega arith) (omega (arith, child_ends (suc i) (size l) (omega arith), size_positive l)))

    pub page_out : (k : ℕ) → Out page ((children 511 s page l z).free k)
    page_out =
        children_out s page l z 511 page
        (λ j a b e. absurd (omega (arith, child_after j 0 (size l) (omega arith), size_positive l)))
        (S.out page (omega arith) (omega (arith, size_positive l)))

-- all children, and then the first
pub split_is
    : (s : Levels) (page l : ℕ) (z : Bool) (i : ℕ) → i ≡ 511 → z ≡ is_zeroed (s.frames page)
    → list_up (children i s page l z) page l z false ≡ split s page l
unfolding split
split_is s page l z i e d = rw (← d, e) refl
