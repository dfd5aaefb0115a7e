-- What the tests of the torn sheet say of one region's pages, given by numbers as in `scan`: each page starts a frame or is blank inside
-- one, and a list that walks is linked both ways and meets no page twice. A caller takes from here `spot` for a page and `walk_linked` for
-- a list.
use Prim.Native.Nat.{ℕ, zero, suc, ◌+◌, ◌-◌, ◌*◌, ◌/◌, ◌%◌, ◌≤◌, ◌<◌}
use mathlib.Core.Bool.{true, ◌&&◌}
use mathlib.Core.List.{List, [], ◌∷◌, reverse_aux}
use mathlib.Core.Logic.{inl, inr}
use mathlib.Core.Option.{none, some}
use mathlib.Core.Path.{◌≡◌, refl, sym, subst}
use native.Mathlib.Decide.{ℕ_discrete, dec_lt}
use native.Mathlib.Omega.{arith}
use borrow.Author.Tests.{eq-eqb, ne_eqb, eqb-true}
use lib.Dec.{eqb}
use Rattle.definition.specs.declared.Record.{Record}
use Rattle.definition.specs.declared.Links.{Links}
use Rattle.definition.specs.Basics.{all, bit}
use Rattle.definition.specs.Frame.{Frame, size, slot}
use Rattle.definition.specs.World.{frame_of, level_of, marks_of, pages_of, slot_of, walk}
use Rattle.definition.specs.Torn.{Records, alone_if_held, class_of, is_blank, pages_of_record}
use Rattle.definition.proofs.Tests.{and_left, and_right}
use Rattle.list.specs.Linked.{All, Distinct, In, Linked, Out, Seg}
use Rattle.list.specs.Linked.All.{all_none, all_more}
use Rattle.list.specs.Linked.Distinct.{distinct_none, distinct_more}
use Rattle.list.specs.Linked.Seg.{seg_none, seg_more}
use Rattle.list.proofs.Laws.{all_head, all_rest}
use Rattle.region.specs.Rep.{Loose}
use Rattle.scan.specs.Sheet.{head_at, node_at, walks_at}
use Rattle.scan.proofs.Pigeon.{Mem, Distinct as Unlike}
use Rattle.scan.proofs.Heads.{Head, Steps, head_facts, pages_small}
use Rattle.scan.proofs.Nodes.{Met, node_back, node_facts, walks_met, walks_distinct, walk_length}

-- ---- a record and its frame

abbrev pub frame_at : Record → Frame
frame_at r = record {
  level = r.level;
  allocated = eqb (r.marks / 2 % 2) 1;
  zeroed = eqb (r.marks / 4 % 2) 1;
  kernel = eqb (r.marks / 8 % 2) 1;
}

pub frame_some : (r : Record) → r.marks % 2 ≡ 1 → frame_of r ≡ some (frame_at r)
unfolding frame_of
frame_some r e = rw (eq-eqb (r.marks % 2) 1 e)

pub frame_none : (r : Record) → r.marks % 2 ≡ 0 → frame_of r ≡ none
unfolding frame_of
frame_none r e = rw (ne_eqb (r.marks % 2) 1 (omega arith))

pub slot_held : (r : Record) → r.marks % 2 ≡ 1 → r.marks / 2 % 2 ≡ 1 → slot_of (frame_of r) ≡ 6
slot_held r e h = rw (frame_some r e, eq-eqb (r.marks / 2 % 2) 1 h)

slot_bit : (l x : ℕ) → x < 2 → slot l (eqb x 1) ≡ l * 2 + x
slot_bit l zero h = omega arith
slot_bit l (suc zero) h = omega arith
slot_bit l (suc (suc x)) h = absurd (omega arith)

pub slot_unheld : (r : Record) → r.marks % 2 ≡ 1 → r.marks / 2 % 2 ≡ 0 → slot_of (frame_of r) ≡ class_of r
slot_unheld r e h = rw (frame_some r e, ne_eqb (r.marks / 2 % 2) 1 (omega arith)) (slot_bit r.level (r.marks / 4 % 2) (omega arith))

-- the record has no mark and no level but its frame's
pub record Clean (r : Record) : Type 0 where
  pub marks : r.marks ≡ marks_of (frame_of r)
  pub level : r.level ≡ level_of (frame_of r)

bit_of : (x : ℕ) → x < 2 → bit (eqb x 1) ≡ x
bit_of zero h = refl
bit_of (suc zero) h = refl
bit_of (suc (suc x)) h = absurd (omega arith)

digits : (m : ℕ) → m % 2 ≡ 1 → m < 16 → m ≡ 1 + 2 * (m / 2 % 2) + 4 * (m / 4 % 2) + 8 * (m / 8 % 2)
digits m e h =
    let a : m / 2 ≡ 2 * (m / 4) + m / 2 % 2 = omega arith in
    let b : m / 4 ≡ 2 * (m / 8) + m / 4 % 2 = omega arith in
    let c : m / 8 < 2 = omega arith in
    omega arith

pub clean_head : (r : Record) → r.marks % 2 ≡ 1 → r.marks < 16 → Clean r
clean_head r e h =
    record {
      marks =
          rw (
            frame_some r e,
            bit_of (r.marks / 2 % 2) (omega arith),
            bit_of (r.marks / 4 % 2) (omega arith),
            bit_of (r.marks / 8 % 2) (omega arith),
          )
          (digits r.marks e h);
      level = rw (frame_some r e);
    }

-- four zeros
pub record Zeros (r : Record) : Type 0 where
  pub marks : r.marks ≡ 0
  pub level : r.level ≡ 0
  pub earlier : r.earlier ≡ 0
  pub later : r.later ≡ 0

pub blank_zeros : (r : Record) → is_blank r ≡ true → Zeros r
blank_zeros r t =
    let a = and_right (eqb r.marks 0) _ t in
    let b = and_right (eqb r.level 0) _ a in
    record {
      marks = eqb-true r.marks 0 (and_left _ _ t);
      level = eqb-true r.level 0 (and_left _ _ a);
      earlier = eqb-true r.earlier 0 (and_left _ _ b);
      later = eqb-true r.later 0 (and_right (eqb r.earlier 0) _ b);
    }

pub clean_zeros : (r : Record) → Zeros r → Clean r
clean_zeros r z =
    let e : frame_of r ≡ none = frame_none r (omega (arith, z.marks)) in
    record { marks = rw e z.marks; level = rw e z.level }

pub alone_loose : (r : Record) → alone_if_held r ≡ true → r.marks / 2 % 2 ≡ 1 → Loose r
alone_loose r t h =
    let a : (eqb r.earlier 0 && eqb r.later 0) ≡ true = rw (eq-eqb (r.marks / 2 % 2) 1 h) at t in
    record { earlier = eqb-true r.earlier 0 (and_left _ _ a); later = eqb-true r.later 0 (and_right (eqb r.earlier 0) _ a) }

-- ---- the pages of a tiling

-- a page of the region is one of the heads hs, and where its frame ends the next one starts; or it is blank
pub data Spot (f : Records) (from base past : ℕ) (hs : List ℕ) (q : ℕ) : Type 0 where
  spot_head
      : Head f from base past q → Mem q hs → (q + size (f q).level < past → (f (q + size (f q).level)).marks % 2 ≡ 1)
      → Spot f from base past hs q
  spot_inner : Zeros (f q) → Spot f from base past hs q

module _ (f : Records) (from base past : ℕ) where
  front_head : (at h : ℕ) (hs : List ℕ) → h ≡ at → all (head_at f from base past) (h ∷ hs) ≡ true → Head f from base past at
  unfolding all
  front_head at h hs e t = head_facts f from base past at (subst (λ (y : ℕ). head_at f from base past y ≡ true) e (and_left _ _ t))

  -- a frame starts where the stepping starts
  pub opens : (at : ℕ) (hs : List ℕ) → Steps f past at hs → all (head_at f from base past) hs ≡ true → at < past → (f at).marks % 2 ≡ 1
  opens at [] s t l = absurd (omega arith)
  opens at (h ∷ hs) s t l = (front_head at h hs s.0 t).admitted

  pub spot : (at q : ℕ) (hs : List ℕ) → Steps f past at hs → all (head_at f from base past) hs ≡ true → at ≤ q → q < past
      → Spot f from base past hs q
  unfolding all
  spot at q [] s t l u = absurd (omega arith)
  spot at q (h ∷ hs) s t l u = go (ℕ_discrete at q) (dec_lt q next) (λ k. spot next q hs s.2 rest k u)
    where
      next : ℕ
      next = at + pages_of_record (f at)

      rest : all (head_at f from base past) hs ≡ true
      rest = and_right (head_at f from base past h) _ t

      first : Head f from base past at
      first = front_head at h hs s.0 t

      ends : next ≡ at + size (f at).level
      ends = rw (pages_small (f at) first.level)

      go : Dec (at ≡ q) → Dec (q < next) → (next ≤ q → Spot f from base past hs q) → Spot f from base past (h ∷ hs) q
      go (yes e) d more =
          subst (λ (x : ℕ). Spot f from base past (h ∷ hs) x) e
          (spot_head first (inl (sym s.0)) (rw (← ends) (opens next hs s.2 rest)))
      go (no n) (yes k) more = spot_inner (blank_zeros (f q) (first.inside q (omega arith) (omega (arith, ends))))
      go (no n) (no k) more = up (more (omega arith))
        where
          up : Spot f from base past hs q → Spot f from base past (h ∷ hs) q
          up (spot_head H m x) = spot_head H (inr m) x
          up (spot_inner z) = spot_inner z

-- ---- membership, as `scan` and as `list` have it

pub all_mem : {P : ℕ → Type 0} (xs : List ℕ) → ((x : ℕ) → Mem x xs → P x) → All P xs
all_mem [] h = all_none
all_mem (x ∷ xs) h = all_more (h x (inl refl)) (all_mem xs (λ y m. h y (inr m)))

pub mem_in : (q : ℕ) (xs : List ℕ) → Mem q xs → In q xs
mem_in q [] m o = m
mem_in q (x ∷ xs) (inl e) o = all_head o e
mem_in q (x ∷ xs) (inr m) o = mem_in q xs m (all_rest o)

mem_out : (q : ℕ) (xs : List ℕ) → (Mem q xs → ⊥) → Out q xs
mem_out q xs h = all_mem xs (λ x m e. h (subst (λ (y : ℕ). Mem y xs) (sym e) m))

-- a list whose reversal, in front of `seen`, has no member twice
record Turned (xs seen : List ℕ) : Type 0 where
  distinct : Distinct xs
  unlike : Unlike seen
  apart : (x : ℕ) → Mem x xs → Mem x seen → ⊥

turned : (xs seen : List ℕ) → Unlike (reverse_aux xs seen) → Turned xs seen
turned [] seen d = record { distinct = distinct_none; unlike = d; apart = λ x m k. m }
turned (y ∷ ys) seen d =
    let r = turned ys (y ∷ seen) d in
    record { distinct = distinct_more (mem_out y ys (λ m. r.apart y m (inl refl))) r.distinct; unlike = r.unlike.1; apart = away r }
  where
    away : Turned ys (y ∷ seen) → (x : ℕ) → Mem x (y ∷ ys) → Mem x seen → ⊥
    away r x (inl e) k = r.unlike.0 (subst (λ (z : ℕ). Mem z seen) e k)
    away r x (inr m) k = r.apart x m (inr k)

-- ---- a list that walks

module _ (f : Records) (base past k : ℕ) where
  walk_seg : (n prev at last : ℕ) → walks_at f base past k n prev at last ≡ true → Seg f prev at (walk f n at) last 0
  unfolding walks_at walk
  walk_seg zero prev at last t =
      seg_none (eqb-true at 0 (and_left _ _ t)) (sym (eqb-true prev last (and_right (eqb at 0) _ t)))
  walk_seg (suc n) prev at last t =
      let d = node_facts f base past k prev at (and_left _ _ t) in
      let e : at ≡ at - 1 + 1 = omega arith in
      seg_more e (node_back f base past k prev at (and_left _ _ t))
      (subst (λ (p : ℕ). Seg f p (f (at - 1)).later (walk f n (f (at - 1)).later) last 0) e
      (walk_seg n at (f (at - 1)).later last (and_right (node_at f base past k prev at) _ t)))

  module _ (l : Links) (w : walks_at f base past k l.count 0 l.front l.back ≡ true) where
    -- each page of the list is an unheld frame of the region and the list
    pub walk_met : All (λ (q : ℕ). Met f base past k q) (pages_of f l)
    unfolding pages_of
    walk_met = all_mem (pages_of f l) (walks_met f base past k l.count 0 l.front l.back w)

    pub walk_linked : (n : ℕ) → past ≤ n → Linked f n l (pages_of f l)
    unfolding pages_of
    walk_linked n h =
        record {
          chain = walk_seg l.count 0 l.front l.back w;
          counted = sym (walk_length f l.count l.front);
          distinct = (turned (walk f l.count l.front) [] (walks_distinct f base past k l.count l.front l.back w)).distinct;
          inside = all_mem (walk f l.count l.front) (λ x m. let a = walks_met f base past k l.count 0 l.front l.back w x m in
              omega (arith, a.high));
        }
