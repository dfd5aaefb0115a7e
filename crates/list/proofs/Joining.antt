-- A run whose last page is followed by another, or whose first page follows another: what changing the record of a neighbour, where there is one, makes
-- of the run beside it. A push and a removal both join runs so.
use Prim.Native.Nat.{ℕ, ◌-◌}
use mathlib.Core.Bool.{cond}
use mathlib.Core.List.{List, ◌∷◌}
use mathlib.Core.Logic.{◌≢◌}
use mathlib.Core.Path.{◌≡◌, refl, sym, ap, ◌∙◌}
use native.Mathlib.Omega.{arith}
use native.Mathlib.Decide.{ℕ_discrete}
use borrow.Author.Tests.{eq-eqb, ne_eqb}
use lib.Dec.{eqb}
use Rattle.definition.specs.declared.Record.{Record}
use Rattle.definition.proofs.Basics.{upd_same, upd_other, upd_all}
use Rattle.record.specs.Records.{with_later}
use Rattle.list.specs.Linked.{All, Distinct, Seg, upd_neighbour, later_at, earlier_at}
use Rattle.list.specs.Linked.All.{all_more}
use Rattle.list.specs.Linked.Distinct.{distinct_none, distinct_more}
use Rattle.list.specs.Linked.Seg.{seg_none, seg_more}
use Rattle.list.proofs.Laws.{all_map, seg_frame, seg_last, seg_some}

module _ (f : ℕ → Record) (c : ℕ) (r : Record) where
  pub neighbour_other : (q : ℕ) → (c ≢ 0 → q ≢ c - 1) → upd_neighbour f c r q ≡ f q
  unfolding upd_neighbour
  neighbour_other q h = go (ℕ_discrete c 0)
    where
      go : Dec (c ≡ 0) → upd_neighbour f c r q ≡ f q
      go (yes e) = rw (eq-eqb c 0 e)
      go (no n) = rw (ne_eqb c 0 n) (upd_other f (c - 1) r q (h n))

  -- what r has of the neighbour's record stays for every page
  pub neighbour_kept : (m : Record → ℕ) → m r ≡ m (f (c - 1)) → (q : ℕ) → m (upd_neighbour f c r q) ≡ m (f q)
  unfolding upd_neighbour
  neighbour_kept m h q = go (ℕ_discrete c 0)
    where
      go : Dec (c ≡ 0) → m (upd_neighbour f c r q) ≡ m (f q)
      go (yes e) = rw (eq-eqb c 0 e)
      go (no n) = rw (ne_eqb c 0 n) (upd_all (λ q r. m r ≡ m (f q)) f (c - 1) r h (λ q b. refl) q)

seg_start : {f : ℕ → Record} {e x y : ℕ} {xs : List ℕ} {b z : ℕ} → y ≡ x → Seg f e x xs b z → Seg f e y xs b z
seg_start g (seg_none h k) = seg_none (g ∙ h) k
seg_start g (seg_more h k s) = seg_more (g ∙ h) k s

module _ {f : ℕ → Record} where
  -- what holds of each page of a run holds of the first, and of the last, where there is one
  pub seg_first : {P : ℕ → Type 0} {e x : ℕ} {xs : List ℕ} {b : ℕ} → Seg f e x xs b 0 → All P xs → x ≢ 0 → P (x - 1)
  seg_first (seg_none h k) a n = absurd (n h)
  seg_first {x = x} (seg_more {p = p} h k s) (all_more a rest) n = let m : x - 1 ≡ p = omega arith in rw m a

  pub seg_back : {P : ℕ → Type 0} {x : ℕ} {xs : List ℕ} {b z : ℕ} → Seg f 0 x xs b z → All P xs → b ≢ 0 → P (b - 1)
  seg_back (seg_none h k) a n = absurd (n k)
  seg_back (seg_more h k s) (all_more a rest) n = seg_last (seg_more h k s) (all_more a rest)

  -- the last of a run is followed by another
  seg_relast
      : (v : ℕ) {e x p : ℕ} {xs : List ℕ} {b z : ℕ}
      → Distinct (p ∷ xs) → Seg f e x (p ∷ xs) b z → Seg (with_later f (b - 1) v) e x (p ∷ xs) b v
  seg_relast v {p = p} {b = b} d (seg_more u w (seg_none k l)) =
      let h : b - 1 ≡ p = omega arith in
      let r = upd_same f p (record { marks = (f p).marks; level = (f p).level; earlier = (f p).earlier; later = v }) in
      rw h (seg_more u (ap (λ (r : Record). r.earlier) r ∙ w) (seg_none (ap (λ (r : Record). r.later) r) l))
  seg_relast v {p = p} {b = b} (distinct_more a d) (seg_more u w (seg_more k l s)) =
      let n : p ≢ b - 1 = seg_last (seg_more k l s) a in
      let r = upd_other f (b - 1) (record { marks = (f (b - 1)).marks; level = (f (b - 1)).level; earlier = (f (b - 1)).earlier; later = v }) p n in
      seg_more u (ap (λ (r : Record). r.earlier) r ∙ w) (rw (← r) at (seg_relast v d (seg_more k l s)))

  -- the page before is followed by v
  pub joined_left : (v : ℕ) {x : ℕ} {xs : List ℕ} {b z : ℕ} → Distinct xs → Seg f 0 x xs b z → Seg (later_at f b v) 0 (cond (eqb b 0) v x) xs b v
  unfolding upd_neighbour
  joined_left v {b = b} distinct_none (seg_none h k) = rw (eq-eqb b 0 k) (seg_none refl k)
  joined_left v {b = b} (distinct_more o d) (seg_more h k s) =
      let n : b ≢ 0 = (let q = seg_some (seg_more h k s) in omega arith) in
      rw (ne_eqb b 0 n) (seg_relast v (distinct_more o d) (seg_more h k s))

  -- the page after follows v
  pub joined_right : (v : ℕ) {e x : ℕ} {xs : List ℕ} {b : ℕ} → Distinct xs → Seg f e x xs b 0 → Seg (earlier_at f x v) v x xs (cond (eqb x 0) v b) 0
  unfolding upd_neighbour
  joined_right v {x = x} distinct_none (seg_none h k) = rw (eq-eqb x 0 h) (seg_none h refl)
  joined_right v {x = x} (distinct_more o d) (seg_more {p = p} h k s) =
      let n : x ≢ 0 = omega arith in
      let m : x - 1 ≡ p = omega arith in
      let a : Record = record { marks = (f p).marks; level = (f p).level; earlier = v; later = (f p).later } in
      let r = upd_same f p a in
      let w = seg_frame (all_map (λ q c. upd_other f p a q (λ e. c (sym e))) o) s in
      rw (ne_eqb x 0 n, m)
      (seg_more h (ap (λ (r : Record). r.earlier) r) (seg_start (ap (λ (r : Record). r.later) r) w))
