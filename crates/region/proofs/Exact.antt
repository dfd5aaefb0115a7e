-- A state says every record of its region, and its row.
use Prim.Native.Nat.{ℕ, zero, suc, ◌+◌, ◌<◌}
use mathlib.Core.List.{List}
use mathlib.Core.Path.{◌≡◌, refl, sym, ap, ◌∙◌, subst}
use native.Mathlib.Decide.{ℕ_discrete, dec_lt}
use native.Mathlib.Omega.{arith}
use borrow.Author.Tests.{eq-eqb, ne_eqb}
use lib.ListN.{get_or}
use lib.Seq.{ext_get_or}
use Rattle.definition.specs.Board.{Board}
use Rattle.definition.specs.Frame.{Levels}
use Rattle.definition.specs.World.{back_of, earlier_in, front_of, later_in, links_of, no_links, slot_of}
use Rattle.definition.specs.declared.Links.{Links}
use Rattle.definition.specs.declared.Record.{Record}
use Rattle.definition.specs.declared.Row.{Row}
use Rattle.list.proofs.Laws.{all_map, all_zip, out_dec}
use Rattle.list.specs.Linked.{All, Distinct, In, Linked, Out, Seg}
use Rattle.list.specs.Linked.All.{all_more, all_none}
use Rattle.list.specs.Linked.Distinct.{distinct_more, distinct_none}
use Rattle.list.specs.Linked.Seg.{seg_more, seg_none}
use Rattle.region.specs.Rep.{Inside, Rep, SoundRow, encode, lists_of, state_of}

-- the page q has the links that its list says
record Same (f : ℕ → Record) (e : ℕ) (xs : List ℕ) (q : ℕ) : Type 0 where
  earlier : (f q).earlier ≡ earlier_in e q xs
  later : (f q).later ≡ later_in q xs

module _ {f : ℕ → Record} where
  seg_front : {e x : ℕ} {xs : List ℕ} {b : ℕ} → Seg f e x xs b 0 → x ≡ front_of xs
  seg_front (seg_none u v) = u
  seg_front (seg_more u v s) = u

  seg_back : {e x : ℕ} {xs : List ℕ} {b z : ℕ} → Seg f e x xs b z → b ≡ back_of e xs
  unfolding back_of
  seg_back (seg_none u v) = v
  seg_back (seg_more u v s) = seg_back s

  seg_links : {e x : ℕ} {xs : List ℕ} {b : ℕ} → Distinct xs → Seg f e x xs b 0 → All (λ (q : ℕ). Same f e xs q) xs
  unfolding earlier_in later_in
  seg_links distinct_none (seg_none u v) = all_none
  seg_links {e = e} {x = x} {b = b} (distinct_more {x = p} {xs = xs} o d) (seg_more u v s) =
      all_more {x = p} (record { earlier = rw (eq-eqb p p refl) v; later = rw (eq-eqb p p refl) (seg_front s) })
      (all_zip {Q = λ (q : ℕ). Same f (p + 1) xs q} (λ q m a. record { earlier = rw (ne_eqb p q m) a.earlier; later = rw (ne_eqb p q m) a.later }) o (seg_links {e = p + 1} d s))

none_earlier : (q e : ℕ) {xs : List ℕ} → Out q xs → earlier_in e q xs ≡ 0
unfolding earlier_in
none_earlier q e all_none = refl
none_earlier q e (all_more {x = x} m o) = rw (ne_eqb x q (λ d. m (sym d))) (none_earlier q (x + 1) o)

none_later : (q : ℕ) {xs : List ℕ} → Out q xs → later_in q xs ≡ 0
unfolding later_in
none_later q all_none = refl
none_later q (all_more {x = x} m o) = rw (ne_eqb x q (λ d. m (sym d))) (none_later q o)

linked_is : {f : ℕ → Record} {n : ℕ} {l : Links} {xs : List ℕ} → Linked f n l xs → l ≡ links_of xs
linked_is a = same (seg_front a.chain) (seg_back a.chain) a.counted
  where
    same : {a b c d e f : ℕ} → a ≡ b → c ≡ d → e ≡ f → ◌≡◌ {A = Links} (record { front = a; back = c; count = e }) (record { front = b; back = d; count = f })
    same p q r = cc

-- what holds of each element holds of one
all_in : {P : ℕ → Type 0} {xs : List ℕ} (q : ℕ) → ((x : ℕ) → Dec (P x)) → All P xs → In q xs → P q
all_in {P} q d a i = go (d q)
  where
    go : Dec (P q) → P q
    go (yes h) = h
    go (no n) = absurd (i (all_map (λ x h e. n (subst P (sym e) h)) a))

module _ {board : Board} where
  module _ {f : ℕ → Record} {n first : ℕ} {row : Row} {s : Levels} (R : Rep board f n first row s) where
    links : (q : ℕ) → Inside board first row.pages q → Same f 0 (s.free (slot_of (s.frames q))) q
    links q i = go (out_dec q (s.free k)) (dec_lt k 6)
      where
        k : ℕ
        k = slot_of (s.frames q)

        outs : Out q (s.free k) → (j : ℕ) → Dec (j ≡ k) → Out q (s.free j)
        outs o j (yes e) = rw e o
        outs o j (no m) = all_map (λ x a e. m (sym a.slotted ∙ ap (λ (y : ℕ). slot_of (s.frames y)) (sym e))) (R.listed j)

        alone : Out q (s.free k) → Same f 0 (s.free k) q
        alone o =
            let a = R.loose q i (λ j. outs o j (ℕ_discrete j k)) in
            record { earlier = a.earlier ∙ sym (none_earlier q 0 o); later = a.later ∙ sym (none_later q o) }

        go : Dec (Out q (s.free k)) → Dec (k < 6) → Same f 0 (s.free k) q
        go (yes o) d = alone o
        go (no h) (yes d) =
            let a = seg_links (R.lists k d).distinct (R.lists k d).chain in
            record {
              earlier = all_in q (λ x. ℕ_discrete _ _) (all_map (λ x b. b.earlier) a) h;
              later = all_in q (λ x. ℕ_discrete _ _) (all_map (λ x b. b.later) a) h;
            }
        go (no h) (no d) = alone (rw (R.beyond k (omega arith)) all_none)

    -- every record of the region is the one that the state says
    pub encoded : (q : ℕ) → Inside board first row.pages q → f q ≡ encode s q
    unfolding encode
    encoded q i = let l = links q i in same (R.marks q i) (R.level q i) l.earlier l.later
      where
        same : {a b c d e f g h : ℕ} → a ≡ b → c ≡ d → e ≡ f → g ≡ h
            → ◌≡◌ {A = Record} (record { marks = a; level = c; earlier = e; later = g }) (record { marks = b; level = d; earlier = f; later = h })
        same p q r t = cc

    -- and so are the lists
    pub listed_as : row.lists ≡ lists_of s
    unfolding lists_of
    listed_as = ext_get_or no_links row.lists (lists_of s) R.six (λ k h. at k (omega (arith, R.six)))
      where
        at : (k : ℕ) → k < 6 → get_or row.lists k no_links ≡ get_or (lists_of s) k no_links
        at zero h = linked_is (R.lists 0 h)
        at (suc zero) h = linked_is (R.lists 1 h)
        at (suc (suc zero)) h = linked_is (R.lists 2 h)
        at (suc (suc (suc zero))) h = linked_is (R.lists 3 h)
        at (suc (suc (suc (suc zero)))) h = linked_is (R.lists 4 h)
        at (suc (suc (suc (suc (suc zero))))) h = linked_is (R.lists 5 h)
        at (suc (suc (suc (suc (suc (suc k)))))) h = absurd (omega arith)

  -- where two sound regions have the same state, they have the same records and lists
  pub determined
      : {f g : ℕ → Record} {n m first : ℕ} {row r : Row} → SoundRow board f n first row → SoundRow board g m first r → r.pages ≡ row.pages
      → state_of f row ≡ state_of g r → ((q : ℕ) → Inside board first row.pages q → f q ≡ g q) × (row.lists ≡ r.lists)
  determined {g = g} {m = m} {first = first} {r = r} R Q e h =
      let P = subst (λ (s : Levels). Rep board g m first r s) (sym h) Q in
      (λ q i. encoded R q i ∙ sym (encoded P q (rw e i)), listed_as R ∙ sym (listed_as P))
