-- One region of a good store in the records that `encode` writes: each clause of the torn sheet that speaks of a region holds of it. A reader takes from here
-- `sheet_of`, the region's page of the sheet, and `fitting_of`, that its records fit their bytes.
use Prim.Native.Nat.{ℕ, zero, suc, ◌+◌, ◌-◌, ◌*◌, ◌/◌, ◌%◌, ◌≤◌, ◌<◌}
use mathlib.Core.Bool.{Bool, true, false, not, cond, ◌&&◌, ◌||◌}
use mathlib.Core.List.{List, [], ◌∷◌, map}
use mathlib.Core.Option.{Option, none, some}
use mathlib.Core.Path.{◌≡◌, refl, sym, ap, ap₂, ◌∙◌, subst}
use native.Mathlib.Omega.{arith}
use borrow.Author.Tests.{lt-ltb, le-leb, lt-leb, eq-eqb, leb-true, leb-false}
use lib.Dec.{leb, eqb}
use lib.ListN.{length, length-map}
use Rattle.definition.proofs.Boards.{page_positive}
use Rattle.definition.proofs.Bytes.{pages_of_lem as whole_of}
use Rattle.definition.specs.Board.{Fit}
use Rattle.definition.specs.declared.Record.{Record}
use Rattle.definition.specs.Basics.{all, sum, range, bit}
use Rattle.definition.specs.Board.{Board}
use Rattle.definition.specs.Boot.{most_pages}
use Rattle.definition.specs.Frame.{Frame, Frames, size, slot}
use Rattle.definition.specs.Allocator.{AllocationRegion, first, managed, end}
use Rattle.definition.specs.Contents.{size_of}
use Rattle.definition.specs.World.{walk, pages_of, front_of, back_of, links_of, marks_of, level_of, slot_of, earlier_in, later_in, page_number, numbered, record_of, encode_row}
use Rattle.definition.specs.Torn as Torn
use Rattle.definition.specs.Torn.{Placed, past, is_head, is_blank, is_held_record, alone_if_held, class_of, links_at, list_walks, on_its_list, pages_of_record}
use Rattle.definition.proofs.Tests.{and-true, in_range}
use Rattle.list.specs.Linked as Linked
use Rattle.list.specs.Linked.{Distinct, Seg}
use Rattle.scan.proofs.Members.{or_else}
use Rattle.scan.proofs.Nodes.{Met}
use Rattle.bookkeeping.specs.Blocks.{All}
use Rattle.bookkeeping.specs.Blocks.All.{all_none, all_more}
use Rattle.bookkeeping.specs.Good.{heads_from, heads, IsFree, head_pages, held_pages, listed_pages}
use Rattle.bookkeeping.proofs.Blocks.{size_pos}
use Rattle.bookkeeping.proofs.Tilings.{contains_in, contains_facts}
use Rattle.theorems.proofs.Bytes.{Small}
use Rattle.theorems.proofs.Heads.{Kept, Head, Spot, ended, heads_at, spot}
use Rattle.theorems.proofs.Heads.Spot.{spot_head, spot_inner}
use Rattle.theorems.proofs.Marks.{marks_of_lem, slot_bit, held_same}
use Rattle.theorems.proofs.Links.{
  Neighbours,
  seg_of,
  pages_of_lem,
  walks_of,
  earlier_bound,
  later_bound,
  distinct_of,
  all_numbered,
  member_numbered,
}

-- ---- over lists of pages

-- `list` has an `All` of its own, over page numbers
pages_list : {P : ℕ → Type 0} {xs : List ℕ} → All P xs → Linked.All P xs
pages_list all_none = Linked.All.all_none
pages_list (all_more {x = x} a more) = Linked.All.all_more {x = x} a (pages_list more)

module _ (g : ℕ → ℕ) {P : ℕ → Type 0} where
  all_test : (test : ℕ → Bool) {xs : List ℕ} → ((x : ℕ) → P x → test (g x) ≡ true) → All P xs → all test (map g xs) ≡ true
  unfolding all
  all_test test h all_none = refl
  all_test test h (all_more {x = x} a more) = and-true (h x a) (all_test test h more)

  all_sum : (v w : ℕ → ℕ) {xs : List ℕ} → ((x : ℕ) → P x → v (g x) ≡ w x) → All P xs → sum v (map g xs) ≡ sum w xs
  unfolding sum
  all_sum v w h all_none = refl
  all_sum v w h (all_more {x = x} a more) = omega (arith, h x a, all_sum v w h more)

-- ---- the record of a page, by its frame

module _ (board : Board) where
  -- `record_of` with the frame as an argument, so that what is known of the frame can be put in its place
  abbrev record_for : ℕ → AllocationRegion → Option Frame → ℕ → Record
  record_for base r o p =
      record {
        marks = marks_of o;
        level = level_of o;
        earlier = earlier_in 0 (page_number board base r p) (numbered board base r (slot_of o));
        later = later_in (page_number board base r p) (numbered board base r (slot_of o));
      }

  record_for_lem : (base : ℕ) (r : AllocationRegion) (fs : Frames) (p : ℕ) → record_of board base r fs p ≡ record_for base r (fs p) p
  unfolding record_of
  record_for_lem base r fs p = refl

module _ {board : Board} where
  module _ (base : ℕ) (r : AllocationRegion) {fs : Frames} (K : Kept board fs r) where
    -- the pages of a list, by number, are the region's
    numbered_in : (l : ℕ) (z : Bool) → l < 3 → Linked.All (λ (q : ℕ). q < base + managed board r) (numbered board base r (slot l z))
    numbered_in l z h =
        all_numbered (page_number board base r)
        (λ p i. let x = contains_facts board r p i.inside in omega (arith, ended K))
        (pages_list (K.lists.each l z h))

    none_six : numbered board base r 6 ≡ []
    none_six = ap (map (page_number board base r)) (K.six 6 (omega arith))

    slot_in : (f : Frame) → f.level < 3 → Linked.All (λ (q : ℕ). q < base + managed board r) (numbered board base r (slot_of (some f)))
    slot_in f h = go f.allocated
      where
        go : (t : Bool) → Linked.All (λ (q : ℕ). q < base + managed board r) (numbered board base r (cond t 6 (slot f.level f.zeroed)))
        go true = rw none_six Linked.All.all_none
        go false = numbered_in f.level f.zeroed h

    -- its records fit their bytes
    pub fitting_of : base + managed board r ≤ most_pages → (i : ℕ) → i < managed board r → Small (record_of board base r fs (first board r + i))
    unfolding earlier_in later_in
    fitting_of m i h = rw (record_for_lem board base r fs (first board r + i)) (go (spot K (first board r + i) (omega arith) (omega (arith, ended K))))
      where
        p : ℕ
        p = first board r + i

        n : ℕ
        n = base + managed board r

        go : Spot board fs r p → Small (record_for board base r (fs p) p)
        go (spot_inner e) =
            subst (λ o. Small (record_for board base r o p)) (sym e)
            (rw none_six (record { marks = omega arith; level = omega arith; earlier = omega arith; later = omega arith }))
        go (spot_head H) =
            let f = H.is.frame in
            let s = slot_in f H.is.level in
            subst (λ o. Small (record_for board base r o p)) (sym H.is.here)
            (record {
              marks = omega (arith, (marks_of_lem f).few);
              level = omega (arith, H.is.level);
              earlier = omega (arith, earlier_bound n 0 (page_number board base r p) (omega arith) s);
              later = omega (arith, later_bound n (page_number board base r p) s);
            })

-- ---- the region's page of the torn sheet

module _ (board : Board) where
  abbrev pub placed_as : ℕ → AllocationRegion → Placed
  placed_as base r = record { base = base; row = encode_row board base r }

  pub record Sheet (f : ℕ → Record) (fs : Frames) (base : ℕ) (r : AllocationRegion) : Type 0 where
    pub tiled : all (is_head board f (placed_as base r)) (Torn.heads board f (placed_as base r)) ≡ true
    pub alone : all (λ h. alone_if_held (f h)) (Torn.heads board f (placed_as base r)) ≡ true
    pub walks : all (list_walks board f (placed_as base r)) (range 0 6) ≡ true
    pub listed : all (on_its_list f (placed_as base r)) (Torn.heads board f (placed_as base r)) ≡ true
    pub pages : Torn.listed_pages (placed_as base r) ≡ listed_pages r
    pub held : (kernel : Bool) → sum (λ h. Torn.held_as kernel (f h)) (Torn.heads board f (placed_as base r)) ≡ head_pages board fs kernel r
    -- and walking its lists finds the store's
    pub lists : (k : ℕ) → pages_of f (links_at (placed_as base r) k) ≡ numbered board base r k

module _ {board : Board} (fit : Fit board) where
  module _ (f : ℕ → Record) (base : ℕ) (r : AllocationRegion) {fs : Frames} (K : Kept board fs r)
      (written : (i : ℕ) → i < managed board r → f (base + i) ≡ record_of board base r fs (first board r + i)) where
    abbrev num : ℕ → ℕ
    num p = page_number board base r p

    abbrev x : Placed
    x = placed_as board base r

    -- the record of a page
    at_page : (p : ℕ) → first board r ≤ p → p < end board r → f (num p) ≡ record_for board base r (fs p) p
    at_page p l h =
        let e : first board r + (p - first board r) ≡ p = omega arith in
        (rw e at (written (p - first board r) (omega (arith, ended K)))) ∙ record_for_lem board base r fs p

    at_head : (h : ℕ) (H : Head board fs r h) → f (num h) ≡ record_for board base r (some H.is.frame) h
    at_head h H =
        at_page h H.low (omega (arith, H.is.ends, size_pos H.is.frame.level)) ∙ ap (λ o. record_for board base r o h) H.is.here

    -- ---- stepping meets the same heads

    heads_from_lem : (fuel at : ℕ) → first board r ≤ at → All (Head board fs r) (heads_from fs fuel at (end board r))
        → Torn.heads_from f fuel (num at) (past board x) ≡ map num (heads_from fs fuel at (end board r))
    unfolding heads_from Torn.heads_from
    heads_from_lem zero at l a = refl
    heads_from_lem (suc fuel) at l a = go (leb (end board r) at) refl a (λ n k. heads_from_lem fuel n k)
      where
        rest : List ℕ
        rest = heads_from fs fuel (at + size_of (fs at)) (end board r)

        go : (t : Bool) → leb (end board r) at ≡ t → All (Head board fs r) (cond t [] (at ∷ rest))
            → ((n : ℕ) → first board r ≤ n → All (Head board fs r) (heads_from fs fuel n (end board r))
            → Torn.heads_from f fuel (num n) (past board x) ≡ map num (heads_from fs fuel n (end board r)))
            → cond (leb (past board x) (num at)) [] (num at ∷ Torn.heads_from f fuel (num at + pages_of_record (f (num at))) (past board x))
            ≡ map num (cond t [] (at ∷ rest))
        go true e b more = rw (le-leb (past board x) (num at) (omega (arith, ended K, leb-true (end board r) at e)))
        go false e (all_more H b) more =
            let q = leb-false (end board r) at e in
            let s : size_of (fs at) ≡ size H.is.frame.level = ap size_of H.is.here in
            let t : pages_of_record (f (num at)) ≡ size H.is.frame.level = ap pages_of_record (at_head at H) ∙ rw (lt-ltb H.is.frame.level 3 H.is.level) in
            let n : num at + pages_of_record (f (num at)) ≡ num (at + size_of (fs at)) = omega arith in
            rw (lt-leb (past board x) (num at) (omega (arith, ended K)))
            (ap₂ (λ (y : ℕ) (ys : List ℕ). y ∷ ys) refl
            (ap (λ (y : ℕ). Torn.heads_from f fuel y (past board x)) n ∙ more (at + size_of (fs at)) (omega arith) b))

    heads_same : Torn.heads board f x ≡ map num (heads board fs r)
    heads_same =
        let e : past board x - base ≡ managed board r = omega arith in
        let b : num (first board r) ≡ base = omega arith in
        ap₂ (λ (n at : ℕ). Torn.heads_from f n at (past board x)) e (sym b) ∙ heads_from_lem (managed board r) (first board r) (omega arith) (heads_at K)

    -- ---- "aligned heads .., zeros inside", "held heads have neighbours 0"

    -- a page inside a frame
    blank_at : (q : ℕ) → base ≤ q → q < past board x → fs (first board r + (q - base)) ≡ none → is_blank (f q) ≡ true
    unfolding earlier_in later_in
    blank_at q l h e =
        let p = first board r + (q - base) in
        let n : num p ≡ q = omega arith in
        let k : f q ≡ record_for board base r none p =
        ap f (sym n) ∙ (at_page p (omega arith) (omega (arith, ended K)) ∙ ap (λ o. record_for board base r o p) e) in
        rw (k, none_six base r K)

    head_test : (h : ℕ) → Head board fs r h → is_head board f x (num h) ≡ true
    head_test h H =
        let w = H.is.frame in
        let m = marks_of_lem w in
        let s = size_pos w.level in
        let place : Torn.frame_number board x (num h) ≡ h = omega (arith, H.low, whole_of board.page (page_positive fit) r.start) in
        let aligned : Torn.frame_number board x (num h) % size w.level ≡ 0 = ap (λ (y : ℕ). y % size w.level) place ∙ H.is.aligned in
        let inside : all (λ q. is_blank (f q)) (range (num h + 1) (size w.level - 1)) ≡ true =
        in_range (λ q. is_blank (f q)) (num h + 1) (size w.level - 1) (λ q a b.
        blank_at q (omega arith) (omega (arith, H.low, H.is.ends, ended K))
        (H.is.inside (first board r + (q - base)) (omega (arith, H.low)) (omega (arith, H.low)))) in
        rw (at_head h H)
        (and-true (eq-eqb (marks_of (some w) % 2) 1 m.admitted)
        (and-true (lt-ltb (marks_of (some w)) 16 m.few)
        (and-true (lt-ltb w.level 3 H.is.level)
        (and-true (eq-eqb (Torn.frame_number board x (num h) % size w.level) 0 aligned)
        (and-true (le-leb (num h + size w.level) (past board x) (omega (arith, H.low, H.is.ends, ended K))) inside)))))

    alone_test : (h : ℕ) → Head board fs r h → alone_if_held (f (num h)) ≡ true
    unfolding earlier_in later_in
    alone_test h H = rw (at_head h H, (marks_of_lem H.is.frame).held) (go H.is.frame.allocated refl)
      where
        go : (t : Bool) → H.is.frame.allocated ≡ t
            → (not (eqb (bit t) 1)
            || (eqb (record_for board base r (some H.is.frame) h).earlier 0 && eqb (record_for board base r (some H.is.frame) h).later 0)) ≡ true
        go false e = refl
        go true e = rw (e, none_six base r K)

    -- ---- the lists

    module _ (l : ℕ) (z : Bool) (low : l < 3) where
      abbrev k : ℕ
      k = slot l z

      abbrev Free : ℕ → Type 0
      Free p = IsFree board fs r l z p

      free_record_lem : (p : ℕ) → Free p → (g : Frame) × ((f (num p) ≡ record_for board base r (some g) p) × (slot_of (some g) ≡ k))
      free_record_lem p i =
          let c = contains_facts board r p i.inside in
          (i.frame, (at_page p c.0 c.1 ∙ ap (λ o. record_for board base r o p) i.here, rw (i.unheld, i.level, i.zeroed)))

      free_met : (p : ℕ) → Free p → Met f base (past board x) k (num p)
      free_met p i =
          let c = contains_facts board r p i.inside in
          let e = at_page p c.0 c.1 ∙ ap (λ o. record_for board base r o p) i.here in
          let m = marks_of_lem i.frame in
          let level : (f (num p)).level ≡ l = ap (λ (y : Record). y.level) e ∙ i.level in
          let marks : (f (num p)).marks ≡ marks_of (some i.frame) = ap (λ (y : Record). y.marks) e in
          let zeroed : (f (num p)).marks / 4 % 2 ≡ bit z = ap (λ (y : ℕ). y / 4 % 2) marks ∙ (m.zeroed ∙ ap bit i.zeroed) in
          record {
            low = omega arith;
            high = omega (arith, ended K);
            admitted = rw marks m.admitted;
            unheld = ap (λ (y : ℕ). y / 2 % 2) marks ∙ (m.held ∙ ap bit i.unheld);
            class = ap₂ (λ (a b : ℕ). a * 2 + b) level zeroed ∙ slot_bit l z;
          }

      free_near : (p : ℕ) → Free p → Neighbours f 0 (numbered board base r k) (num p)
      free_near p i =
          let e = free_record_lem p i in
          record {
            earlier = ap (λ (y : Record). y.earlier) e.1.0 ∙ ap (λ (j : ℕ). earlier_in 0 (num p) (numbered board base r j)) e.1.1;
            later = ap (λ (y : Record). y.later) e.1.0 ∙ ap (λ (j : ℕ). later_in (num p) (numbered board base r j)) e.1.1;
          }

      frees : Linked.All Free (r.free k)
      frees = pages_list (K.lists.each l z low)

      distinct : Distinct (numbered board base r k)
      distinct =
          distinct_of num Free
          (λ p q i j e.
          let c = contains_facts board r p i.inside in
          let d = contains_facts board r q j.inside in
          omega arith)
          frees (K.lists.once l z low)

      chain : Seg f 0 (front_of (numbered board base r k)) (numbered board base r k) (back_of 0 (numbered board base r k)) 0
      chain = seg_of 0 distinct (all_numbered num free_near frees)

      walked : Torn.walks board f x k (length (numbered board base r k)) 0 (front_of (numbered board base r k)) (back_of 0 (numbered board base r k)) ≡ true
      walked = walks_of board x chain (all_numbered num free_met frees)

      found : pages_of f (links_of (numbered board base r k)) ≡ numbered board base r k
      found = pages_of_lem chain

    lists_found : (k : ℕ) → pages_of f (links_at x k) ≡ numbered board base r k
    unfolding range pages_of walk
    lists_found zero = found 0 false (omega arith)
    lists_found (suc zero) = found 0 true (omega arith)
    lists_found (suc (suc zero)) = found 1 false (omega arith)
    lists_found (suc (suc (suc zero))) = found 1 true (omega arith)
    lists_found (suc (suc (suc (suc zero)))) = found 2 false (omega arith)
    lists_found (suc (suc (suc (suc (suc zero))))) = found 2 true (omega arith)
    lists_found (suc (suc (suc (suc (suc (suc j)))))) = sym (ap (map num) (K.six (suc (suc (suc (suc (suc (suc j)))))) (omega arith)))

    lists_walk_lem : all (list_walks board f x) (range 0 6) ≡ true
    unfolding all range
    lists_walk_lem =
        and-true (walked 0 false (omega arith))
        (and-true (walked 0 true (omega arith))
        (and-true (walked 1 false (omega arith))
        (and-true (walked 1 true (omega arith)) (and-true (walked 2 false (omega arith)) (and-true (walked 2 true (omega arith)) refl)))))

    lists_count : Torn.listed_pages x ≡ listed_pages r
    unfolding range sum
    lists_count = simp length-map

    listed_test : (h : ℕ) → Head board fs r h → on_its_list f x (num h) ≡ true
    listed_test h H = go H.is.frame.allocated refl
      where
        go : (t : Bool) → H.is.frame.allocated ≡ t → on_its_list f x (num h) ≡ true
        go true e =
            let held : is_held_record (f (num h)) ≡ true = rw (at_head h H, (marks_of_lem H.is.frame).held, e) in
            rw held
        go false e =
            let m = marks_of_lem H.is.frame in
            let rec = at_head h H in
            let class : class_of (f (num h)) ≡ slot H.is.frame.level H.is.frame.zeroed =
            ap class_of rec ∙ (ap (λ (b : ℕ). H.is.frame.level * 2 + b) m.zeroed ∙ slot_bit H.is.frame.level H.is.frame.zeroed) in
            let free = K.lists.every h H.is.frame (contains_in board r h H.low (omega (arith, H.is.ends, size_pos H.is.frame.level))) H.is.here e in
            or_else (is_held_record (f (num h))) _
            (λ n. rw (class, lists_found (slot H.is.frame.level H.is.frame.zeroed))
            (member_numbered num h (r.free (slot H.is.frame.level H.is.frame.zeroed)) free))

    held_pages_lem : (kernel : Bool) (h : ℕ) → Head board fs r h → Torn.held_as kernel (f (num h)) ≡ held_pages kernel (fs h)
    held_pages_lem kernel h H =
        let y = record_for board base r (some H.is.frame) h in
        ap (Torn.held_as kernel) (at_head h H)
        ∙ (held_same kernel H.is.frame y.earlier y.later H.is.level ∙ ap (held_pages kernel) (sym H.is.here))

    pub sheet_of : Sheet board f fs base r
    sheet_of =
        record {
          tiled = rw heads_same (all_test num (is_head board f x) head_test (heads_at K));
          alone = rw heads_same (all_test num (λ h. alone_if_held (f h)) alone_test (heads_at K));
          walks = lists_walk_lem;
          listed = rw heads_same (all_test num (on_its_list f x) listed_test (heads_at K));
          pages = lists_count;
          held = λ kernel. rw heads_same (all_sum num (λ h. Torn.held_as kernel (f h)) (λ h. held_pages kernel (fs h)) (held_pages_lem kernel) (heads_at K));
          lists = lists_found;
        }
