-- What stands for a state, and how it changes.
use Prim.Native.Nat.{ℕ, ◌+◌, ◌*◌, ◌<◌, ◌^◌}
use mathlib.Core.Bool.{Bool, true, false}
use mathlib.Core.List.{List, [], ◌∷◌, ◌++◌}
use mathlib.Core.Logic.{◌≢◌}
use mathlib.Core.Option.{Option, none, some}
use Rattle.std.specs.Prelude as code
use Rattle.std.specs.Prelude.{Some, None, is_some}
use mathlib.Core.Path.{◌≡◌, refl, sym, ap, ◌∙◌, subst, fun_ext}
use native.Mathlib.Decide.{ℕ_discrete, dec_lt}
use native.Mathlib.Omega.{arith}
use lib.ListN.{get_or, set, length-set, get_or-eq_default}
use lib.Seq.{get_or-set_same, get_or-set_other, set-get_or, set-set}
use Rattle.definition.specs.Board.{Board}
use Rattle.definition.proofs.Basics.{upd_all, upd_other, upd_same}
use Rattle.definition.specs.Basics.{everywhere, Popped, or_this, pop_last, pop_back, upd}
use Rattle.definition.specs.Frame.{Found, Frame, Levels, level_allocate, nothing, or_else, pop_from, popped, slot}
use Rattle.definition.specs.World.{frame_of, level_of, marks_of, no_links, pages_of, slot_of, walk}
use Rattle.definition.specs.declared.Links.{Links}
use Rattle.definition.specs.declared.Record.{Record}
use Rattle.definition.specs.declared.Row.{Row}
use Rattle.list.proofs.Count.{push_fits}
use Rattle.list.proofs.Laws.{all_append, all_head, all_left, all_map, all_right, all_zip, linked_frame, linked_pages, linked_sound, out_last, pushed_linked}
use Rattle.list.specs.Linked.{All, Apart, Linked, Out, Pushed, Sound, Taken}
use Rattle.list.specs.Linked.All.{all_more, all_none}
use Rattle.words.specs.Words.{with_list}
use Rattle.region.specs.Rep.{Answers, Becomes, Inside, Listed, Loose, Rep, Search, SoundRow, free_record, list_up, managed, page_in, state_of}

-- ---- the state is what the records and the row say

pub decode : (r : Record) (x : Option Frame) → r.marks ≡ marks_of x → r.level ≡ level_of x → frame_of r ≡ x
unfolding frame_of
decode r none e h = rw e refl
decode r (some a) e h = rw (e, h) (bits a.level a.allocated a.zeroed a.kernel)
  where
    bits : (l : ℕ) (x y z : Bool)
        → frame_of (record { marks = marks_of (some (record { level = l; allocated = x; zeroed = y; kernel = z })); level = l; earlier = 0; later = 0 })
        ≡ some (record { level = l; allocated = x; zeroed = y; kernel = z })
    bits l true true true = refl
    bits l true true false = refl
    bits l true false true = refl
    bits l true false false = refl
    bits l false true true = refl
    bits l false true false = refl
    bits l false false true = refl
    bits l false false false = refl

module _ {board : Board} where
  module _ {f : ℕ → Record} {n first : ℕ} {row : Row} {s : Levels} (R : Rep board f n first row s) where
    pub rep_state : state_of f row ≡ s
    unfolding state_of pages_of walk
    rep_state = same (fun_ext (λ q. R.framed q)) (fun_ext (λ k. at k (dec_lt k 6)))
      where
        same : {a b : ℕ → Option Frame} {x y : ℕ → List ℕ} → a ≡ b → x ≡ y → ◌≡◌ {A = Levels} (record { frames = a; free = x }) (record { frames = b; free = y })
        same u v = cc

        at : (k : ℕ) → Dec (k < 6) → pages_of f (get_or row.lists k no_links) ≡ s.free k
        at k (yes h) = linked_pages (R.lists k h)
        at k (no m) = rw (get_or-eq_default row.lists no_links {n = k} (omega (arith, R.six)), R.beyond k (omega arith)) refl

    pub rep_sound : SoundRow board f n first row
    rep_sound = rw rep_state R

    -- a page of one list is in no other
    pub apart : (j k : ℕ) → j ≢ k → Apart (s.free j) (s.free k)
    apart j k m =
        all_map (λ x a. all_map (λ y b e. m (sym a.slotted ∙ ap (λ (q : ℕ). slot_of (s.frames q)) e ∙ b.slotted)) (R.listed k)) (R.listed j)

  pub dec_inside : (first pages q : ℕ) → Dec (Inside board first pages q)
  dec_inside first pages q = go (dec_lt q first) (dec_lt q (first + managed board pages))
    where
      go : Dec (q < first) → Dec (q < first + managed board pages) → Dec (Inside board first pages q)
      go (yes a) b = no (λ i. omega (arith, i.low))
      go (no a) (yes b) = yes (record { low = omega arith; high = b })
      go (no a) (no b) = no (λ i. omega (arith, i.high))

-- ---- one list changes, by the page p

module _ {board : Board} where
  module _
      {f g : ℕ → Record} {n first : ℕ} {row : Row} {s : Levels} {fr : ℕ → Option Frame} {k p : ℕ} {r : Links} {xs : List ℕ}
      (R : Rep board f n first row s) (h : k < 6) (i : Inside board first row.pages p)
      (linked : Linked g n r xs) (listed : All (λ (q : ℕ). Listed board fr first row.pages k q) xs)
      (marks : (q : ℕ) → Inside board first row.pages q → (g q).marks ≡ marks_of (fr q)) (level : (q : ℕ) → Inside board first row.pages q → (g q).level ≡ level_of (fr q))
      (out : (j : ℕ) → j ≢ k → Out p (s.free j))
      (same : (q : ℕ) → Out q (s.free k) → q ≢ p → g q ≡ f q) (framed : (q : ℕ) → q ≢ p → fr q ≡ s.frames q)
      (loose : Out p xs → Loose (g p)) (sub : (q : ℕ) → q ≢ p → Out q xs → Out q (s.free k))
    where
      abbrev w : Row
      w = with_list row k r

      abbrev t : Levels
      t = record { frames = fr; free = upd s.free k xs }

      lists : (j : ℕ) → j < 6 → Dec (j ≡ k) → Linked g n (get_or w.lists j no_links) (t.free j)
      lists j a (yes e) = rw (e, get_or-set_same row.lists k r no_links (omega (arith, R.six)), upd_same s.free k xs) linked
      lists j a (no m) =
          rw (get_or-set_other row.lists k j r no_links m, upd_other s.free k xs j m)
          (linked_frame (all_zip (λ q b c. same q b (λ e. c (sym e))) (apart R j k m) (out j m)) (R.lists j a))

      listing : (j : ℕ) → Dec (j ≡ k) → All (λ (q : ℕ). Listed board fr first row.pages j q) (t.free j)
      listing j (yes e) = rw (e, upd_same s.free k xs) listed
      listing j (no m) =
          rw (upd_other s.free k xs j m)
          (all_zip (λ q a c. record { slotted = rw (framed q (λ e. c (sym e))) a.slotted; inside = a.inside }) (R.listed j) (out j m))

      outs : (q : ℕ) → q ≢ p → ((j : ℕ) → Out q (t.free j)) → (j : ℕ) → Dec (j ≡ k) → Out q (s.free j)
      outs q m o j (yes e) = rw e (sub q m (rw (upd_same s.free k xs) at (o k)))
      outs q m o j (no d) = rw (upd_other s.free k xs j d) at (o j)

      loosens : (q : ℕ) → Inside board first row.pages q → ((j : ℕ) → Out q (t.free j)) → Dec (q ≡ p) → Loose (g q)
      loosens q a o (yes e) = rw e (loose (rw (upd_same s.free k xs, e) at (o k)))
      loosens q a o (no m) =
          let z : (j : ℕ) → Out q (s.free j) = λ j. outs q m o j (ℕ_discrete j k) in
          rw (same q (z k) m) (R.loose q a z)

      away : (q : ℕ) → (Inside board first row.pages q → ⊥) → g q ≡ f q
      away q b =
          same q (all_map (λ x c e. b (subst (λ (y : ℕ). Inside board first row.pages y) (sym e) c.inside)) (R.listed k))
          (λ e. b (subst (λ (y : ℕ). Inside board first row.pages y) (sym e) i))

      frame_at : (q : ℕ) → Dec (Inside board first row.pages q) → frame_of (g q) ≡ fr q
      frame_at q (yes a) = decode (g q) (fr q) (marks q a) (level q a)
      frame_at q (no b) =
          ap frame_of (away q b) ∙ R.framed q ∙ sym (framed q (λ e. b (subst (λ (y : ℕ). Inside board first row.pages y) (sym e) i)))

      pub one_list : Becomes board f first row g n w t
      one_list =
          record {
            rep =
                record {
                  small = R.small;
                  fits = R.fits;
                  six = length-set row.lists k r ∙ R.six;
                  lists = λ j a. lists j a (ℕ_discrete j k);
                  beyond = λ j a. upd_other s.free k xs j (omega arith) ∙ R.beyond j a;
                  listed = λ j. listing j (ℕ_discrete j k);
                  framed = λ q. frame_at q (dec_inside first row.pages q);
                  marks = marks;
                  level = level;
                  loose = λ q a o. loosens q a o (ℕ_discrete q p);
                };
            start = refl;
            pages = refl;
            outside = away;
          }

-- ---- a pop

pop_back_snoc : (xs : List ℕ) (p : ℕ) → pop_back (xs ++ (p ∷ [])) ≡ some (record { rest = xs; last = p })
unfolding pop_last
pop_back_snoc [] p = refl
pop_back_snoc (x ∷ xs) p = ap (or_this true x (xs ++ (p ∷ []))) (pop_back_snoc xs p)

pub pop_from_none : (s : Levels) (k : ℕ) → s.free k ≡ [] → pop_from everywhere s k ≡ nothing s
unfolding pop_from pop_last
pop_from_none s k e = rw e refl

pub pop_from_some : (s : Levels) (k : ℕ) (xs : List ℕ) (p : ℕ) → s.free k ≡ xs ++ (p ∷ [])
    → pop_from everywhere s k ≡ record { levels = record { frames = s.frames; free = upd s.free k xs }; page = some p }
unfolding pop_from
pop_from_some s k xs p e = ap (popped s k) (ap pop_back e ∙ pop_back_snoc xs p)

module _ {board : Board} where
  pub stays : {f : ℕ → Record} {n first : ℕ} {row : Row} {s : Levels} → Rep board f n first row s → Becomes board f first row f n row s
  stays R = record { rep = R; start = refl; pages = refl; outside = λ q b. refl }

  module _ {f : ℕ → Record} {n first : ℕ} {row : Row} {s : Levels} {k : ℕ} (R : Rep board f n first row s) (h : k < 6) where
    pub pop_nothing
        : pages_of f (get_or row.lists k no_links) ≡ []
        → Answers board f first row f n (record { row = row; page = None }) (pop_from everywhere s k)
    pop_nothing e = rw (pop_from_none s k (sym (linked_pages (R.lists k h)) ∙ e)) (record { became = stays R; found = refl })

    module _ {g : ℕ → Record} {p : ℕ} {r : Links} (T : Taken f (get_or row.lists k no_links) p g n r) where
      abbrev rest : List ℕ
      rest = pages_of g r

      ends : s.free k ≡ rest ++ (p ∷ [])
      ends = sym (linked_pages (R.lists k h)) ∙ T.pages

      all : All (λ (q : ℕ). Listed board s.frames first row.pages k q) (rest ++ (p ∷ []))
      all = subst (λ (xs : List ℕ). All (λ (q : ℕ). Listed board s.frames first row.pages k q) xs) ends (R.listed k)

      others : (j : ℕ) → j ≢ k → Out p (s.free j)
      others j m = all_head (all_right rest (subst (λ (xs : List ℕ). Apart xs (s.free j)) ends (apart R k j (λ e. m (sym e)))))

      left_alone : (q : ℕ) → Out q (s.free k) → q ≢ p → g q ≡ f q
      left_alone q o m = T.others q (subst (λ (xs : List ℕ). Out q xs) (sym (linked_pages (R.lists k h))) o)

      pub pop_page : Answers board f first row g n (record { row = with_list row k r; page = Some p }) (pop_from everywhere s k)
      pop_page =
          rw (pop_from_some s k rest p ends)
          (record {
            became =
                one_list R h (all_head (all_right rest all)).inside T.sound (all_left rest _ all)
                (λ q c. T.marks q ∙ R.marks q c) (λ q c. T.level q ∙ R.level q c)
                others left_alone (λ q m. refl)
                (λ o. rw T.alone (record { earlier = refl; later = refl }))
                (λ q m o. rw ends (all_append o (all_more m all_none)));
            found = refl;
          })

-- ---- one change after another

module _ {board : Board} where
  module _ {f g h : ℕ → Record} {first n m : ℕ} {row r t : Row} {s u : Levels} where
    pub then : Becomes board f first row g n r s → Becomes board g first r h m t u → Becomes board f first row h m t u
    then a b =
        record {
          rep = b.rep;
          start = b.start ∙ a.start;
          pages = b.pages ∙ a.pages;
          outside = λ q o. b.outside q (rw a.pages o) ∙ a.outside q o;
        }

-- ---- a level's search

-- what an answer tells: a page, or that there is none
pub page_in_lem : (r : Search) {p : ℕ} → r.page ≡ Some p → page_in r ≡ some p
page_in_lem r e = rw e refl

pub none_in : (r : Search) → r.page ≡ None → page_in r ≡ none
none_in r e = rw e refl

-- and by its test
pub some_of : {A : Type 0} (o : code.Option A) → is_some o ≡ true → (x : A) × (o ≡ Some x)
some_of None e = let z : ◌≡◌ {A = ℕ} 0 1 = cc in absurd (omega arith)
some_of (Some x) e = (x, refl)

pub none_of : {A : Type 0} (o : code.Option A) → is_some o ≡ false → o ≡ None
none_of None e = refl
none_of (Some x) e = let z : ◌≡◌ {A = ℕ} 0 1 = cc in absurd (omega arith)

pub or_page : (a b : Found) (p : ℕ) → a.page ≡ some p → or_else a b ≡ a
or_page a b p e = rw e refl

pub or_none_lem : (a b : Found) → a.page ≡ none → or_else a b ≡ b
or_none_lem a b e = rw e refl

pub pop_from_nothing : (s : Levels) (k : ℕ) → (pop_from everywhere s k).page ≡ none → pop_from everywhere s k ≡ nothing s
unfolding pop_from
pop_from_nothing s k e = go (pop_back (s.free k)) e
  where
    go : (o : Option Popped) → (popped s k o).page ≡ none → popped s k o ≡ nothing s
    go none e = refl
    go (some x) e = let z : ◌≡◌ {A = ℕ} 0 1 = cc in absurd (omega arith)

module _ {board : Board} where
  module _
      {f g : ℕ → Record} {first n : ℕ} {row : Row} {r : Search} (s : Levels) (l : ℕ)
      (A : Answers board f first row g n r (pop_from everywhere s (l * 2)))
    where
      pub level_page : (t : Bool) → is_some r.page ≡ true → Answers board f first row g n r (level_allocate everywhere s l t false)
      unfolding level_allocate
      level_page t e =
          let h = some_of r.page e in
          rw (or_page (pop_from everywhere s (l * 2)) _ h.0 (sym A.found ∙ page_in_lem r h.1)) A

      none_here : r.page ≡ None → pop_from everywhere s (l * 2) ≡ nothing s
      none_here e = pop_from_nothing s (l * 2) (sym A.found ∙ none_in r e)

      pub level_none : r.page ≡ None → Answers board f first row g n r (level_allocate everywhere s l false false)
      unfolding level_allocate
      level_none e = rw (or_none_lem (pop_from everywhere s (l * 2)) (nothing s) (sym A.found ∙ none_in r e)) (subst (λ (a : Found). Answers board f first row g n r a) (none_here e) A)

      pub after_none : r.page ≡ None → Becomes board f first row g n r.row s
      after_none e = subst (λ (a : Found). Becomes board f first row g n r.row a.levels) (none_here e) A.became

      pub level_zeroed
          : {h : ℕ → Record} {m : ℕ} {r2 : Search} → r.page ≡ None
          → Answers board g first r.row h m r2 (pop_from everywhere (state_of g r.row) (l * 2 + 1))
          → Answers board f first row h m r2 (level_allocate everywhere s l true false)
      unfolding level_allocate
      level_zeroed {h} {m} {r2} e B =
          let a = after_none e in
          let B1 : Answers board g first r.row h m r2 (pop_from everywhere s (l * 2 + 1)) = rw (rep_state a.rep) at B in
          rw (or_none_lem (pop_from everywhere s (l * 2)) (pop_from everywhere s (l * 2 + 1)) (sym A.found ∙ none_in r e)) (record { became = then a B1.became; found = B1.found })

-- ---- a frame is listed

slot_of_free : (l : ℕ) (z k : Bool) → slot_of (some (record { level = l; allocated = false; zeroed = z; kernel = k })) ≡ slot l z
slot_of_free l z k = refl

-- a list without the page p, where p's record changes
pub linked_past : {f : ℕ → Record} {n : ℕ} {l : Links} {xs : List ℕ} (p : ℕ) (v : Record) → Linked f n l xs → Out p xs → Linked (upd f p v) n l xs
linked_past {f = f} p v L o = linked_frame (all_map (λ q b. upd_other f p v q (λ e. b (sym e))) o) L

module _ {board : Board} where
  module _
      {f : ℕ → Record} {n first : ℕ} {row : Row} {s : Levels} {p : ℕ} (l : ℕ) (z k : Bool)
      (R : Rep board f n first row s) (i : Inside board first row.pages p) (h : slot l z < 6) (o : (j : ℕ) → Out p (s.free j))
    where
      abbrev f1 : ℕ → Record
      f1 = upd f p (free_record l z k)

      abbrev x : Option Frame
      x = some (record { level = l; allocated = false; zeroed = z; kernel = k })

      abbrev old : Links
      old = get_or row.lists (slot l z) no_links

      linked : Linked f1 n old (s.free (slot l z))
      linked = linked_past p (free_record l z k) (R.lists (slot l z) h) (o (slot l z))

      -- what a push asks
      pub up_asks : Sound f n old × ((p < n) × (Out p (pages_of f old) × ((p + 1 < 2 ^ 32) × (old.count + 1 < 2 ^ 32))))
      up_asks = (
        linked_sound (R.lists (slot l z) h),
        (
          omega (arith, R.fits, i.high),
          (
            rw (linked_pages (R.lists (slot l z) h)) (o (slot l z)),
            (
              omega (arith, R.small, i.high),
              omega
                  (arith, R.small, push_fits (R.lists (slot l z) h) (all_map (λ q a. a.inside.high) (R.listed (slot l z))) i.high (o (slot l z))),
            ),
          ),
        ),
      )

      marked : (q : ℕ) → Inside board first row.pages q → (f1 q).marks ≡ marks_of (upd s.frames p x q)
      marked =
          upd_all (λ q r. Inside board first row.pages q → r.marks ≡ marks_of (upd s.frames p x q)) f p (free_record l z k) (λ c. rw (upd_same s.frames p x) refl)
          (λ q m. rw (upd_other s.frames p x q m) (R.marks q))

      leveled : (q : ℕ) → Inside board first row.pages q → (f1 q).level ≡ level_of (upd s.frames p x q)
      leveled =
          upd_all (λ q r. Inside board first row.pages q → r.level ≡ level_of (upd s.frames p x q)) f p (free_record l z k) (λ c. rw (upd_same s.frames p x) refl)
          (λ q m. rw (upd_other s.frames p x q m) (R.level q))

      module _ {g : ℕ → Record} {r : Links} (T : Pushed f1 old (p ∷ []) g n r) where
        pub up : Becomes board f first row g n (with_list row (slot l z) r) (list_up s p l z k)
        up =
            one_list R h i (pushed_linked T linked)
            (all_append
            (all_zip
            (λ q a b. record { slotted = rw (upd_other s.frames p x q (λ e. b (sym e))) a.slotted; inside = a.inside })
            (R.listed (slot l z))
            (o (slot l z)))
            (all_more (record { slotted = rw (upd_same s.frames p x) refl; inside = i }) all_none))
            (λ q c. T.marks q ∙ marked q c) (λ q c. T.level q ∙ leveled q c)
            (λ j m. o j)
            (λ q a m. T.others q (rw (linked_pages linked) a) (all_more m all_none) ∙ upd_other f p (free_record l z k) q m)
            (λ q m. upd_other s.frames p x q m)
            (λ b. absurd (out_last (s.free (slot l z)) b refl))
            (λ q m b. all_left (s.free (slot l z)) _ b)

-- ---- the list k is out of the row, and is put back once it has changed

module _ {board : Board} where
  pub taken_out
      : {f : ℕ → Record} {n first : ℕ} {row : Row} {s : Levels} (k : ℕ) → Rep board f n first row s
      → Becomes board f first row f n (with_list row k (get_or row.lists k no_links)) s
  taken_out {row = row} k R = rw (set-get_or row.lists k no_links) (stays R)

  module _
      {f g : ℕ → Record} {n first : ℕ} {row : Row} {s : Levels} {old : Links} (l : ℕ) (z k : Bool)
      (B : Becomes board f first row g n (with_list row (slot l z) old) s) (h : slot l z < 6) {p : ℕ} (i : Inside board first row.pages p) (o : (j : ℕ) → Out p (s.free j))
    where
      ours : get_or (set row.lists (slot l z) old) (slot l z) no_links ≡ old
      ours = get_or-set_same row.lists (slot l z) old no_links (omega (arith, length-set row.lists (slot l z) old, B.rep.six))

      pub out_asks : l < 3 → Sound g n old × (((l < 3) × (p < n)) × (Out p (pages_of g old) × ((p + 1 < 2 ^ 32) × (old.count + 1 < 2 ^ 32))))
      out_asks m = let a = rw ours at (up_asks l z k B.rep i h o) in (a.0, ((m, a.1.0), a.1.1))

      pub out_next
          : {g1 : ℕ → Record} {r : Links} → Pushed (upd g p (free_record l z k)) old (p ∷ []) g1 n r
          → Becomes board f first row g1 n (with_list row (slot l z) r) (list_up s p l z k)
      out_next {g1} {r} T =
          let U = up l z k B.rep i h o {g = g1} {r = r} (rw ours T) in
          then B (rw (set-set row.lists (slot l z) old r) at U)

-- ---- a frame that is on no list changes

module _ {board : Board} where
  module _
      {f : ℕ → Record} {n first : ℕ} {row : Row} {s : Levels} {p : ℕ} (x : Option Frame) {v : Record}
      (R : Rep board f n first row s) (i : Inside board first row.pages p) (o : (j : ℕ) → Out p (s.free j))
      (m : v.marks ≡ marks_of x) (l : v.level ≡ level_of x) (z : Loose v)
    where
      pub marked_as : Becomes board f first row (upd f p v) n row (record { frames = upd s.frames p x; free = s.free })
      marked_as =
          record {
            rep =
                record {
                  small = R.small;
                  fits = R.fits;
                  six = R.six;
                  lists = λ k h. linked_frame (all_map (λ q b. upd_other f p v q (λ e. b (sym e))) (o k)) (R.lists k h);
                  beyond = R.beyond;
                  listed = λ k. all_zip (λ q a b. record { slotted = rw (upd_other s.frames p x q (λ e. b (sym e))) a.slotted; inside = a.inside }) (R.listed k) (o k);
                  framed =
                      upd_all (λ q r. frame_of r ≡ upd s.frames p x q) f p v (rw (upd_same s.frames p x) (decode v x m l))
                      (λ q d. rw (upd_other s.frames p x q d) (R.framed q));
                  marks =
                      upd_all (λ q r. Inside board first row.pages q → r.marks ≡ marks_of (upd s.frames p x q)) f p v (λ c. rw (upd_same s.frames p x) m)
                      (λ q d. rw (upd_other s.frames p x q d) (R.marks q));
                  level =
                      upd_all (λ q r. Inside board first row.pages q → r.level ≡ level_of (upd s.frames p x q)) f p v (λ c. rw (upd_same s.frames p x) l)
                      (λ q d. rw (upd_other s.frames p x q d) (R.level q));
                  loose = λ q a b. upd_all (λ q r. Inside board first row.pages q → ((k : ℕ) → Out q (s.free k)) → Loose r) f p v (λ c d. z) (λ q d. R.loose q) q a b;
                };
            start = refl;
            pages = refl;
            outside = λ q b. upd_other f p v q (λ e. b (subst (λ (y : ℕ). Inside board first row.pages y) (sym e) i));
          }
