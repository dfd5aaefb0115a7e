-- A search of a region that finds nothing changes nothing. Where a larger level has a frame, it is of a kind that was asked for, and so are its parts: the search
-- that follows a split finds one of them, and none comes back empty after it split a frame. And a frame that is found is held.
use Prim.Native.Nat.{ℕ, zero, suc, ◌+◌, ◌-◌, ◌<◌}
use mathlib.Core.Bool.{Bool, true, false, not, cond}
use mathlib.Core.List.{List, [], ◌∷◌, ◌++◌}
use mathlib.Core.Option.{Option, none, some}
use mathlib.Core.Path.{◌≡◌, refl, sym, ap, ◌∙◌, subst, fun_ext}
use native.Mathlib.Omega.{arith}
use Rattle.definition.specs.Board.{Board}
use Rattle.definition.specs.declared.Links.{Links}
use Rattle.definition.specs.declared.Record.{Record}
use Rattle.definition.specs.declared.Row.{Row}
use Rattle.address.specs.declared.PhysAddr.{PhysAddr}
use Rattle.definition.specs.Basics.{everywhere, Popped, pop_back, pop_last}
use Rattle.definition.specs.Frame.{
  Found,
  Frame,
  Levels,
  allocate,
  children,
  do_allocate,
  is_allocated,
  is_zeroed,
  level_allocate,
  nothing,
  or_else,
  pop_from,
  popped,
  set_allocated,
  slot,
  split,
  then_split,
}
use Rattle.definition.specs.World.{slot_of}
use Rattle.definition.proofs.Basics.{upd_same}
use Rattle.list.specs.Linked.{All}
use Rattle.list.specs.Linked.All.{all_more, all_none}
use Rattle.region.specs.Rep.{Becomes, Inside, SoundRow, state_of}
use Rattle.region.proofs.Exact.{determined}
use Rattle.region.proofs.Granting.{granted_none, granted_page}
use Rattle.region.proofs.Laws.{dec_inside, or_none_lem, or_page, pop_from_some, rep_sound, rep_state}
use Rattle.region.proofs.Tiling.{Good, Ready, fine_do, good_split, parted_none, parted_page}

-- whether a search that may take zeroed frames, or only those, takes one with this mark
abbrev wanted : (try_zero only_zero zeroed : Bool) → Bool
wanted t true z = z
wanted true false z = true
wanted false false z = not z

no_page : {p : ℕ} {o : Option ℕ} → o ≡ none → o ≡ some p → ⊥
no_page d e = let z : ◌≡◌ {A = ℕ} 0 1 = cc in omega arith

-- ---- the frame that a search finds is of a kind that was asked for

abbrev Sorted : (t o : Bool) → Found → Type 0
Sorted t o a = (p : ℕ) → a.page ≡ some p → wanted t o (is_zeroed (a.levels.frames p)) ≡ true

last_of : {P : ℕ → Type 0} {xs : List ℕ} → All P xs → (e : Popped) → pop_back xs ≡ some e → P e.last
unfolding pop_last
last_of all_none e d = let z : ◌≡◌ {A = ℕ} 0 1 = cc in absurd (omega arith)
last_of {P} (all_more {x = x} {xs = xs} a rest) e d = go (pop_back xs) refl (last_of rest)
  where
    go : (o : Option Popped) → pop_back xs ≡ o → ((u : Popped) → pop_back xs ≡ some u → P u.last) → P e.last
    go none h ih = let k : e ≡ record { rest = xs; last = x } = cc in rw k a
    go (some u) h ih = let k : e ≡ record { rest = x ∷ u.rest; last = u.last } = cc in rw k (ih u h)

slot_kind : (x : Option Frame) (l : ℕ) (z : Bool) → l < 3 → slot_of x ≡ slot l z → is_zeroed x ≡ z
slot_kind none l true h e = absurd (omega arith)
slot_kind none l false h e = absurd (omega arith)
slot_kind (some a) l z h e = go a.allocated a.zeroed z e
  where
    go : (b y z : Bool) → cond b 6 (slot a.level y) ≡ slot l z → y ≡ z
    go true y true e = absurd (omega arith)
    go true y false e = absurd (omega arith)
    go false true true e = refl
    go false true false e = absurd (omega arith)
    go false false true e = absurd (omega arith)
    go false false false e = refl

sorted_nothing : (t o : Bool) (s : Levels) → Sorted t o (nothing s)
sorted_nothing t o s p e = absurd (no_page refl e)

module _ {board : Board} where
  sorted_pop : {s : Levels} {from first pages : ℕ} → Good board s none from first pages → (l : ℕ) (z : Bool) → l < 3 → (t o : Bool) → wanted t o z ≡ true → Sorted t o (pop_from everywhere s (slot l z))
  unfolding pop_from
  sorted_pop {s} G l z h t o w p e = go (pop_back (s.free (slot l z))) refl e
    where
      go : (x : Option Popped) → pop_back (s.free (slot l z)) ≡ x → (popped s (slot l z) x).page ≡ some p
          → wanted t o (is_zeroed ((popped s (slot l z) x).levels.frames p)) ≡ true
      go none d e = absurd (no_page refl e)
      go (some u) d e =
          let m : u.last ≡ p = cc in
          let k = (last_of (G.kept.listed (slot l z)) u d).slotted in
          rw (slot_kind (s.frames p) l z h (subst (λ (q : ℕ). slot_of (s.frames q) ≡ slot l z) m k)) w

sorted_or : (t o : Bool) (a b : Found) → Sorted t o a → Sorted t o b → Sorted t o (or_else a b)
sorted_or t o a b A B = go a.page refl
  where
    go : (x : Option ℕ) → a.page ≡ x → Sorted t o (or_else a b)
    go none e = rw (or_none_lem a b e) B
    go (some p) e = rw (or_page a b p e) A

module _ {board : Board} where
  sorted_level : {s : Levels} {from first pages : ℕ} → Good board s none from first pages → (l : ℕ) → l < 3 → (t o : Bool) → Sorted t o (level_allocate everywhere s l t o)
  unfolding level_allocate
  sorted_level G l h t true = sorted_pop G l true h t true refl
  sorted_level {s} G l h true false =
      sorted_or true false (pop_from everywhere s (slot l false)) (pop_from everywhere s (slot l true)) (sorted_pop G l false h true false refl) (sorted_pop G l true h true false refl)
  sorted_level {s} G l h false false =
      sorted_or false false (pop_from everywhere s (slot l false)) (nothing s) (sorted_pop G l false h false false refl) (sorted_nothing false false s)

  -- what was split is good again
  parts_good
      : {s : Levels} {from first pages : ℕ} → Good board s none from first pages → (left l : ℕ) → l + suc left ≡ 3 → (t o : Bool) (p : ℕ)
      → (do_allocate everywhere left (l + 1) s t o).page ≡ some p → Good board (split (do_allocate everywhere left (l + 1) s t o).levels p l) none from first pages
  parts_good {s} {from} {first} {pages} G left l h t o p e =
      let F = fine_do left (l + 1) t o G (omega arith) in
      good_split l (subst (λ (x : Option ℕ). Good board (do_allocate everywhere left (l + 1) s t o).levels x from first pages) e F.good) (F.ready p e)

  sorted_do
      : {s : Levels} {from first pages : ℕ} → Good board s none from first pages → (left l : ℕ) → l + left ≡ 3 → (t o : Bool) → Sorted t o (do_allocate everywhere left l s t o)
  unfolding do_allocate
  sorted_do {s} G zero l h t o = sorted_nothing t o s
  sorted_do {s} G (suc left) l h t o =
      sorted_or t o (level_allocate everywhere s l t o) (then_split everywhere l t o up) (sorted_level G l (omega arith) t o) (go up.page refl (sorted_do G left (l + 1) (omega arith) t o))
    where
      up : Found
      up = do_allocate everywhere left (l + 1) s t o

      go : (x : Option ℕ) → up.page ≡ x → Sorted t o up → Sorted t o (then_split everywhere l t o up)
      go none e ih = rw (parted_none l t o up e) ih
      go (some p) e ih = rw (parted_page l t o up p e) (sorted_level (parts_good G left l h t o p e) l (omega arith) t o)

-- ---- a level that lists a frame of such a kind has one to give

or_left : (a b : Found) (p : ℕ) → a.page ≡ some p → (or_else a b).page ≡ none → ⊥
or_left a b p d e = no_page e (ap (λ (x : Found). x.page) (or_page a b p d) ∙ d)

or_right : (a b : Found) (p : ℕ) → b.page ≡ some p → (or_else a b).page ≡ none → ⊥
or_right a b p d e = go a.page refl
  where
    go : (x : Option ℕ) → a.page ≡ x → ⊥
    go none k = no_page e (ap (λ (x : Found). x.page) (or_none_lem a b k) ∙ d)
    go (some q) k = or_left a b q k e

level_gives
    : (s : Levels) (l : ℕ) (t o z : Bool) (xs : List ℕ) (p : ℕ) → wanted t o z ≡ true → s.free (slot l z) ≡ xs ++ (p ∷ [])
    → (level_allocate everywhere s l t o).page ≡ none → ⊥
unfolding level_allocate
level_gives s l t o z xs p w e n = go t o z w (ap (λ (x : Found). x.page) (pop_from_some s (slot l z) xs p e)) n
  where
    go : (t o z : Bool) → wanted t o z ≡ true → (pop_from everywhere s (slot l z)).page ≡ some p → (level_allocate everywhere s l t o).page ≡ none → ⊥
    go t true true w d n = no_page n d
    go t true false w d n = let k : ◌≡◌ {A = ℕ} 0 1 = cc in omega arith
    go true false false w d n = or_left (pop_from everywhere s (slot l false)) (pop_from everywhere s (slot l true)) p d n
    go true false true w d n = or_right (pop_from everywhere s (slot l false)) (pop_from everywhere s (slot l true)) p d n
    go false false false w d n = or_left (pop_from everywhere s (slot l false)) (nothing s) p d n
    go false false true w d n = let k : ◌≡◌ {A = ℕ} 0 1 = cc in omega arith

-- child 0 is pushed last
split_lists
    : (s : Levels) (p l : ℕ)
    → (split s p l).free (slot l (is_zeroed (s.frames p)))
    ≡ (children 511 s p l (is_zeroed (s.frames p))).free (slot l (is_zeroed (s.frames p))) ++ (p ∷ [])
unfolding split
split_lists s p l =
    let z = is_zeroed (s.frames p) in
    upd_same (children 511 s p l z).free (slot l z) ((children 511 s p l z).free (slot l z) ++ (p ∷ []))

-- ---- a search that finds nothing

or_nothing : (s : Levels) (a b : Found) → (b.page ≡ none → b ≡ nothing s) → (or_else a b).page ≡ none → or_else a b ≡ nothing s
or_nothing s a b h e = go a.page refl
  where
    go : (x : Option ℕ) → a.page ≡ x → or_else a b ≡ nothing s
    go none d = let c = or_none_lem a b d in c ∙ h (sym (ap (λ (x : Found). x.page) c) ∙ e)
    go (some p) d = absurd (or_left a b p d e)

module _ {board : Board} where
  pub nothing_done
      : {s : Levels} {from first pages : ℕ} → Good board s none from first pages → (left l : ℕ) → l + left ≡ 3 → (t o : Bool)
      → (do_allocate everywhere left l s t o).page ≡ none → do_allocate everywhere left l s t o ≡ nothing s
  unfolding do_allocate
  nothing_done G zero l h t o e = refl
  nothing_done {s} G (suc left) l h t o e =
      or_nothing s (level_allocate everywhere s l t o) (then_split everywhere l t o up) (go up.page refl (nothing_done G left (l + 1) (omega arith) t o)) e
    where
      up : Found
      up = do_allocate everywhere left (l + 1) s t o

      go : (x : Option ℕ) → up.page ≡ x → (up.page ≡ none → up ≡ nothing s) → (then_split everywhere l t o up).page ≡ none → then_split everywhere l t o up ≡ nothing s
      go none d ih n = parted_none l t o up d ∙ ih d
      go (some p) d ih n =
          absurd
          (level_gives (split up.levels p l) l t o (is_zeroed (up.levels.frames p))
          ((children 511 up.levels p l (is_zeroed (up.levels.frames p))).free (slot l (is_zeroed (up.levels.frames p)))) p
          (sorted_do G left (l + 1) (omega arith) t o p d) (split_lists up.levels p l)
          (sym (ap (λ (x : Found). x.page) (parted_page l t o up p d)) ∙ n))

  module _ {s : Levels} {from first pages : ℕ} (G : Good board s none from first pages) (l : ℕ) (h : l < 3) (t o : Bool) where
    found : Found
    found = do_allocate everywhere (3 - l) l s t o

    pub nothing_granted : (allocate everywhere l s t o).page ≡ none → (allocate everywhere l s t o).levels ≡ s
    unfolding allocate found
    nothing_granted n = go found.page refl
      where
        go : (x : Option ℕ) → found.page ≡ x → (set_allocated found).levels ≡ s
        go none e = ap (λ (x : Found). x.levels) (granted_none found e ∙ nothing_done G (3 - l) l (omega arith) t o e)
        go (some p) e = absurd (no_page n (ap (λ (x : Found). x.page) (granted_page found p e)))

    -- the frame that is found is of the region, and held
    pub granted_held : (p : ℕ) → (allocate everywhere l s t o).page ≡ some p → Inside board first pages p × (is_allocated ((allocate everywhere l s t o).levels.frames p) ≡ true)
    unfolding allocate found
    granted_held p n = go found.page refl
      where
        go : (x : Option ℕ) → found.page ≡ x → Inside board first pages p × (is_allocated ((set_allocated found).levels.frames p) ≡ true)
        go none e = absurd (no_page e (sym (ap (λ (x : Found). x.page) (granted_none found e)) ∙ n))
        go (some q) e =
            let d : some q ≡ some p = sym (ap (λ (x : Found). x.page) (granted_page found q e)) ∙ n in
            let m : q ≡ p = cc in
            let y : Ready board found.levels first pages l p false = (fine_do (3 - l) l t o G (omega arith)).ready p (e ∙ d) in
            (y.inside, rw (granted_page found p (e ∙ d), y.here, upd_same found.levels.frames p) refl)

-- ---- a region whose state is as it was

row_same : {a b : PhysAddr} {c d : ℕ} {x y : List Links} → a ≡ b → c ≡ d → x ≡ y
    → ◌≡◌ {A = Row} (record { start = a; pages = c; lists = x }) (record { start = b; pages = d; lists = y })
row_same p q r = cc

module _ {board : Board} where
  -- its records and its row are too
  pub unchanged
      : {f g : ℕ → Record} {n m first : ℕ} {row r : Row} → SoundRow board f n first row → Becomes board f first row g m r (state_of f row) → (g ≡ f) × (r ≡ row)
  unchanged {f} {g} {first = first} {row = row} R B =
      let D = determined R (rep_sound B.rep) B.pages (sym (rep_state B.rep)) in
      (fun_ext (λ q. at D.0 q (dec_inside first row.pages q)), row_same B.start B.pages (sym D.1))
    where
      at : ((q : ℕ) → Inside board first row.pages q → f q ≡ g q) → (q : ℕ) → Dec (Inside board first row.pages q) → g q ≡ f q
      at D q (yes i) = sym (D q i)
      at D q (no o) = B.outside q o
