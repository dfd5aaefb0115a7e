-- The search over the levels: what the definition says of it, a step at a time, and what the calls that make it up reach, one after another.
use Rattle.definition.specs.Basics.{everywhere}
use Prim.Native.Nat.{ℕ, suc, ◌+◌, ◌-◌, ◌≤◌, ◌<◌}
use mathlib.Core.Bool.{Bool, true, false}
use mathlib.Core.Option.{Option, none, some}
use Rattle.std.specs.Prelude as code
use Rattle.std.specs.Prelude.{Some, None}
use mathlib.Core.Path.{◌≡◌, refl, sym, ap, ◌∙◌}
use native.Mathlib.Omega.{arith}
use Rattle.definition.specs.Board.{Board}
use Rattle.definition.specs.Frame.{Found, Levels, do_allocate, level_allocate, nothing, or_else, pop_from, slot, then_split}
use Rattle.definition.specs.declared.Record.{Record}
use Rattle.definition.specs.declared.Row.{Row}
use Rattle.words.specs.Words.{InUse}
use Rattle.words.proofs.Words.{in_use_then, row_beside_same, row_beside_then}
use Rattle.region.specs.declared.AllocationRegion.{AllocationRegion}
use Rattle.region.specs.Lent.{FindsIn, LeavesIn, Same, SoundIn, SplitsIn, WholeIn, levels_in}
use Rattle.region.specs.Rep.{Becomes, from_of, page_in, searched}
use Rattle.region.proofs.Laws.{rep_state, rep_sound, then, stays, or_page, or_none_lem, page_in_lem, none_in, pop_from_nothing}
use Rattle.region.proofs.Tiling.{rep_kept, fine_do, splits}

module _ {board : Board} where
  pub from_same : {f g : ℕ → Record} {first m : ℕ} {row r : Row} {s : Levels} → Becomes board f first row g m r s → from_of board r ≡ from_of board row
  unfolding from_of
  from_same B = rw (B.start, B.pages) refl

or_nothing : (s : Levels) (a b : Found) → (b.page ≡ none → b ≡ nothing s) → (or_else a b).page ≡ none → or_else a b ≡ nothing s
or_nothing s a b h e = go a.page refl
  where
    go : (o : Option ℕ) → a.page ≡ o → or_else a b ≡ nothing s
    go none d = let c = or_none_lem a b d in c ∙ h (sym (ap (λ (x : Found). x.page) c) ∙ e)
    go (some p) d = let c = ap (λ (x : Found). x.page) (or_page a b p d) in let z : ◌≡◌ {A = ℕ} 0 1 = cc in absurd (omega arith)

level_nothing : (s : Levels) (l : ℕ) (t o : Bool) → (level_allocate everywhere s l t o).page ≡ none → level_allocate everywhere s l t o ≡ nothing s
unfolding level_allocate
level_nothing s l t true e = pop_from_nothing s (slot l true) e
level_nothing s l true false e = or_nothing s (pop_from everywhere s (slot l false)) (pop_from everywhere s (slot l true)) (pop_from_nothing s (slot l true)) e
level_nothing s l false false e = or_nothing s (pop_from everywhere s (slot l false)) (nothing s) (λ d. refl) e

-- what a search asks for: a level, and which of its lists
pub record Wanted : Type 0 where
  pub level : ℕ
  pub try_zero : Bool
  pub only_zero : Bool

-- what the level has, what the next larger one has to say, and what both do
abbrev pub here : Wanted → Levels → Found
here w s = level_allocate everywhere s w.level w.try_zero w.only_zero

abbrev pub above : Wanted → Levels → Found
above w s = do_allocate everywhere (3 - (w.level + 1)) (w.level + 1) s w.try_zero w.only_zero

abbrev pub parts : Wanted → Found → Found
parts w a = then_split everywhere w.level w.try_zero w.only_zero a

abbrev pub answer : Wanted → Levels → Found
answer w s = do_allocate everywhere (3 - w.level) w.level s w.try_zero w.only_zero

module _ (w : Wanted) (s : Levels) where
  pub past : 3 ≤ w.level → answer w s ≡ nothing s
  unfolding do_allocate
  past h = let e : 3 - w.level ≡ 0 = omega arith in rw e refl

  module _ (h : w.level < 3) where
    step : answer w s ≡ or_else (here w s) (parts w (above w s))
    unfolding do_allocate
    step = let e : 3 - w.level ≡ suc (3 - (w.level + 1)) = omega arith in rw e refl

    pub found_here : {p : ℕ} → (here w s).page ≡ some p → answer w s ≡ here w s
    found_here {p} e = step ∙ or_page (here w s) (parts w (above w s)) p e

    pub climbs : (here w s).page ≡ none → answer w s ≡ parts w (above w s)
    climbs e = step ∙ or_none_lem (here w s) (parts w (above w s)) e

-- ---- one call after another

same_then : {a b d : AllocationRegion} → Same a b → Same b d → Same a d
same_then A B =
    record {
      records = B.records ∙ A.records;
      words = B.words ∙ A.words;
      first = B.first ∙ A.first;
      index = B.index ∙ A.index;
      long = B.long ∙ A.long;
      wide = B.wide ∙ A.wide;
    }

module _ (board : Board) where
  -- the region a became b, whose row is in use and stands for s
  pub record Reached (a b : AllocationRegion) (s : Levels) : Type 0 where
    pub same : Same a b
    pub used : InUse b.words.now a.index
    pub left : LeavesIn board a b s

  -- the same after a search, with what it found
  pub record Sought (a b : AllocationRegion) (r : code.Option ℕ) (x : Found) : Type 0 where
    pub reached : Reached a b x.levels
    pub found : page_in (searched b.words.now a.index r) ≡ x.page

module _ {board : Board} where
  pub begun : (a : AllocationRegion) → SoundIn board a → Reached board a a (levels_in a)
  begun a u =
      record {
        same = record { records = refl; words = refl; first = refl; index = refl; long = refl; wide = refl };
        used = u.0;
        left = (stays u.1, row_beside_same);
      }

  module _ {a b : AllocationRegion} where
    module _ {s : Levels} (A : Reached board a b s) where
      -- what the next call asks
      pub asks : SoundIn board b
      asks = rw (A.same.first, A.same.index) (A.used, rep_sound A.left.0.rep)

      module _ {d : AllocationRegion} (B : Same b d) where
        pub changed : (op : Levels → Levels) → LeavesIn board b d (op (levels_in b)) → Reached board a d (op s)
        changed op c =
            let e = rw (A.same.first, A.same.index) at c in
            record {
              same = same_then A.same B;
              used = in_use_then B.wide e.1.rest A.used;
              left = (then A.left.0 (rw (rep_state A.left.0.rep) at e.0), row_beside_then A.left.1 e.1);
            }

        pub sought : {r : code.Option ℕ} (op : Levels → Found) → FindsIn board b d r (op (levels_in b)) → Sought board a d r (op s)
        sought {r} op c =
            let e = rw (A.same.first, A.same.index) at c in
            record {
              reached = changed (λ x. (op x).levels) (c.0.became, c.1);
              found = rw (rep_state A.left.0.rep) at e.0.found;
            }

    module _ {r : code.Option ℕ} {x : Found} (A : Sought board a b r x) where
      pub told : FindsIn board a b r x
      told = (record { became = A.reached.left.0; found = A.found }, A.reached.left.1)

      pub some_told : {p : ℕ} → r ≡ Some p → x.page ≡ some p
      some_told e = sym A.found ∙ page_in_lem (searched b.words.now a.index r) e

      pub none_told : r ≡ None → x.page ≡ none
      none_told e = sym A.found ∙ none_in (searched b.words.now a.index r) e

    -- a level that has none leaves all as it was
    pub none_here : (w : Wanted) (s : Levels) {r : code.Option ℕ} → Sought board a b r (here w s) → r ≡ None → Reached board a b s
    none_here w s A e = rw (level_nothing s w.level w.try_zero w.only_zero (none_told A e)) at A.reached

    -- what the split of a page found above asks
    pub split_asks
        : (w : Wanted) {p : ℕ} → w.level < 3 → SoundIn board a → WholeIn board a → (above w (levels_in a)).page ≡ some p
        → Reached board a b (above w (levels_in a)).levels → SplitsIn board b p w.level
    split_asks w {p} h S W e A =
        let F = fine_do (3 - (w.level + 1)) (w.level + 1) w.try_zero w.only_zero (record { kept = rep_kept S.1; whole = W }) (omega arith) in
        rw (A.same.first, A.same.index, rep_state A.left.0.rep, A.left.0.pages)
        (splits w.level (rw e at F.good) (F.ready p e))
