-- What the tests of a region say of its sheet, by its numbers; that sheet as a placed row's, and a placed row's in the sheet of the world.
use Rattle.std.proofs.Common.{
  ◌≡◌,
  ℕ,
  zero,
  suc,
  ◌+◌,
  ◌-◌,
  ◌*◌,
  ◌<◌,
  ◌≤◌,
  Bool,
  true,
  false,
  ◌&&◌,
  List,
  get_or,
  Option,
  Some,
  None,
  sym,
  refl,
  ap,
  ◌∙◌,
  arith,
  lit<,
}
use mathlib.Core.Bool.{false≢true}
use mathlib.Core.Path.{fun_ext}
use Rattle.definition.specs.declared.Links.{Links}
use Rattle.definition.specs.declared.Row.{Row}
use Rattle.definition.specs.Board.{Board}
use Rattle.definition.specs.Basics.{all, sum, range}
use Rattle.definition.specs.Allocator.{first}
use Rattle.definition.specs.World.{no_links, bare_region}
use Rattle.definition.specs.Torn.{
  Placed,
  Records,
  past as past_of,
  is_node,
  walks,
  links_at,
  listed_pages,
  tiled,
  held_alone,
  lists_walk,
  unheld_listed,
  held_pages,
}
use Rattle.definition.proofs.Tests.{and_left, and_right, and-true, range_in}
use Rattle.scan.specs.declared.HeldPages.{HeldPages}
use Rattle.scan.specs.Sheet.{
  tiled_row,
  alone_row,
  walks_row,
  listed_row,
  held_row,
  whole_row,
  head_at,
  tiled_at,
  alone_at,
  held_at,
  node_at,
  walks_at,
  list_at,
  level_at,
  listed_at,
  placed_at,
  whole_at,
  Tally,
  WholeAt,
  AuditedAt,
  Audited,
}
use Rattle.scan.proofs.Members.{refuse, all_both}
use Rattle.scan.proofs.Pages.{unheld_at, pages_of_six, listed_six, six_same, same_six, region_pages}
use Rattle.scan.proofs.Listings.{at_most, listed_counts, counts_listed}

-- ---- the world's clauses, row by row

module _ (board : Board) where
  module _ (f : Records) (xs : List Placed) where
    pub tiled_rows : tiled board f xs ≡ all (tiled_row board f) xs
    unfolding tiled
    tiled_rows = refl

    pub alone_rows : held_alone board f xs ≡ all (alone_row board f) xs
    unfolding held_alone
    alone_rows = refl

    pub walks_rows : lists_walk board f xs ≡ all (walks_row board f) xs
    unfolding lists_walk
    walks_rows = refl

    pub listed_rows : unheld_listed board f xs ≡ all (listed_row board f) xs
    unfolding unheld_listed
    listed_rows = refl

    pub held_rows : (kernel : Bool) → held_pages board f kernel xs ≡ sum (held_row board kernel f) xs
    unfolding held_pages
    held_rows kernel = refl

    -- the four clauses together
    pub whole_rows : all (whole_row board f) xs
        ≡ (tiled board f xs && (held_alone board f xs && (lists_walk board f xs && unheld_listed board f xs)))
    whole_rows =
        all_both (tiled_row board f) (λ x. alone_row board f x && (walks_row board f x && listed_row board f x)) xs
        ∙ ap (λ (t : Bool). all (tiled_row board f) xs && t)
        (all_both (alone_row board f) (λ x. walks_row board f x && listed_row board f x) xs)
        ∙ ap (λ (t : Bool). all (tiled_row board f) xs && (all (alone_row board f) xs && t))
        (all_both (walks_row board f) (listed_row board f) xs)
        ∙ rw (tiled_rows, alone_rows, walks_rows, listed_rows)

-- ---- what a scan and the lists' test say of a region, by its numbers

module _ (f : Records) (row : Row) (from base past : ℕ) where
  abbrev lists : List Links
  lists = row.lists

  abbrev walk : Bool
  walk = all (list_at f base past lists) (range 0 6)

  abbrev pages : ℕ
  pages = listed_pages (placed_at base row)

  -- the six lists walk just where both of each level do
  pub levels_walk : ((level : ℕ) → level < 3 → level_at f base past lists level ≡ true) → walk ≡ true
  unfolding all range
  levels_walk h =
      let a = h 0 (lit< tt) in
      let b = h 1 (lit< tt) in
      let c = h 2 (lit< tt) in
      and-true (and_left _ _ a) (and-true (and_right (list_at f base past lists 0) _ a)
      (and-true (and_left _ _ b) (and-true (and_right (list_at f base past lists 2) _ b)
      (and-true (and_left _ _ c) (and-true (and_right (list_at f base past lists 4) _ c) refl)))))

  walk_levels : walk ≡ true → (level : ℕ) → level < 3 → level_at f base past lists level ≡ true
  walk_levels w level l =
      let in-six = range_in (list_at f base past lists) 0 6 w in
      and-true (in-six (2 * level) (omega arith) (omega arith)) (in-six (2 * level + 1) (omega arith) (omega arith))

  pub torn_heads : (tiled_at f from base past && alone_at f base past) ≡ false → whole_at f lists from base past ≡ false
  unfolding whole_at
  torn_heads = go (tiled_at f from base past) (alone_at f base past)
    where
      go : (a b : Bool) → (a && b) ≡ false → (a && (b && (walk && listed_at f lists base past))) ≡ false
      go true true d = absurd (false≢true (sym d))
      go true false d = refl
      go false b d = refl

  module _ (held : HeldPages) (t : Tally f from base past held) (within : base ≤ past) where
    is_tiled : tiled_at f from base past ≡ true
    is_tiled = and_left _ _ t.whole

    -- the lists decide what is left of the sheet
    lists_decide : (walk && listed_at f lists base past) ≡ whole_at f lists from base past
    unfolding whole_at
    lists_decide = rw (is_tiled, and_right (tiled_at f from base past) _ t.whole)

    -- the pages that belong on lists are those that nobody holds
    unheld_pages : pages_of_six (λ k. unheld_at k f base past) ≡ past - base - held.page - held.kernel
    unheld_pages = omega (arith, region_pages f from base past is_tiled within, t.page, t.kernel)

    module _ (w : walk ≡ true) where
      full_listed : pages ≡ past - base - held.page - held.kernel → listed_at f lists base past ≡ true
      full_listed e =
          counts_listed f from base past is_tiled lists w
          (six_same (λ k. (get_or lists k no_links).count) (λ k. unheld_at k f base past)
          (at_most f from base past is_tiled lists w)
          (sym (listed_six (placed_at base row)) ∙ e ∙ sym unheld_pages))

      listed_full : listed_at f lists base past ≡ true → pages ≡ past - base - held.page - held.kernel
      listed_full l =
          listed_six (placed_at base row)
          ∙ same_six (λ k. (get_or lists k no_links).count) (λ k. unheld_at k f base past)
          (listed_counts f from base past is_tiled lists w l)
          ∙ unheld_pages

    pub torn_pages : (pages ≡ past - base - held.page - held.kernel → ⊥) → whole_at f lists from base past ≡ false
    torn_pages n =
        sym (refuse (λ e.
        let d = lists_decide ∙ e in
        n (listed_full (and_left _ _ d) (and_right walk _ d))))

    pub torn_levels : (((level : ℕ) → level < 3 → level_at f base past lists level ≡ true) → ⊥) → whole_at f lists from base past ≡ false
    torn_levels n = sym (refuse (λ e. n (walk_levels (and_left _ _ (lists_decide ∙ e)))))

    pub by_lists : pages ≡ past - base - held.page - held.kernel → walk ≡ true → WholeAt f row from base past held
    by_lists e w =
        record {
          whole = sym lists_decide ∙ and-true w (full_listed w e);
          page = t.page;
          kernel = t.kernel;
          pages = omega (arith, t.few);
        }

-- ---- the region of a placed row

module _ (board : Board) where
  module _ (f : Records) (x : Placed) where
    abbrev start : ℕ
    start = first board (bare_region board x.row)

    abbrev end : ℕ
    end = past_of board x

    tiled_at_lem : tiled_at f start x.base end ≡ tiled_row board f x
    unfolding tiled_at head_at
    tiled_at_lem = refl

    alone_at_lem : alone_at f x.base end ≡ alone_row board f x
    unfolding alone_at
    alone_at_lem = refl

    listed_at_lem : listed_at f x.row.lists x.base end ≡ listed_row board f x
    unfolding listed_at
    listed_at_lem = refl

    held_at_lem : (kernel : Bool) → held_at kernel f x.base end ≡ held_row board kernel f x
    unfolding held_at
    held_at_lem kernel = refl

    walks_at_lem : (k n prev at last : ℕ) → walks_at f x.base end k n prev at last ≡ walks board f x k n prev at last
    unfolding walks_at walks node_at
    walks_at_lem k zero prev at last = refl
    walks_at_lem k (suc n) prev at last = ap (λ (t : Bool). is_node board f x k prev at && t) (walks_at_lem k n at (f (at - 1)).later last)

    lists_at : all (list_at f x.base end x.row.lists) (range 0 6) ≡ walks_row board f x
    lists_at =
        ap (λ (t : ℕ → Bool). all t (range 0 6))
        (fun_ext (λ k. walks_at_lem k (links_at x k).count 0 (links_at x k).front (links_at x k).back))

    whole_at_lem : whole_at f x.row.lists start x.base end ≡ whole_row board f x
    unfolding whole_at
    whole_at_lem = rw (tiled_at_lem, alone_at_lem, lists_at, listed_at_lem)

    -- what is found of a region by its numbers, of the row that it is of
    pub audited_row : (from past : ℕ) (r : Option HeldPages) → from ≡ start → past ≡ end → AuditedAt f x.row from x.base past r
        → Audited board f x r
    audited_row from past None d e t = sym whole_at_lem ∙ rw (← d, ← e) t
    audited_row from past (Some held) d e t =
        record {
          whole = sym whole_at_lem ∙ rw (← d, ← e) t.whole;
          page = t.page ∙ rw e (held_at_lem false);
          kernel = t.kernel ∙ rw e (held_at_lem true);
          pages = t.pages ∙ omega arith;
        }
