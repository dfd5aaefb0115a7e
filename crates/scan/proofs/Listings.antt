-- Where a region is tiled and its lists walk, every unheld head is on its list just where each list has as many nodes as there are
-- heads that belong on it: the nodes are such heads, and no two are one. More than that no list has.
use Rattle.std.proofs.Common.{◌≡◌, ℕ, ◌-◌, ◌<◌, ◌≤◌, Bool, true, false, not, ◌&&◌, ◌||◌, eqb, List, [], length, get_or, refl, subst, arith, eq-eqb, ne_eqb, eqb-true}
use mathlib.Core.List.{reverse_aux}
use borrow.Author.Tests.{not-true}
use lib.ListN.{length-reverse_aux}
use Rattle.definition.specs.declared.Links.{Links}
use Rattle.definition.specs.Basics.{all, range, member}
use Rattle.definition.specs.World.{allocated_bit, no_links, walk, pages_of}
use Rattle.definition.specs.Torn.{Records, is_held_record, class_of}
use Rattle.definition.proofs.Tests.{and_left, and_right, range_in}
use Rattle.scan.specs.Sheet.{head_at, heads_of, tiled_at, list_at, listed_at, walks_at}
use Rattle.scan.proofs.Pigeon.{Mem, Distinct, pigeon, fewer}
use Rattle.scan.proofs.Members.{or_else, or_right, all_in, in_all, mem_member, member_mem, keep, sum_keep, kept, keeps, keep_distinct}
use Rattle.scan.proofs.Heads.{head_facts, Steps, steps_of, steps_distinct, admitted_head}
use Rattle.scan.proofs.Pages.{unheld_at}
use Rattle.scan.proofs.Nodes.{Met, walks_met, walks_distinct, walk_length, mem_back}

-- an unheld head that belongs on the list k
abbrev belongs : Records → ℕ → ℕ → Bool
belongs f k h = not (is_held_record (f h)) && eqb (class_of (f h)) k

unheld_belongs : (f : Records) (h : ℕ) → is_held_record (f h) ≡ false → belongs f (class_of (f h)) h ≡ true
unheld_belongs f h e = rw (e, eq-eqb (class_of (f h)) (class_of (f h)) refl)

module _ (f : Records) (from base past : ℕ) (tiled : tiled_at f from base past ≡ true) where
  abbrev hs : List ℕ
  hs = heads_of f base past

  all_heads : all (head_at f from base past) hs ≡ true
  unfolding tiled_at
  all_heads = tiled

  steps : Steps f past base hs
  steps = steps_of f past (past - base) base (omega arith)

  -- ---- one list

  module _ (k : ℕ) (l : Links) (w : walks_at f base past k l.count 0 l.front l.back ≡ true) where
    abbrev nodes : List ℕ
    nodes = walk f l.count l.front

    back : List ℕ
    back = reverse_aux nodes []

    back_distinct : Distinct back
    unfolding back
    back_distinct = walks_distinct f base past k l.count l.front l.back w

    met_belongs : (x : ℕ) → Met f base past k x → belongs f k x ≡ true
    met_belongs x m = rw (ne_eqb (allocated_bit (f x).marks) 1 (omega arith), eq-eqb (class_of (f x)) k m.class)

    back_kept : (x : ℕ) → Mem x back → Mem x (keep (belongs f k) hs)
    unfolding back
    back_kept x m =
        let n = walks_met f base past k l.count 0 l.front l.back w x (mem_back x nodes m) in
        keeps (belongs f k) x hs (met_belongs x n) (admitted_head f from base past base x hs steps all_heads n.low n.high n.admitted)

    back_length : length back ≡ l.count
    unfolding back
    back_length = omega (arith, length-reverse_aux nodes [], walk_length f l.count l.front)

    kept_length : unheld_at k f base past ≡ length (keep (belongs f k) hs)
    unfolding unheld_at
    kept_length = sum_keep (belongs f k) hs

    -- as many: every head that belongs on the list is
    pub full_lists : l.count ≡ unheld_at k f base past → (h : ℕ) → Mem h hs → belongs f k h ≡ true → Mem h (pages_of f l)
    unfolding back pages_of
    full_lists e h m b =
        mem_back h nodes
        (pigeon back (keep (belongs f k) hs) back_distinct back_kept (omega (arith, back_length, kept_length)) h (keeps (belongs f k) h hs b m))

    pub lists_most : l.count ≤ unheld_at k f base past
    lists_most = omega (arith, fewer back (keep (belongs f k) hs) back_distinct back_kept, back_length, kept_length)

    -- every one is: as many
    pub lists_full : ((h : ℕ) → Mem h hs → belongs f k h ≡ true → Mem h (pages_of f l)) → l.count ≡ unheld_at k f base past
    unfolding pages_of
    lists_full every =
        let down : length (keep (belongs f k) hs) ≤ length nodes =
        fewer (keep (belongs f k) hs) nodes (keep_distinct (belongs f k) hs (steps_distinct f past base hs steps))
        (λ x m. let p = kept (belongs f k) x hs m in every x p.0 p.1) in
        omega (arith, lists_most, kept_length, walk_length f l.count l.front)

  -- ---- the six

  module _ (lists : List Links) (w : all (list_at f base past lists) (range 0 6) ≡ true) where
    abbrev at : ℕ → Links
    at k = get_or lists k no_links

    abbrev on_list : ℕ → Bool
    on_list h = is_held_record (f h) || member h (pages_of f (at (class_of (f h))))

    walks : (k : ℕ) → k < 6 → list_at f base past lists k ≡ true
    walks k l = range_in (list_at f base past lists) 0 6 w k (omega arith) (omega arith)

    pub at_most : (k : ℕ) → k < 6 → (at k).count ≤ unheld_at k f base past
    at_most k l = lists_most k (at k) (walks k l)

    -- every unheld head is on its list: as many nodes as there are such heads
    pub listed_counts : listed_at f lists base past ≡ true → (k : ℕ) → k < 6 → (at k).count ≡ unheld_at k f base past
    unfolding listed_at
    listed_counts t k l =
        lists_full k (at k) (walks k l) (λ h m o.
        let c = eqb-true (class_of (f h)) k (and_right (not (is_held_record (f h))) _ o) in
        let q = all_in on_list hs t h m in
        subst (λ (j : ℕ). Mem h (pages_of f (at j))) c
        (member_mem h (pages_of f (at (class_of (f h)))) (or_right (is_held_record (f h)) _ q (not-true (is_held_record (f h)) (and_left _ _ o)))))

    pub counts_listed : ((k : ℕ) → k < 6 → (at k).count ≡ unheld_at k f base past) → listed_at f lists base past ≡ true
    unfolding listed_at
    counts_listed c =
        in_all on_list hs (λ h m. or_else (is_held_record (f h)) _ (λ e.
        let d = head_facts f from base past h (all_in (head_at f from base past) hs all_heads h m) in
        let small : class_of (f h) < 6 = omega (arith, d.level) in
        mem_member h (pages_of f (at (class_of (f h))))
        (full_lists (class_of (f h)) (at (class_of (f h))) (walks (class_of (f h)) small) (c (class_of (f h)) small) h m (unheld_belongs f h e))))
