-- The rows of a sound world fit their words (`sound_narrow`). A row in use has lists of distinct pages below the last of the managed pages, which are fewer than
-- 2^32: so are the neighbours that name them, and so is their count. An unused row is zeros.
use Prim.Native.Nat.{ℕ, zero, suc, ◌<◌, ◌≤◌, ◌+◌}
use mathlib.Core.Bool.{Bool, true, false, cond}
use mathlib.Core.List.{List, [], ◌∷◌}
use mathlib.Core.Path.{◌≡◌}
use native.Mathlib.Omega.{arith}
use borrow.Author.Tests.{eqb-true}
use lib.Dec.{eqb}
use lib.ListN.{length, get_or, drop}
use Rattle.definition.specs.declared.Links.{Links}
use Rattle.definition.specs.declared.Record.{Record}
use Rattle.definition.specs.declared.Row.{Row}
use Rattle.definition.specs.Basics.{all}
use Rattle.definition.specs.Board.{Board}
use Rattle.definition.specs.Torn.{is_no_links, is_no_row, six_lists, sound}
use Rattle.definition.specs.World.{World, no_links, no_row, used_rows}
use Rattle.definition.proofs.Tests.{and_left, and_right}
use Rattle.list.specs.Linked.{All, Linked, Seg}
use Rattle.list.specs.Linked.All.{all_more}
use Rattle.list.specs.Linked.Seg.{seg_none, seg_more}
use Rattle.list.proofs.Count.{holes}
use Rattle.list.proofs.Laws.{all_map, seg_last}
use Rattle.region.specs.Rep.{SoundRow, managed}
use Rattle.world.specs.Stands.{Each, GoodRows}
use Rattle.world.specs.Stands.Each.{each_none, each_more}
use Rattle.world.specs.Stands.GoodRows.{good_more}
use Rattle.world.proofs.Sheets.{as_boot_lem, each_at, sound_rows}
use Rattle.audit.proofs.Sheets.{sound_is}
use Rattle.words.specs.Words.{Narrow, NarrowLinks, NarrowRow}

-- ---- a row in use

module _ {f : ℕ → Record} (m : ℕ) where
  front_low : {x : ℕ} {xs : List ℕ} {b : ℕ} → Seg f 0 x xs b 0 → All (λ (q : ℕ). q < m) xs → x ≤ m
  front_low (seg_none u v) a = omega arith
  front_low (seg_more u v s) (all_more a rest) = omega arith

  back_low : {x : ℕ} {xs : List ℕ} {b : ℕ} → Seg f 0 x xs b 0 → All (λ (q : ℕ). q < m) xs → b ≤ m
  back_low (seg_none u v) a = omega arith
  back_low (seg_more u v s) (all_more a rest) = omega (arith, seg_last {P = λ (q : ℕ). q < m} (seg_more u v s) (all_more a rest))

  linked_narrow : {n : ℕ} {l : Links} {xs : List ℕ} → m < 4294967296 → Linked f n l xs → All (λ (q : ℕ). q < m) xs → NarrowLinks l
  linked_narrow {xs = xs} h k a =
      record {
        front = omega (arith, front_low k.chain a);
        back = omega (arith, back_low k.chain a);
        count = omega (arith, k.counted, holes m xs k.distinct a);
      }

module _ {board : Board} where
  used_narrow : {f : ℕ → Record} {n base : ℕ} {row : Row} → SoundRow board f n base row → NarrowRow row
  used_narrow {base = base} {row = row} R =
      let m = base + managed board row.pages in
      record {
        six = R.six;
        narrow = λ k h. linked_narrow m R.small (R.lists k h) (all_map (λ q i. i.inside.high) (R.listed k));
      }

-- ---- an unused row

blank_links : (ls : List Links) → all is_no_links ls ≡ true → (k : ℕ) → NarrowLinks (get_or ls k no_links)
unfolding all
blank_links [] e k = record { front = omega arith; back = omega arith; count = omega arith }
blank_links (l ∷ ls) e zero =
    let a = and_left (is_no_links l) _ e in
    let b = and_right (eqb l.front 0) _ a in
    record {
      front = omega (arith, eqb-true l.front 0 (and_left _ _ a));
      back = omega (arith, eqb-true l.back 0 (and_left _ _ b));
      count = omega (arith, eqb-true l.count 0 (and_right (eqb l.back 0) _ b));
    }
blank_links (l ∷ ls) e (suc k) = blank_links ls (and_right (is_no_links l) _ e) k

blank_narrow : (row : Row) → six_lists row ≡ true → is_no_row row ≡ true → NarrowRow row
blank_narrow row s e =
    record {
      six = eqb-true (length row.lists) 6 s;
      narrow = λ k h. blank_links row.lists (and_right (eqb row.pages 0) _ (and_right (eqb row.start.0 0) _ e)) k;
    }

blanks_narrow : (rows : List Row) → all six_lists rows ≡ true → all is_no_row rows ≡ true → Each NarrowRow rows
unfolding all
blanks_narrow [] s e = each_none
blanks_narrow (row ∷ rows) s e =
    each_more (blank_narrow row (and_left _ _ s) (and_left _ _ e)) (blanks_narrow rows (and_right (six_lists row) _ s) (and_right (is_no_row row) _ e))

-- ---- all rows

module _ {board : Board} where
  module _ {f : ℕ → Record} {n : ℕ} where
    rows_narrow : {base : ℕ} (rows : List Row) → all six_lists rows ≡ true → all is_no_row (drop (length (used_rows rows)) rows) ≡ true
        → GoodRows board f n base (used_rows rows) → Each NarrowRow rows
    unfolding all used_rows
    rows_narrow [] s e G = each_none
    rows_narrow {base} (row ∷ rows) s e G = go (eqb row.pages 0) e G (λ h rest. rows_narrow {base = base + managed board row.pages} rows (and_right (six_lists row) _ s) h rest)
      where
        go : (t : Bool) → all is_no_row (drop (length (cond t [] (row ∷ used_rows rows))) (row ∷ rows)) ≡ true
            → GoodRows board f n base (cond t [] (row ∷ used_rows rows))
            → (all is_no_row (drop (length (used_rows rows)) rows) ≡ true → GoodRows board f n (base + managed board row.pages) (used_rows rows) → Each NarrowRow rows)
            → Each NarrowRow (row ∷ rows)
        go true h G more = blanks_narrow (row ∷ rows) s h
        go false h (good_more g rest) more = each_more (used_narrow g.sound) (more h rest)

module _ (board : Board) where
  pub sound_narrow : (w : World) → sound board w ≡ true → Narrow w.rows
  sound_narrow w e =
      let S = sound_is board w e in
      let b = as_boot_lem w.rows S.rows in
      let each = rows_narrow w.rows b.six b.unused (sound_rows w S) in
      record { eight = b.eight; narrow = λ i h. each_at no_row each i (omega (arith, b.eight)) }
