-- What a world stands for is written as that very world. `stands_encode` is the law; `ends_agree` gives its hypothesis on the records' end
-- to a caller who knows that the records behind the managed pages stay.
use Prim.Native.Nat.{ℕ, suc, ◌+◌, ◌*◌, ◌≤◌, ◌<◌}
use mathlib.Core.Bool.{Bool, true, false, cond}
use mathlib.Core.List.{List, [], ◌∷◌, ◌++◌}
use mathlib.Core.Path.{◌≡◌, refl, sym, ap, ap₂, ◌∙◌, fun_ext}
use native.Mathlib.Omega.{arith}
use lib.Dec.{eqb}
use lib.ListN.{length, get_or, drop, take-append-drop, length-drop}
use lib.Seq.{length-take-le, get_or-drop}
use Rattle.definition.specs.declared.Counters.{Counters}
use Rattle.definition.specs.declared.Pass.{Pass}
use Rattle.definition.specs.declared.Record.{Record}
use Rattle.definition.specs.declared.Row.{Row}
use Rattle.definition.specs.Basics.{sum}
use Rattle.definition.specs.Board.{Board}
use Rattle.definition.specs.Boot.{managed_pages, record_size}
use Rattle.definition.specs.Frame.{Frames}
use Rattle.definition.specs.Allocator.{AllocationRegion, first, managed as managedOf}
use Rattle.definition.specs.Store.{Store}
use Rattle.definition.specs.World.{World, used_rows, word_at, record_at, regions_bytes, record_of, encode_rows, encode}
use Rattle.record.specs.Records.{pages_in}
use Rattle.record.proofs.Records.{records_decide}
use Rattle.world.specs.Stands.{StandRows, Stands}
use Rattle.world.specs.Stands.StandRows.{stand_none, stand_more}
use Rattle.world.proofs.Parts.{part, part_front, part_none, part_join, pages_part}
use Rattle.world.proofs.Shifting.{managed_same, row_back, record_back}

-- ---- the rows

used_split : (rows : List Row) → used_rows rows ++ drop (length (used_rows rows)) rows ≡ rows
unfolding used_rows
used_split [] = refl
used_split (row ∷ rows) = go (eqb row.pages 0) (used_split rows)
  where
    go : (t : Bool) → used_rows rows ++ drop (length (used_rows rows)) rows ≡ rows
        → cond t [] (row ∷ used_rows rows) ++ drop (length (cond t [] (row ∷ used_rows rows))) (row ∷ rows) ≡ row ∷ rows
    go true e = refl
    go false e = ap (λ (x : List Row). row ∷ x) e

module _ {board : Board} where
  module _ {f : ℕ → Record} {n : ℕ} {fs : Frames} where
    rows_back : {base : ℕ} {rows : List Row} {rs : List AllocationRegion} → StandRows board f n fs base rows rs
        → encode_rows board base rs ≡ rows
    unfolding encode_rows
    rows_back stand_none = refl
    rows_back (stand_more {base = base} {rs = rs} S rest) =
        ap₂ (λ (x : Row) (y : List Row). x ∷ y) (row_back S)
        (ap (λ (m : ℕ). encode_rows board (base + m) rs) (managed_same S) ∙ rows_back rest)

    as_many : {base : ℕ} {rows : List Row} {rs : List AllocationRegion} → StandRows board f n fs base rows rs → length rs ≡ length rows
    as_many stand_none = refl
    as_many (stand_more S rest) = ap suc (as_many rest)

-- ---- the records

module _ {board : Board} where
  module _ (bs : List ℕ) (small : (i : ℕ) → get_or bs i 0 < 256) {fs : Frames} where
    records_back
        : {base : ℕ} {rows : List Row} {rs : List AllocationRegion} → StandRows board (record_at bs) (pages_in bs) fs base rows rs
        → regions_bytes board base fs rs ≡ part bs (16 * base) (16 * managed_pages board rs)
    unfolding regions_bytes sum
    records_back {base = base} stand_none = sym (part_none bs (16 * base))
    records_back (stand_more {base = base} {r = r} {rs = rs} S rest) =
        let same = managed_same S in
        let fits = S.sound.fits in
        part_join bs (16 * base) (16 * managedOf board r) (16 * managed_pages board rs)
        (pages_part bs small (record_of board base r fs) (first board r) base (managedOf board r) (omega arith)
        (λ i h. record_back S i (omega arith)))
        (ap (λ (m : ℕ). regions_bytes board (base + m) fs rs) same ∙ records_back rest)
        (omega arith) (omega arith)

-- ---- the ends of the records

module _ (bs : List ℕ) (d : ℕ) where
  byte_drop : (i j : ℕ) → d + i ≡ j → get_or (drop d bs) i 0 ≡ get_or bs j 0
  byte_drop i j e = get_or-drop d bs i 0 ∙ ap (λ (k : ℕ). get_or bs k 0) e

  word_drop : (w x : ℕ) → d + w * 4 ≡ x * 4 → word_at (drop d bs) w ≡ word_at bs x
  unfolding word_at
  word_drop w x e =
      rw (
        byte_drop (w * 4) (x * 4) e,
        byte_drop (w * 4 + 1) (x * 4 + 1) (omega arith),
        byte_drop (w * 4 + 2) (x * 4 + 2) (omega arith),
        byte_drop (w * 4 + 3) (x * 4 + 3) (omega arith),
      )

  record_drop : (q p : ℕ) → d + q * 16 ≡ p * 16 → record_at (drop d bs) q ≡ record_at bs p
  unfolding record_at
  record_drop q p e =
      rw (
        word_drop (q * 4) (p * 4) (omega arith),
        word_drop (q * 4 + 1) (p * 4 + 1) (omega arith),
        word_drop (q * 4 + 2) (p * 4 + 2) (omega arith),
        word_drop (q * 4 + 3) (p * 4 + 3) (omega arith),
      )

pub ends_agree
    : (bs cs : List ℕ) (m : ℕ) → length bs ≡ length cs → ((i : ℕ) → get_or bs i 0 < 256) → ((i : ℕ) → get_or cs i 0 < 256)
    → ((q : ℕ) → m ≤ q → record_at bs q ≡ record_at cs q) → drop (record_size * m) bs ≡ drop (record_size * m) cs
ends_agree bs cs m e small small' same =
    records_decide (drop (record_size * m) bs) (drop (record_size * m) cs)
    (λ i. rw (get_or-drop (record_size * m) bs i 0) (small (record_size * m + i)))
    (λ i. rw (get_or-drop (record_size * m) cs i 0) (small' (record_size * m + i)))
    (fun_ext (λ q.
    record_drop bs (record_size * m) q (m + q) (omega arith)
    ∙ same (m + q) (omega arith)
    ∙ sym (record_drop cs (record_size * m) q (m + q) (omega arith))))
    (rw (length-drop (record_size * m) bs, length-drop (record_size * m) cs, e))

-- ---- the world

module _ (board : Board) where
  -- the managed pages of a store
  abbrev pub managed_in : Store → ℕ
  managed_in s = managed_pages board s.allocator.regions

module _ {board : Board} where
  pub stands_encode
      : (w v : World) (s : Store) → Stands board v s → ((i : ℕ) → get_or v.records i 0 < 256)
      → drop (record_size * managed_in board s) v.records ≡ drop (record_size * managed_in board s) w.records
      → drop (board.page * managed_in board s) v.memory ≡ drop (board.page * managed_in board s) w.memory
      → drop v.queued v.queue ≡ drop v.queued w.queue
      → encode board s w ≡ v
  unfolding encode
  stands_encode w v s S small records memory queue =
      same
      (rw (rows_back S.rows, as_many S.rows, ← S.unused) (used_split v.rows))
      S.counters
      count
      S.pass
      (rw (records_back v.records small S.rows, part_front v.records, ← records, take-append-drop))
      (rw (S.memory, ← memory, take-append-drop))
      (rw (count, S.queue, ← queue, take-append-drop))
    where
      count : length s.queue ≡ v.queued
      count = ap length S.queue ∙ length-take-le v.queued v.queue S.queued

      same : {a b : List Row} {c d : Counters} {m n : ℕ} {p q : Pass} {f g h i j k : List ℕ} → a ≡ b → c ≡ d → m ≡ n → p ≡ q → f ≡ g → h ≡ i
          → j ≡ k
          → ◌≡◌ {A = World} (record { rows = a; counters = c; queued = m; pass = p; records = f; memory = h; queue = j })
          (record { rows = b; counters = d; queued = n; pass = q; records = g; memory = i; queue = k })
      same e0 e1 e2 e3 e4 e5 e6 = cc
