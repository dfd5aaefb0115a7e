-- What a boot leaves of the words: as they were where it is refused, else the state of a store that has just booted, which is read of them
-- again.
use Prim.Native.Nat.{ℕ, ◌-◌, ◌≤◌}
use mathlib.Core.List.{List, ◌++◌}
use mathlib.Core.Path.{◌≡◌, refl, sym, ap, ◌∙◌, subst}
use native.Mathlib.Omega.{arith}
use lib.ListN.{length, take, drop, replicate}
use Rattle.std.proofs.lemmas.List.{length-take}
use Rattle.definition.specs.Board.{Board, Fit}
use Rattle.definition.specs.declared.MemoryRegion.{MemoryRegion}
use Rattle.definition.specs.declared.Pass.{Pass}
use Rattle.definition.specs.declared.Record.{Record}
use Rattle.definition.specs.declared.Row.{Row}
use Rattle.definition.specs.Boot.{counters_at_boot}
use Rattle.definition.specs.World.{World, no_row, used_rows}
use Rattle.record.specs.Records.{with_bytes}
use Rattle.words.specs.Words.{Long, Narrow, kept_of, pass_in, queued_in, rows_in}
use Rattle.words.proofs.Words.{pass_written, queued_written, rows_written}
use Rattle.allocator.proofs.Arrays.{stand_length}
use Rattle.allocator.proofs.Turning.{used_most}
use Rattle.std.specs.Prelude.{Result, Ok, Err}
use Rattle.definition.specs.declared.Refusal.{Refusal}
use Rattle.exam.specs.declared.Reply.{Reply}
use Rattle.exam.specs.Promise.{Answer, State, state_with, world_of}
use Rattle.boot.specs.Booting.{Admits, Boots, BootsOver, KeptOf, Lays, eight, kept_rows, state_at_boot}
use Rattle.boot.specs.declared.Kept.{Kept}
use Rattle.boot.proofs.KeptRows.{eight_unused, kept_front, kept_most, kept_paged}
use Rattle.boot.proofs.Refusing.{accepted_kept, accepted_used}
use Rattle.boot.proofs.OneByOne.{LaysEight, eight_laid, eight_narrow}
use Rattle.boot.proofs.Laying.{laid_many}

pub over_refused : (ws : List ℕ) (r : Refusal) → BootsOver ws ws (Err r)
over_refused ws r = record { refused = λ e h. refl; written = λ x h. absurd (let n : ◌≡◌ {A = ℕ} 0 1 = cc in omega arith) }

module _ {board : Board} where
  -- the rows that are laid out are as many as were kept
  pub laid_used : {f g : ℕ → Record} {rows laid : List Row} {n : ℕ} → LaysEight board f rows g n laid → length (used_rows laid)
      ≡ length (used_rows rows)
  laid_used {f} {g} {rows} Y = sym (stand_length Y.stands) ∙ laid_many board (used_rows rows)

-- the count that is written is that of the rows in use, so that they are read again as they were laid out
module _
    (ws : List ℕ) (laid : List Row) (h : Long ws) (n : Narrow laid) (used : ℕ) (many : used ≡ length (used_rows laid))
    (unused : drop (length (used_rows laid)) laid ≡ replicate (8 - length (used_rows laid)) no_row)
  where
    abbrev none : Pass
    none = record { rounds = 0; freed = 0 }

    abbrev after : List ℕ
    after = with_bytes ws 0 (kept_of used laid 0 none)

    rows_back : rows_in after ≡ laid
    rows_back = rows_written ws used laid 0 none h (omega (arith, many, used_most laid, n.eight)) n (rw many unused)

    queued_back : queued_in after ≡ 0
    queued_back = queued_written ws used laid 0 none h n.eight

    pass_back : pass_in after ≡ none
    pass_back = pass_written ws used laid 0 none h n.eight

    state_written : (pages : ℕ) → state_with (counters_at_boot pages) after ≡ state_at_boot laid pages
    state_written pages = rw (rows_back, queued_back, pass_back) refl

    pub boots_written
        : {board : Board} {ms : List MemoryRegion} {w : World} {y : Answer} (pages : ℕ) (records memory queue : List ℕ)
        → Boots board ms w (world_of (state_at_boot laid pages) records memory queue) y
        → Boots board ms w (world_of (state_with (counters_at_boot pages) after) records memory queue) y
    boots_written {board} {ms} {w} {y} pages records memory queue b =
        subst (λ (s : State). Boots board ms w (world_of s records memory queue) y) (sym (state_written pages)) b

    pub over_done : (y : Reply) → BootsOver ws after (Ok y)
    over_done y =
        record {
          refused = λ r e. absurd (let n : ◌≡◌ {A = ℕ} 0 1 = cc in omega arith);
          written = λ x e. rw (rows_back, queued_back, pass_back) (ap (λ (k : ℕ). with_bytes ws 0 (kept_of k laid 0 none)) many);
        }

-- ---- the rows that are written: those laid out, and the unused ones that stand behind them

module _
    {board : Board} (fit : Fit board) (map : List MemoryRegion) (count records memory : ℕ) (long : length map ≡ 8)
    {x : Result Kept Refusal} (E : Admits board map count records memory x) (k : Kept) (e : x ≡ Ok k)
    {f g : ℕ → Record} {n : ℕ} (xs : List Row) (Y : Lays board f (take k.used k.rows) g n xs)
  where
    abbrev ks : List Row
    ks = kept_rows board (take count map)

    abbrev of_map : KeptOf board map count k
    of_map = E.kept k e

    laid : Lays board f ks g n xs
    laid = subst (λ (l : List Row). Lays board f l g n xs) (kept_front fit (take count map) of_map.near k of_map.keeps) Y

    few : length ks ≤ 8
    few = omega (arith, kept_most board (take count map), length-take count map, of_map.few)

    pub written_rows : xs ++ drop k.used k.rows ≡ eight xs
    unfolding eight
    written_rows =
        let K = of_map.keeps in
        let e : drop k.used k.rows ≡ replicate (8 - length ks) no_row = rw (K.rows, K.used) (eight_unused ks) in
        ap (λ (l : List Row). xs ++ l) e ∙ ap (λ (m : ℕ). xs ++ replicate (8 - m) no_row) (sym laid.long)

    pub written_laid : LaysEight board f k.rows g n (eight xs)
    written_laid =
        eight_laid ks xs (kept_paged fit (take count map) of_map.near) few laid k.rows
        (accepted_used fit map count records memory long E k e)

    pub written_narrow : Narrow (eight xs)
    written_narrow = eight_narrow ks xs (kept_paged fit (take count map) of_map.near) few laid

    pub written_many : k.used ≡ length (used_rows (eight xs))
    written_many = (accepted_kept fit map count records memory long E k e).many ∙ sym (laid_used written_laid)
