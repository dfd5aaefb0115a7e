-- What the words are where a list of a row, the queue's count or the pass was written, and what of them stays.
use Prim.Native.Nat.{ℕ, ◌+◌, ◌*◌, ◌≤◌, ◌<◌}
use mathlib.Core.List.{List, []}
use mathlib.Core.Path.{◌≡◌, refl, sym, ◌∙◌}
use native.Mathlib.Decide.{ℕ_discrete}
use native.Mathlib.Nat.{zero-add}
use native.Mathlib.Omega.{arith}
use lib.ListN.{drop, set, length-drop, length-set}
use lib.Seq.{ext_get_or, get_or-drop, get_or-set_same, get_or-set_other, set-get_or, drop-set-lt}
use Rattle.definition.specs.declared.Links.{Links}
use Rattle.definition.specs.declared.Pass.{Pass}
use Rattle.definition.specs.declared.Row.{Row}
use Rattle.definition.specs.World.{no_links}
use Rattle.record.specs.Records.{with_bytes}
use Rattle.record.proofs.Bytes.{with_length, with_in, with_out}
use Rattle.words.specs.Words.{Long, counters_at, InUse, RowBeside, QueuedBeside, PassBeside, word_in, first_in, second_in, row_of, rows_in, pair_words, with_list}
use Rattle.words.proofs.Reading.{pair_read, pair_same, row_same, here_same, rows_same}
use Rattle.words.proofs.Places.{length_rows, row_numbered, row_place, place, list_place, row_changed}

-- the two lists of a level
module _ (ws : List ℕ) (i level : ℕ) (a b : Links) (u : InUse ws i) (l : level < 3) where
  abbrev written : List ℕ
  written = with_bytes ws (place i level) (pair_words a b)

  out : (k : ℕ) → (place i level ≤ k → k < place i level + 3 → ⊥) → word_in written k ≡ word_in ws k
  out = with_out ws (place i level) (pair_words a b) (omega arith)

  pair_row : a.front < 4294967296 → a.count < 4294967296 → b.front < 4294967296
      → row_of (rows_in written) i ≡ with_list (with_list (row_of (rows_in ws) i) (2 * level) a) (2 * level + 1) b
  pair_row f n g =
      let first : word_in written 0 ≡ word_in ws 0 = out 0 (λ x y. omega arith) in
      let t = pair_same written (pair_words a b) (place i level) 0 (λ k h. rw (zero-add k) (with_in ws (place i level) (pair_words a b) (omega arith) k h)) in
      let r = pair_read a b f n g in
      rw (row_place written i u.1 (rw first u.2), row_place ws i u.1 u.2)
      (row_changed ws written i a b level l (out _ (λ x y. omega arith)) (out _ (λ x y. omega arith)) (t.0 ∙ r.0, t.1 ∙ r.1)
      (λ j d. pair_same written ws (place i j) (place i j) (λ k h. out (place i j + k) (λ x y. omega arith))))

  pair_beside : RowBeside ws i written
  pair_beside =
      record {
        rows =
            ext_get_or (row_of [] 0) (rows_in written) (set (rows_in ws) i (row_of (rows_in written) i))
            (length_rows written 0 8 ∙ (rw (length-set, length_rows ws 0 8) refl))
            (λ k h. go k (omega (arith, length_rows written 0 8)) (ℕ_discrete k i));
        rest =
            record {
              beside =
                  record {
                    version = out 0 (λ x y. omega arith);
                    unused = λ k m j. out k (λ x y. omega arith);
                    behind =
                        ext_get_or 0 (drop counters_at written) (drop counters_at ws)
                        (rw (length-drop counters_at written, length-drop counters_at ws, with_length ws (place i level) (pair_words a b) (omega arith)) refl)
                        (λ k m. get_or-drop counters_at written k 0 ∙ out (counters_at + k) (λ x y. omega arith) ∙ sym (get_or-drop counters_at ws k 0));
                  };
              queued = out 89 (λ x y. omega arith);
              pass = rw (out 90 (λ x y. omega arith), out 91 (λ x y. omega arith)) refl;
            };
      }
    where
      go : (k : ℕ) → k < 8 → Dec (k ≡ i) → row_of (rows_in written) k ≡ row_of (set (rows_in ws) i (row_of (rows_in written) i)) k
      go k h (yes e) = rw (e, get_or-set_same (rows_in ws) i (row_of (rows_in written) i) (row_of [] 0) (omega (arith, length_rows ws 0 8))) refl
      go k h (no d) =
          rw (
            get_or-set_other (rows_in ws) i k (row_of (rows_in written) i) (row_of [] 0) d,
            row_numbered written (row_of [] 0) k h,
            row_numbered ws (row_of [] 0) k h,
          )
          (here_same written ws k (out 0 (λ x y. omega arith)) (row_same written ws (1 + 11 * k) (1 + 11 * k) (λ j m. out (1 + 11 * k + j) (λ x y. omega arith))))

-- one of the two, and the other as it was read
module _ (ws : List ℕ) (i level : ℕ) (list : Links) (u : InUse ws i) (l : level < 3) (f : list.front < 4294967296) (n : list.count < 4294967296) where
  abbrev row : Row
  row = row_of (rows_in ws) i

  abbrev Written : Links → Links → ℕ → Type 0
  Written a b k =
      (row_of (rows_in (with_bytes ws (place i level) (pair_words a b))) i ≡ with_list row k list)
      × RowBeside ws i (with_bytes ws (place i level) (pair_words a b))

  pub first_written : Written list (second_in ws (place i level)) (2 * level)
  first_written = (
    pair_row ws i level list (second_in ws (place i level)) u l f n (omega arith)
        ∙ rw (
          ← (list_place ws i level u l).1,
          ← get_or-set_other row.lists (2 * level) (2 * level + 1) list no_links (λ e. omega arith),
          set-get_or (set row.lists (2 * level) list) (2 * level + 1) no_links,
        ) refl,
    pair_beside ws i level list (second_in ws (place i level)) u l,
  )

  pub second_written : Written (first_in ws (place i level)) list (2 * level + 1)
  second_written = (
    pair_row ws i level (first_in ws (place i level)) list u l (omega arith) (omega arith) f
        ∙ rw (← (list_place ws i level u l).0, set-get_or row.lists (2 * level) no_links) refl,
    pair_beside ws i level (first_in ws (place i level)) list u l,
  )

pub queued_beside : (ws : List ℕ) (n : ℕ) → Long ws → QueuedBeside ws n (set ws 89 n)
queued_beside ws n h =
    let out : (k : ℕ) → (k ≡ 89 → ⊥) → word_in (set ws 89 n) k ≡ word_in ws k = λ k d. get_or-set_other ws 89 k n 0 d in
    record {
      beside =
          record {
            version = out 0 (λ e. omega arith);
            unused = λ k m j. out k (λ e. omega arith);
            behind = drop-set-lt counters_at ws 89 n (omega arith);
          };
      rows = rows_same (set ws 89 n) ws 0 8 (omega arith) (λ k l. out k (λ e. omega arith));
      queued = get_or-set_same ws 89 n 0 (omega arith);
      pass = rw (out 90 (λ e. omega arith), out 91 (λ e. omega arith)) refl;
    }

pub pass_beside : (ws : List ℕ) (p : Pass) → Long ws → PassBeside ws p (set (set ws 90 p.rounds) 91 p.freed)
pass_beside ws p h =
    let us : List ℕ = set ws 90 p.rounds in
    let vs : List ℕ = set us 91 p.freed in
    let out : (k : ℕ) → (k ≡ 90 → ⊥) → (k ≡ 91 → ⊥) → word_in vs k ≡ word_in ws k =
    λ k d e. get_or-set_other us 91 k p.freed 0 e ∙ get_or-set_other ws 90 k p.rounds 0 d
    in
    record {
      beside =
          record {
            version = out 0 (λ e. omega arith) (λ e. omega arith);
            unused = λ k m j. out k (λ e. omega arith) (λ e. omega arith);
            behind = drop-set-lt counters_at us 91 p.freed (omega arith) ∙ drop-set-lt counters_at ws 90 p.rounds (omega arith);
          };
      rows = rows_same vs ws 0 8 (omega arith) (λ k l. out k (λ e. omega arith) (λ e. omega arith));
      queued = out 89 (λ e. omega arith) (λ e. omega arith);
      pass =
          let r : word_in vs 90 ≡ p.rounds = get_or-set_other us 91 90 p.freed 0 (λ e. omega arith) ∙ get_or-set_same ws 90 p.rounds 0 (omega arith) in
          let f : word_in vs 91 ≡ p.freed = get_or-set_same us 91 p.freed 0 (rw length-set (omega arith)) in
          rw (r, f) refl;
    }
