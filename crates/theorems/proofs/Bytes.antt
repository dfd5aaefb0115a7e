-- What `encode` writes into the loans, read back: `record_at` of the written bytes is the record of each page (`regions_written`), and a byte of the written
-- memory is the store's (`memory_read`). A reader takes from here that numbers below 2^32 survive their four bytes, and where each region's bytes lie.
use Prim.Native.Nat.{ℕ, zero, suc, ◌+◌, ◌-◌, ◌*◌, ◌/◌, ◌%◌, ◌<◌, ◌^◌}
use mathlib.Core.Bool.{Bool, true, false, cond, ◌||◌}
use mathlib.Core.List.{List, [], ◌∷◌, ◌++◌, append_assoc}
use mathlib.Core.Option.{some}
use mathlib.Core.Path.{◌≡◌, refl, sym, ap, ◌∙◌, subst}
use native.Mathlib.Omega.{arith}
use lib.ListN.{length, get_or, length-append, get_or-append}
use lib.Seq.{get_or-append-add}
use Rattle.definition.proofs.Boards.{page_positive}
use Rattle.definition.proofs.Bytes.{address_is, byte_inside, offset_small, pages_none, pages_sum}
use Rattle.definition.specs.Board.{Fit}
use Rattle.definition.specs.declared.Record.{Record}
use Rattle.definition.specs.Basics.{any, sum, range}
use Rattle.definition.specs.Board.{Board}
use Rattle.definition.specs.Boot.{managed_pages}
use Rattle.definition.specs.Frame.{Frames}
use Rattle.definition.specs.Allocator.{AllocationRegion, first, managed, contains, is_managed}
use Rattle.definition.specs.Contents.{bytes_at}
use Rattle.definition.specs.Store.{Memory}
use Rattle.definition.specs.World.{word_at, record_at, record_bytes, pages_bytes, record_of, regions_bytes, memory_bytes, byte_at, number_in, page_number}
use Rattle.bookkeeping.proofs.Tilings.{contains_facts}

-- ---- what stands behind other bytes

module _ (pre xs : List ℕ) where
  byte_after : (i j : ℕ) → length pre + i ≡ j → get_or (pre ++ xs) j 0 ≡ get_or xs i 0
  byte_after i j e = ap (λ (k : ℕ). get_or (pre ++ xs) k 0) (sym e) ∙ get_or-append-add pre xs i 0

  word_after : (w x : ℕ) → length pre + w * 4 ≡ x * 4 → word_at (pre ++ xs) x ≡ word_at xs w
  unfolding word_at
  word_after w x e =
      rw (
        byte_after (w * 4) (x * 4) e,
        byte_after (w * 4 + 1) (x * 4 + 1) (omega arith),
        byte_after (w * 4 + 2) (x * 4 + 2) (omega arith),
        byte_after (w * 4 + 3) (x * 4 + 3) (omega arith),
      )

  record_after : (q p : ℕ) → length pre + q * 16 ≡ p * 16 → record_at (pre ++ xs) p ≡ record_at xs q
  unfolding record_at
  record_after q p e =
      rw (
        word_after (q * 4) (p * 4) (omega arith),
        word_after (q * 4 + 1) (p * 4 + 1) (omega arith),
        word_after (q * 4 + 2) (p * 4 + 2) (omega arith),
        word_after (q * 4 + 3) (p * 4 + 3) (omega arith),
      )

-- ---- a record and its sixteen bytes

pub record Small (r : Record) : Type 0 where
  pub marks : r.marks < 2 ^ 32
  pub level : r.level < 2 ^ 32
  pub earlier : r.earlier < 2 ^ 32
  pub later : r.later < 2 ^ 32

value : (v : ℕ) → v < 2 ^ 32 → v % 256 + v / 256 % 256 * 256 + v / 65536 % 256 * 65536 + v / 16777216 % 256 * 16777216 ≡ v
value v h = let top : v / 16777216 % 256 ≡ v / 16777216 = omega arith in omega arith

same_record : {a b c d e f g h : ℕ} → a ≡ b → c ≡ d → e ≡ f → g ≡ h
    → ◌≡◌ {A = Record} (record { marks = a; level = c; earlier = e; later = g }) (record { marks = b; level = d; earlier = f; later = h })
same_record p q r t = cc

record_here : (r : Record) (xs : List ℕ) → Small r → record_at (record_bytes r ++ xs) 0 ≡ r
unfolding record_at word_at
record_here r xs s = same_record (value r.marks s.marks) (value r.level s.level) (value r.earlier s.earlier) (value r.later s.later)

pages_length : (f : ℕ → Record) (p n : ℕ) → length (pages_bytes f (range p n)) ≡ 16 * n
unfolding pages_bytes range
pages_length f p zero = refl
pages_length f p (suc n) = omega (arith, pages_length f (p + 1) n)

pages_read : (f : ℕ → Record) (p n : ℕ) (xs : List ℕ) → ((i : ℕ) → i < n → Small (f (p + i)))
    → (i : ℕ) → i < n → record_at (pages_bytes f (range p n) ++ xs) i ≡ f (p + i)
unfolding pages_bytes range
pages_read f p zero xs s i h = absurd (omega arith)
pages_read f p (suc n) xs s zero h =
    let e : p + 0 ≡ p = omega arith in
    rw e (record_here (f p) (pages_bytes f (range (p + 1) n) ++ xs) (rw e at (s 0 (omega arith))))
pages_read f p (suc n) xs s (suc i) h =
    let e : p + suc i ≡ p + 1 + i = omega arith in
    rw e
    (record_after (record_bytes (f p)) (pages_bytes f (range (p + 1) n) ++ xs) i (suc i) (omega arith)
    ∙ pages_read f (p + 1) n xs (λ j k. let d : p + 1 + j ≡ p + (1 + j) = omega arith in rw d (s (1 + j) (omega arith))) i (omega arith))

-- ---- regions: the first has the page number `base`

module _ (board : Board) where
  -- the records f are those of the regions' pages
  pub data Written (f : ℕ → Record) (fs : Frames) : ℕ → List AllocationRegion → Type 0 where
    written_none : {base : ℕ} → Written f fs base []
    written_more
        : {base : ℕ} {r : AllocationRegion} {rs : List AllocationRegion}
        → ((i : ℕ) → i < managed board r → f (base + i) ≡ record_of board base r fs (first board r + i))
        → Written f fs (base + managed board r) rs → Written f fs base (r ∷ rs)

  -- each of these fits its bytes
  pub data Fitting (fs : Frames) : ℕ → List AllocationRegion → Type 0 where
    fitting_none : {base : ℕ} → Fitting fs base []
    fitting_more
        : {base : ℕ} {r : AllocationRegion} {rs : List AllocationRegion}
        → ((i : ℕ) → i < managed board r → Small (record_of board base r fs (first board r + i)))
        → Fitting fs (base + managed board r) rs → Fitting fs base (r ∷ rs)

  module _ (fs : Frames) where
    pub regions_length : (base : ℕ) (rs : List AllocationRegion) → length (regions_bytes board base fs rs) ≡ 16 * managed_pages board rs
    unfolding regions_bytes sum
    regions_length base [] = refl
    regions_length base (r ∷ rs) =
        simp length-append
        (omega (
          arith,
          pages_length (record_of board base r fs) (first board r) (managed board r),
          regions_length (base + managed board r) rs,
        ))

    written_from : (pre : List ℕ) (base : ℕ) (rs : List AllocationRegion) (xs : List ℕ) → length pre ≡ 16 * base → Fitting fs base rs
        → Written (record_at (pre ++ (regions_bytes board base fs rs ++ xs))) fs base rs
    unfolding regions_bytes
    written_from pre base [] xs e fitting_none = written_none
    written_from pre base (r ∷ rs) xs e (fitting_more s more) =
        written_more
        (λ i h.
        record_after pre (here ++ rest ++ xs) i (base + i) (omega arith)
        ∙ (ap (λ (l : List ℕ). record_at l i) (append_assoc here rest xs)
        ∙ pages_read (record_of board base r fs) (first board r) (managed board r) (rest ++ xs) s i h))
        (subst (λ (l : List ℕ). Written (record_at l) fs (base + managed board r) rs)
        (append_assoc pre here (rest ++ xs) ∙ ap (λ (l : List ℕ). pre ++ l) (sym (append_assoc here rest xs)))
        (written_from (pre ++ here) (base + managed board r) rs xs
        (simp length-append (omega (arith, pages_length (record_of board base r fs) (first board r) (managed board r)))) more))
      where
        here : List ℕ
        here = pages_bytes (record_of board base r fs) (range (first board r) (managed board r))

        rest : List ℕ
        rest = regions_bytes board (base + managed board r) fs rs

    pub regions_written : (rs : List AllocationRegion) (xs : List ℕ) → Fitting fs 0 rs → Written (record_at (regions_bytes board 0 fs rs ++ xs)) fs 0 rs
    regions_written rs xs h = written_from [] 0 rs xs refl h

-- ---- the memory

module _ (board : Board) (fit : Fit board) where
  module _ (m : Memory) where
    run_length : (a n : ℕ) → length (bytes_at m a n) ≡ n
    unfolding bytes_at
    run_length a zero = refl
    run_length a (suc n) = ap suc (run_length (a + 1) n)

    run_read : (a n i : ℕ) → i < n → get_or (bytes_at m a n) i 0 ≡ m (a + i)
    unfolding bytes_at
    run_read a zero i h = absurd (omega arith)
    run_read a (suc n) zero h = ap m (omega arith)
    run_read a (suc n) (suc i) h = run_read (a + 1) n i (omega arith) ∙ ap m (omega arith)

    pub memory_length : (rs : List AllocationRegion) → length (memory_bytes board m rs) ≡ board.page * managed_pages board rs
    unfolding memory_bytes sum
    memory_length [] = sym (pages_none board.page)
    memory_length (r ∷ rs) =
        simp length-append (omega (arith, run_length (board.page * first board r) (board.page * managed board r), memory_length rs))

    -- a byte of the loan is the store's where some region manages its page
    read_from : (pre : List ℕ) (base : ℕ) (rs : List AllocationRegion) (xs : List ℕ) → length pre ≡ board.page * base → (a : ℕ)
        → byte_at board (pre ++ (memory_bytes board m rs ++ xs)) a (number_in board base rs (a / board.page)) ≡ cond (is_managed board rs (a / board.page)) (m a) 0
    unfolding memory_bytes number_in is_managed any
    read_from pre base [] xs e a = refl
    read_from pre base (r ∷ rs) xs e a =
        go (contains board r (a / board.page)) refl
        (read_from (pre ++ here) (base + managed board r) rs xs
        (simp length-append (omega (arith, run_length (board.page * first board r) (board.page * managed board r)))) a)
      where
        here : List ℕ
        here = bytes_at m (board.page * first board r) (board.page * managed board r)

        rest : List ℕ
        rest = memory_bytes board m rs

        go : (t : Bool) → contains board r (a / board.page) ≡ t
            → byte_at board ((pre ++ here) ++ (rest ++ xs)) a (number_in board (base + managed board r) rs (a / board.page))
            ≡ cond (is_managed board rs (a / board.page)) (m a) 0
            → byte_at board (pre ++ (here ++ rest ++ xs)) a
            (cond t (some (page_number board base r (a / board.page))) (number_in board (base + managed board r) rs (a / board.page)))
            ≡ cond (t || is_managed board rs (a / board.page)) (m a) 0
        go true c more =
            let x = contains_facts board r (a / board.page) c in
            let i : ℕ = board.page * (a / board.page - first board r) + a % board.page in
            let sums = pages_sum board.page {p = a / board.page} (first board r) (a / board.page - first board r) (omega arith) in
            let k : board.page * first board r + i ≡ a = omega (arith, sums, address_is board.page a) in
            let low : i < board.page * managed board r = byte_inside board.page (a / board.page - first board r) (managed board r) (a % board.page) (omega arith) (offset_small board.page (page_positive fit) a) in
            byte_after pre (here ++ rest ++ xs) i (board.page * page_number board base r (a / board.page) + a % board.page) (omega arith)
            ∙ (ap (λ (l : List ℕ). get_or l i 0) (append_assoc here rest xs)
            ∙ (get_or-append here (rest ++ xs) 0 i (omega (arith, run_length (board.page * first board r) (board.page * managed board r)))
            ∙ (run_read (board.page * first board r) (board.page * managed board r) i (omega arith) ∙ ap m k)))
        go false c more =
            subst (λ (l : List ℕ).
            byte_at board l a (number_in board (base + managed board r) rs (a / board.page)) ≡ cond (is_managed board rs (a / board.page)) (m a) 0)
            (append_assoc pre here (rest ++ xs) ∙ ap (λ (l : List ℕ). pre ++ l) (sym (append_assoc here rest xs))) more

    pub memory_read : (rs : List AllocationRegion) (xs : List ℕ) (a : ℕ)
        → byte_at board (memory_bytes board m rs ++ xs) a (number_in board 0 rs (a / board.page)) ≡ cond (is_managed board rs (a / board.page)) (m a) 0
    memory_read rs xs a = read_from [] 0 rs xs (sym (pages_none board.page)) a
