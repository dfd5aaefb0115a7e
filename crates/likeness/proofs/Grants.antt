-- Grants on common ground: both readings take the level whose size was asked for, find a frame or none together, and leave the same. Take from it
-- that the Rust's early test of idle pages never decides, and that a taken frame is split alike.
use Prim.Native.Nat.{ℕ, zero, suc, ◌+◌, ◌-◌, ◌/◌, ◌^◌, ◌≤◌, ◌<◌}
use mathlib.Core.Bool.{Bool, true, false, not, cond, ◌&&◌, ◌||◌, false≢true}
use mathlib.Core.Option.{Option, none, some}
use mathlib.Core.Path.{◌≡◌, refl, sym, ap, ap₂, ◌∙◌, subst}
use native.Mathlib.Nat.{div-mul-le_self, mul-div_cancel_left}
use native.Mathlib.Omega.{arith}
use lib.Dec.{leb, eqb, lit<}
use borrow.Author.Tests.{eqb-true, leb-true, le-leb, lt-leb, le-ltb, not-true}
use Rattle.definition.proofs.Boards.{page_most, page_positive}
use Rattle.definition.proofs.Basics.{upd_same}
use Rattle.definition.proofs.Tests.{and_left, and_right}
use Rattle.definition.specs.declared.FrameAllocFlags.{FrameAllocFlags}
use Rattle.definition.specs.declared.Refusal.{Refusal}
use Rattle.definition.specs.declared.Refusal.TheVariants.{BadLayout, NoLevel, NoFrame, MustWait}
use Rattle.definition.specs.Board.{Board, Fit}
use Rattle.definition.specs.Basics.{any, range, is_some, everywhere}
use Rattle.definition.specs.Refusal.{first_met, or_later, ◌when◌}
use Rattle.definition.specs.Frame.{Frame, size, levels, changed, with_kernel, with_zeroed}
use Rattle.definition.specs.Allocator.{Allocated, do_alloc, is_listed}
use Rattle.definition.specs.Store.{Store, with_allocator}
use Rattle.definition.specs.Tracker.{Granted, granted, hand_over, zero_if_asked, try_alloc_frame, split_frame, then_split_frame, try_alloc_split_frames}
use Rattle.definition.specs.Contents.{is_zeroed_at, zero_frame, set_not_zero}
use Rattle.definition.specs.Calls.{
  mine,
  Layout,
  Alloc,
  Take,
  Outcome,
  Refused,
  layout_named,
  bad_layout,
  is_power_of_two,
  round_up,
  bytes_of_level,
  no_level,
  level_from,
  find_level,
  wants,
  sheet,
  hands,
  tells,
  perform,
  unless_refused,
  step,
}
use Rattle.definition.specs.Rust as Rust
use Rattle.definition.specs.Rust.{ground_layout, is_kernel, layout_pages, or_none}
use Rattle.likeness.specs.Likeness.{Sane, has_level}
use Rattle.likeness.proofs.Search.{found_exactly}
use Rattle.likeness.proofs.Leveled.{found_fits, level_kept}
use Rattle.likeness.proofs.Splits.{split_plain, split_page}

-- ---- the layout

-- the level whose size the layout asks for
abbrev Sized : Board → Layout → Type 0
Sized b y = (l : ℕ) × (l < levels) × (y.size ≡ bytes_of_level b l)

sized : (b : Board) (y : Layout) → any (λ l. eqb y.size (bytes_of_level b l)) (range 0 levels) ≡ true → Sized b y
unfolding any range
sized b y h = go (eqb y.size (bytes_of_level b 0)) refl (eqb y.size (bytes_of_level b 1)) refl (eqb y.size (bytes_of_level b 2)) refl h
  where
    go : (t : Bool) → eqb y.size (bytes_of_level b 0) ≡ t → (u : Bool) → eqb y.size (bytes_of_level b 1) ≡ u
        → (v : Bool) → eqb y.size (bytes_of_level b 2) ≡ v → (t || (u || (v || false))) ≡ true → Sized b y
    go true e u f v g k = (0, lit< tt, eqb-true y.size (bytes_of_level b 0) e)
    go false e true f v g k = (1, lit< tt, eqb-true y.size (bytes_of_level b 1) f)
    go false e false f true g k = (2, lit< tt, eqb-true y.size (bytes_of_level b 2) g)
    go false e false f false g k = absurd (false≢true k)

-- a level's bytes are over those of each level below
found_level_lem : (b : Board) → 0 < b.page → (y : Layout) (l : ℕ) → l < levels → y.size ≡ bytes_of_level b l → y.align ≤ y.size → find_level b y ≡ l
unfolding level_from
found_level_lem b p y zero h e a =
    let s : y.size ≤ bytes_of_level b 0 = omega arith in
    let t : y.align ≤ bytes_of_level b 0 = omega arith in
    rw (le-leb y.size (bytes_of_level b 0) s, le-leb y.align (bytes_of_level b 0) t)
found_level_lem b p y (suc zero) h e a =
    let n : bytes_of_level b 0 < y.size = omega arith in
    let s : y.size ≤ bytes_of_level b 1 = omega arith in
    let t : y.align ≤ bytes_of_level b 1 = omega arith in
    rw (lt-leb y.size (bytes_of_level b 0) n, le-leb y.size (bytes_of_level b 1) s, le-leb y.align (bytes_of_level b 1) t)
found_level_lem b p y (suc (suc zero)) h e a =
    let m : bytes_of_level b 0 < y.size = omega arith in
    let n : bytes_of_level b 1 < y.size = omega arith in
    let s : y.size ≤ bytes_of_level b 2 = omega arith in
    let t : y.align ≤ bytes_of_level b 2 = omega arith in
    rw (
      lt-leb y.size (bytes_of_level b 0) m,
      lt-leb y.size (bytes_of_level b 1) n,
      le-leb y.size (bytes_of_level b 2) s,
      le-leb y.align (bytes_of_level b 2) t,
    )
found_level_lem b p y (suc (suc (suc l))) h e a = absurd (omega arith)

bytes_most : (b : Board) (l : ℕ) → l < levels → bytes_of_level b l ≤ bytes_of_level b (levels - 1)
bytes_most b zero h = omega arith
bytes_most b (suc zero) h = omega arith
bytes_most b (suc (suc zero)) h = omega arith
bytes_most b (suc (suc (suc l))) h = absurd (omega arith)

-- ---- the sheet of a grant

-- its four lines that a layout can meet
abbrev grant_sheet : (bad large wanting waits : Bool) → Option Refusal
grant_sheet bad large wanting waits =
    or_later (BadLayout when (bad || false))
    (or_later (NoLevel when (large || false))
    (or_later (NoFrame when (wanting && not waits || false)) (or_later (MustWait when (wanting && waits || false)) none)))

sheet_of_grant : (b : Board) (s : Store) (y : Layout)
    → first_met (sheet b s (layout_named y)) ≡ grant_sheet (bad_layout y) (no_level b y) (wants b s y) y.flags.wait_ok
unfolding first_met sheet any
sheet_of_grant b s y = refl

-- a layout on common ground, and what follows of it
module _ (b : Board) (fit : Fit b) (y : Layout) (ground : ground_layout b y ≡ true) where
  of_level : any (λ l. eqb y.size (bytes_of_level b l)) (range 0 levels) ≡ true
  of_level = and_left _ _ ground

  others : (is_power_of_two y.align && (leb y.align y.size && not y.flags.wait_ok)) ≡ true
  others = and_right (any (λ l. eqb y.size (bytes_of_level b l)) (range 0 levels)) _ ground

  power : is_power_of_two y.align ≡ true
  power = and_left (is_power_of_two y.align) _ others

  last_two : (leb y.align y.size && not y.flags.wait_ok) ≡ true
  last_two = and_right (is_power_of_two y.align) _ others

  aligned : y.align ≤ y.size
  aligned = leb-true y.align y.size (and_left (leb y.align y.size) _ last_two)

  no_wait : y.flags.wait_ok ≡ false
  no_wait = not-true y.flags.wait_ok (and_right (leb y.align y.size) _ last_two)

  size_most : y.size ≤ bytes_of_level b (levels - 1)
  size_most = let w = sized b y of_level in omega (arith, w.2, bytes_most b w.0 w.1)

  good_layout : bad_layout y ≡ false
  good_layout =
      let up = div-mul-le_self (y.size + (y.align - 1)) y.align in
      ap₂ ◌||◌ (ap not power) (le-ltb (2 ^ 63 - 1) (round_up y.size y.align) (omega (arith, up, aligned, size_most, page_most fit)))

  some_level : no_level b y ≡ false
  some_level =
      ap₂ ◌||◌ (le-ltb (bytes_of_level b (levels - 1)) y.size size_most)
      (le-ltb (bytes_of_level b (levels - 1)) y.align (omega (arith, aligned, size_most)))

  level_is : find_level b y ≡ (sized b y of_level).0
  level_is = let w = sized b y of_level in found_level_lem b (page_positive fit) y w.0 w.1 w.2 aligned

  level_below : find_level b y < levels
  level_below = let w = sized b y of_level in omega (arith, level_is, w.1)

  -- the pages that the Rust counts are the frame's
  pages_are : layout_pages b y ≡ size (find_level b y)
  pages_are =
      let w = sized b y of_level in
      ap (λ (n : ℕ). n / b.page) w.2 ∙ mul-div_cancel_left (size w.0) (page_positive fit) ∙ sym (ap size level_is)

  listed_sheet : (s : Store) (t : Bool) → is_listed everywhere (find_level b y) s.allocator.regions ≡ t
      → first_met (sheet b s (layout_named y)) ≡ cond t none (some NoFrame)
  unfolding mine
  listed_sheet s t h =
      sheet_of_grant b s y
      ∙ ap₂ (λ (bad large : Bool). grant_sheet bad large (wants b s y) y.flags.wait_ok) good_layout some_level
      ∙ ap₂ (λ (listed waits : Bool). grant_sheet false false (not listed) waits) h no_wait
      ∙ go t
    where
      go : (u : Bool) → grant_sheet false false (not u) false ≡ cond u none (some NoFrame)
      go true = refl
      go false = refl

-- ---- the grant

granted_some : (b : Board) (n : ℕ) (flags : FrameAllocFlags) (s : Store) (a : Allocated) → is_some (granted b n flags s a).page ≡ is_some a.page
granted_some b n flags s a = go a.page
  where
    go : (o : Option ℕ)
        → is_some (elim o as (λ x. Granted) [
          | some p ↦ record { store = hand_over b n flags (with_allocator s a.allocator) p; page = some p }
          | none ↦ record { store = s; page = none }
        ]).page ≡ is_some o
    go (some p) = refl
    go none = refl

granted_none : (b : Board) (n : ℕ) (flags : FrameAllocFlags) (s : Store) (a : Allocated) → is_some a.page ≡ false
    → granted b n flags s a ≡ record { store = s; page = none }
granted_none b n flags s a h = go a.page h
  where
    go : (o : Option ℕ) → is_some o ≡ false
        → ◌≡◌ {A = Granted} (elim o as (λ x. Granted) [
          | some p ↦ record { store = hand_over b n flags (with_allocator s a.allocator) p; page = some p }
          | none ↦ record { store = s; page = none }
        ]) (record { store = s; page = none })
    go (some p) e = absurd (false≢true (sym e))
    go none e = refl

module _ (b : Board) (fit : Fit b) (s : Store) (y : Layout) (ground : ground_layout b y ≡ true) where
  abbrev level : ℕ
  level = find_level b y

  -- a grant that finds nothing
  abbrev refused : Granted
  refused = record { store = s; page = none }

  abbrev given : Granted
  given = try_alloc_frame b everywhere level y.flags s

  same_grant : granted b (layout_pages b y) y.flags s (do_alloc everywhere level y.flags.zeroed s.allocator) ≡ given
  unfolding try_alloc_frame
  same_grant = ap (λ (n : ℕ). granted b n y.flags s (do_alloc everywhere level y.flags.zeroed s.allocator)) (pages_are b fit y ground)

  given_some : is_some given.page ≡ is_listed everywhere level s.allocator.regions
  unfolding try_alloc_frame
  given_some =
      granted_some b (size level) y.flags s (do_alloc everywhere level y.flags.zeroed s.allocator)
      ∙ found_exactly level y.flags.zeroed s.allocator

  -- something is listed, so enough pages are idle
  rust_grants : Sane s → is_listed everywhere level s.allocator.regions ≡ true → Rust.try_alloc_frame b y s ≡ given
  unfolding Rust.try_alloc_frame
  rust_grants S h =
      let enough : layout_pages b y ≤ s.counters.idle = rw (pages_are b fit y ground) (S.idle level h) in
      ap (λ (t : Bool). cond t (granted b (layout_pages b y) y.flags s (do_alloc everywhere level y.flags.zeroed s.allocator)) refused)
      (le-leb (layout_pages b y) s.counters.idle enough)
      ∙ same_grant

  -- nothing is listed, so nothing is found, searched for or not
  rust_finds_none : is_listed everywhere level s.allocator.regions ≡ false → Rust.try_alloc_frame b y s ≡ refused
  unfolding Rust.try_alloc_frame
  rust_finds_none h =
      ap (λ (g : Granted). cond (leb (layout_pages b y) s.counters.idle) g refused)
      (granted_none b (layout_pages b y) y.flags s (do_alloc everywhere level y.flags.zeroed s.allocator)
      (found_exactly level y.flags.zeroed s.allocator ∙ h))
      ∙ go (leb (layout_pages b y) s.counters.idle)
    where
      go : (t : Bool) → ◌≡◌ {A = Granted} (cond t refused refused) refused
      go true = refl
      go false = refl

  -- what a call makes of a grant, in each reading the same: what is granted is handed over; else there is no frame
  handed : (g : Granted) → is_some g.page ≡ true → or_none b y g ≡ hands b level g
  handed g h = go g.page refl h
    where
      go : (o : Option ℕ) → g.page ≡ o → is_some o ≡ true
          → ◌≡◌ {A = Outcome} (elim o as (λ x. Outcome) [ some p ↦ hands b level g | none ↦ tells g.store (Refused NoFrame) ]) (hands b level g)
      go (some p) e k = refl
      go none e k = absurd (false≢true k)

  abbrev Like : (Granted → Granted) → (Granted → Granted) → Type 0
  Like rust own = Rust.unless_none (not y.flags.wait_ok) (or_none b y (rust (Rust.try_alloc_frame b y s)))
      ≡ some (unless_refused s (first_met (sheet b s (layout_named y))) (hands b level (own given)))

  grant_like : (rust own : Granted → Granted) → Sane s
      → rust refused ≡ refused
      → (is_listed everywhere level s.allocator.regions ≡ true → rust given ≡ own given)
      → ((g : Granted) → is_some (own g).page ≡ is_some g.page)
      → Like rust own
  grant_like rust own S nil same kept = go (is_listed everywhere level s.allocator.regions) refl
    where
      willing : (o : Outcome) → Rust.unless_none (not y.flags.wait_ok) o ≡ some o
      willing o = ap (λ (t : Bool). Rust.unless_none (not t) o) (no_wait b fit y ground)

      go : (t : Bool) → is_listed everywhere level s.allocator.regions ≡ t → Like rust own
      go true h =
          willing (or_none b y (rust (Rust.try_alloc_frame b y s)))
          ∙ ap {B = Option Outcome} some
          (ap (λ (g : Granted). or_none b y (rust g)) (rust_grants S h)
          ∙ ap (or_none b y) (same h)
          ∙ handed (own given) (kept given ∙ given_some ∙ h)
          ∙ sym (ap (λ (r : Option Refusal). unless_refused s r (hands b level (own given))) (listed_sheet b fit y ground s true h)))
      go false h =
          willing (or_none b y (rust (Rust.try_alloc_frame b y s)))
          ∙ ap {B = Option Outcome} some
          (ap (λ (g : Granted). or_none b y (rust g)) (rust_finds_none h)
          ∙ ap (or_none b y) nil
          ∙ sym (ap (λ (r : Option Refusal). unless_refused s r (hands b level (own given))) (listed_sheet b fit y ground s false h)))

-- ---- 55, try_alloc_frame

pub alloc_like : (b : Board) → Fit b → (s : Store) → Sane s → (y : Layout) → ground_layout b y ≡ true
    → Rust.step b s (Alloc y) ≡ some (step b s (Alloc y))
unfolding Rust.step step perform mine
alloc_like b fit s S y ground = grant_like b fit s y ground (λ g. g) (λ g. g) S refl (λ h. refl) (λ g. refl)

-- ---- 98, try_alloc_split_frames

split_some : (g : Granted) → is_some (then_split_frame g).page ≡ is_some g.page
split_some g = go g.page refl
  where
    go : (o : Option ℕ) → g.page ≡ o
        → is_some (elim o as (λ x. Granted) [ some p ↦ record { store = split_frame g.store p; page = some p } | none ↦ g ]).page ≡ is_some o
    go (some p) e = refl
    go none e = ap is_some e

-- a frame that was granted without KERNEL is split alike; one that was granted with it is a page
module _ (b : Board) (flags : FrameAllocFlags) (s : Store) where
  plain_kernel : (o : Option Frame) → flags.kernel ≡ false → is_kernel (changed (with_kernel flags.kernel) o) ≡ false
  plain_kernel none h = refl
  plain_kernel (some f) h = h

  handed_plain : (n p : ℕ) → flags.kernel ≡ false → is_kernel ((hand_over b n flags s p).allocator.frames p) ≡ false
  handed_plain n p h =
      ap is_kernel (upd_same _ p _) ∙ plain_kernel ((set_not_zero (zero_if_asked b flags.zeroed s p) p).allocator.frames p) h

  zero_level : (l p : ℕ) → has_level l (s.allocator.frames p) ≡ true
      → has_level l ((zero_if_asked b flags.zeroed s p).allocator.frames p) ≡ true
  unfolding zero_frame
  zero_level l p h = go (flags.zeroed && not (is_zeroed_at s p))
    where
      go : (t : Bool) → has_level l ((cond t (zero_frame b s p) s).allocator.frames p) ≡ true
      go true = level_kept l (with_zeroed true) (λ f. refl) s.allocator.frames p h
      go false = h

  handed_level : (l n p : ℕ) → has_level l (s.allocator.frames p) ≡ true → has_level l ((hand_over b n flags s p).allocator.frames p) ≡ true
  unfolding set_not_zero
  handed_level l n p h =
      level_kept l (with_kernel flags.kernel) (λ f. refl) (set_not_zero (zero_if_asked b flags.zeroed s p) p).allocator.frames p
      (level_kept l (with_zeroed false) (λ f. refl) (zero_if_asked b flags.zeroed s p).allocator.frames p (zero_level l p h))

taken_alike : (b : Board) (s : Store) → Sane s → (flags : FrameAllocFlags) (l n : ℕ) → l < levels → (not flags.kernel || eqb l 0) ≡ true
    → Rust.then_split_frame (granted b n flags s (do_alloc everywhere l flags.zeroed s.allocator))
    ≡ then_split_frame (granted b n flags s (do_alloc everywhere l flags.zeroed s.allocator))
taken_alike b s S flags l n below h = go a.page refl
  where
    a : Allocated
    a = do_alloc everywhere l flags.zeroed s.allocator

    t : ℕ → Store
    t p = hand_over b n flags (with_allocator s a.allocator) p

    alike : (p : ℕ) → a.page ≡ some p → (k : Bool) → flags.kernel ≡ k → (not k || eqb l 0) ≡ true → Rust.split_frame (t p) p ≡ split_frame (t p) p
    alike p e false k h = split_plain (t p) p (handed_plain b flags (with_allocator s a.allocator) n p k)
    alike p e true k h =
        let page : l ≡ 0 = eqb-true l 0 h in
        split_page (t p) p (handed_level b flags (with_allocator s a.allocator) 0 n p
        (subst (λ (m : ℕ). has_level m (a.allocator.frames p) ≡ true) page
        (found_fits l flags.zeroed s.allocator (λ z. S.listed l z below) p e)))

    go : (o : Option ℕ) → a.page ≡ o
        → Rust.then_split_frame (elim o as (λ x. Granted) [ some p ↦ record { store = t p; page = some p } | none ↦ record { store = s; page = none } ])
        ≡ then_split_frame (elim o as (λ x. Granted) [ some p ↦ record { store = t p; page = some p } | none ↦ record { store = s; page = none } ])
    go (some p) e = ap (λ (u : Store). record { store = u; page = some p }) (alike p e flags.kernel refl h)
    go none e = refl

pub take_like : (b : Board) → Fit b → (s : Store) → Sane s → (y : Layout) → ground_layout b y ≡ true
    → (not y.flags.kernel || eqb (find_level b y) 0) ≡ true
    → Rust.step b s (Take y) ≡ some (step b s (Take y))
unfolding Rust.step step perform mine try_alloc_split_frames
take_like b fit s S y ground h =
    grant_like b fit s y ground Rust.then_split_frame then_split_frame S refl
    (λ e. unfold try_alloc_frame in taken_alike b s S y.flags (find_level b y) (size (find_level b y)) (level_below b fit y ground) h) split_some
