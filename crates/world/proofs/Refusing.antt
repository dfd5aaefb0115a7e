-- Which refusal a call gives, from what it names: each kind of call has one law, by which it is that of its frames, places and layouts
-- alone.
use Prim.Native.Nat.{ℕ}
use mathlib.Core.Bool.{Bool, true, false, not, cond, ◌&&◌, ◌||◌}
use mathlib.Core.List.{List, [], ◌∷◌, ◌++◌}
use mathlib.Core.Option.{Option, none, some}
use mathlib.Core.Path.{◌≡◌, refl, sym, ap, ◌∙◌}
use lib.Dec.{leb, ltb}
use lib.ListN.{length}
use Rattle.definition.specs.declared.Refusal.{Refusal}
use Rattle.definition.specs.declared.Refusal.TheVariants.{
  BadLayout,
  NoLevel,
  NoFrame,
  MustWait,
  Outside,
  NoFrameStart,
  NotHeld,
  PastTheEnd,
  PagerLow,
  QueueFull,
}
use Rattle.definition.specs.Basics.{any}
use Rattle.definition.specs.Board.{Board}
use Rattle.definition.specs.Refusal.{Test, ◌when◌, or_later, place_in, first_met}
use Rattle.definition.specs.Store.{Store}
use Rattle.definition.specs.Tracker.{starts_frame, is_held}
use Rattle.definition.specs.Calls.{
  Back,
  Layout,
  Queue,
  Range,
  bad_layout,
  layout_named,
  leaves_frame,
  leaves_region,
  names,
  no_level,
  nothing_named,
  outside,
  part,
  ranges_named,
  sheet,
  wants,
}
use Rattle.world.specs.Refusals.{frame_refusal, place_refusal, range_of, earlier}

-- a sheet of the four lines on frames and places
abbrev four : (a b c d : Bool) → List Test
four a b c d = (Outside when a) ∷ (NoFrameStart when b) ∷ (NotHeld when c) ∷ (PastTheEnd when d) ∷ []

abbrev of_four : (a b c d : Bool) → Option Refusal
of_four a b c d = first_met (four a b c d)

module _ (board : Board) where
  -- the lines that no range meets
  ranges : (s : Store) (fs ps : List Range)
      → first_met (sheet board s (ranges_named fs ps))
      ≡ of_four (any (outside board s) (fs ++ ps)) (any (λ r. not (starts_frame board s r.address)) fs)
      (any (λ r. not (is_held board s r.address)) fs)
      (any (leaves_frame board s) fs || any (leaves_region board s) ps)
  unfolding first_met sheet any
  ranges s fs ps = refl

or-false : (a : Bool) → (a || false) ≡ a
or-false true = refl
or-false false = refl

-- ---- of two names the refusal that is tried first

outside_first : (e f g h : Bool) → earlier (some Outside) (of_four e f g h) ≡ some Outside
unfolding first_met place_in
outside_first true f g h = refl
outside_first false true g h = refl
outside_first false false true h = refl
outside_first false false false true = refl
outside_first false false false false = refl

no_start_first : (f g h : Bool) → earlier (some NoFrameStart) (of_four false f g h) ≡ some NoFrameStart
unfolding first_met place_in
no_start_first true g h = refl
no_start_first false true h = refl
no_start_first false false true = refl
no_start_first false false false = refl

not_held_first : (g h : Bool) → earlier (some NotHeld) (of_four false false g h) ≡ some NotHeld
unfolding first_met place_in
not_held_first true h = refl
not_held_first false true = refl
not_held_first false false = refl

past_end_first : (h : Bool) → earlier (some PastTheEnd) (of_four false false false h) ≡ some PastTheEnd
unfolding first_met place_in
past_end_first true = refl
past_end_first false = refl

outside_last : (b c d : Bool) → earlier (of_four false b c d) (some Outside) ≡ some Outside
unfolding first_met place_in
outside_last true c d = refl
outside_last false true d = refl
outside_last false false true = refl
outside_last false false false = refl

no_start_last : (c d : Bool) → earlier (of_four false false c d) (some NoFrameStart) ≡ some NoFrameStart
unfolding first_met place_in
no_start_last true d = refl
no_start_last false true = refl
no_start_last false false = refl

not_held_last : (d : Bool) → earlier (of_four false false false d) (some NotHeld) ≡ some NotHeld
unfolding first_met place_in
not_held_last true = refl
not_held_last false = refl

joint : (a e b f c g d h : Bool) → of_four (a || e) (b || f) (c || g) (d || h) ≡ earlier (of_four a b c d) (of_four e f g h)
unfolding first_met place_in
joint true e b f c g d h = sym (outside_first e f g h)
joint false true b f c g d h = sym (outside_last b c d)
joint false false true f c g d h = sym (no_start_first f g h)
joint false false false true c g d h = sym (no_start_last c d)
joint false false false false true g d h = sym (not_held_first g h)
joint false false false false false true d h = sym (not_held_last d)
joint false false false false false false true h = sym (past_end_first h)
joint false false false false false false false h = refl

of_place : (e h : Bool) → first_met ((Outside when e) ∷ (PastTheEnd when h) ∷ []) ≡ of_four e false false h
unfolding first_met
of_place true h = refl
of_place false true = refl
of_place false false = refl

module _ (board : Board) where
  module _ (s : Store) where
    -- a frame
    pub one_frame : (a off len : ℕ) → first_met (sheet board s (ranges_named (part a off len) []))
        ≡ frame_refusal board s (range_of a off len)
    unfolding any
    one_frame a off len =
        let r = range_of a off len in
        ranges board s (part a off len) []
        ∙ rw (
          or-false (outside board s r),
          or-false (not (starts_frame board s a)),
          or-false (not (is_held board s a)),
          or-false (leaves_frame board s r || false),
          or-false (leaves_frame board s r),
        )
        refl

    -- two frames
    pub two_frames
        : (a off b soff len : ℕ)
        → first_met (sheet board s (ranges_named (part a off len ++ part b soff len) []))
        ≡ earlier (frame_refusal board s (range_of a off len)) (frame_refusal board s (range_of b soff len))
    unfolding any
    two_frames a off b soff len =
        let r = range_of a off len in
        let t = range_of b soff len in
        ranges board s (part a off len ++ part b soff len) []
        ∙ rw (
          or-false (outside board s t),
          or-false (not (starts_frame board s b)),
          or-false (not (is_held board s b)),
          or-false (leaves_frame board s r || (leaves_frame board s t || false)),
          or-false (leaves_frame board s t),
        )
        (joint (outside board s r) (outside board s t) (not (starts_frame board s a)) (not (starts_frame board s b))
        (not (is_held board s a)) (not (is_held board s b)) (leaves_frame board s r) (leaves_frame board s t))

    -- a frame and a place
    pub frame_and_place
        : (a off b soff len n : ℕ)
        → first_met (sheet board s (ranges_named (part a off len) (part b soff n)))
        ≡ earlier (frame_refusal board s (range_of a off len)) (place_refusal board s (range_of b soff n))
    unfolding any
    frame_and_place a off b soff len n =
        let r = range_of a off len in
        let t = range_of b soff n in
        ranges board s (part a off len) (part b soff n)
        ∙ rw (or-false (outside board s t), or-false (leaves_frame board s r), or-false (leaves_region board s t))
        (joint (outside board s r) (outside board s t) (not (starts_frame board s a)) false (not (is_held board s a)) false
        (leaves_frame board s r) (leaves_region board s t))
        ∙ ap (earlier (frame_refusal board s r)) (sym (of_place (outside board s t) (leaves_region board s t)))

    -- a place
    pub one_place : (a off len : ℕ) → first_met (sheet board s (ranges_named [] (part a off len)))
        ≡ place_refusal board s (range_of a off len)
    unfolding any
    one_place a off len =
        let t = range_of a off len in
        ranges board s [] (part a off len)
        ∙ rw (or-false (outside board s t), or-false (leaves_region board s t)) refl
        ∙ sym (of_place (outside board s t) (leaves_region board s t))

    -- a call that names nothing is not refused
    pub nothing_refused : first_met (sheet board s nothing_named) ≡ none
    unfolding first_met sheet any
    nothing_refused = refl

    -- pages that the pager gives back
    pub back_refused : (n : ℕ) → first_met (sheet board s (names (Back n))) ≡ cond (ltb s.counters.pager_outstanding n) (some PagerLow) none
    unfolding first_met sheet any
    back_refused n = go (ltb s.counters.pager_outstanding n)
      where
        go : (b : Bool) → or_later (PagerLow when (b || false)) none ≡ cond b (some PagerLow) none
        go true = refl
        go false = refl

    -- a held frame that goes into the queue
    pub queue_refused : (a : ℕ) → first_met (sheet board s (names (Queue a)))
        ≡ earlier (frame_refusal board s (range_of a 0 0)) (cond (leb s.kept.room (length s.queue)) (some QueueFull) none)
    unfolding first_met place_in sheet any
    queue_refused a =
        let r = range_of a 0 0 in
        rw (
          or-false (outside board s r),
          or-false (not (starts_frame board s a)),
          or-false (not (is_held board s a)),
          or-false (leaves_frame board s r || false),
          or-false (leaves_frame board s r),
          or-false (leb s.kept.room (length s.queue)),
        )
        (go (outside board s r) (not (starts_frame board s a)) (not (is_held board s a)) (leaves_frame board s r)
        (leb s.kept.room (length s.queue)))
      where
        go : (a b c d f : Bool)
            → or_later (Outside when a) (or_later (NoFrameStart when b)
            (or_later (NotHeld when c) (or_later (PastTheEnd when d) (or_later (QueueFull when f) none))))
            ≡ earlier (or_later (Outside when a) (or_later (NoFrameStart when b)
            (or_later (NotHeld when c) (or_later (PastTheEnd when d) none))))
            (cond f (some QueueFull) none)
        go true b c d true = refl
        go true b c d false = refl
        go false true c d true = refl
        go false true c d false = refl
        go false false true d true = refl
        go false false true d false = refl
        go false false false true true = refl
        go false false false true false = refl
        go false false false false true = refl
        go false false false false false = refl

    -- a grant: 7, 8, and where nothing is listed 9, or 10 for one that may wait
    pub layout_refused
        : (y : Layout)
        → first_met (sheet board s (layout_named y))
        ≡ cond (bad_layout y) (some BadLayout)
        (cond (no_level board y) (some NoLevel) (cond (wants board s y) (some (cond y.flags.wait_ok MustWait NoFrame)) none))
    unfolding first_met sheet any
    layout_refused y =
        rw (
          or-false (bad_layout y),
          or-false (no_level board y),
          or-false (wants board s y && not y.flags.wait_ok),
          or-false (wants board s y && y.flags.wait_ok),
        )
        (go (bad_layout y) (no_level board y) (wants board s y) y.flags.wait_ok)
      where
        go : (a b c d : Bool)
            → or_later (BadLayout when a) (or_later (NoLevel when b)
            (or_later (NoFrame when (c && not d)) (or_later (MustWait when (c && d)) none)))
            ≡ cond a (some BadLayout) (cond b (some NoLevel) (cond c (some (cond d MustWait NoFrame)) none))
        go true b c d = refl
        go false true c d = refl
        go false false true true = refl
        go false false true false = refl
        go false false false true = refl
        go false false false false = refl
