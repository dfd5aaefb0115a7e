-- Sane rows stand for an allocator: there is a table. So what holds for every allocator that a table stands for says something, and what such a law says of the rows
-- alone holds of sane rows.
use Prim.Native.Nat.{ℕ, zero, suc, ◌+◌, ◌-◌, ◌<◌}
use mathlib.Core.List.{List, [], ◌∷◌}
use mathlib.Core.Option.{Option, none}
use mathlib.Core.Path.{◌≡◌, refl, ap, ◌∙◌}
use native.Mathlib.Omega.{arith}
use lib.ListN.{length}
use Rattle.definition.specs.declared.Record.{Record}
use Rattle.definition.specs.declared.Row.{Row}
use Rattle.definition.specs.Board.{Board}
use Rattle.definition.specs.Frame.{Frame, Frames}
use Rattle.definition.specs.Allocator.{PhysicalFrameAllocator}
use Rattle.definition.specs.World.{decode_rows, frame_of, used_rows}
use Rattle.list.proofs.Laws.{all_map}
use Rattle.region.specs.Rep.{Inside, from_of, managed, state_of}
use Rattle.region.proofs.Laws.{dec_inside}
use Rattle.world.specs.Stands.{Disjoint, GoodRows, StandRows, base_at, row_at, shift}
use Rattle.world.specs.Stands.Disjoint.{disjoint_none, disjoint_more}
use Rattle.world.specs.Stands.GoodRows.{good_none, good_more}
use Rattle.world.specs.Stands.StandRows.{stand_none, stand_more}
use Rattle.world.specs.Tables.{Sane, Table}
use Rattle.world.proofs.Carrying.{shift_in}
use Rattle.world.proofs.Sheets.{each_at}

abbrev within : {A : Type 0} → Dec A → Option Frame → Option Frame → Option Frame
within (yes i) x y = x
within (no o) x y = y

module _ (board : Board) where
  -- the frame of a page frame number, in the first row that has it
  unfoldable frames_of : (ℕ → Record) → ℕ → List Row → Frames
  frames_of f base [] p = none
  frames_of f base (row ∷ rows) p =
      within (dec_inside {board = board} (from_of board row) row.pages p) (frame_of (f (base + (p - from_of board row)))) (frames_of f (base + managed board row.pages) rows p)

is_within : {A : Type 0} (d : Dec A) (x y : Option Frame) → A → within d x y ≡ x
is_within (yes i) x y a = refl
is_within (no o) x y a = absurd (o a)

not_within : {A : Type 0} (d : Dec A) (x y : Option Frame) → (A → ⊥) → within d x y ≡ y
not_within (yes i) x y n = absurd (n i)
not_within (no o) x y n = refl

module _ (board : Board) where
  -- the frames fs are those of the rows
  abbrev Framed : (ℕ → Record) → Frames → ℕ → List Row → Type 0
  Framed f fs base rows =
      (i q : ℕ) → i < length rows → Inside board (base_at board base rows i) (row_at rows i).pages q → fs (shift (from_of board (row_at rows i)) (base_at board base rows i) q) ≡ frame_of (f q)

module _ {board : Board} where
  framed : (f : ℕ → Record) (base : ℕ) (rows : List Row) → Disjoint board rows → Framed board f (frames_of board f base rows) base rows
  unfolding frames_of base_at
  framed f base [] disjoint_none i q h k = absurd (omega arith)
  framed f base (row ∷ rows) (disjoint_more d ds) zero q h k =
      let e : base + (shift (from_of board row) base q - from_of board row) ≡ q = omega (arith, k.low) in
      is_within (dec_inside {board = board} (from_of board row) row.pages (shift (from_of board row) base q)) _ _ (shift_in q k) ∙ ap (λ (p : ℕ). frame_of (f p)) e
  framed f base (row ∷ rows) (disjoint_more d ds) (suc i) q h k =
      let r = row_at rows i in
      let p = shift (from_of board r) (base_at board (base + managed board row.pages) rows i) q in
      not_within (dec_inside {board = board} (from_of board row) row.pages p) _ _ (λ j. each_at _ d i (omega arith) p j (shift_in q k))
      ∙ framed f (base + managed board row.pages) rows ds i q (omega arith) k

  rows_stand : {f : ℕ → Record} {n base : ℕ} {fs : Frames} {rows : List Row} → GoodRows board f n base rows → Framed board f fs base rows → StandRows board f n fs base rows (decode_rows board f base rows)
  unfolding decode_rows managed from_of state_of base_at
  rows_stand good_none F = stand_none
  rows_stand {f} (good_more {base = base} {row = row} G Gs) F =
      stand_more
      (record {
        sound = G.sound;
        aligned = G.aligned;
        start = refl;
        pages = refl;
        same = record { frames = λ q i. F 0 q (omega arith) i; free = λ k. refl; inside = λ k. all_map (λ q a. a.inside) (G.sound.listed k) };
      })
      (rows_stand Gs (λ i q h k. F (suc i) q (omega arith) k))

module _ (board : Board) where
  pub standing : (ℕ → Record) → List Row → PhysicalFrameAllocator
  standing f rows = record { frames = frames_of board f 0 (used_rows rows); regions = decode_rows board f 0 (used_rows rows) }

module _ {board : Board} where
  pub sane_table : {f : ℕ → Record} {n : ℕ} {rows : List Row} → Sane board f n rows → Table board f n rows (standing board f rows)
  unfolding standing decode_rows
  sane_table {f} {rows = rows} S = record { sane = S; stands = rows_stand S.good (framed f 0 (used_rows rows) S.apart) }
