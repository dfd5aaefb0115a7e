-- A change in one region leaves another.
use Prim.Native.Nat.{ℕ}
use mathlib.Core.Path.{◌≡◌, sym, ap, ◌∙◌}
use Rattle.definition.specs.Board.{Board}
use Rattle.definition.specs.Frame.{Levels}
use Rattle.definition.specs.World.{frame_of}
use Rattle.definition.specs.declared.Record.{Record}
use Rattle.definition.specs.declared.Row.{Row}
use Rattle.list.proofs.Laws.{all_map, linked_frame}
use Rattle.region.specs.Rep.{Becomes, Inside, Rep}

module _ {board : Board} where
  -- the state of the second region has the frames of the first, and lists of its own
  pub beside
      : {f g : ℕ → Record} {first first2 m : ℕ} {row r row2 : Row} {s t : Levels} → Becomes board f first row g m r t → Rep board f m first2 row2 s
      → ((q : ℕ) → Inside board first2 row2.pages q → Inside board first row.pages q → ⊥)
      → Rep board g m first2 row2 (record { frames = t.frames; free = s.free })
  beside {f} {g} {first2 = first2} {row2 = row2} {s = s} {t = t} B R apart =
      record {
        small = R.small;
        fits = R.fits;
        six = R.six;
        lists = λ k h. linked_frame (all_map (λ q a. B.outside q (apart q a.inside)) (R.listed k)) (R.lists k h);
        beyond = R.beyond;
        listed = λ k. all_map (λ q a. record { slotted = rw (framed q a.inside) a.slotted; inside = a.inside }) (R.listed k);
        framed = B.rep.framed;
        marks = λ q i. rw (framed q i, B.outside q (apart q i)) (R.marks q i);
        level = λ q i. rw (framed q i, B.outside q (apart q i)) (R.level q i);
        loose = λ q i o. rw (B.outside q (apart q i)) (R.loose q i o);
      }
    where
      framed : (q : ℕ) → Inside board first2 row2.pages q → t.frames q ≡ s.frames q
      framed q i =
          sym (B.rep.framed q) ∙ ap frame_of (B.outside q (apart q i)) ∙ R.framed q
