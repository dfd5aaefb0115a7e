-- Laws of the count: bytes compared, one case more, and the end of the file.
use Prim.Native.Nat.{ℕ, ◌+◌, ◌-◌, ◌≤◌}
use mathlib.Core.Bool.{Bool, true, false, not, ◌&&◌}
use mathlib.Core.List.{List, [], ◌∷◌, ◌++◌}
use mathlib.Core.Path.{◌≡◌, refl, ap, sym, ◌∙◌}
use native.Mathlib.Omega.{arith}
use lib.Dec.{eqb}
use lib.ListN.{length, take, drop}
use lib.Seq.{take-add, take_at}
use Rattle.std.specs.Prelude.{Some}
use Rattle.std.specs.Str.{bytes_eq}
use Rattle.definition.specs.Basics.{bit}
use Rattle.definition.specs.Script.{room, same_bytes}
use Rattle.program.specs.Once.{RanOnce, printed}
use Rattle.vectors.specs.declared.Places.{Places}
use Rattle.vectors.specs.declared.Tally.{Tally}
use Rattle.vectors.specs.Framing.{framed, framed_all, agrees, case_at, counted, Frames, Seen}
use Rattle.vectors.proofs.Framing.{front}

-- ---- bytes compared

pub same_is : (a b : List ℕ) → bytes_eq a b ≡ same_bytes a b
unfolding same_bytes
same_is [] [] = refl
same_is [] (y ∷ b) = refl
same_is (x ∷ a) [] = refl
same_is (x ∷ a) (y ∷ b) = ap (λ t. eqb x y && t) (same_is a b)

-- what a run left at the front of its answers
pub answered : {script out out' : List ℕ} {n : ℕ} → RanOnce script out out' (Some n) → room script ≤ length out
    → take n out' ≡ printed script
answered {script} {out} {out'} {n} ran h =
    let long : length (printed script) ≡ n = cc (ran.written h) in
    rw (ran.text h) (take_at (printed script) (drop (length (printed script)) out) n long)

-- ---- one case more

pub seen_more : {file : List ℕ} {t : Tally} {p : Places} (same : Bool) → Seen file t → Frames file t.at p → same ≡ agrees (case_at file p)
    → Seen file (counted t p.lines p.next same)
seen_more {file} {t} {p} same s f e =
    record {
      replayed =
          record {
            cases = case_at file p ∷ s.replayed.cases;
            bytes = whole;
            scripts = omega (arith, s.replayed.scripts);
            lines = omega (arith, s.replayed.lines, f.lines);
            differ = rw (s.replayed.differ, e) refl;
          };
      within = f.within;
      scripts = omega (arith, s.scripts, f.after);
      lines = omega (arith, s.lines, f.few);
      differ = small same;
    }
  where
    small : (b : Bool) → t.differ + bit (not b) ≤ t.scripts + 1
    small true = omega (arith, s.differ)
    small false = omega (arith, s.differ)

    whole : take p.next file ≡ framed_all s.replayed.cases ++ framed (case_at file p)
    whole =
        let k : t.at + (p.next - t.at) ≡ p.next = omega (arith, f.after) in
        ap (λ n. take n file) (sym k)
        ∙ (take-add t.at (p.next - t.at) file
        ∙ rw (s.replayed.bytes, front file (framed (case_at file p)) t.at p.next (omega (arith, f.after)) f.within f.bytes) refl)
