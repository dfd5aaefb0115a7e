-- What the calls that answer by bytes promise at the door, from what they promise of every store: `Reports` of the statistics, `Finds`,
-- `LendsIf` and `Lends` of a read.
use Prim.Native.Nat.{ℕ, ◌≤◌}
use mathlib.Core.List.{List, []}
use mathlib.Core.Path.{◌≡◌, refl, sym, ap, ◌∙◌}
use Rattle.std.specs.Prelude.{Result, Ok, Err, ⊤}
use Rattle.std.proofs.Math.Option.{some}
use native.Mathlib.Omega.{arith}
use lib.ListN.{drop, take}
use Rattle.definition.specs.declared.Counters.{Counters}
use Rattle.definition.specs.declared.Refusal.{Refusal}
use Rattle.definition.specs.Board.{Board}
use Rattle.definition.specs.Calls.{Call, Read, Stats}
use Rattle.definition.specs.World.{World, decode}
use Rattle.definition.specs.Torn.{call}
use Rattle.words.specs.Words.{board_in}
use Rattle.exam.specs.Making.{Tests, world}
use Rattle.exam.specs.Promise.{Answer, refusal_in, told}
use Rattle.exam.proofs.Making.{sound_whole}
use Rattle.copies.specs.Copies.{FindsIn}
use Rattle.copies.proofs.Reading.{refused_bytes}
use Rattle.counts.specs.declared.Report.{Report}
use Rattle.counts.specs.Counting.{Reports as Reported}
use Rattle.counts.proofs.Recounted.{stats_text}
use Rattle.door.specs.Tested.{Finds, Lends, LendsIf, Reports}
use Rattle.door.proofs.Testing.{leaves_passed, leaves_torn, passed}

module _ {k : Counters} {ws rs m q : List ℕ} where
  -- ---- torn

  module _ {r : Refusal} (T : Tests k ws rs m q (Err r)) where
    pub finds_torn : {a off len : ℕ} → Finds (board_in ws) (world k ws rs m q) (Read a off len) len (Err r)
    finds_torn {a} {off} {len} =
        let L = leaves_torn T (Read a off len) in
        record {
          world = L.world;
          answer = L.answer;
          inside = λ at e. absurd (grind arith);
          bytes = λ at e. absurd (grind arith);
        }

    pub reports_torn : Reports (board_in ws) (world k ws rs m q) (Err r)
    reports_torn =
        let L = leaves_torn T Stats in
        record { world = L.world; answer = L.answer; text = λ p e. absurd (grind arith); len_bound = λ p e. absurd (grind arith) }

  -- ---- passed

  module _ {u : ⊤} (T : Tests k ws rs m q (Ok u)) where
    pub finds_passed
        : {a off len : ℕ} {x : Result ℕ Refusal} → FindsIn ws rs a off len x
        → Finds (board_in ws) (world k ws rs m q) (Read a off len) len x
    unfolding call
    finds_passed {a} {off} {len} F =
        let P = passed T in
        let L = leaves_passed T {c = Read a off len} (F.makes k m q) in
        record {
          world = L.world;
          answer = L.answer;
          inside = λ at e. F.inside at e m P.ready.room;
          bytes = λ at e.
              let w = world k ws rs m q in
              F.bytes at e k m q (decode (board_in ws) w) (sound_whole w P.is_sound P.bytes) ∙ rw P.is_sound refl;
        }

    pub reports_passed : {p : Report} → Reported k p → p.len ≤ 368 → Reports (board_in ws) (world k ws rs m q) (Ok p)
    reports_passed {p} R h =
        let P = passed T in
        let L = leaves_passed T {c = Stats} (R.makes ws rs m q) in
        record {
          world = L.world;
          answer = L.answer;
          text = λ r e.
              let same : p ≡ r = cc in rw (← same, stats_text (board_in ws) (world k ws rs m q) P.is_sound) R.text;
          len_bound = λ r e. let same : p ≡ r = cc in rw (← same) h;
        }

-- ---- the part that is lent

told_err : (y : Answer) (r : Refusal) → some r ≡ refusal_in y → y ≡ Err r
told_err (Ok a) r e = absurd (grind arith)
told_err (Err t) r e = grind arith

module _ {board : Board} {w : World} {c : Call} where
  pub lends_part : {n at : ℕ} → Finds board w c n (Ok at) → LendsIf board w c (Ok (take n (drop at w.memory)))
  lends_part {n} {at} F =
      record {
        world = F.world;
        refusal = ap refusal_in (sym F.answer);
        bytes = λ bs e. let same : take n (drop at w.memory) ≡ bs = grind arith in sym same ∙ F.bytes at refl;
      }

  pub lends_all : {bs : List ℕ} → LendsIf board w c (Ok bs) → Lends board w c bs
  lends_all {bs} L = record { world = L.world; bytes = L.bytes bs refl }

  pub lends_none : {r : Refusal} → LendsIf board w c (Err r) → Lends board w c []
  lends_none {r} L =
      let y = (call board w c).answer in
      record { world = L.world; bytes = sym (refused_bytes y r (told_err (told y) r L.refusal)) }
