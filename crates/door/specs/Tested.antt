-- What the calls that answer by bytes promise at the door, beside `Leaves`: `Finds`, `LendsIf` and `Lends` of a read, whose answer is a
-- part of the lent memory, and `Reports` of the statistics.
use Rattle.std.specs.Prelude.{ℕ, ◌+◌, ◌≤◌, List, Result, Ok, Err, ◌≡◌, length, take, drop}
use Rattle.std.proofs.Common.{Bor}
use Rattle.definition.specs.declared.Refusal.{Refusal}
use Rattle.definition.specs.Board.{Board}
use Rattle.definition.specs.Calls.{Call, Stats}
use Rattle.definition.specs.World.{World}
use Rattle.definition.specs.Torn.{call}
use Rattle.exam.specs.Promise.{Answer, refusal_in, reply, told}
use Rattle.copies.specs.Copies.{bytes_of, read_by}
use Rattle.counts.specs.Counting.{text_of}
use Rattle.counts.specs.declared.Report.{Report}

-- the bytes of a part that was lent
abbrev pub lent : Result (Bor (List ℕ)) Refusal → Result (List ℕ) Refusal
lent (Ok b) = Ok b.now
lent (Err r) = Err r

-- the answer of a report
abbrev pub told_by : Result Report Refusal → Answer
told_by (Ok p) = Ok (reply 0 p.len)
told_by (Err r) = Err r

module _ (board : Board) where
  -- the call leaves the world, and where it is accepted its bytes are the n from a place of the memory on
  pub record Finds (w : World) (c : Call) (n : ℕ) (x : Result ℕ Refusal) : Type 0 where
    pub world : (call board w c).world ≡ w
    pub answer : told (call board w c).answer ≡ read_by x n
    pub inside : (at : ℕ) → x ≡ Ok at → at + n ≤ length w.memory
    pub bytes : (at : ℕ) → x ≡ Ok at → take n (drop at w.memory) ≡ bytes_of (call board w c).answer

  -- the call leaves the world, and these are the bytes of its answer, or its refusal
  pub record LendsIf (w : World) (c : Call) (x : Result (List ℕ) Refusal) : Type 0 where
    pub world : (call board w c).world ≡ w
    pub refusal : refusal_in x ≡ refusal_in (told (call board w c).answer)
    pub bytes : (bs : List ℕ) → x ≡ Ok bs → bs ≡ bytes_of (call board w c).answer

  -- the call leaves the world, and bs are the bytes of its answer, none where it is refused
  pub record Lends (w : World) (c : Call) (bs : List ℕ) : Type 0 where
    pub world : (call board w c).world ≡ w
    pub bytes : bs ≡ bytes_of (call board w c).answer

  -- the statistics leave the world as it is, and the report has the length and the bytes of `call`'s answer, or they are refused as it
  pub record Reports (w : World) (x : Result Report Refusal) : Type 0 where
    pub world : (call board w Stats).world ≡ w
    pub answer : told (call board w Stats).answer ≡ told_by x
    pub text : (p : Report) → x ≡ Ok p → take p.len p.text ≡ text_of (call board w Stats).answer
    pub len_bound : (p : Report) → x ≡ Ok p → p.len ≤ 368
