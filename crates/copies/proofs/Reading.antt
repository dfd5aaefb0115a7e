-- A read leaves the world as it was, and answers with the refusal of the frame or with the part of the loan that starts at the frame's
-- offset: `finds_refused` and `finds_place` are what `read_place` promises of every memory.
use Prim.Native.Nat.{ℕ, ◌+◌, ◌*◌, ◌/◌, ◌<◌, ◌^◌}
use mathlib.Core.List.{List, []}
use mathlib.Core.Option.{none}
use mathlib.Core.Path.{◌≡◌, refl, sym, ap, ◌∙◌}
use Rattle.std.specs.Prelude.{Result, Ok, Err}
use Rattle.std.proofs.Math.Logic.{∥∥₁_elim}
use Rattle.std.proofs.Props.{props}
use native.Mathlib.Omega.{arith}
use lib.ListN.{length, take, drop}
use Rattle.definition.proofs.Boards.{page_most}
use Rattle.definition.proofs.Bytes.{aligned_is, pages_order}
use Rattle.definition.specs.declared.Refusal.{Refusal}
use Rattle.definition.specs.Board.{Board}
use Rattle.definition.specs.Contents.{bytes_at}
use Rattle.definition.specs.Calls.{Answer as AnswerOf, Bytes, Done, Outcome, Read, Refused, Text, answer_number, perform, step, tells}
use Rattle.definition.specs.Store.{Store}
use Rattle.definition.specs.World.{World, record_at}
use Rattle.record.specs.Records.{pages_in}
use Rattle.words.specs.Words.{board_in}
use Rattle.words.proofs.Words.{fit_in}
use Rattle.world.specs.Refusals.{number_if, refusal_of}
use Rattle.world.proofs.Refusing.{one_frame}
use Rattle.world.proofs.Writing.{bytes_length}
use Rattle.allocator.specs.declared.Seen.{Seen}
use Rattle.allocator.specs.Spots.{SaneIn}
use Rattle.exam.specs.Making.{LooksIn, Made, Whole}
use Rattle.exam.specs.Promise.{Looks, refusal_in, reply, told}
use Rattle.exam.proofs.Making.{looked_free, looked_number, looked_refused, made_same}
use Rattle.ranges.proofs.Held.{held_ends, held_read}
use Rattle.copies.specs.Copies.{FindsIn, bytes_of}

-- ---- an answer's number and bytes, by what is told of it

pub told_number : (y : AnswerOf) → number_if (refusal_in (told y)) ≡ answer_number y
told_number (Refused r) = refl
told_number (Done a n) = refl
told_number (Text t) = refl
told_number (Bytes t) = refl

pub refused_bytes : (y : AnswerOf) (r : Refusal) → told y ≡ Err r → bytes_of y ≡ []
refused_bytes (Refused t) r e = refl
refused_bytes (Done a n) r e = refl
refused_bytes (Text t) r e = refl
refused_bytes (Bytes t) r e = absurd (grind arith)

-- ---- in a world that holds a store

module _ {board : Board} {w : World} {s : Store} (W : Whole board w s) where
  abbrev LooksAt : (a off len : ℕ) → Result Seen Refusal → Type 0
  LooksAt a off len x = Looks board (record_at w.records) (pages_in w.records) w.rows a off len x

  read_refused : {a off len : ℕ} {r : Refusal} → LooksAt a off len (Err r) → Made board (step board s (Read a off len)) w w (Err r)
  read_refused {a} {off} {len} {r} L = looked_refused W L (Read a off len) (one_frame board s a off len) r refl

  module _ {a off len : ℕ} {r : Seen} (L : LooksAt a off len (Ok r)) where
    abbrev at : ℕ
    at = board.page * r.spot.page + off

    bytes_are : bytes_at s.memory (a + off) len ≡ take len (drop at w.memory)
    bytes_are =
        let F = L.found r refl in
        let e : board.page * (a / board.page) + off ≡ a + off = omega (arith, aligned_is board.page a F.edge) in
        rw e at (held_read W F.held (looked_number W L r refl) off len F.range)

    as_many : length (take len (drop at w.memory)) ≡ len
    as_many = sym (ap (λ (xs : List ℕ). length xs) bytes_are) ∙ bytes_length s.memory (a + off) len

    performed : perform board s (Read a off len) ≡ tells s (Bytes (take len (drop at w.memory)))
    unfolding perform
    performed = rw bytes_are refl

    free : refusal_of board s (Read a off len) ≡ none
    free = one_frame board s a off len ∙ looked_free W L r refl

    stepped : step board s (Read a off len) ≡ tells s (Bytes (take len (drop at w.memory)))
    unfolding step
    stepped = rw free performed

    read_made : Made board (step board s (Read a off len)) w w (Ok (reply 0 len))
    read_made = rw as_many at (made_same W (Read a off len) (tells s (Bytes (take len (drop at w.memory)))) free performed refl)

    read_bytes : take len (drop at w.memory) ≡ bytes_of (step board s (Read a off len)).answer
    read_bytes = sym (ap (λ (o : Outcome). bytes_of o.answer) stepped)

-- ---- by the loans

module _ (ws rs : List ℕ) {a off len : ℕ} where
  pub finds_refused : {r : Refusal} → LooksIn ws rs a off len (Err r) → FindsIn ws rs a off len (Err r)
  finds_refused L =
      record {
        makes = λ k m q s W. read_refused W L;
        inside = λ at e. absurd (grind arith);
        bytes = λ at e. absurd (grind arith);
      }

  module _ {r : Seen} (T : ∥ SaneIn rs ws ∥₁) (L : LooksIn ws rs a off len (Ok r)) where
    abbrev stands : ℕ
    stands = (board_in ws).page * r.spot.page + off

    pub finds_place : FindsIn ws rs a off len (Ok stands)
    finds_place =
        let F = L.found r refl in
        record {
          makes = λ k m q s W. read_made W L;
          inside = λ at e m room.
              let same : stands ≡ at = grind arith in
              rw (← same) (∥∥₁_elim T (hlevel props) (λ S. omega (arith, held_ends F.held S off len F.range, room)));
          bytes = λ at e k m q s W. let same : stands ≡ at = grind arith in rw (← same) (read_bytes W L);
        }

    -- the place is a number of 64 bits, whatever the memory: there are not so many pages
    pub place_small : stands < 2 ^ 64
    place_small =
        let b = board_in ws in
        let F = L.found r refl in
        ∥∥₁_elim T (hlevel props) (λ S. omega (arith, held_ends F.held S off len F.range, pages_order b.page S.most, page_most (fit_in ws)))
