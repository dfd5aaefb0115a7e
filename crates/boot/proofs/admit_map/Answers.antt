-- `admit_map` meets its contract: a long map is refused by its length alone, and a shorter one is in the array, all of it.
use Prim.Native.Nat.{ℕ}
use mathlib.Core.Bool.{false}
use mathlib.Core.Path.{◌≡◌, sym, ap, ◌∙◌}
use native.Mathlib.Omega.{arith}
use lib.ListN.{take}
use Rattle.std.proofs.lemmas.Result.{err_from_is_err_and}
use Rattle.definition.specs.Basics.{any}
use Rattle.definition.specs.Boot.{ends_far}
use Rattle.exam.specs.Promise.{refusal_in}
use Rattle.boot.proofs.Refusing.{given_far, given_long, given_used}
use Rattle.boot.proofs.KeptRows.{all_booted, kept_front}
use Rattle.boot.proofs.admit_map.Goals as goal
use Rattle.boot.proofs.admit_map.Goals.{Else-any_far}

pub returns-then-map-gt8 : goal.returns-then-map-gt8
returns-then-map-gt8 c =
    record {
      refusal = λ ms M. given_long M c.args.board c.args.records c.args.memory c.if-map-gt8.true;
      kept = λ k e. absurd (let n : ◌≡◌ {A = ℕ} 0 1 = cc in omega arith);
    }

pub returns-then-any_far : goal.returns-then-any_far
returns-then-any_far c =
    let a = c.args in
    record {
      refusal = λ ms M. given_far M (omega arith) a.board a.records a.memory (sym c.any_far.ensures ∙ c.if-any_far.true);
      kept = λ k e. absurd (let n : ◌≡◌ {A = ℕ} 0 1 = cc in omega arith);
    }

near : (c : Else-any_far) → any ends_far (take c.args.map.now.count c.args.map.now.map) ≡ false
near c = sym c.any_far.ensures ∙ c.if-any_far.false

pub admit_rows-requires-clause-booted : goal.admit_rows-requires-clause-booted
admit_rows-requires-clause-booted c =
    let n = near (goal.at.admit_rows-requires-clause-booted c).Else-any_far in
    let ms = take c.args.map.now.count c.args.map.now.map in
    let k = c.kept_rows-kept in
    rw (kept_front c.requires ms n k.result k.ensures.keeps) (all_booted c.requires ms n)

pub returns-in_err-admit_rows : goal.returns-in_err-admit_rows
returns-in_err-admit_rows c =
    let a = c.args in
    let k = c.kept_rows-kept in
    let n = near (goal.at.returns-in_err-admit_rows c).Else-any_far in
    let p = err_from_is_err_and c.from_residual.result c.from_residual.ensures.1 in
    rw (p.1, p.2) record {
      refusal = λ ms M.
          ap refusal_in c.in_err-admit_rows.ensures
          ∙ given_used M (omega arith) k.result k.ensures.keeps c.requires n a.records a.memory;
      kept = λ x e. absurd (let z : ◌≡◌ {A = ℕ} 0 1 = cc in omega arith);
    }

pub returns : goal.returns
returns c =
    let a = c.args in
    let k = c.kept_rows-kept in
    let n = near (goal.at.returns c).Else-any_far in
    record {
      refusal = λ ms M.
          ap refusal_in c.in_ok-admit_rows.ensures
          ∙ given_used M (omega arith) k.result k.ensures.keeps c.requires n a.records a.memory;
      kept = λ x e.
          let same : k.result ≡ x = cc in
          rw (← same) record { few = omega arith; near = n; keeps = k.ensures.keeps; room = k.ensures.room };
    }
