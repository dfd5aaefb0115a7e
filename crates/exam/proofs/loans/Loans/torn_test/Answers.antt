-- The audit's answer is the sheet's, and what it accepts is what the calls ask for.
use Prim.Native.Nat.{ℕ}
use mathlib.Core.Path.{◌≡◌, refl, sym, ◌∙◌}
use native.Mathlib.Omega.{arith}
use Rattle.exam.proofs.Making.{sound_ready}
use Rattle.exam.proofs.loans.Loans.torn_test.Goals as goal

pub returns-then-not-audit : goal.returns-then-not-audit
returns-then-not-audit c =
    let a = c.args.self.now in
    let e = sym (c.audit.ensures a.memory.now a.queue.now refl refl) ∙ c.if-not-audit.true in
    record {
      result = rw e refl;
      torn = λ r k. (cc, e);
      passed = λ u k. absurd (let z : ◌≡◌ {A = ℕ} 0 1 = cc in omega arith);
    }

pub returns : goal.returns
returns c =
    let a = c.args.self.now in
    let e = sym (c.audit.ensures a.memory.now a.queue.now refl refl) ∙ c.if-not-audit.false in
    record {
      result = rw e refl;
      torn = λ r k. absurd (let z : ◌≡◌ {A = ℕ} 0 1 = cc in omega arith);
      passed = λ u k.
          record {
            is_sound = e;
            ready = sound_ready a.counters a.words.now a.records.now a.memory.now a.queue.now a.long e;
            bytes = c.are_bytes.ensures;
          };
    }
