-- What the torn test comes to for the call behind it. Torn, the world stays and the call is refused (`leaves_torn`); where the loans pass,
-- what the call makes of every store that they hold is definition's `call` of them (`leaves_passed`), and it has what it asks for.
use Prim.Native.Nat.{ℕ}
use mathlib.Core.List.{List}
use mathlib.Core.Path.{refl, ap}
use Rattle.std.specs.Prelude.{Ok, Err, ⊤}
use Rattle.definition.specs.declared.Counters.{Counters}
use Rattle.definition.specs.declared.Refusal.{Refusal}
use Rattle.definition.specs.Calls.{Call}
use Rattle.definition.specs.Torn.{Left}
use Rattle.definition.specs.World.{World}
use Rattle.words.specs.Words.{board_in}
use Rattle.world.proofs.Calling.{torn_call}
use Rattle.exam.specs.Making.{Makes, Passes, Tests, Ready, world}
use Rattle.exam.specs.Promise.{Answer, Leaves, told}
use Rattle.exam.proofs.Making.{leaves_made}

module _ {k : Counters} {ws rs m q : List ℕ} where
  pub leaves_torn
      : {r : Refusal} → Tests k ws rs m q (Err r) → (c : Call)
      → Leaves (board_in ws) (world k ws rs m q) c (world k ws rs m q) (Err r)
  leaves_torn {r} T c =
      let t = T.torn r refl in
      let e = torn_call (board_in ws) (world k ws rs m q) c t.1 in
      rw t.0 (record { world = ap (λ (x : Left). x.world) e; answer = ap (λ (x : Left). told x.answer) e })

  module _ {u : ⊤} (T : Tests k ws rs m q (Ok u)) where
    pub passed : Passes k ws rs m q
    passed = T.passed u refl

    pub ready : Ready k ws rs m q
    ready = passed.ready

    pub leaves_passed
        : {c : Call} {v : World} {y : Answer} → Makes (board_in ws) c (world k ws rs m q) v y
        → Leaves (board_in ws) (world k ws rs m q) c v y
    leaves_passed M = leaves_made passed.is_sound passed.bytes M
