-- What a head says of the pages held, by its marks, and when it has to be alone.
use Rattle.std.proofs.Common.{◌≡◌, ℕ, Bool, true, false, arith, eq-eqb, ne_eqb, eqb-true}
use borrow.Author.Tests.{eqb-false}
use Rattle.definition.specs.declared.Record.{Record}
use Rattle.definition.specs.World.{kernel_bit, allocated_in, kernel_in}
use Rattle.definition.specs.Torn.{pages_of_record, held_as, alone_if_held}
use Rattle.scan.specs.Sheet.{alone}

module _ (r : Record) (m : ℕ) (e : m ≡ r.marks) where
  pub alone_free : allocated_in m ≡ false → alone_if_held r ≡ true
  alone_free h = rw (← e, h)

  pub alone_held : allocated_in m ≡ true → alone_if_held r ≡ alone r
  alone_held h = rw (← e, h)

  pub held_free : allocated_in m ≡ false → (kernel : Bool) → held_as kernel r ≡ 0
  held_free h kernel = rw (← e, h)

  module _ (h : allocated_in m ≡ true) where
    pub held_kernel : kernel_in m ≡ true → (held_as true r ≡ pages_of_record r) × (held_as false r ≡ 0)
    held_kernel k =
        let z = eqb-true (kernel_bit m) 1 k in
        (rw (← e, h, k), rw (← e, h, ne_eqb (kernel_bit m) 0 (omega arith)))

    pub held_page : kernel_in m ≡ false → (held_as true r ≡ 0) × (held_as false r ≡ pages_of_record r)
    held_page k =
        let z = eqb-false (kernel_bit m) 1 k in
        (rw (← e, h, k), rw (← e, h, eq-eqb (kernel_bit m) 0 (omega arith)))
