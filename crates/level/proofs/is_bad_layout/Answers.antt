-- `is_bad_layout` meets its contract, by the laws of powers of two.
use mathlib.Core.Bool.{false, true}
use mathlib.Core.Path.{◌≡◌, sym, ◌∙◌}
use Rattle.definition.specs.Calls.{is_power_of_two}
use Rattle.level.proofs.PowerOfTwo.{one_bit_is_power, power_within, size_over}
use Rattle.level.proofs.is_bad_layout.Goals as goal
use Rattle.level.proofs.is_bad_layout.Goals.{Else-not-is_power_of_two, Then-not-is_power_of_two}

power : (c : Else-not-is_power_of_two) → is_power_of_two c.args.align ≡ true
power c = sym (one_bit_is_power c.args.align c.ranges.align.fits) ∙ sym c.if-not-is_power_of_two.ensures

no_power : (c : Then-not-is_power_of_two) → is_power_of_two c.args.align ≡ false
no_power c = sym (one_bit_is_power c.args.align c.ranges.align.fits) ∙ sym c.if-not-is_power_of_two.ensures

pub overflow_sub-result : goal.overflow_sub-result
overflow_sub-result c = power_within c.args.align (power c)

pub returns-then-not-is_power_of_two : goal.returns-then-not-is_power_of_two
returns-then-not-is_power_of_two c = rw (c.if-not-is_power_of_two.true, no_power c)

pub returns-else-not-is_power_of_two : goal.returns-else-not-is_power_of_two
returns-else-not-is_power_of_two c = rw (power c, size_over c.args.size c.args.align (power c))
