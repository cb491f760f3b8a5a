-- `point::bound::is_sum_above` meets its contract.
use lib.Ieee.{of_bits}
use Rattle.point.specs.Bound.{factor, sum_above}
use Rattle.point.proofs.bound.is_sum_above.Goals as goal

pub returns-then-under-square : goal.returns-then-under-square
unfolding of_bits factor sum_above
returns-then-under-square c = rw c.if-under-square.true

pub returns-else-under-square : goal.returns-else-under-square
unfolding of_bits factor sum_above
returns-else-under-square c = rw c.if-under-square.false
