-- `square_root::root_of_39_digits` meets its contract.
use Rattle.std.proofs.Common.{arith}
use Rattle.square_root.specs.Steps.{rest_fits, first_below, first_near}
use Rattle.square_root.proofs.root_of_39_digits.Goals as goal

pub overflow_mul-result-2 : goal.overflow_mul-result-2
overflow_mul-result-2 c = omega (arith, rest_fits c.requires.estimates)

pub returns-clause-below : goal.returns-clause-below
returns-clause-below c = first_below c.requires.estimates

pub returns-clause-near : goal.returns-clause-near
returns-clause-near c = first_near c.requires.estimates
