-- `run_grid_c::squared_number`: the two ways of the definition.
use lib.Ieee.{of_bits}
use Rattle.run_grid_c.specs.Results.{squared_number}
use Rattle.run_grid_c.proofs.squared_number.Goals as goal

pub returns-in-Found : goal.returns-in-Found
unfolding squared_number
returns-in-Found c = rw c.in-Found.is

pub returns-in-Nothing : goal.returns-in-Nothing
unfolding squared_number of_bits
returns-in-Nothing c = rw c.in-Nothing.is
