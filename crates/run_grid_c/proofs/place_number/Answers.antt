-- `run_grid_c::place_number`: the two ways of the definition.
use Rattle.std.proofs.Common.{arith}
use Rattle.run_grid_c.specs.Results.{place_number}
use Rattle.run_grid_c.proofs.place_number.Goals as goal

pub overflow_add-result : goal.overflow_add-result
unfolding place_number
overflow_add-result c = let most = rw c.in-Found.is at c.requires in omega (arith, most)

pub returns-in-Found : goal.returns-in-Found
unfolding place_number
returns-in-Found c = rw c.in-Found.is

pub returns-in-Nothing : goal.returns-in-Nothing
unfolding place_number
returns-in-Nothing c = rw c.in-Nothing.is
