-- `run_grid_c::has_room`: the two tests of the definition.
use borrow.Author.Tests.{lt-ltb, le-ltb}
use Rattle.run_grid_c.specs.Results.{has_room}
use Rattle.run_grid_c.proofs.has_room.Goals as goal

pub returns-then-n-gt0 : goal.returns-then-n-gt0
unfolding has_room
returns-then-n-gt0 c = rw (lt-ltb 0 _ c.if-n-gt0.true)

pub returns-else-n-gt0 : goal.returns-else-n-gt0
unfolding has_room
returns-else-n-gt0 c = rw (le-ltb 0 _ c.if-n-gt0.false)
