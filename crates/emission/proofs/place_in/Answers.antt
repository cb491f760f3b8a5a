-- `place_in` of each answer.
use Rattle.rules.specs.Retrace.{place_in}
use Rattle.emission.proofs.place_in.Goals as goal

pub returns-in-Nothing : goal.returns-in-Nothing
unfolding place_in
returns-in-Nothing c = rw c.in-Nothing.is

pub returns-in-Found : goal.returns-in-Found
unfolding place_in
returns-in-Found c = rw c.in-Found.is
