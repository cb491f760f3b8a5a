-- The struct tells what `told` says.
use Rattle.std.specs.Float.Ieee.{of_bits}
use Rattle.results.proofs.AnswerStructs.{distance_told}
use Rattle.results.proofs.distance_result.Goals as goal

pub returns : goal.returns
unfolding of_bits
returns c = rw c.told-number.ensures (distance_told _)
