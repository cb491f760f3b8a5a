-- The struct tells what `told` says.
use Rattle.results.proofs.AnswerStructs.{start_told}
use Rattle.results.proofs.start_result.Goals as goal

pub returns : goal.returns
returns c = rw (c.from.ensures, c.told-number.ensures) (start_told _)
