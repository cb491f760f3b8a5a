-- `compare::greater` meets its contract.
use Rattle.rules.specs.Tools.{greater, pick}
use Rattle.compare.proofs.greater.Goals as goal

pub returns-then-a-b : goal.returns-then-a-b
unfolding greater pick
returns-then-a-b c = simp c.if-a-b.true

pub returns-else-a-b : goal.returns-else-a-b
unfolding greater pick
returns-else-a-b c = simp c.if-a-b.false
