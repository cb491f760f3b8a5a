-- `compare::lesser` meets its contract.
use Rattle.rules.specs.Tools.{lesser, pick}
use Rattle.compare.proofs.lesser.Goals as goal

pub returns-then-b-a : goal.returns-then-b-a
unfolding lesser pick
returns-then-b-a c = simp c.if-b-a.true

pub returns-else-b-a : goal.returns-else-b-a
unfolding lesser pick
returns-else-b-a c = simp c.if-b-a.false
