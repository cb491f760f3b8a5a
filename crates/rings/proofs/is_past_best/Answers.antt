-- `rings::is_past_best`: the three ways of the definition.
use borrow.Author.Tests.{le-leb, lt-leb}
use Rattle.rules.specs.GridAndNearest.{beyond}
use Rattle.rings.proofs.is_past_best.Goals as goal

pub returns-in_default : goal.returns-in_default
unfolding beyond
returns-in_default c = rw c.in_default.is

pub returns-then-ring-ge2 : goal.returns-then-ring-ge2
unfolding beyond
returns-then-ring-ge2 c = rw (c.in-Found.is, le-leb 2 _ c.if-ring-ge2.true, c.ring_bound.ensures)

pub returns-else-ring-ge2 : goal.returns-else-ring-ge2
unfolding beyond
returns-else-ring-ge2 c = rw (c.in-Found.is, lt-leb 2 _ c.if-ring-ge2.false)
