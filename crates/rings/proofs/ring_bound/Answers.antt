-- `rings::ring_bound`: the code is the definition.
use Rattle.rules.specs.GridAndNearest.{bound}
use Rattle.rings.proofs.ring_bound.Goals as goal

pub returns : goal.returns
unfolding bound
returns c = rw c.from.ensures
