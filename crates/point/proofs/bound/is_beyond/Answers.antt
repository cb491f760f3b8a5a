-- `point::bound::is_beyond` meets its contract.
use Rattle.point.specs.Bound.{point_beyond}
use Rattle.point.proofs.bound.is_beyond.Goals as goal

pub returns : goal.returns
unfolding point_beyond
returns c = c.is_sum_above.ensures
