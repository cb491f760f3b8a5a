-- The end that comes first is a vertex of the contour.
use Rattle.std.proofs.Common.{arith}
use Rattle.start.specs.Agrees.{end_within}
use Rattle.start.proofs.orient.Goals as goal

pub point_at-end-requires : goal.point_at-end-requires
point_at-end-requires c = omega (arith, c.first_end-v.ensures, end_within c.args.reversed c.args.c.last)
