-- The point at a vertex of the plate, put with its mark.
use Rattle.std.proofs.Common.{sym}
use Rattle.emission.proofs.cut.Goals as goal

pub returns-clause-adds : goal.returns-clause-adds
returns-clause-adds c = c.put.ensures.adds _ c.args.end.0 (sym c.point_at.ensures.point)
