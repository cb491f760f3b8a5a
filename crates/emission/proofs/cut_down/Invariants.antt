-- The cuts so far are written, and those that begin below v + i are left.
use Rattle.std.proofs.Common.{Ok}
use Rattle.path_points.specs.WriterCalls.{Writes}
use Rattle.emission.proofs.DrawnByCalls.{down_to_lem}
use Rattle.emission.proofs.cut_down.Given as goal

abbrev pub invariant-loop-i : goal.invariant-loop-i
invariant-loop-i l = Writes l.points.coordinates.now l.fn.writer l.writer (Ok tt) (down_to_lem l.v.0 l.n l.i)
