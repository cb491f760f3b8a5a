-- The cuts so far are written.
use Rattle.std.proofs.Common.{Ok}
use Rattle.path_points.specs.WriterCalls.{Writes}
use Rattle.emission.proofs.DrawnByCalls.{up_to}
use Rattle.emission.proofs.cut_up.Given as goal

abbrev pub invariant-loop-i : goal.invariant-loop-i
invariant-loop-i l = Writes l.points.coordinates.now l.fn.writer l.writer (Ok tt) (up_to l.v.0 l.i)
