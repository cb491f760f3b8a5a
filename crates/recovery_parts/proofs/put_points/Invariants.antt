-- The vertices landed on before path point i have their points.
use Rattle.std.proofs.Common.{length}
use Rattle.contour_recovery.specs.ContourRecovery.{vertex_count}
use Rattle.recovery_parts.specs.PointPlaces.{PutTo}
use Rattle.recovery_parts.proofs.put_points.Given as goal

abbrev pub invariant-loop-i : goal.invariant-loop-i
invariant-loop-i l = record { put : PutTo l.path l.marks l.vertices (vertex_count l.marks l.vertices (length l.vertices)) l.initial.points l.i l.points }
