-- The count for the path points before i.
use Rattle.std.proofs.Common.{◌≡◌}
use Rattle.contour_recovery.specs.ContourRecovery.{vertex_count}
use Rattle.recovery_parts.proofs.vertex_count.Given as goal

abbrev pub invariant-loop-i : goal.invariant-loop-i
invariant-loop-i l = l.count ≡ vertex_count l.marks l.vertices l.i
