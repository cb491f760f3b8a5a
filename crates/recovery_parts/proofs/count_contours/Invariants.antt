-- The runs that end before vertex v are counted.
use Rattle.std.proofs.Common.{◌≡◌, ◌+◌, ◌-◌, ◌≤◌, length}
use Rattle.contour_recovery.specs.ContourRecovery.{runs}
use Rattle.recovery_parts.specs.Flags.{flagged, flagged_runs}
use Rattle.recovery_parts.proofs.count_contours.Given as goal

abbrev pub invariant-loop-v : goal.invariant-loop-v
invariant-loop-v l = record { few : l.count ≤ l.v; counted : length (flagged_runs l.flags) ≡ l.count + length (runs (flagged l.flags) l.v (length l.flags - l.v)) }
