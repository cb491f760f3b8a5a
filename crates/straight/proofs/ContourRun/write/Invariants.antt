-- The points of the vertices passed are written.
use Rattle.std.proofs.Common.{length, take, ◌≡◌}
use Rattle.rules.specs.HandedOver.{over}
use Rattle.rules.specs.Marks.{coordinates}
use Rattle.straight.specs.Vertices.{vertices}
use Rattle.straight.proofs.ContourRun.write.Given as goal

abbrev pub invariant-loop-i : goal.invariant-loop-i
invariant-loop-i l = (length l.part ≡ length l.fn.part) × (l.part ≡ over (coordinates l.points (take l.i (vertices l.self))) l.fn.part)
