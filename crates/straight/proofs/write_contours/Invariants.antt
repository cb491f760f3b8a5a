-- The path has the points of the contours passed, as many as there is room for.
use Rattle.std.proofs.Common.{take}
use Rattle.straight.specs.Runs.{runs}
use Rattle.straight.proofs.PathSoFar.{PathSoFar}
use Rattle.straight.proofs.write_contours.Given as goal

abbrev pub invariant-loop-word : goal.invariant-loop-word
invariant-loop-word l = PathSoFar l.points (runs l.lengths (take l.word-index l.words)) l.fn.path l.path l.count
