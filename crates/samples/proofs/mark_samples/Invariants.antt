-- The contours that are not left are marked.
use Rattle.contours.specs.ContoursLeft.{contours_left}
use Rattle.samples.proofs.ContourMarks.{SoFar}
use Rattle.samples.proofs.mark_samples.Given as goal

abbrev pub invariant-loop-c : goal.invariant-loop-c
invariant-loop-c l = record {
  can : (goal.iterator-loop-c).can_next l.c-iterator;
  ends : (goal.iterator-loop-c).is_finite l.c-iterator;
  marked : SoFar l.points l.resolution l.lengths l.owners (contours_left l.c-iterator);
}
