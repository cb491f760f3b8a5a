-- The walk along the contour so far.
use Rattle.samples.proofs.SampleWalk.{Walk}
use Rattle.samples.proofs.arc_length_sample_indices.Given as goal

abbrev pub invariant-loop-i : goal.invariant-loop-i
invariant-loop-i l = Walk l.points l.initial.owners l.owners l.resolution l.first l.last l.owner l.total l.i
