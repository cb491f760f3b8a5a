-- The words of the first j contours and of their vertices are written.
use Rattle.std.proofs.Common.{◌≡◌, ◌++◌, take}
use Rattle.rules.specs.Tools.{sum}
use Rattle.path_check.specs.Labels.{LabelledTo}
use Rattle.path_check.proofs.label.Given as goal

abbrev pub invariant-loop-j : goal.invariant-loop-j
invariant-loop-j l = record { end : l.v ≡ sum (take l.j l.lengths); labelled : LabelledTo l.lengths l.total l.j (l.vertices ++ l.contours) }
