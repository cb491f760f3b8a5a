-- What holds before each contour enters, and that there are fewer and fewer.
use Prim.Native.Nat.{◌-◌}
use Rattle.joining.proofs.LoopByWriter.{LoopByWriter}
use Rattle.joining.proofs.join_waiting.Given as goal

abbrev pub invariant-loop-candidate : goal.invariant-loop-candidate
invariant-loop-candidate l = LoopByWriter l.frame l.layers l.fn.writer l.fn.distances l.turn l.writer l.distances

abbrev pub decreases-loop-candidate : goal.decreases-loop-candidate
decreases-loop-candidate l = l.frame.layout.contours - l.turn
