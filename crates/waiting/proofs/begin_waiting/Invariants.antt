-- The contours before j wait. Assumes nothing.
use Rattle.waiting.proofs.BeginningLaws.{BegunTo}
use Rattle.waiting.proofs.begin_waiting.Given as goal

abbrev pub invariant-loop-j : goal.invariant-loop-j
invariant-loop-j l = BegunTo l.lengths l.fn.lay l.fn.work l.work l.j
