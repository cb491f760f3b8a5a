-- The invariant of `prepare::reset_caches`. Assumes nothing.
use Rattle.prepare.proofs.Resets.{Resetting}
use Rattle.prepare.proofs.reset_caches.Given as goal

abbrev pub invariant-loop-j : goal.invariant-loop-j
invariant-loop-j l = Resetting l.lengths l.lay l.fn.distances l.fn.work l.distances l.work l.first l.j
