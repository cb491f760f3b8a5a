-- The invariant of `caches::seed_caches`. Assumes nothing.
use Rattle.caches.specs.FrameCaches.{asked_by}
use Rattle.caches.proofs.Sweeps.{Sweep}
use Rattle.caches.proofs.seed_caches.Given as goal

abbrev pub invariant-loop-v : goal.invariant-loop-v
invariant-loop-v l = Sweep l.frame.layout (asked_by l.frame l.path) l.fn.distances l.fn.work l.distances l.work l.v
