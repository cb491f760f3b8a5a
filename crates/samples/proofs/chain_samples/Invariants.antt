-- The samples from vertex v on are chained.
use Rattle.work_layout.specs.Parts.{from, KeptBelow, KeptFrom}
use Rattle.samples.specs.FrameSamples.{ChainedBy}
use Rattle.samples.proofs.chain_samples.Given as goal

abbrev pub invariant-loop-v : goal.invariant-loop-v
invariant-loop-v l =
    (ChainedBy l.frame (from l.fn.work l.frame.layout.owners) l.work l.v)
    × (KeptFrom l.frame.layout.owners l.fn.work l.work) × (KeptBelow l.frame.layout.heads l.fn.work l.work)
