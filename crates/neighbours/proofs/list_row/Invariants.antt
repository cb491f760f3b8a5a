-- The invariant of `neighbours::list_row`. Assumes nothing.
use Rattle.rules.specs.SamplesAndCache.{listed}
use Rattle.neighbours.proofs.ListFold.{Folding}
use Rattle.neighbours.proofs.list_row.Given as goal

abbrev pub invariant-loop-cell : goal.invariant-loop-cell
invariant-loop-cell l = Folding l.lay l.turn listed l.fn.work l.count l.start l.end l.work l.n l.cell
