-- `run_grid_c::number_cells`: the cells of the vertices before v are written.
use Rattle.rules.specs.HandedOver.{at}
use Rattle.rules.specs.SamplesAndCache.{cell_at}
use Rattle.run_grid_c.proofs.WriteLoop.{WrittenBefore}
use Rattle.run_grid_c.proofs.number_cells.Given as goal

abbrev pub invariant-loop-v : goal.invariant-loop-v
invariant-loop-v l = WrittenBefore (cell_at (at l.points) l.g.spatial) l.n l.initial.cells l.cells l.v
