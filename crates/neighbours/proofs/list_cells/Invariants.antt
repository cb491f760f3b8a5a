-- The invariant of `neighbours::list_cells`. Assumes nothing.
use Rattle.std.proofs.Common.{◌+◌}
use Rattle.rules.specs.SamplesAndCache.{listed_around}
use Rattle.samples.specs.Vertices.{vertex_from}
use Rattle.neighbours.proofs.ListFold.{Folding}
use Rattle.neighbours.proofs.list_cells.Given as goal

abbrev pub invariant-loop-i : goal.invariant-loop-i
invariant-loop-i l =
    Folding l.frame.layout l.turn (listed_around (vertex_from l.frame.points.now l.c.first.0) l.frame.grid.spatial) l.fn.work 0 0 (l.c.last + 1) l.work l.n l.i
