-- The invariant of `neighbours::list_square`: the square lies in the grid, and its rows are listed one by one. Assumes nothing.
use Rattle.neighbours.proofs.ListFold.{Folding}
use Rattle.std.proofs.Common.{◌+◌}
use Rattle.rules.specs.SamplesAndCache.{listed_row}
use Rattle.rings.specs.Squares.{square_of}
use Rattle.neighbours.proofs.Around.{RowsInGrid}
use Rattle.neighbours.proofs.list_square.Given as goal

abbrev pub invariant-loop-row : goal.invariant-loop-row
invariant-loop-row l =
    let s = square_of l.s in
    RowsInGrid l.lay.cells l.grid.spatial.cols s
    × Folding l.lay l.turn (listed_row l.grid.spatial s) l.fn.work l.count s.first_row (s.last_row + 1) l.work l.n l.row
