-- The cell of every point is one of the grid's cells, and its number is below their number. Assumes nothing.
use Rattle.std.specs.Prelude.{ℕ, ◌+◌, ◌*◌, ◌≤◌, ◌<◌}
use Rattle.std.proofs.Common.{mul-le-mul, mul-le-mul_right, arith}
use Rattle.rules.specs.Limits.{most_cells}
use Rattle.rules.specs.GridAndNearest.{cell_of}
use Rattle.rules.specs.SamplesAndCache.{cell_number}
use Rattle.rules.specs.declared.Point.{Point}
use Rattle.rules.specs.declared.SpatialGrid.{SpatialGrid}
use Rattle.plate_laws.specs.Nearest.{col_in, row_in}
use Rattle.grid.specs.SaneGrid.{SaneGrid}

pub cells_most : (g : SpatialGrid) → SaneGrid g → g.cols * g.rows ≤ most_cells
cells_most g s = mul-le-mul s.cols_most s.rows_most

pub number_below : (g : SpatialGrid) → SaneGrid g → (col row : ℕ) → col < g.cols → row < g.rows →
    (row * g.cols + col < g.cols * g.rows) × (row * g.cols + col < most_cells)
number_below g s col row h k = let w = mul-le-mul_right g.cols k in (omega (arith, w), omega (arith, w, cells_most g s))

pub cell_inside : (g : SpatialGrid) → SaneGrid g → (p : Point) → ((cell_of g p).col < g.cols) × ((cell_of g p).row < g.rows)
cell_inside g s p = (omega (arith, col_in g p, s.cols_least), omega (arith, row_in g p, s.rows_least))

pub cell_number_below : (g : SpatialGrid) → SaneGrid g → (p : Point) →
    (cell_number g (cell_of g p) < g.cols * g.rows) × (cell_number g (cell_of g p) < most_cells)
unfolding cell_number
cell_number_below g s p = let i = cell_inside g s p in number_below g s (cell_of g p).col (cell_of g p).row i.0 i.1
