-- A grid of 2 to 54 columns and rows, whose cell size and its reciprocal are finite and above 0. Definitions only.
use Rattle.std.specs.Prelude.{◌≤◌, T}
use Rattle.std.specs.Float.Ieee.Positive.{positive}
use Rattle.rules.specs.Limits.{most_cells_along}
use Rattle.rules.specs.declared.SpatialGrid.{SpatialGrid}

pub record SaneGrid (g : SpatialGrid) : Type 0 where
  pub cols_least : 2 ≤ g.cols
  pub cols_most : g.cols ≤ most_cells_along
  pub rows_least : 2 ≤ g.rows
  pub rows_most : g.rows ≤ most_cells_along
  pub size : T (positive g.cell_size)
  pub inverse : T (positive g.inv_cell_size)
