-- A grid is sane in one way.
use Rattle.std.specs.Coded.{le_prop}
use Rattle.std.specs.Float.Ieee.Positive.{positive}
use lib.Dec.{T_prop}
use Rattle.rules.specs.declared.SpatialGrid.{SpatialGrid}
use Rattle.grid.specs.SaneGrid.{SaneGrid}

pub sane_prop : (g : SpatialGrid) → IsProp (SaneGrid g)
sane_prop g a b =
    λ i. record {
      cols_least = le_prop a.cols_least b.cols_least i;
      cols_most = le_prop a.cols_most b.cols_most i;
      rows_least = le_prop a.rows_least b.rows_least i;
      rows_most = le_prop a.rows_most b.rows_most i;
      size = T_prop (positive g.cell_size) a.size b.size i;
      inverse = T_prop (positive g.inv_cell_size) a.inverse b.inverse i;
    }
