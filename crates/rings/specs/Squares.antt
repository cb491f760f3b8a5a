-- The code's squares as the definitions have them, and how their border is passed. Definitions only.
use Rattle.std.specs.Prelude.{◌||◌, ℕ, ◌-◌, ◌≤◌, ◌<◌, max, eqb}
use Rattle.rules.specs.Tools.{pick}
use Rattle.rules.specs.GridAndNearest as rules
use Rattle.rules.specs.declared.SpatialGrid.{SpatialGrid}
use Rattle.rings.specs.declared.RingSquare.{RingSquare}

unfoldable pub square_of : RingSquare → rules.Square
square_of s = record { first_col = s.first_col; last_col = s.last_col; first_row = s.first_row; last_row = s.last_row }

-- a square of cells of the grid
pub record Inside (g : SpatialGrid) (s : RingSquare) : Type 0 where
  pub wide : s.first_col ≤ s.last_col
  pub last_col : s.last_col < g.cols
  pub high : s.first_row ≤ s.last_row
  pub last_row : s.last_row < g.rows

-- in the first and the last row every cell is on the border, in the others the first and the last
unfoldable pub column_step : rules.Square → ℕ → ℕ
column_step s row = pick (eqb row s.first_row || eqb row s.last_row) 1 (max (s.last_col - s.first_col) 1)
