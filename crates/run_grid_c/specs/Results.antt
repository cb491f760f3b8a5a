-- What the exported parts answer and write. A plate has a grid where refusals 1 to 4 let it pass and it has a point. Definitions only.
use Rattle.std.specs.Prelude.{Bool, false, ◌&&◌, List, map, ℕ, ◌+◌, ltb, leb, pos, Float}
use Rattle.std.specs.Float.{fin}
use Rattle.rules.specs.Limits.{most_cells}
use Rattle.rules.specs.Tools.{sum, up_from}
use Rattle.rules.specs.HandedOver.{at, Answer, gives, refuses, refused_by, contour_rows, over}
use Rattle.rules.specs.SamplesAndCache.{ask_path}
use Rattle.rules.specs.declared.Nearest.{Nearest}
use Rattle.rules.specs.declared.Nearest.TheVariants.{Found, Nothing}
use Rattle.rules.specs.declared.Point.{Point}
use Rattle.rules.specs.declared.SpatialGrid.{SpatialGrid}
use Rattle.history.specs.History.{points}
use Rattle.run_grid_c.specs.declared.GridResult.{GridResult}
use Rattle.run_grid_c.specs.declared.CenterResult.{CenterResult}

-- P where refusals 1 to 4 let the plate pass, else 0
unfoldable pub given : Answer ℕ → ℕ
given (gives n) = n
given (refuses number place) = 0

unfoldable pub accepted : List Float → List ℕ → ℕ
accepted xs ns = given (refused_by (contour_rows xs ns) (gives (sum ns)))

-- ---- the grid

-- its numbers, and those where there is none
unfoldable pub grid_result : SpatialGrid → GridResult
grid_result g =
    record {
      cell_size = g.cell_size;
      inv_cell_size = g.inv_cell_size;
      origin_x = g.origin_x;
      origin_y = g.origin_y;
      cols = g.cols;
      rows = g.rows;
    }

abbrev zero64 : Float
zero64 = fin false 0 (pos 0)

unfoldable pub no_grid : GridResult
no_grid = record { cell_size = zero64; inv_cell_size = zero64; origin_x = zero64; origin_y = zero64; cols = 0; rows = 0 }

-- ---- the centre

unfoldable pub center_result : Point → CenterResult
center_result p = record { x = p.x; y = p.y }

-- ---- slices

-- a plate of n points has a grid, and a slice has room for a number for each point
unfoldable pub has_room : ℕ → ℕ → Bool
has_room n room = ltb 0 n && leb n room

-- f of each of n vertices, written over the start of a slice
unfoldable pub written : {A : Type 0} → (ℕ → A) → ℕ → List A → List A
written f n slice = over (map f (up_from 0 n)) slice

-- ---- the nearest of the first `count` points

-- a query's answer as two numbers: one more than the place, and the squared distance; zeros for Nothing
unfoldable pub place_number : Nearest → ℕ
place_number (Found k d) = k.0 + 1
place_number Nothing = 0

unfoldable pub squared_number : Nearest → Float
squared_number (Found k d) = d
squared_number Nothing = zero64

-- what the path answers for a vertex
unfoldable pub ask : SpatialGrid → List Float → ℕ → ℕ → Nearest
ask g xs count = ask_path (at xs) g (points xs count)

-- the lengths of the slices: `work` holds the heads of 2,916 cells and a link for each of the first `count` points
unfoldable pub has_query_room : ℕ → ℕ → ℕ → ℕ → ℕ → Bool
has_query_room n count work places squared = has_room n places && leb n squared && leb count n && leb (most_cells + count) work
