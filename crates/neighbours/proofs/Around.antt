-- The cells within 1 of a cell, row by row, and those within 1 of a contour's points. Assumes nothing.
use mathlib.Core.Path.{◌≡◌, ◌∙◌}
use mathlib.Core.List.{List}
use Prim.Native.Nat.{ℕ, suc, ◌+◌, ◌-◌, ◌*◌, ◌≤◌, ◌<◌}
use native.Mathlib.Omega.{arith}
use lib.Ieee.{Float}
use Rattle.rules.specs.Tools.{foldl, up_from}
use Rattle.rules.specs.HandedOver.{at}
use Rattle.rules.specs.GridAndNearest.{cell_of, Square, square}
use Rattle.rules.specs.SamplesAndCache.{listed, listed_row, listed_square, listed_around, cells_around}
use Rattle.rules.specs.declared.Point.{Point}
use Rattle.rules.specs.declared.SpatialGrid.{SpatialGrid}
use Rattle.work_layout.specs.declared.Layout.{Layout}
use Rattle.grid.specs.declared.GridCell.{GridCell}
use Rattle.samples.specs.Vertices.{vertex_from}
use Rattle.neighbours.specs.CellList.{list_of, Lists}

-- what is listed, said in another way
lists_as : {lay : Layout} {turn : ℕ} {w : List ℕ} {n : ℕ} {w' : List ℕ} {n' : ℕ} (f f' : List ℕ → List ℕ) → f (list_of lay w n) ≡ f' (list_of lay w n) →
    Lists lay turn w n w' n' f → Lists lay turn w n w' n' f'
lists_as f f' e h = record { listing = h.listing; list = h.list ∙ e; below = h.below; above = h.above }

-- a square that lies in a grid of so many cells
pub record RowsInGrid (cells cols : ℕ) (s : Square) : Type 0 where
  pub columns : s.first_col ≤ s.last_col
  pub wide : s.last_col < cols
  pub rows : s.first_row ≤ s.last_row
  pub high : (s.last_row + 1) * cols ≤ cells

module _ {lay : Layout} {turn : ℕ} {w : List ℕ} {n : ℕ} {w' : List ℕ} {n' : ℕ} where
  pub row_lists : (g : SpatialGrid) (s : Square) (row : ℕ) →
      Lists lay turn w n w' n' (λ cs. foldl listed cs (up_from (row * g.cols + s.first_col) (row * g.cols + s.last_col + 1 - (row * g.cols + s.first_col)))) →
      Lists lay turn w n w' n' (λ cs. listed_row g s cs row)
  unfolding listed_row
  row_lists g s row h =
      let e : row * g.cols + s.last_col + 1 - (row * g.cols + s.first_col) ≡ s.last_col + 1 - s.first_col = omega arith in
      lists_as _ _ (rw e) h

  pub square_lists : (g : SpatialGrid) (s s' : Square) → s ≡ s' →
      Lists lay turn w n w' n' (λ cs. foldl (listed_row g s) cs (up_from s.first_row (s.last_row + 1 - s.first_row))) →
      Lists lay turn w n w' n' (λ cs. listed_square g cs s')
  unfolding listed_square
  square_lists g s s' e h = lists_as _ _ (rw e) h

  -- the cell c of the point p of vertex v, which is vertex i of its contour
  pub around_lists : (xs : List Float) (g : SpatialGrid) (first i v : ℕ) (p : Point) (c : GridCell) → v ≡ first + i → p ≡ at xs v →
      c.col ≡ (cell_of g p).col → c.row ≡ (cell_of g p).row →
      Lists lay turn w n w' n' (λ cs. listed_square g cs (square g (record { col = c.col; row = c.row }) 1)) →
      Lists lay turn w n w' n' (λ cs. listed_around (vertex_from xs first) g cs i)
  unfolding listed_around vertex_from
  around_lists xs g first i v p c ev ep ec er h = lists_as _ _ (rw (ec, er, ep, ev)) h

-- all points of a contour, from an empty list
pub contour_lists : (lay : Layout) (turn : ℕ) (w w' : List ℕ) (n : ℕ) (xs : List Float) (g : SpatialGrid) (first last : ℕ) →
    Lists lay turn w 0 w' n (λ cs. foldl (listed_around (vertex_from xs first) g) cs (up_from 0 (last + 1 - 0))) →
    Lists lay turn w 0 w' n (λ _. cells_around (vertex_from xs first) g last)
unfolding cells_around list_of
contour_lists lay turn w w' n xs g first last h =
    let e : last + 1 - 0 ≡ suc last = omega arith in
    lists_as _ _ (rw e) h
