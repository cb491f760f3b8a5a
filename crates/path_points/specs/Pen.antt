-- What the functions that write path points ask of the lent slices and keep, and what they add. Definitions only.
use Rattle.std.specs.Prelude.{List, ℕ, ◌+◌, ◌*◌, ◌≤◌, Float, length}
use Rattle.rules.specs.Limits.{most_cells, most_path_points}
use Rattle.rules.specs.Marks.{Step}
use Rattle.rules.specs.declared.SpatialGrid.{SpatialGrid}
use Rattle.grid.specs.SaneGrid.{SaneGrid}
use Rattle.history.specs.History.{Ready}
use Rattle.path_points.specs.Wrote.{Wrote}

-- there is room for so many points in the slices, and the history is that of the points written
pub record Pen (g : SpatialGrid) (room count : ℕ) (path : List Float) (ms work : List ℕ) : Type 0 where
  pub sane : SaneGrid g
  pub small : room ≤ most_path_points
  pub most : count ≤ room + 1
  pub path_room : 2 * room ≤ length path
  pub marks_room : 2 * room ≤ length ms
  pub work_room : most_cells + room ≤ length work
  pub ready : count ≤ room → Ready g path work count

-- whatever steps the slices hold before, they hold f of them after
abbrev pub Grows : List Float → ℕ → ℕ → ℕ → List Float → List Float → List ℕ → List ℕ → (List Step → List Step) → Type 0
Grows xs room count count' path path' ms ms' f =
    (steps : List Step) (was : List Float) (marked : List ℕ) → Wrote xs steps room count was path marked ms →
    Wrote xs (f steps) room count' was path' marked ms'
