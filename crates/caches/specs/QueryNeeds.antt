-- What querying asks of the lent slices. Definitions only.
use Rattle.std.specs.Prelude.{List, ℕ, ◌+◌, ◌≤◌, Float}
use Rattle.rules.specs.Limits.{most_cells}
use Rattle.rules.specs.HandedOver.{at}
use Rattle.rules.specs.SamplesAndCache.{ask_path}
use Rattle.rules.specs.declared.Nearest.{Nearest}
use Rattle.rules.specs.declared.SpatialGrid.{SpatialGrid}
use Rattle.work_layout.specs.declared.Layout.{Layout}
use Rattle.prepare.specs.PreparedSlices.{Prepared}
use Rattle.history.specs.History.{points, Ready}

-- the samples are prepared, and the path of `count` points is ready: its chains lie before the other parts
pub record Querying (xs : List Float) (g : SpatialGrid) (lay : Layout) (ds : List Float) (w : List ℕ) (path : List Float) (count : ℕ) : Type 0 where
  pub prepared : Prepared xs g lay ds w
  pub ready : Ready g path w count
  pub apart : most_cells + count ≤ lay.flags

-- what the path answers for a vertex
abbrev pub asked : List Float → SpatialGrid → List Float → ℕ → ℕ → Nearest
asked xs g path count = ask_path (at xs) g (points path count)
