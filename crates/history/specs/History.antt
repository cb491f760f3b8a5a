-- The history in the lent slices: the path points, and chains of their places. Definitions only.
use Rattle.std.specs.Prelude.{List, map, ℕ, ◌+◌, ◌*◌, ◌≤◌, ◌<◌, Float, length, get_or, set}
use Rattle.std.specs.Float.{nan}
use Rattle.rules.specs.Limits.{most_cells}
use Rattle.rules.specs.Tools.{up_from}
use Rattle.rules.specs.HandedOver.{at}
use Rattle.rules.specs.GridAndNearest.{cell_of}
use Rattle.rules.specs.SamplesAndCache.{cell_number, cell_at}
use Rattle.rules.specs.declared.Point.{Point}
use Rattle.rules.specs.declared.SpatialGrid.{SpatialGrid}
use Rattle.plate_laws.specs.FiniteDistances.{OnPlate}
use Rattle.chains.specs.Chains as chains

-- the first n points of a path slice
unfoldable pub points : List Float → ℕ → List Point
points path n = map (at path) (up_from 0 n)

-- the slice with a point written at place k
abbrev pub appended : List Float → ℕ → Point → List Float
appended path k p = set (set path (2 * k) p.x) (2 * k + 1) p.y

-- ---- the chains

-- a cell's head, and the link of a path place
abbrev pub head_in : List ℕ → ℕ → ℕ
head_in work c = get_or work c 0

abbrev pub link_in : List ℕ → ℕ → ℕ
link_in work k = get_or work (most_cells + k) 0

-- the places below `count` are in the chains of their cells
abbrev pub ChainedPlaces : List ℕ → (ℕ → ℕ) → ℕ → Type 0
ChainedPlaces work cell count = chains.Chained (head_in work) (link_in work) most_cells cell count

-- place k, at which p is, links to its cell's head and becomes it
unfoldable pub inserted : SpatialGrid → List ℕ → ℕ → Point → List ℕ
inserted g work k p = let c = cell_number g (cell_of g p) in set (set work (most_cells + k) (head_in work c)) c (k + 1)

-- ---- what a query asks for

pub record Ready (g : SpatialGrid) (path : List Float) (work : List ℕ) (count : ℕ) : Type 0 where
  pub path_long : 2 * count ≤ length path
  pub work_long : most_cells + count ≤ length work
  pub coords : (k : ℕ) → k < 2 * count → OnPlate (get_or path k nan)
  pub chains : ChainedPlaces work (cell_at (at path) g) count
