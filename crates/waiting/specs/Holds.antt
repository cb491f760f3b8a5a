-- How the slices hold the waiting contours of the definitions. Definitions only.
use Rattle.std.specs.Prelude.{◌≡◌, List, ℕ, suc, ◌+◌, ◌<◌, Float, get_or}
use Rattle.std.specs.Float.{nan}
use Rattle.rules.specs.HandedOver.{Plate}
use Rattle.rules.specs.SamplesAndCache.{Waiting, samples}
use Rattle.rules.specs.declared.SpatialGrid.{SpatialGrid}
use Rattle.work_layout.specs.Parts.{from}
use Rattle.work_layout.specs.declared.Layout.{Layout}
use Rattle.samples.specs.Owners.{OwnedBy}
use Rattle.samples.specs.Vertices.{vertex_from}

-- A waiting contour. Its entry is held as a vertex number of the whole slice; its cached place is in no slice, since nothing reads it.
pub record Holds (xs : List Float) (g : SpatialGrid) (lay : Layout) (ds : List Float) (w : List ℕ) (c : Waiting) : Type 0 where
  pub number : c.contour.number < lay.contours
  pub owned : OwnedBy xs g.cell_size (from w lay.owners) lay.points c.contour
  pub samples : c.samples ≡ samples (vertex_from xs c.contour.first) g c.contour.last
  pub waits : from w lay.waiting c.contour.number ≡ suc c.contour.last
  pub first : from w lay.firsts c.contour.number ≡ c.contour.first
  pub squared : get_or ds c.contour.number nan ≡ c.kept.squared
  pub entry : from w lay.entries c.contour.number ≡ c.contour.first + c.kept.entry

-- Where the slices held a waiting contour, they hold what f makes of it.
abbrev pub Changed : List Float → SpatialGrid → Layout → List Float → List ℕ → List Float → List ℕ → (Plate → Waiting → Waiting) → Type 0
Changed xs g lay ds w ds' w' f = (p : Plate) → p.points ≡ xs → (c : Waiting) → Holds xs g lay ds w c → Holds xs g lay ds' w' (f p c)
