-- The slices hold the waiting contours of the definitions: exactly those that wait, in order. Definitions only.
use Rattle.std.specs.Prelude.{List, ℕ, Float}
use Rattle.rules.specs.SamplesAndCache.{Waiting}
use Rattle.rules.specs.declared.SpatialGrid.{SpatialGrid}
use Rattle.plate_laws.specs.Lists.{All}
use Rattle.work_layout.specs.Parts.{from}
use Rattle.work_layout.specs.declared.Layout.{Layout}
use Rattle.waiting.specs.Holds.{Holds}
use Rattle.waiting.specs.WaitingNumbers.{Lined}

pub record Lines (xs : List Float) (g : SpatialGrid) (lay : Layout) (ds : List Float) (w : List ℕ) (ws : List Waiting) : Type 0 where
  pub lined : Lined (from w lay.waiting) lay.contours ws
  pub held : All (Holds xs g lay ds w) ws
