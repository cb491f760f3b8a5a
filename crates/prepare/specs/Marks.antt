-- The samples of all contours, marked in their part of the slice. Definitions only.
use Rattle.std.specs.Prelude.{ℕ, ◌≤◌, ◌<◌, List, Float}
use Rattle.rules.specs.HandedOver.{contours_from}
use Rattle.plate_laws.specs.Lists.{All}
use Rattle.work_layout.specs.Parts.{from, KeptBelow, KeptFrom}
use Rattle.work_layout.specs.declared.Layout.{Layout}
use Rattle.samples.specs.Owners.{OwnedBy}

-- s is the resolution; nothing but owners is altered
pub record MarkedPart (xs : List Float) (s : Float) (lengths : List ℕ) (lay : Layout) (w w' : List ℕ) : Type 0 where
  pub owned : All (OwnedBy xs s (from w' lay.owners) lay.points) (contours_from 0 0 lengths)
  pub most : (v : ℕ) → v < lay.points → from w' lay.owners v ≤ lay.contours
  pub below : KeptBelow lay.owners w w'
  pub above : KeptFrom lay.waiting w w'
