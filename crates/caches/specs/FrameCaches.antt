-- What querying asks of the lent slices, and what it leaves there, of a frame and of the path so far, a slice that ends with the path. Definitions only.
use Rattle.std.specs.Prelude.{List, ℕ, ◌/◌, Float, length}
use Rattle.rules.specs.HandedOver.{at}
use Rattle.rules.specs.SamplesAndCache.{cell_at}
use Rattle.rules.specs.declared.Nearest.{Nearest}
use Rattle.work_layout.specs.Parts.{from}
use Rattle.frame.specs.declared.Frame.{Frame}
use Rattle.caches.specs.HeldCache.{Held}
use Rattle.caches.specs.CacheMoves.{tried_in}
use Rattle.caches.specs.QueryNeeds.{Querying, asked}

abbrev pub QueryingBy : Frame → List Float → List ℕ → List Float → Type 0
QueryingBy f ds w path = Querying f.points.now f.grid.spatial f.layout ds w path (length path / 2)

abbrev pub asked_by : Frame → List Float → ℕ → Nearest
asked_by f path = asked f.points.now f.grid.spatial path (length path / 2)

-- what is held of contour j after those vertices that are samples in a cell, as w tells
abbrev pub tried_in_cell : Frame → List ℕ → List Float → ℕ → Held → ℕ → Held
tried_in_cell f w path =
    tried_in (from w f.layout.owners) (cell_at (at f.points.now) f.grid.spatial) (asked_by f path) f.layout.points
