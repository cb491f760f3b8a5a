-- The joining between two contours: what the lent slices hold of the path so far and of the contours that wait. Definitions only.
use Rattle.std.specs.Prelude.{◌≡◌, List, map, ℕ, ◌+◌, ◌≤◌, ◌<◌, Float, length, Result, Ok, Err}
use Rattle.rules.specs.Limits.{most_cells}
use Rattle.rules.specs.HandedOver.{Plate}
use Rattle.rules.specs.SamplesAndCache.{Waiting}
use Rattle.rules.specs.Retrace.{join_all}
use Rattle.rules.specs.Marks.{Step}
use Rattle.rules.specs.declared.SpatialGrid.{SpatialGrid}
use Rattle.plate_laws.specs.Lists.{All}
use Rattle.plate_laws.specs.WaitingContours.{Sane, Coming, contour_waiting}
use Rattle.work_layout.specs.Parts.{from}
use Rattle.work_layout.specs.declared.Layout.{Layout}
use Rattle.prepare.specs.PreparedSlices.{Prepared}
use Rattle.path_points.specs.Pen.{Pen}
use Rattle.path_points.specs.Wrote.{Wrote}
use Rattle.path_points.specs.declared.Full.{Full}
use Rattle.joining.specs.Lines.{Lines}

-- ws wait and steps are written, after `turn` contours have entered; the slices held `was` and `marked` before
pub record JoinState (p : Plate) (g : SpatialGrid) (lay : Layout) (room turn count : ℕ) (path : List Float) (ms work : List ℕ) (ds : List Float)
    (ws : List Waiting) (steps : List Step) (was : List Float) (marked : List ℕ) : Type 0 where
  pub prepared : Prepared p.points g lay ds work
  pub pen : Pen g room count path ms work
  pub fits : count ≤ room
  pub some : 1 ≤ count
  pub apart : most_cells + room ≤ lay.flags
  pub lines : Lines p.points g lay ds work ws
  pub sane : All Sane ws
  pub coming : Coming p (map contour_waiting ws)
  pub turns : length ws + turn ≤ lay.contours
  pub flags : (k : ℕ) → k < lay.cells → from work lay.flags k ≤ turn
  pub wrote : Wrote p.points steps room count was path marked ms

-- the slices hold some plate's waiting contours and path
abbrev pub CanJoin : List Float → List ℕ → SpatialGrid → Layout → ℕ → ℕ → List Float → List ℕ → List ℕ → List Float → Type 0
CanJoin xs ls g lay room count path ms work ds =
    (p : Plate) × (ws : List Waiting) × (steps : List Step) × (was : List Float) × (marked : List ℕ) × (p.points ≡ xs) × (p.layers ≡ ls)
    × (lay.contours ≤ length ls) × JoinState p g lay room 0 count path ms work ds ws steps was marked

-- whichever they hold, the path is then that of the rules
abbrev pub JoinedByRules : List Float → List ℕ → SpatialGrid → Layout → ℕ → ℕ → List Float → List ℕ → List ℕ → List Float → ℕ → List Float → List ℕ → Type 0
JoinedByRules xs ls g lay room count path ms work ds r path' ms' =
    (p : Plate) (ws : List Waiting) (steps : List Step) (was : List Float) (marked : List ℕ) → p.points ≡ xs → p.layers ≡ ls →
    JoinState p g lay room 0 count path ms work ds ws steps was marked →
    Wrote xs (join_all p g (length ws) ws steps) room r was path' marked ms'

-- how many points the path has, or room + 1 where they are more than there is room for
abbrev pub path_count : ℕ → Result ℕ Full → ℕ
path_count room (Ok n) = n
path_count room (Err _) = room + 1
