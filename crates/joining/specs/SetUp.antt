-- The slices before the start: all contours wait but one, and no cell is flagged. Definitions only.
use Rattle.std.specs.Prelude.{◌≡◌, List, map, ℕ, ◌+◌, ◌<◌, Float, length}
use Rattle.rules.specs.Limits.{most_cells}
use Rattle.rules.specs.Tools.{without}
use Rattle.rules.specs.HandedOver.{Plate, contours}
use Rattle.rules.specs.SamplesAndCache.{waiting}
use Rattle.rules.specs.Retrace.{waiting_number}
use Rattle.rules.specs.declared.Input.{Input}
use Rattle.work_layout.specs.Parts.{from}
use Rattle.frame.specs.declared.Frame.{Frame}
use Rattle.prepare.specs.FrameSlices.{PreparedBy}
use Rattle.joining.specs.Lines.{Lines}

-- by the frame f of a plate that is handed over, for a path of at most `room` points; contour `number` waits no more
pub record SetUp (i : Input) (f : Frame) (room number : ℕ) (ds : List Float) (work : List ℕ) : Type 0 where
  pub points : f.points.now ≡ i.points.now
  pub start : f.layout.flags ≡ most_cells + room
  pub many : f.layout.contours ≡ length i.lengths.now
  pub prepared : PreparedBy f ds work
  pub flags : (k : ℕ) → k < f.layout.cells → from work f.layout.flags k ≡ 0
  pub lines : (p : Plate) → p.points ≡ f.points.now → p.lengths ≡ i.lengths.now →
      Lines f.points.now f.grid.spatial f.layout ds work (without waiting_number number (map (waiting p f.grid.spatial) (contours p)))
