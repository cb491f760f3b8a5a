-- The slices before the start: laid out, with no point on the path and all contours waiting. Assumes nothing.
use mathlib.Core.Path.{◌≡◌, refl}
use mathlib.Core.List.{List}
use Prim.Native.Nat.{ℕ, ◌+◌, ◌<◌}
use native.Mathlib.Omega.{arith}
use lib.Ieee.{Float}
use lib.ListN.{length}
use Rattle.rules.specs.Limits.{most_cells}
use Rattle.rules.specs.Tools.{sum}
use Rattle.rules.specs.HandedOver.{Plate, contours_from}
use Rattle.rules.specs.SamplesAndCache.{waiting}
use Rattle.rules.specs.declared.SpatialGrid.{SpatialGrid}
use Rattle.plate_laws.specs.Lists.{All}
use Rattle.work_layout.specs.Parts.{from}
use Rattle.frame.specs.declared.Frame.{Frame}
use Rattle.prepare.specs.FrameSlices.{PreparedBy, HoldsBy}
use Rattle.history.specs.History.{Ready}
use Rattle.run_caches_c.specs.Stages.{Stage}

pub first_stage : (xs : List Float) (ns : List ℕ) (g : SpatialGrid) (room : ℕ) (f : Frame) (ds : List Float) (w : List ℕ) →
    f.points.now ≡ xs → f.grid.spatial ≡ g → f.layout.flags ≡ most_cells + room → f.layout.points ≡ sum ns → f.layout.contours ≡ length ns →
    PreparedBy f ds w → ((path : List Float) → Ready g path w 0) → ((k : ℕ) → k < f.layout.cells → from w f.layout.flags k ≡ 0) →
    ((p : Plate) → p.points ≡ xs → All (λ c. HoldsBy f ds w (waiting p g c)) (contours_from 0 0 ns)) →
    Stage xs ns g room f.layout ds w 0 (λ p c. waiting p g c)
unfolding waiting
first_stage xs ns g room f ds w e h start counted many q r z held =
    record {
      start = start;
      points = counted;
      contours = many;
      querying = record { prepared = rw (e, h) at q; ready = r xs; apart = omega (arith, start) };
      flags = z;
      same = λ p c. refl;
      held = λ p k. rw (e, h) at (held p k);
    }
