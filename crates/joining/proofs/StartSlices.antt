-- The slices before the start: laid out, with no point on the path and all contours waiting; then the contour that leads waits no more. Assumes nothing.
use mathlib.Core.Path.{◌≡◌, sym, subst, ◌∙◌}
use mathlib.Core.List.{List, map}
use Prim.Native.Nat.{ℕ, ◌≤◌, ◌<◌}
use native.Mathlib.Omega.{arith}
use lib.Ieee.{Float}
use lib.ListN.{length, get_or}
use Rattle.rules.specs.Limits.{most_cells}
use Rattle.rules.specs.Tools.{without}
use Rattle.rules.specs.HandedOver.{Plate, contours, contours_from}
use Rattle.rules.specs.SamplesAndCache.{waiting}
use Rattle.rules.specs.Retrace.{waiting_number}
use Rattle.rules.specs.declared.SpatialGrid.{SpatialGrid}
use Rattle.plate_laws.specs.Lists.{All, all_map}
use Rattle.work_layout.specs.Parts.{from}
use Rattle.work_layout.specs.declared.Layout.{Layout}
use Rattle.waiting.specs.Waits.{stopped}
use Rattle.waiting.specs.Holds.{Holds}
use Rattle.prepare.specs.PreparedSlices.{Prepared}
use Rattle.history.specs.History.{Ready}
use Rattle.caches.specs.QueryNeeds.{Querying}
use Rattle.waiting.specs.NumberLaws.{lined_prepared}
use Rattle.joining.specs.Lines.{Lines}
use Rattle.caches.specs.OneStopped.{stopped_flag, stopped_querying}
use Rattle.joining.proofs.WaitsNoMore.{left_lines}

-- the slices as they were set up
pub record StartSlices (xs : List Float) (lengths : List ℕ) (g : SpatialGrid) (lay : Layout) (w : List ℕ) (ds : List Float) (number : ℕ) : Type 0 where
  pub prepared : Prepared xs g lay ds w
  pub held : (p : Plate) → p.points ≡ xs → All (λ c. Holds xs g lay ds w (waiting p g c)) (contours_from 0 0 lengths)
  pub ready : (path : List Float) → Ready g path w 0
  pub flags : (k : ℕ) → k < lay.cells → from w lay.flags k ≡ 0
  pub waits : (j : ℕ) → j < lay.contours → from w lay.waiting j ≡ get_or lengths j 0
  pub many : lay.contours ≡ length lengths
  pub inside : number < lay.contours
  pub start : most_cells ≤ lay.flags

module _ {xs : List Float} {lengths : List ℕ} {g : SpatialGrid} {lay : Layout} {w : List ℕ} {ds : List Float} {number : ℕ}
    (b : StartSlices xs lengths g lay w ds number) where
  querying : (path : List Float) → Querying xs g lay ds w path 0
  querying path = record { prepared = b.prepared; ready = b.ready path; apart = omega (arith, b.start) }

  all_lines : (p : Plate) → p.points ≡ xs → p.lengths ≡ lengths → Lines xs g lay ds w (map (waiting p g) (contours p))
  unfolding contours
  all_lines p e f =
      subst (λ (ns : List ℕ). Lines xs g lay ds w (map (waiting p g) (contours_from 0 0 ns))) (sym f)
      record {
        lined = rw b.many (lined_prepared p g (from w lay.waiting) lengths (λ j m. b.waits j (omega (arith, b.many))));
        held = all_map (Holds xs g lay ds w) (waiting p g) (contours_from 0 0 lengths) (b.held p e);
      }

  -- contour `number` waits no more
  pub begin_prepared : Prepared xs g lay ds (stopped lay w number)
  begin_prepared = (stopped_querying (querying xs) b.inside).prepared

  pub begin_flags : (k : ℕ) → k < lay.cells → from (stopped lay w number) lay.flags k ≡ 0
  begin_flags k l = stopped_flag (querying xs) b.inside k l ∙ b.flags k l

  pub begin_lines : (p : Plate) → p.points ≡ xs → p.lengths ≡ lengths → Lines xs g lay ds (stopped lay w number) (without waiting_number number (map (waiting p g) (contours p)))
  begin_lines p e f = left_lines (querying xs) b.inside (map (waiting p g) (contours p)) (all_lines p e f)
